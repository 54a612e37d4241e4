-- What files tell, and what stands in them once a file was filled or entered.
use Rattle.std.specs.Prelude.{◌≡◌, ◌≤◌, ℕ, Bool, true, false, List, Option, Some, length}
use Rattle.ph_io.specs.Causes.{Rose}
use Rattle.ph_io.specs.Shelf.{Map, Draft, Stays, Grows}
use Rattle.ph_specs.specs.Named.{enter}
use Rattle.ph_specs.specs.State.{Files}

-- What files tell: what they hold, the draft, how often calls of them have failed, and whether the draft is begun.
pub record Shelf : Type 0 where
  pub files : Option Map
  pub draft : Option Draft
  pub faults : ℕ
  pub begun : Bool

abbrev pub shelf : Option Map → Option Draft → ℕ → Bool → Shelf
shelf files draft faults begun = record { files = files; draft = draft; faults = faults; begun = begun }

-- the bytes were appended to the file that is begun, which still is
pub record Filled (before now : Shelf) (bytes : List ℕ) : Type 0 where
  pub later : before.faults ≤ now.faults
  pub begun_still : now.begun ≡ true
  pub stays : Stays before.files now.files
  pub grows : Grows before.draft now.draft bytes

-- the files failed, and are as they were; none is begun
pub record Unfilled (before now : Shelf) : Type 0 where
  pub later : before.faults ≤ now.faults
  pub rose : Rose before.faults now.faults
  pub stays : Stays before.files now.files
  pub unbegun : now.begun ≡ false

-- ---- a file that is written

-- the bytes are a file under the name, nothing failed, and none is begun
pub record Entered (before now : Shelf) (name bytes : List ℕ) (count : ℕ) : Type 0 where
  pub counted : count ≡ length bytes
  pub later : before.faults ≤ now.faults
  pub entered : (files : Files) → before.files ≡ Some files → now.files ≡ Some (enter name bytes files)
  pub unbegun : now.begun ≡ false
