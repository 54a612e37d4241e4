-- What a sink over the file that is begun is seen by, and what its writes leave.
use Rattle.std.specs.Prelude.{◌≡◌, ◌≤◌, ◌+◌, ℕ, Bool, true, false, List, Option, Some, None, Result, Ok, Err}
use Rattle.ph_io.specs.Causes.{Rose}
use Rattle.ph_io.specs.Shelf.{Map, Draft, Stays}
use Rattle.ph_io.specs.declared.streams.Failed.{Failed}
use Rattle.ph_commands.specs.Shelves.{Shelf, Filled, Unfilled}

-- the bytes and the name of a draft, where it is known
abbrev pub draft_bytes : Option Draft → Option (List ℕ)
draft_bytes None = None
draft_bytes (Some d) = Some d.1

abbrev pub draft_name : Option Draft → Option (List ℕ)
draft_name None = None
draft_name (Some d) = Some d.0

-- how many writes have failed: the first one, after which none works, and those that came late
abbrev pub failed_writes : Bool → ℕ → ℕ
failed_writes true late = late
failed_writes false late = late + 1

-- the name of the sink's loan, the files, the name of the draft, how often calls of the files have failed, how many writes came after one that failed,
-- and whether none has failed
pub record Drafted : Type 0 where
  pub loan : ℕ
  pub files : Option Map
  pub name : Option (List ℕ)
  pub faults : ℕ
  pub late : ℕ
  pub works : Bool

abbrev pub drafted : ℕ → Option Map → Option Draft → ℕ → ℕ → Bool → Drafted
drafted loan files draft faults late works = record { loan = loan; files = files; name = draft_name draft; faults = faults; late = late; works = works }

-- The loan, the files and the name of the draft stay. While no write has failed, none is late. Where one has, the files' count rose.
pub record Follows (a b : Drafted) : Type 0 where
  pub loan : b.loan ≡ a.loan
  pub files : Stays a.files b.files
  pub name : Stays a.name b.name
  pub later : a.faults ≤ b.faults
  pub none : b.works ≡ true → (a.works ≡ true) × (b.late ≡ a.late)
  pub fell : a.works ≡ true → b.works ≡ false → Rose a.faults b.faults

abbrev pub FilledOr : Shelf → Shelf → List ℕ → Result ℕ Failed → Type 0
FilledOr before now bytes (Ok count) = Filled before now bytes
FilledOr before now bytes (Err _) = Unfilled before now
