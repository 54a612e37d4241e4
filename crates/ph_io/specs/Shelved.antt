-- Files in memory, as contracts see them.
use Rattle.std.specs.Prelude.{◌<◌, ◌≤◌, ◌+◌, ℕ, List, length, Contains, Bool, true, false, Result, Ok, Err}
use Rattle.ph_io.specs.declared.files.FetchFault.{FetchFault}
use Rattle.ph_io.specs.declared.files.FetchFault.TheVariants as fault
use Rattle.ph_specs.specs.Named.{enter}
use Rattle.ph_io.specs.Counts.{next_count}
use Rattle.ph_io.specs.Shelf.{Map, Draft}

-- the files, the draft and whether it is begun, for how many files and how many bytes of each there is room, the numbers of the calls that fail, counted
-- from 1, and how many calls were made and how many failed
pub record Shelved : Type 0 where
  pub files : Map
  pub draft : Draft
  pub is_begun : Bool
  pub most : ℕ
  pub room : ℕ
  pub fails : List ℕ
  pub calls : ℕ
  pub faults : ℕ

-- the next call is one of those that fail
abbrev pub CallFails : Shelved → Type 0
CallFails s = Contains s.fails (next_count s.calls)

-- after a call that did not fail, and after one that did
abbrev pub called : Shelved → Shelved
called s = record s { calls = next_count s.calls }

abbrev pub faulted : Shelved → Shelved
faulted s = record s { faults = next_count s.faults }

abbrev pub failed : Shelved → Shelved
failed s = record s { calls = next_count s.calls; faults = next_count s.faults }

-- the files with the draft among them
abbrev pub filed : Shelved → Map
filed s = enter s.draft.0 s.draft.1 s.files

-- a draft that grows by so many bytes has too many
abbrev pub HasNoRoom : Shelved → ℕ → Type 0
HasNoRoom s n = s.room < length s.draft.1 + n

-- the draft is a file more than there is room for
abbrev pub IsOneMore : Shelved → Type 0
IsOneMore s = s.most < length (filed s)

-- a file of so many bytes has room, and there is room for its name
abbrev pub HasRoomFor : Shelved → List ℕ → List ℕ → Type 0
HasRoomFor s name bytes = (length bytes ≤ s.room) × (length (enter name bytes s.files) ≤ s.most)

-- with a file more, or with other bytes in it
abbrev pub with_file : Shelved → List ℕ → List ℕ → Shelved
with_file s name bytes = record s { files = enter name bytes s.files }

-- with another draft that is begun, and with none that is
abbrev pub drafting : Shelved → Draft → Shelved
drafting s draft = record s { draft = draft; is_begun = true }

abbrev pub dropping : Shelved → Shelved
dropping s = record s { is_begun = false }

-- with the draft among the files, and with it dropped then
abbrev pub filing : Shelved → Shelved
filing s = record s { files = filed s }

abbrev pub finishing : Shelved → Shelved
finishing s = record s { files = filed s; is_begun = false }

-- a fetch failed
abbrev pub is_failure : Result Unit FetchFault → Bool
is_failure (Ok _) = false
is_failure (Err fault.Failed) = true
is_failure (Err fault.Absent) = false
is_failure (Err fault.Over) = false
is_failure (Err fault.NoMemory) = false
