-- What a check of a file does.
use Rattle.std.specs.Prelude.{◌≡◌, ◌≤◌, ◌⊎◌, ℕ, ◌+◌, ◌/◌, Bool, true, false, List, [], ◌∷◌, ◌++◌, length, slice_index, codes, decimal, Option, Some, is_none}
use Rattle.std.specs.Prelude.{None, Result, Ok, Err}
use Rattle.ph_io.specs.Causes.{Rose}
use Rattle.ph_io.specs.Giving.{Taken, Given}
use Rattle.ph_io.specs.Shelf.{Stays}
use Rattle.ph_io.specs.Writing.{WritesFront}
use Rattle.ph_specs.specs.declared.Kind.{Kind}
use Rattle.ph_specs.specs.declared.Kind.TheVariants.{Points, Boxes}
use Rattle.ph_specs.specs.Load.{Fault, named_width}
use Rattle.ph_specs.specs.Named.{lookup}
use Rattle.ph_specs.specs.Program.{check_line, checked_words, named_kind, own_fault}
use Rattle.ph_specs.specs.Refusals.{fetch, bytes_of}
use Rattle.ph_specs.specs.Reply.{Reply, line_of, reply_text}
use Rattle.ph_specs.specs.SavedTable.{rows_saved}
use Rattle.ph_specs.specs.SnapshotOf.{IsSnapshotOf}
use Rattle.ph_specs.specs.State.{Files}
use Rattle.ph_specs.specs.Stats.{stats}
use Rattle.ph_specs.specs.Table.{Row}
use Rattle.ph_specs.specs.WorkSets.{all_nodes}
use Rattle.ph_slot.specs.Beside.{Beside, Filings}
use Rattle.ph_slot.specs.Doing.{HoldsFound}
use Rattle.ph_commands.specs.Telling.{refuses, is_refusal}
use Rattle.ph_commands.specs.Working.{one_if}
use Rattle.ph_engine.specs.Seen.{Seen}
use Rattle.ph_engine.specs.Statuses.{IsRead, read_status, stop_status}
use Rattle.ph_commands.specs.declared.answer.Answer.{Answer}
use Rattle.ph_engine.specs.declared.status.Status.{Status}
use Rattle.ph_engine.specs.declared.status.Status.TheVariants.{Clean, Refused, WriteFault, Memory}
use Rattle.ph_commands.specs.declared.answer.Stop.{Stop}
use Rattle.ph_commands.specs.declared.answer.Stop.TheVariants as stop

-- ---- bytes

-- what the line of a table begins with: what its rows are, and the number with which it is opened
abbrev pub front_of : Kind → ℕ → List ℕ
front_of Points dims = codes "points" ++ 32 ∷ decimal dims ++ 32 ∷ []
front_of Boxes dims = codes "boxes" ++ 32 ∷ decimal (dims / 2) ++ 32 ∷ []

-- the bytes are the snapshot of a table, and the line has its sizes, for a visit and a change of each node of its tree
pub record IsLineOf (kind : Kind) (dims width : ℕ) (bytes line : List ℕ) (visits now_visits changes now_changes : ℕ) : Type 0 where
  pub rows : List Row
  pub snapshot : IsSnapshotOf kind dims width bytes rows
  pub said : line ≡ line_of (checked_words kind dims (stats width dims rows))
  pub seen : now_visits ≡ visits + length (all_nodes width dims rows)
  pub made : now_changes ≡ changes + length (all_nodes width dims rows)

-- the same by their own header
abbrev pub IsOwnLine : List ℕ → List ℕ → ℕ → ℕ → ℕ → ℕ → Type 0
IsOwnLine bytes line visits now_visits changes now_changes =
    IsLineOf (named_kind bytes) (slice_index bytes 5) (named_width bytes) bytes line visits now_visits changes now_changes

-- the bytes are the snapshot of some table, and the line has its sizes
pub record HasSizes (bytes line : List ℕ) : Type 0 where
  pub kind : Kind
  pub dims : ℕ
  pub width : ℕ
  pub rows : List Row
  pub snapshot : IsSnapshotOf kind dims width bytes rows
  pub said : line ≡ line_of (checked_words kind dims (stats width dims rows))

-- the nodes of the table of which the bytes are the snapshot, if they are one
abbrev pub nodes_unless : Option Fault → (dims width : ℕ) → List ℕ → ℕ
nodes_unless (Some fault) dims width bytes = 0
nodes_unless None dims width bytes = length (all_nodes width dims (rows_saved dims width bytes))

abbrev pub nodes_saved : List ℕ → ℕ
nodes_saved bytes = nodes_unless (own_fault bytes) (slice_index bytes 5) (named_width bytes) bytes

-- a line was given to the sink, or a front of it; without memory nothing was
abbrev pub LineGiven : Taken → Taken → List ℕ → Result Answer Stop → Type 0
LineGiven sink now_sink line (Ok answer) = Given sink now_sink line × (refuses answer ≡ is_refusal line)
LineGiven sink now_sink line (Err stop.WriteFault) = WritesFront sink now_sink line
LineGiven sink now_sink line (Err stop.NoMemory) = now_sink ≡ sink

-- ---- a file

-- the bytes that a check reads
abbrev pub bytes_checked : ℕ → Files → List ℕ → List ℕ
bytes_checked most files file = bytes_of (fetch most files file)

-- the file is the snapshot of some table, and the line has its sizes
pub record FileHasSizes (files : Files) (file line : List ℕ) : Type 0 where
  pub bytes : List ℕ
  pub found : lookup file files ≡ Some bytes
  pub sizes : HasSizes bytes line

-- files that a check of this file may have met: those that are told, and any that have under its name what it found
abbrev pub Meets : Option Files → List ℕ → Option (List ℕ) → Files → Type 0
Meets told file found files = (told ≡ Some files) ⊎ HoldsFound (Some file) files found

-- A file was checked, and the files are as they were. The line is that of the definition for the files that are told, and for any that have what it found under the
-- name of the file, with a fault of the files or without; it never tells that the dimensions are others than were asked for, since none were.
-- Where the files do not fail, one that is fetched and is the snapshot of some table is not refused. A clean one counts no more changes than its tree has nodes.
pub record CheckDone (most : ℕ) (file : List ℕ) (b now_b : Beside) (status : Status) : Type 0 where
  pub fault : Bool
  pub found : Option (List ℕ)
  pub counted : Filings true (one_if fault) b.filings now_b.filings
  pub kept : Stays b.files now_b.files
  pub ends : (status ≡ Clean) ⊎ ((status ≡ Refused) ⊎ ((status ≡ WriteFault) ⊎ (status ≡ Memory)))
  pub whole : (files : Files) → Meets b.files file found files → IsRead status → Given b.sink now_b.sink (check_line most files fault file)
  pub refusals : (files : Files) → Meets b.files file found files → status ≡ Refused → is_refusal (check_line most files fault file) ≡ true
  pub cleans : (files : Files) → Meets b.files file found files → status ≡ Clean → is_refusal (check_line most files fault file) ≡ false
  pub cut : (files : Files) → Meets b.files file found files → status ≡ WriteFault → WritesFront b.sink now_b.sink (check_line most files fault file)
  pub unwritten : status ≡ Memory → now_b.sink ≡ b.sink
  pub wanted : (files : Files) → Meets b.files file found files → status ≡ Memory → (fault ≡ false) × (is_none (fetch most files file) ≡ false)
  pub saved : (files : Files) → Meets b.files file found files → status ≡ Clean → FileHasSizes files file (check_line most files fault file)
  pub own_dims : (files : Files) → Meets b.files file found files → check_line most files fault file ≡ reply_text Reply.BadDims → ⊥
  pub kept_visits : b.visits ≤ now_b.visits
  pub kept_changes : b.changes ≤ now_b.changes
  pub most_visits : (files : Files) → Meets b.files file found files → now_b.visits ≤ b.visits + nodes_saved (bytes_checked most files file)
  pub most_changes : (files : Files) → Meets b.files file found files → now_b.changes ≤ b.changes + length (bytes_checked most files file) / 16
  pub clean_changes : (files : Files) → Meets b.files file found files → status ≡ Clean → now_b.changes ≤ b.changes + nodes_saved (bytes_checked most files file)
  pub snapshot_clean : (files : Files) → Meets b.files file found files → fault ≡ false → (bytes : List ℕ)
      → fetch most files file ≡ Some bytes → own_fault bytes ≡ None → status ≡ Refused → ⊥
  pub snapshot_accepted : (files : Files) → Meets b.files file found files → fault ≡ false → (bytes : List ℕ)
      → fetch most files file ≡ Some bytes → (kind : Kind) (dims width : ℕ) (rows : List Row)
      → IsSnapshotOf kind dims width bytes rows → status ≡ Refused → ⊥
  pub few_visits : now_b.visits ≤ b.visits + most / 16
  pub few_changes : now_b.changes ≤ b.changes + most / 16

-- the status with which an answer to a check ends
abbrev pub status_of : Result Answer Stop → Status
status_of (Ok answer) = read_status (refuses answer)
status_of (Err why) = stop_status why

-- How a check of a file ends. The engine and the source are untouched.
pub record CheckEnds (most : ℕ) (file : List ℕ) (before now : Seen) (status : Status) : Type 0 where
  pub done : CheckDone most file before.at.beside now.at.beside status
  pub write_cause : status ≡ WriteFault → Rose before.writes now.writes
  pub writes : before.writes ≤ now.writes
  pub engine : now.at.engine ≡ before.at.engine
  pub left : now.left ≡ before.left
  pub reads : now.reads ≡ before.reads
