-- What commands of one reply do, before it is told, and those on files among them.
use Rattle.std.specs.Prelude.{◌≡◌, ◌≤◌, ◌+◌, ℕ, OnOk, Bool, nat_lt, if◌then◌else◌, List, [], ◌∷◌, length, Option, Some, option_map, Result, Ok, Err}
use Rattle.ph_io.specs.declared.files.FetchFault.{FetchFault}
use Rattle.ph_io.specs.declared.files.FetchFault.TheVariants as unread
use Rattle.ph_io.specs.declared.streams.Failed.{Failed}
use Rattle.ph_specs.specs.Command.{Command}
use Rattle.ph_specs.specs.Reply.{Reply}
use Rattle.ph_specs.specs.declared.Kind.{Kind}
use Rattle.ph_specs.specs.Load.{Fault}
use Rattle.ph_specs.specs.Named.{Named}
use Rattle.ph_specs.specs.Past.{without_past}
use Rattle.ph_specs.specs.SavedTable.{fault_reply, read_snapshot}
use Rattle.ph_specs.specs.State.{Slot, Engine, Files, current}
use Rattle.ph_specs.specs.Table.{Row}
use Rattle.ph_specs.specs.Window.{Cursor}
use Rattle.ph_specs.specs.Engine.{act}
use Rattle.ph_specs.specs.WorkSets.{all_nodes}
use Rattle.ph_script.specs.declared.reply.Reply.{Reply as Told}
use Rattle.ph_script.specs.Meaning.{reply_of}
use Rattle.ph_snap.specs.Faults.{IsLoadFault}
use Rattle.ph_snap.specs.declared.fault.LoadFault.{LoadFault}
use Rattle.ph_snap.specs.declared.fault.LoadFault.TheVariants as by
use Rattle.ph_slot.specs.Beside.{Beside, Filings, aside, with_visits, with_changes}
use Rattle.ph_slot.specs.Doing.{Knows, Leads, MakesNodes, Unfiled, uses_files}
use Rattle.ph_commands.specs.Shelves.{Shelf, Unfilled}
use Rattle.ph_commands.specs.Working.{one_if, work_of, IsAtMost, IsAtLeast}
use Rattle.ph_commands.specs.Tables.{AnyTable, table_at, slot_of, engine_of}
use Rattle.ph_commands.specs.Shelves.{Entered}

-- A command has this reply and leads to this engine. The files failed in it or not.
pub record Filed (most : ℕ) (e : Engine) (command : Command) (b now_b : Beside) (now : Engine) (reply : Reply) : Type 0 where
  pub fault : Bool
  pub found : Option (List ℕ)
  pub counted : Filings (uses_files command) (one_if fault) b.filings now_b.filings
  pub does : (files : Files) → Knows command b.files found files → Leads (act most e files fault command) now files b.files now_b.files (reply ∷ [])
  pub most_work : (files : Files) → Knows command b.files found files → IsAtMost (work_of most e files fault command) b.visits now_b.visits b.changes now_b.changes
  pub least_work : (files : Files) → Knows command b.files found files → IsAtLeast (work_of most e files fault command) b.visits now_b.visits b.changes now_b.changes
  pub nodes : (files : Files) → Knows command b.files found files → MakesNodes (current e) files command b.changes now_b.changes

-- the same, or memory was missing for it
abbrev pub FiledOr : {E : Type 0} → ℕ → Engine → Command → Beside → Beside → Engine → Result Told E → Type 0
FiledOr most e command b now_b now (Ok reply) = Filed most e command b now_b now (reply_of reply)
FiledOr most e command b now_b now (Err error) = Unfiled most e command b now_b now

-- A command that asks for no file has this reply, or memory is missing for it.
pub record QuietOr {E : Type 0} (e : Engine) (command : Command) (visits now_visits changes now_changes : ℕ) (now : Engine) (result : Result Told E) : Type 0 where
  pub filed : (most : ℕ) (files : Option Files) (filings : ℕ)
      → FiledOr most e command (aside files filings visits changes) (aside files filings now_visits now_changes) now result

-- A command that asks for no file and changes nothing has this reply.
pub record Shows (s : Slot) (command : Command) (visits now_visits : ℕ) (reply : Reply) : Type 0 where
  pub filed : (most : ℕ) (files : Option Files) (filings changes : ℕ)
      → Filed most (engine_of s) command (aside files filings visits changes) (aside files filings now_visits changes) (engine_of s) reply

-- A command on a slot has this reply, whatever was counted of changes, of which it makes none, and however many bytes a file may have.
pub record Replies (s : Slot) (command : Command) (b now_b : Beside) (now : Slot) (reply : Reply) : Type 0 where
  pub filed : (most changes : ℕ) → Filed most (engine_of s) command (with_changes changes b) (with_changes changes now_b) (engine_of now) reply

abbrev pub EnteredOr : Shelf → Shelf → List ℕ → List ℕ → Result ℕ Failed → Type 0
EnteredOr before now name bytes (Ok count) = Entered before now name bytes count
EnteredOr before now name bytes (Err _) = Unfilled before now

-- a save of a table, whatever cursors stand beside it and whatever was counted of changes
pub record TableSaved (kind : Kind) (t : AnyTable) (name : List ℕ) (b now_b : Beside) (reply : Reply) : Type 0 where
  pub filed : (most changes : ℕ) (cursors : Named Cursor) → let e = engine_of (slot_of kind t cursors) in
      Filed most e (Command.Save name) (with_changes changes b) (with_changes changes now_b) e reply

-- ---- a file that is read

-- what a table becomes by the rows that were read, or by their fault, and the reply
abbrev pub loaded_table : AnyTable → List Row → AnyTable
loaded_table t rows = if nat_lt t.tree.max (length rows) then t else table_at t.dims (without_past t.tree rows)

abbrev pub loaded_reply : ℕ → List Row → Reply
loaded_reply max rows = if nat_lt max (length rows) then Reply.ErrorFull else Reply.Loaded (length rows)

abbrev pub read_table : AnyTable → Result (List Row) Reply → AnyTable
read_table t (Ok rows) = loaded_table t rows
read_table t (Err fault) = t

abbrev pub read_reply : ℕ → Result (List Row) Reply → Reply
read_reply max (Ok rows) = loaded_reply max rows
read_reply max (Err fault) = fault

-- the bytes were read, or memory was missing for their table
abbrev pub LoadsOr : {E : Type 0} → Kind → AnyTable → List ℕ → AnyTable → Result Told E → Type 0
LoadsOr kind t bytes now (Ok reply) = let read = read_snapshot kind t.dims t.tree.width bytes in (now ≡ read_table t read) × (reply_of reply ≡ read_reply t.tree.max read)
LoadsOr kind t bytes now (Err error) = now ≡ t

-- the bytes are no snapshot, or no more changes were counted than their tree has nodes
abbrev pub LoadsNodes : {T E : Type 0} → Kind → AnyTable → List ℕ → Result T E → ℕ → ℕ → Type 0
LoadsNodes kind t bytes result changes now_changes =
    (rows : List Row) → read_snapshot kind t.dims t.tree.width bytes ≡ Ok rows → OnOk result (now_changes ≤ changes + length (all_nodes t.tree.width t.dims rows))

-- a load of a table, whatever cursors stand beside it and whatever was counted of visits
pub record TableLoaded {E : Type 0} (most : ℕ) (kind : Kind) (t : AnyTable) (name : List ℕ) (b now_b : Beside) (now : AnyTable) (result : Result Told E) : Type 0 where
  pub filed : (visits : ℕ) (cursors : Named Cursor)
      → FiledOr most (engine_of (slot_of kind t cursors)) (Command.Load name) (with_visits visits b)
      (with_visits visits now_b) (engine_of (slot_of kind now cursors)) result

-- a reply tells the first fault of bytes, or memory was missing for them
abbrev pub TellsFault : {E : Type 0} → LoadFault → Result Told E → Type 0
TellsFault fault (Ok reply) = (first : Option Fault) → IsLoadFault first fault → option_map fault_reply first ≡ Some (reply_of reply)
TellsFault fault (Err error) = fault ≡ by.NoMemory

-- a reply tells that no file was read, or memory was missing for its bytes
abbrev pub TellsUnfetched : {E : Type 0} → FetchFault → Result Told E → Type 0
TellsUnfetched fault (Ok reply) = (fault ≡ unread.NoMemory → ⊥) × (reply_of reply ≡ Reply.ErrorFile)
TellsUnfetched fault (Err error) = fault ≡ unread.NoMemory
