-- What a command of the code does, by the definition of commands.
use Rattle.std.specs.Prelude.{◌≡◌, ◌⊎◌, ◌<◌, ◌≤◌, ℕ, ◌+◌, Bool, true, false, not, ◌&&◌, ◌||◌, nat_lt, if◌then◌else◌, List, [], ◌∷◌, length, take}
use Rattle.std.specs.Prelude.{Option, Some, None, is_none, Result, Ok, Err}
use Rattle.ph_io.specs.Giving.{Taken, Given}
use Rattle.ph_specs.specs.Command.{Command}
use Rattle.ph_specs.specs.Reply.{Reply, replies_text}
use Rattle.ph_specs.specs.Table.{Row}
use Rattle.ph_specs.specs.Sets.{put_all}
use Rattle.ph_specs.specs.Past.{back}
use Rattle.ph_specs.specs.Refusals.{combine_refusal, has_file_fault, import_rows, table_read}
use Rattle.ph_import.specs.Imported.{with_some}
use Rattle.ph_specs.specs.State.{Slot, Engine, Files, Outcome, outcome, past_in, with_past, current, other, with_slot}
use Rattle.ph_specs.specs.Engine.{act}
use Rattle.ph_specs.specs.WorkSets.{all_nodes}
use Rattle.ph_specs.specs.Named.{lookup}
use Rattle.ph_slot.specs.Beside.{Beside, beside_sink, IsTold, StillTells, Filings}
use Rattle.ph_commands.specs.Telling.{is_refusal}
use Rattle.ph_commands.specs.Working.{one_if, work_of, IsAtMost, IsAtLeast}
use Rattle.ph_slot.specs.Refusing.{early_refusal}
use Rattle.ph_commands.specs.Tables.{engine_of}
use Rattle.ph_commands.specs.declared.answer.Answer.{Answer}
use Rattle.ph_commands.specs.declared.answer.Stop.{Stop}
use Rattle.ph_commands.specs.declared.answer.Stop.TheVariants.{WriteFault, NoMemory}
use Rattle.ph_commands.specs.Telling.{refuses}
use Rattle.ph_commands.specs.Served.{DoesAt, MostAt, LeastAt, takes_memory}
use Rattle.ph_commands.specs.Recording.{is_renewed, first_rows}

-- ---- all commands

-- whether a command asks for a file
abbrev pub uses_files : Command → Bool
uses_files (Command.Save name) = true
uses_files (Command.Load name) = true
uses_files (Command.Import name header) = true
uses_files (Command.Export name) = true
uses_files _ = false

-- whether it writes one
abbrev pub writes_file : Command → Bool
writes_file (Command.Save name) = true
writes_file (Command.Export name) = true
writes_file _ = false

-- Whether a file is begun, before a command and behind it: where none was, none is left so, and only a command that writes one changes that.
pub record LeavesBegun (command : Command) (was now : Bool) : Type 0 where
  pub none : was ≡ false → now ≡ false
  pub other : writes_file command ≡ false → now ≡ was

-- whether a command knows the current slot alone
abbrev pub is_on_slot : Command → Bool
is_on_slot (Command.Select which) = false
is_on_slot Command.Compare = false
is_on_slot Command.Join = false
is_on_slot (Command.Combine operation) = false
is_on_slot _ = true

-- whether it looks at both slots
abbrev pub is_on_both : Command → Bool
is_on_both Command.Compare = true
is_on_both Command.Join = true
is_on_both (Command.Combine operation) = true
is_on_both _ = false

-- whether it makes the slot another one, with a number of dimensions of its own
abbrev pub is_begin : Command → Bool
is_begin (Command.Begin kind k width max) = true
is_begin _ = false

-- the commands about the row at a point
abbrev pub is_on_row : Command → Bool
is_on_row (Command.Put p v) = true
is_on_row (Command.Get p) = true
is_on_row (Command.Del p) = true
is_on_row (Command.Relocate p q) = true
is_on_row _ = false

-- the other commands of one reply that may want memory
abbrev pub is_tried : Command → Bool
is_tried (Command.Load name) = true
is_tried (Command.Import name header) = true
is_tried (Command.Keep n) = true
is_tried (Command.Back n) = true
is_tried _ = false

-- and those that want none, on one slot that stays
abbrev pub is_sure : Command → Bool
is_sure Command.Count = true
is_sure Command.Clear = true
is_sure (Command.Cursor name lo hi) = true
is_sure (Command.Save name) = true
is_sure (Command.Export name) = true
is_sure _ = false

-- the commands whose replies list rows or sizes
abbrev pub is_listed : Command → Bool
is_listed (Command.Window lo hi) = true
is_listed (Command.Page name n) = true
is_listed (Command.Near q n) = true
is_listed (Command.Within q r) = true
is_listed (Command.Overlap q) = true
is_listed (Command.Inside q) = true
is_listed (Command.Covers q) = true
is_listed Command.Statistics = true
is_listed _ = false

-- the name of the file that it reads
abbrev pub file_read : Command → Option (List ℕ)
file_read (Command.Load name) = Some name
file_read (Command.Import name header) = Some name
file_read _ = None

-- under a name the files have what was found, or nothing where nothing was
abbrev pub HoldsFound : Option (List ℕ) → Files → Option (List ℕ) → Type 0
HoldsFound None files found = Unit {0}
HoldsFound (Some name) files found = lookup name files ≡ found

-- files that a command may have met: those that are told, and any that have what it found under the name that it reads
abbrev pub Knows : Command → Option Files → Option (List ℕ) → Files → Type 0
Knows command told found files = (told ≡ Some files) ⊎ HoldsFound (file_read command) files found

-- An outcome over files has these replies and this engine. Where these files were told, those of the outcome are told now.
pub record Leads (o : Outcome) (now : Engine) (files : Files) (told now_told : Option Files) (replies : List Reply) : Type 0 where
  pub after : Files
  pub is : o ≡ outcome now after replies
  pub told_files : told ≡ Some files → now_told ≡ Some after

-- the rows that a load has read, if it could
abbrev pub rows_read : Result (List Row) Reply → Option (List Row)
rows_read (Ok rows) = Some rows
rows_read (Err fault) = None

abbrev pub rows_loaded : Slot → Files → Command → Option (List Row)
rows_loaded s files (Command.Load name) = rows_read (table_read s files (Command.Load name))
rows_loaded s files _ = None

-- A command that loads rows counts no more changes than their tree has nodes.
abbrev pub MakesNodes : Slot → Files → Command → ℕ → ℕ → Type 0
MakesNodes s files command changes now_changes =
    (rows : List Row) → rows_loaded s files command ≡ Some rows → now_changes ≤ changes + length (all_nodes s.width s.dims rows)

-- whether it may want memory on a slot: it takes some, and is refused for no cause before, nor for its file, which is there, not too long and read without a fault
abbrev pub slot_wants : ℕ → Slot → Files → Bool → Command → Bool
slot_wants most s files fault command = is_none (early_refusal s command) && not (has_file_fault most files fault command) && takes_memory s command

-- whether both slots go together and what is made of them is not too large, where a command knows both and takes memory
abbrev pub goes_together : Engine → Command → Bool
goes_together e (Command.Combine operation) = is_none (combine_refusal operation (current e) (other e))
goes_together e _ = true

-- whether it may want memory in an engine, with files of at most so many bytes, where the files fail in it or do not
abbrev pub wants_memory : ℕ → Engine → Files → Bool → Command → Bool
wants_memory most e files fault command = goes_together e command && slot_wants most (current e) files fault command

-- a command that makes a slot another one, without any work
pub record Begun (s : Slot) (command : Command) (now : Slot) (reply : Reply) : Type 0 where
  pub does : DoesAt s command now (reply ∷ [])
  pub most : (visits changes : ℕ) → MostAt s command visits visits changes changes
  pub least : (visits changes : ℕ) → LeastAt s command visits visits changes changes

-- the engine behind a command of whose reply a write failed: a page leaves its cursor as it was
abbrev pub is_page : Command → Bool
is_page (Command.Page name n) = true
is_page _ = false

abbrev pub cut_engine : Engine → Command → Engine → Engine
cut_engine e command after = if is_page command then e else after

-- the rows that an import puts one after another, if it has read them and the table has more than these and may have them too
abbrev pub rows_put : Slot → Result (List Row) Reply → Option (List Row)
rows_put s (Ok rows) = if nat_lt s.max (length (put_all s.width s.table rows)) || is_renewed s.table rows then None else Some rows
rows_put s (Err fault) = None

abbrev pub imported : Slot → Files → Command → Option (List Row)
imported s files (Command.Import name header) = rows_put s (import_rows s files name header)
imported s files _ = None

-- The engine in which memory is missing. Of an import into rows that would be done some first rows are in, and not all; where one is in, no edits are kept.
abbrev pub with_first : Engine → ℕ → Option (List Row) → Engine
with_first e n (Some rows) = let s = current e in with_slot e (with_past s (with_some (past_in s) (first_rows n rows)))
with_first e n None = e

-- Of edits that are taken back some last ones are, and not as many as were asked for.
abbrev pub with_back : Engine → ℕ → ℕ → Engine
with_back e n asked = let s = current e in with_slot e (with_past s (back (past_in s) (if nat_lt n asked then n else 0)))

abbrev pub starved_engine : Engine → Files → Command → ℕ → Engine
starved_engine e files (Command.Back asked) n = with_back e n asked
starved_engine e files command n = with_first e n (imported (current e) files command)

-- The command was done, and its replies written. The files failed in it or not.
pub record Done (most : ℕ) (e : Engine) (command : Command) (b now_b : Beside) (now : Engine) (answer : Answer) : Type 0 where
  pub fault : Bool
  pub found : Option (List ℕ)
  pub filings : Filings (uses_files command) (one_if fault) b.filings now_b.filings
  pub replies : List Reply
  pub does : (files : Files) → Knows command b.files found files → Leads (act most e files fault command) now files b.files now_b.files replies
  pub told : Given b.sink now_b.sink (replies_text replies)
  pub refusal : refuses answer ≡ is_refusal (replies_text replies)
  pub most_work : (files : Files) → Knows command b.files found files → IsAtMost (work_of most e files fault command) b.visits now_b.visits b.changes now_b.changes
  pub least_work : (files : Files) → Knows command b.files found files → IsAtLeast (work_of most e files fault command) b.visits now_b.visits b.changes now_b.changes
  pub nodes : (files : Files) → Knows command b.files found files → MakesNodes (current e) files command b.changes now_b.changes

-- The command was done, and a front of its replies written.
pub record DoneInPart (most : ℕ) (e : Engine) (command : Command) (b now_b : Beside) (now : Engine) : Type 0 where
  pub fault : Bool
  pub found : Option (List ℕ)
  pub filings : Filings (uses_files command) (one_if fault) b.filings now_b.filings
  pub replies : List Reply
  pub after : Engine
  pub does : (files : Files) → Knows command b.files found files → Leads (act most e files fault command) after files b.files now_b.files replies
  pub state : now ≡ cut_engine e command after
  pub count : ℕ
  pub short : count < length (replies_text replies)
  pub told : Given b.sink now_b.sink (take count (replies_text replies))
  pub most_work : (files : Files) → Knows command b.files found files → IsAtMost (work_of most e files fault command) b.visits now_b.visits b.changes now_b.changes

-- Memory was missing for a command, which may want it. The files are as before.
pub record Unfiled (most : ℕ) (e : Engine) (command : Command) (b now_b : Beside) (now : Engine) : Type 0 where
  pub fault : Bool
  pub found : Option (List ℕ)
  pub counted : Filings (uses_files command) (one_if fault) b.filings now_b.filings
  pub part : ℕ
  pub state : (files : Files) → Knows command b.files found files → now ≡ starved_engine e files command part
  pub kept : (files : Files) → IsTold b.files files → StillTells b.files now_b.files files
  pub wanted : (files : Files) → Knows command b.files found files → wants_memory most e files fault command ≡ true
  pub most_work : (files : Files) → Knows command b.files found files → IsAtMost (work_of most e files fault command) b.visits now_b.visits b.changes now_b.changes

-- The same, and nothing was written.
pub record Undone (most : ℕ) (e : Engine) (command : Command) (b now_b : Beside) (now : Engine) : Type 0 where
  pub unfiled : Unfiled most e command b now_b now
  pub told : Given b.sink now_b.sink []

abbrev pub DoneOr : ℕ → Engine → Command → Beside → Beside → Engine → Result Answer Stop → Type 0
DoneOr most e command b now_b now (Ok answer) = Done most e command b now_b now answer
DoneOr most e command b now_b now (Err WriteFault) = DoneInPart most e command b now_b now
DoneOr most e command b now_b now (Err NoMemory) = Undone most e command b now_b now

-- the same of a slot, of a command that asks for no file and counts no changes
pub record DoneWith (s : Slot) (command : Command) (sink now_sink : Taken) (visits now_visits : ℕ) (now : Slot) (result : Result Answer Stop) : Type 0 where
  pub done : (most : ℕ) (files : Option Files) (filings changes : ℕ)
      → DoneOr most (engine_of s) command (beside_sink sink files filings visits changes)
      (beside_sink now_sink files filings now_visits changes) (engine_of now) result

-- the same of an engine that stays as it was
pub record DoneBeside (e : Engine) (command : Command) (sink now_sink : Taken) (visits now_visits : ℕ) (result : Result Answer Stop) : Type 0 where
  pub done : (most : ℕ) (files : Option Files) (filings changes : ℕ)
      → DoneOr most e command (beside_sink sink files filings visits changes) (beside_sink now_sink files filings now_visits changes) e result
