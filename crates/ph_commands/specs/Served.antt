-- What a command does to a table, by the definition of commands.
use Rattle.std.specs.Prelude.{◌≡◌, ℕ, Bool, true, false, not, ◌&&◌, nat_lt, nat_le, List, [], ◌∷◌, length, Result, Ok, Err}
use Rattle.ph_specs.specs.Command.{Command}
use Rattle.ph_specs.specs.Reply.{Reply}
use Rattle.ph_specs.specs.declared.Kind.TheVariants.{Points}
use Rattle.ph_specs.specs.Shape.{shape}
use Rattle.ph_specs.specs.Table.{has}
use Rattle.ph_tree.specs.Rooms.{spare_wanted_in}
use Rattle.ph_specs.specs.State.{Slot, Engine, Files, outcome}
use Rattle.ph_specs.specs.Engine.{act}
use Rattle.ph_specs.specs.Named.{Named}
use Rattle.ph_specs.specs.Window.{Cursor}
use Rattle.ph_script.specs.declared.reply.Reply.{Reply as Told}
use Rattle.ph_script.specs.Meaning.{reply_of}
use Rattle.ph_commands.specs.Working.{work_of, IsAtMost, IsAtLeast}
use Rattle.ph_commands.specs.Tables.{AnyTable, slot_of, engine_of}

-- ---- commands that know no files

-- with whatever files, the command has these replies, leads to this engine and leaves the files
abbrev pub Does : Engine → Command → Engine → List Reply → Type 0
Does e command now replies = (most : ℕ) (files : Files) (fault : Bool) → act most e files fault command ≡ outcome now files replies

-- the same of an engine in which this slot is current
abbrev pub DoesAt : Slot → Command → Slot → List Reply → Type 0
DoesAt s command now replies = Does (engine_of s) command (engine_of now) replies

-- the counters rose as far as the command's bounds let them, and as far as they must
abbrev pub MostAt : Slot → Command → ℕ → ℕ → ℕ → ℕ → Type 0
MostAt s command visits now_visits changes now_changes =
    (most : ℕ) (files : Files) (fault : Bool) → IsAtMost (work_of most (engine_of s) files fault command) visits now_visits changes now_changes

abbrev pub LeastAt : Slot → Command → ℕ → ℕ → ℕ → ℕ → Type 0
LeastAt s command visits now_visits changes now_changes =
    (most : ℕ) (files : Files) (fault : Bool) → IsAtLeast (work_of most (engine_of s) files fault command) visits now_visits changes now_changes

-- whether a command takes memory on a slot: a put of a row that is new and has room, a removal of a row that is there, a move to another point,
-- and what keeps nodes, rows or bytes in memory while it goes
abbrev pub takes_memory : Slot → Command → Bool
takes_memory s (Command.Put p v) = not (has s.table p) && nat_lt (length s.table) s.max
takes_memory s (Command.Del p) = nat_lt 0 (spare_wanted_in s.width s.dims (shape s.width s.table) p)
takes_memory s (Command.Relocate p q) = has s.table p && not (has s.table q)
takes_memory s (Command.Near q n) = nat_lt 0 n && nat_lt 0 (length s.table)
takes_memory s (Command.Load name) = true
takes_memory s (Command.Import name header) = true
takes_memory s (Command.Combine operation) = true
takes_memory s (Command.Keep n) = nat_lt 0 n
takes_memory s (Command.Back n) = nat_lt 0 n && nat_le n (length s.past)
takes_memory s _ = false

-- A command on a table of points, whatever cursors stand beside it, has this reply and leads to this table. What it does to boxes is the same,
-- where it is not refused.
pub record Served (t : AnyTable) (command : Command) (now : AnyTable) (reply : Reply) (visits now_visits changes now_changes : ℕ) : Type 0 where
  pub does : (cursors : Named Cursor) → DoesAt (slot_of Points t cursors) command (slot_of Points now cursors) (reply ∷ [])
  pub most : (cursors : Named Cursor) → MostAt (slot_of Points t cursors) command visits now_visits changes now_changes
  pub least : (cursors : Named Cursor) → LeastAt (slot_of Points t cursors) command visits now_visits changes now_changes

-- the same without a change, and without any work
pub record Looked (t : AnyTable) (command : Command) (now : AnyTable) (reply : Reply) (visits now_visits : ℕ) : Type 0 where
  pub served : (changes : ℕ) → Served t command now reply visits now_visits changes changes

pub record Idled (t : AnyTable) (command : Command) (now : AnyTable) (reply : Reply) : Type 0 where
  pub served : (visits changes : ℕ) → Served t command now reply visits visits changes changes

-- memory was missing for the command, which may want it
pub record Unserved (t : AnyTable) (command : Command) (now : AnyTable) (visits now_visits changes now_changes : ℕ) : Type 0 where
  pub stays : now ≡ t
  pub wanted : (cursors : Named Cursor) → takes_memory (slot_of Points t cursors) command ≡ true
  pub most : (cursors : Named Cursor) → MostAt (slot_of Points t cursors) command visits now_visits changes now_changes

abbrev pub ServedOr : {E : Type 0} → AnyTable → Command → AnyTable → ℕ → ℕ → ℕ → ℕ → Result Told E → Type 0
ServedOr t command now visits now_visits changes now_changes (Ok reply) = Served t command now (reply_of reply) visits now_visits changes now_changes
ServedOr t command now visits now_visits changes now_changes (Err error) = Unserved t command now visits now_visits changes now_changes
