-- What imports and exports do, before their replies are told.
use Rattle.std.specs.Prelude.{ℕ, Bool, List, Result}
use Rattle.ph_specs.specs.Command.{Command}
use Rattle.ph_specs.specs.Named.{Named}
use Rattle.ph_specs.specs.Reply.{Reply}
use Rattle.ph_specs.specs.Window.{Cursor}
use Rattle.ph_specs.specs.declared.Kind.{Kind}
use Rattle.ph_script.specs.declared.reply.Reply.{Reply as Told}
use Rattle.ph_slot.specs.Beside.{Beside, with_changes}
use Rattle.ph_slot.specs.Filing.{Filed, FiledOr}
use Rattle.ph_commands.specs.Tables.{AnyTable, slot_of, engine_of}

-- an import into a table, whatever cursors stand beside it
pub record TableImported {E : Type 0} (most : ℕ) (kind : Kind) (t : AnyTable) (name : List ℕ) (header : Bool)
    (b now_b : Beside) (now : AnyTable) (result : Result Told E) : Type 0 where
  pub filed : (cursors : Named Cursor)
      → FiledOr most (engine_of (slot_of kind t cursors)) (Command.Import name header) b now_b
      (engine_of (slot_of kind now cursors)) result

-- an export of a table, of whatever kind, whatever cursors stand beside it and whatever was counted of changes
pub record TableExported (t : AnyTable) (name : List ℕ) (b now_b : Beside) (reply : Reply) : Type 0 where
  pub filed : (most changes : ℕ) (kind : Kind) (cursors : Named Cursor) → let e = engine_of (slot_of kind t cursors) in
      Filed most e (Command.Export name) (with_changes changes b) (with_changes changes now_b) e reply
