use Rattle.std.proofs.Common.{rules}
use Rattle.ph_commands.specs.Tables.{table_at}
use Rattle.ph_slot.specs.Slots.{named}
use Rattle.ph_slot.proofs.Undos.{back-quiet}
use Rattle.ph_slot.proofs.slot_of.SlotOf.back.Goals as goal

pub returns : goal.returns
returns g c =
    rw (← c.self.view_is) (back-quiet c.self.inside.kind (table_at g.row.D c.self.inside.kept)
    (named c.self.inside.cursors.items) c.args.n (table_at g.row.D c.back_edits.new.kept) _ _ _ _ c.back_edits.result (search rules)
    c.back_edits.ensures)
