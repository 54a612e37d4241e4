use Rattle.std.proofs.Common.{ap, sym, ◌∙◌}
use Rattle.std.specs.Prelude.{is_ok}
use Rattle.ph_slot.specs.Naming.{place}
use Rattle.ph_commands.specs.Tables.{table_at}
use Rattle.ph_slot.specs.Slots.{named}
use Rattle.ph_slot.proofs.Names.{has-place}
use Rattle.ph_slot.proofs.Slotted.{names-sorted}
use Rattle.ph_slot.proofs.slot_of.SlotOf.has_cursor.Goals as goal

pub returns : goal.returns
returns g c =
    let items = c.self.inside.cursors.items in
    let at = c.place_of.ensures.place ∙ ap (λ xs. place c.args.name.now (named xs)) c.as_slice.ensures.value in
    rw (← c.self.view_is) (c.is_ok.ensures.value ∙ ap (λ r. is_ok r) at ∙
    sym (has-place c.args.name.now (named items)
    (names-sorted c.self.inside.kind (table_at g.row.D c.self.inside.kept) items c.self.invariant)))
