use Rattle.std.proofs.Common.{◌∙◌}
use Rattle.ph_slot.specs.Refusing.{frame_refusal}
use Rattle.ph_commands.specs.Tables.{table_at}
use Rattle.ph_slot.specs.Slots.{named}
use Rattle.ph_slot.proofs.Pairings.{combined-frame}
use Rattle.ph_slot.proofs.Slotted.{slot-keeps}
use Rattle.ph_slot.proofs.slot_of.SlotOf.take_combined.Goals as goal

pub invariant_of-self : goal.invariant_of-self
invariant_of-self g c =
    let kind = c.self.inside.kind in
    let t = table_at g.row.D c.self.inside.kept in
    let u = table_at g.row.D c.other.inside.kept in
    let now = table_at g.row.D c.combine_trees.new.kept in
    let cursors = named c.self.inside.cursors.items in
    let others = named c.other.inside.cursors.items in
    slot-keeps kind t now c.self.inside.cursors.items
    (combined-frame c.args.operation kind c.other.inside.kind t u now cursors others c.args.changes.now c.combine_trees.new.changes c.combine_trees.result
    ((λ i. frame_refusal (c.self.view_is i) (c.other.view_is i)) ∙ c.requires) c.self.invariant.of_kind
    c.other.invariant.of_kind c.combine_trees.ensures.made) c.self.invariant
