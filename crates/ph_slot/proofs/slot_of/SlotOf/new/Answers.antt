use Rattle.ph_slot.proofs.Slotted.{slot-opened}
use Rattle.ph_slot.proofs.slot_of.SlotOf.new.Goals as goal

pub invariant_of-result : goal.invariant_of-result
invariant_of-result g c =
    let kept = c.new-2.ensures in
    let tree = c.new.ensures in
    slot-opened c.args.kind g.row.D c.args.w c.args.max c.new-2.result c.new.result c.new-3.result.items kept.tree kept.depth
    kept.past tree.table tree.width tree.max c.new-3.ensures c.requires.some c.requires.limit c.requires.even
