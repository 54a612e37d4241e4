use Rattle.ph_slot.proofs.Slotted.{slot-loaded}
use Rattle.ph_slot.proofs.slot_of.SlotOf.of_snapshot.Goals as goal

pub invariant_of-result : goal.invariant_of-result
invariant_of-result g c =
    let kept = c.new.ensures in
    slot-loaded c.args.kind g.row.D c.args.w c.args.bytes.now c.new.result c.in_ok-tree.tree c.new-2.result.items kept.tree kept.depth kept.past
    c.in_ok-tree.ensures.snapshot c.new-2.ensures c.requires.some c.requires.limit
