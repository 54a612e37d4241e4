use Rattle.std.proofs.Common.{ap, arith, length, rules}
use Rattle.ph_tree.proofs.Sizes.{below-children, child-room}
use Rattle.ph_trials.proofs.records.+are_written_anew.Goals as goal

pub are_written_anew-requires : goal.are_written_anew-requires
are_written_anew-requires g t c κs within =
    let below = ap length (below-children c.children-slot-items.result.now _ _ c.children-slot-items.ensures c.visit-visited.ensures.shows) in
    let few = child-room c.children-slot-items.result.now c.loop-slot.slot-index c.slot-item.result (omega arith) c.slot-item.is in
    (omega (arith, c.decreases, few, below), search (rules, within))
