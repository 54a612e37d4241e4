use Rattle.ph_node.specs.Shown.{shown}
use Rattle.ph_tree.proofs.Walks.{IsOnWay}
use Rattle.ph_tree.proofs.find.find_in.Given as goal

abbrev pub invariant-down : goal.invariant-down
invariant-down g l = IsOnWay g.P.Dims.D l.key.width l.key.point (shown l.initial.node) (shown l.node) l.initial.visits l.visits

abbrev pub decreases-down : goal.decreases-down
decreases-down g l = (shown l.node).level
