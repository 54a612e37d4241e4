use Rattle.std.proofs.Common.{◌≡◌}
use Rattle.ph_node.specs.Shown.{shown}
use Rattle.ph_tree.specs.Rooms.{spare_left}
use Rattle.ph_tree.proofs.Walks.{IsOnWay}
use Rattle.ph_tree.proofs.find.find_spare_in.Given as goal

abbrev pub invariant-down : goal.invariant-down
invariant-down g l =
    record {
      way : IsOnWay g.P.Dims.D l.key.width l.key.point (shown l.initial.node) (shown l.node) l.initial.visits l.visits;
      room : spare_left l.key.width g.P.Dims.D (shown l.node) l.key.point ≡ spare_left l.key.width g.P.Dims.D (shown l.initial.node) l.key.point;
    }

abbrev pub decreases-down : goal.decreases-down
decreases-down g l = (shown l.node).level
