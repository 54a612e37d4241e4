use Rattle.std.proofs.Common.{◌≡◌, ◌+◌, ◌-◌, ◌*◌, ◌≤◌}
use Rattle.ph_node.specs.Shown.{shown}
use Rattle.ph_set.specs.Held.{held_what}
use Rattle.ph_set.specs.Parts.{height}
use Rattle.ph_set.specs.Sinks.{AreTaken}
use Rattle.ph_set.specs.Sides.{side_node, kept_from, work_from}
use Rattle.ph_set.proofs.meet.+meet.Given as goal

abbrev pub decreases-meet : goal.decreases-meet
decreases-meet g l = 4 * (height (held_what l.x.now.held) + height (held_what l.y.now.held)) + 3

abbrev pub decreases-meet_nodes : goal.decreases-meet_nodes
decreases-meet_nodes g l = 4 * ((shown l.a).level + 1 + ((shown l.b).level + 1)) + 2

abbrev pub decreases-over : goal.decreases-over
decreases-over g l = 4 * ((shown l.a).level + 1 + height (held_what l.y.now.held)) + 1

abbrev pub decreases-meet_either : goal.decreases-meet_either
decreases-meet_either g l = 4 * (height (held_what l.x.now.held) + height (held_what l.y.now.held)) + 4

abbrev pub decreases-pair_at : goal.decreases-pair_at
decreases-pair_at g l = 4 * ((side_node l.a.now).level + 1 + ((side_node l.b.now).level + 1))

abbrev pub decreases-side_by_side : goal.decreases-side_by_side
decreases-side_by_side g l = 4 * ((side_node l.a.now).level + 1 + ((side_node l.b.now).level + 1)) + 1

abbrev pub decreases-side_by_side-loop-i : goal.decreases-side_by_side-loop-i
decreases-side_by_side-loop-i g l = (l.lefts - l.i) + (l.rights - l.j)

abbrev pub invariant-side_by_side-loop-i : goal.invariant-side_by_side-loop-i
invariant-side_by_side-loop-i g l = record {
  rows : AreTaken g.S.RowSink.adds l.fn.rows l.rows (kept_from l.plan g.P.Dims.D l.a 0 l.b 0) (kept_from l.plan g.P.Dims.D l.a l.i l.b l.j);
  visits : l.visits + work_from l.plan g.P.Dims.D l.a l.i l.b l.j ≡ l.fn.visits + work_from l.plan g.P.Dims.D l.a 0 l.b 0;
  left : l.i ≤ l.lefts;
  right : l.j ≤ l.rights;
}
