use Rattle.std.proofs.Common.{◌≤◌}
use Rattle.ph_model.specs.EntryList.{entries}
use Rattle.ph_model.specs.PutTree.{body_above}
use Rattle.ph_node.specs.Shown.{shown}
use Rattle.ph_walk.specs.Area.{AreOut}
use Rattle.ph_near.specs.BallSphere.{points_of}
use Rattle.ph_near.proofs.sphere.SphereOf.first_behind.Given as goal

abbrev pub invariant-loop-i : goal.invariant-loop-i
invariant-loop-i g l = record {
  behind : l.fn.place ≤ l.i;
  out : AreOut (points_of l.fn.self) (shown l.fn.node).level (body_above (shown l.fn.node).level l.fn.known.digits) (entries (shown l.fn.node)) l.fn.place l.i;
}
