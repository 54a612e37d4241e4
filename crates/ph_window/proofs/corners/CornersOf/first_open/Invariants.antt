use Rattle.std.proofs.Common.{◌≤◌, ◌-◌, length}
use Rattle.ph_model.specs.EntryList.{entries}
use Rattle.ph_model.specs.PutTree.{body_above}
use Rattle.ph_node.specs.Shown.{shown}
use Rattle.ph_walk.specs.Area.{AreOut}
use Rattle.ph_window.specs.Corners.{points_of}
use Rattle.ph_window.proofs.corners.CornersOf.first_open.Given as goal

abbrev pub invariant-loop-spot : goal.invariant-loop-spot
invariant-loop-spot g l = record {
  behind : l.fn.place ≤ l.place;
  out : AreOut (points_of l.fn.self) (shown l.fn.node).level (body_above (shown l.fn.node).level l.fn.known.digits) (entries (shown l.fn.node)) l.fn.place l.place;
}

abbrev pub decreases-loop-spot : goal.decreases-loop-spot
decreases-loop-spot g l = length (entries (shown l.fn.node)) - l.place
