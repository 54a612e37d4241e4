use Rattle.std.proofs.Common.{◌≡◌}
use Rattle.ph_snap_trials.proofs.tests.tree_of.Given as goal

abbrev pub invariant-loop-coords : goal.invariant-loop-coords
invariant-loop-coords _ l = l.tree.width ≡ l.w
