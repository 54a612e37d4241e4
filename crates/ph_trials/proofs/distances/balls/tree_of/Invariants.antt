use Rattle.std.proofs.Common.{◌≡◌}
use Rattle.ph_trials.proofs.distances.balls.tree_of.Given as goal

abbrev pub invariant-loop-coords : goal.invariant-loop-coords
invariant-loop-coords _ l = l.tree.width ≡ 32
