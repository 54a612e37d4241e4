use Rattle.std.proofs.Common.{◌≡◌}
use Rattle.ph_trials.proofs.distances.nearest_rows.tree_of.Given as goal

abbrev pub invariant-loop-i : goal.invariant-loop-i
invariant-loop-i _ l = l.tree.width ≡ 32
