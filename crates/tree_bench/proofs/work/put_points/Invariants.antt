use Rattle.std.proofs.Common.{◌≡◌}
use Rattle.tree_bench.proofs.work.put_points.Given as goal

abbrev pub invariant-loop-i : goal.invariant-loop-i
invariant-loop-i _ l = l.tree.width ≡ 32
