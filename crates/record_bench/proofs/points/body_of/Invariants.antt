use Rattle.std.proofs.Common.{◌≡◌, ◌++◌, drop, replicate}
use Rattle.record_bench.proofs.points.body_of.Given as goal

abbrev pub invariant-fields : goal.invariant-fields
invariant-fields l = record {
  filled : l.body ≡ replicate l.i l.field ++ drop l.i (replicate 16 0);
}
