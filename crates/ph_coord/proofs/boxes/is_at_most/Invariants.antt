use Rattle.std.proofs.Common.{◌≡◌, length}
use Rattle.ph_specs.specs.Coordinate.{at_most}
use Rattle.ph_coord.proofs.boxes.is_at_most.Given as goal

abbrev pub invariant-loop-a : goal.invariant-loop-a
invariant-loop-a l = record {
  value : at_most l.a-iterator.a.rest.now l.a-iterator.b.rest.now ≡ at_most l.low l.high;
  same : length l.a-iterator.a.rest.now ≡ length l.a-iterator.b.rest.now;
}
