use Rattle.std.proofs.Common.{◌≡◌, length}
use Rattle.ph_digits.specs.Differences.{differences}
use Rattle.ph_digits.proofs.differences.differing_places.Given as goal

abbrev pub invariant-loop-x : goal.invariant-loop-x
invariant-loop-x l = record {
  value : differences l.places l.x-iterator.a.rest.now l.x-iterator.b.rest.now ≡ differences 0 l.xs l.ys;
  same : length l.x-iterator.a.rest.now ≡ length l.x-iterator.b.rest.now;
}
