use Rattle.std.proofs.Common.{◌≡◌, length}
use Rattle.ph_specs.specs.Coordinate.{at_most}
use Rattle.ph_script.specs.Meaning.{numbers_of}
use Rattle.ph_slot.proofs.refusals.are_at_most.Given as goal

abbrev pub invariant-loop-a : goal.invariant-loop-a
invariant-loop-a l = record {
  value : at_most (numbers_of l.a-iterator.a.rest.now) (numbers_of l.a-iterator.b.rest.now) ≡ at_most (numbers_of l.low) (numbers_of l.high);
  same : length l.a-iterator.a.rest.now ≡ length l.a-iterator.b.rest.now;
}
