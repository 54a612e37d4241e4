use Rattle.std.proofs.Common.{◌≡◌, ℕ, length, map}
use Rattle.ph_specs.specs.Coordinate.{at_most, coordinate}
use Rattle.ph_snap.proofs.boxes.is_at_most.Given as goal

abbrev pub invariant-loop-a : goal.invariant-loop-a
invariant-loop-a l = record {
  value : (w : ℕ) → at_most (map (coordinate w) l.a-iterator.a.rest.now)
      (map (coordinate w) l.a-iterator.b.rest.now) ≡ at_most (map (coordinate w) l.low) (map (coordinate w) l.high);
  same : length l.a-iterator.a.rest.now ≡ length l.a-iterator.b.rest.now;
}
