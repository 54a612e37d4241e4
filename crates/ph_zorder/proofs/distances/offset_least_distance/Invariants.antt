use Rattle.std.proofs.Common.{◌≡◌, ◌*◌, ◌+◌, ◌≤◌, ◌<◌, ◌^◌, length, map}
use Rattle.std.specs.List.{AllByRecursion as Each}
use Rattle.ph_specs.specs.Coordinate.{coordinate}
use Rattle.ph_model.proofs.laws.Bound.{bound}
use Rattle.ph_zorder.specs.Squares.{greatest_square}
use Rattle.ph_zorder.proofs.distances.offset_least_distance.Given as goal

abbrev pub invariant-loop-x : goal.invariant-loop-x
invariant-loop-x l = record {
  value : l.sum + bound l.fn.w l.level (map (coordinate l.fn.w) l.x-iterator.a.rest.now)
      (map (coordinate l.fn.w) l.x-iterator.b.rest.now) ≡ bound l.fn.w l.level (map (coordinate l.fn.w) l.corner)
      (map (coordinate l.fn.w) l.q);
  limit : l.sum + length l.x-iterator.a.rest.now * greatest_square ≤ 16 * greatest_square;
  same : length l.x-iterator.a.rest.now ≡ length l.x-iterator.b.rest.now;
  first : Each (λ x. x < 2 ^ l.fn.w) l.x-iterator.a.rest.now;
  second : Each (λ x. x < 2 ^ l.fn.w) l.x-iterator.b.rest.now;
}
