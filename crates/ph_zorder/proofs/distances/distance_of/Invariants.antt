use Rattle.std.proofs.Common.{◌≡◌, ◌*◌, ◌+◌, ◌≤◌, length, IsTrue}
use Rattle.std.specs.List.{list_all}
use Rattle.ph_specs.specs.Coordinate.{fits}
use Rattle.ph_specs.specs.Distance.{distance}
use Rattle.ph_zorder.specs.Squares.{greatest_square}
use Rattle.ph_zorder.proofs.distances.distance_of.Given as goal

abbrev pub invariant-loop-c : goal.invariant-loop-c
invariant-loop-c l = record {
  value : l.sum + distance l.c-iterator.a.rest.now l.c-iterator.b.rest.now ≡ distance l.p l.q;
  limit : l.sum + length l.c-iterator.a.rest.now * greatest_square ≤ 16 * greatest_square;
  same : length l.c-iterator.a.rest.now ≡ length l.c-iterator.b.rest.now;
  first : IsTrue (list_all (fits 62) l.c-iterator.a.rest.now);
  second : IsTrue (list_all (fits 62) l.c-iterator.b.rest.now);
}
