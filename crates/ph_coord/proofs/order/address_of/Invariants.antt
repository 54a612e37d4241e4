use Rattle.std.proofs.Common.{◌≡◌, ◌<◌, ◌^◌, drop}
use Rattle.std.specs.Prelude.{IsTrue}
use Rattle.std.specs.List.{list_all}
use Rattle.ph_specs.specs.Coordinate.{fits}
use Rattle.ph_specs.specs.ZOrder.{address_from, address}
use Rattle.ph_coord.proofs.order.address_of.Given as goal

abbrev pub invariant-loop-c : goal.invariant-loop-c
invariant-loop-c l = record {
  value : address_from l.digits l.w (drop l.c-index l.coords) l.place ≡ address l.w l.coords l.place;
  fitting : IsTrue (list_all (fits l.w) (drop l.c-index l.coords));
  limit : l.digits < 2 ^ l.c-index;
}
