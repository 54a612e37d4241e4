use Rattle.std.proofs.Common.{◌≡◌, ◌+◌, ◌*◌, ◌^◌, length}
use Rattle.ph_bulk.specs.Order.{code_below, code_of}
use Rattle.ph_bulk.proofs.order.code_of.Given as goal

abbrev pub invariant-loop-place : goal.invariant-loop-place
invariant-loop-place g l = record {
  dims : length l.offsets ≡ g.row.D;
  whole : l.code * 2 ^ (g.row.D * l.place) + code_below l.place l.offsets ≡ code_of l.fn.w l.p;
}
