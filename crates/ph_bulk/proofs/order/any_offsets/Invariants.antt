use Rattle.std.proofs.Common.{◌≡◌, take, map}
use Rattle.ph_coord.proofs.Filled.{padded}
use Rattle.ph_bulk.specs.Order.{any_offset}
use Rattle.ph_bulk.proofs.order.any_offsets.Given as goal

abbrev pub invariant-loop-i : goal.invariant-loop-i
invariant-loop-i g l = l.offsets ≡ padded g.row.D 0 (take l.i (map (any_offset l.w) l.p))
