use Rattle.std.proofs.Common.{◌≡◌, take, length}
use Rattle.std.specs.List.{AllByRecursion as Each}
use Rattle.ph_bulk.proofs.order.have_dims.Given as goal

abbrev pub invariant-loop-row : goal.invariant-loop-row
invariant-loop-row g l = Each (λ r. length r.point ≡ g.row.D) (take l.row-index l.rows)
