use Rattle.std.proofs.Common.{◌≡◌, ◌<◌, ◌≤◌, length, arith, subst}
use Rattle.std.specs.List.{AllByRecursion as Each}
use Rattle.ph_specs.specs.Table.{Row}
use Rattle.ph_specs.proofs.laws.Ranked.{take-all}
use Rattle.ph_shape.proofs.Fronts.{each-more}
use Rattle.ph_bulk.proofs.order.have_dims.Goals as goal

pub loop-row-preserved : goal.loop-row-preserved
loop-row-preserved g c =
    let m : c.loop-row.row-index < length c.args.rows.now = omega arith in
    each-more (λ (r : Row). length r.point ≡ g.row.D) c.args.rows.now c.loop-row.row-index c.row-item.result m c.loop-row.invariant
    (subst (λ (r : Row). length r.point ≡ g.row.D) c.row-item.is c.numbers_of.ensures)

pub returns : goal.returns
returns g c =
    let m : length c.args.rows.now ≤ c.loop-row.row-index = omega arith in
    subst (Each (λ (r : Row). length r.point ≡ g.row.D)) (take-all c.loop-row.row-index c.args.rows.now m) c.loop-row.invariant
