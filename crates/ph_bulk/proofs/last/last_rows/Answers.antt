use Rattle.std.proofs.Common.{◌≡◌, arith, ap, sym, subst, ◌∙◌}
use Rattle.std.specs.List.{AllByRecursion as Each}
use Rattle.std.specs.List.Sorted.{IsSortedBy}
use Rattle.std.specs.Prelude.{IfOk}
use Rattle.std.proofs.lemmas.Result.{IfOk-weaker}
use Rattle.ph_specs.specs.Coordinate.{IsPoint}
use Rattle.ph_specs.specs.Sets.{table_of}
use Rattle.ph_specs.specs.Table.{Row, is_rising, IsTable}
use Rattle.ph_bulk.specs.Order.{row_before}
use Rattle.ph_bulk.proofs.Sorted.{points-moved, rising-table, risen-table, sorted-table, made-table}
use Rattle.ph_bulk.proofs.last.last_rows.Goals as goal

pub returns-then-rising : goal.returns-then-rising
returns-then-rising g c =
    let up = rising-table c.args.w c.args.rows.items (ap (is_rising c.args.w) (sym c.as_slice-2.ensures.value) ∙ sym c.rising.ensures ∙ c.if-rising.true) in
    record {
      rows = up;
      table = made-table c.args.w g.row.D c.args.rows.items _ c.args.rows.items (omega arith) c.requires.points c.as_slice.ensures.value
          c.are_values.ensures up;
    }

pub rising-requires-2 : goal.rising-requires-2
rising-requires-2 g c = (
  omega arith,
  (
    c.requires.dims,
    subst (Each (λ (r : Row). IsPoint c.args.w g.row.D r.point)) (sym c.as_slice-3.ensures.value)
        (points-moved c.args.w g.row.D c.args.rows.items c.sort_rows.new.rows.items c.requires.points c.sort_rows.ensures.moved),
  ),
)

pub returns-then-rising-2 : goal.returns-then-rising-2
returns-then-rising-2 g c =
    let up = risen-table c.args.w g.row.D c.args.rows.items c.sort_rows.new.rows.items (omega arith) c.requires.points c.sort_rows.ensures.moved
    c.in_ok-sort_rows.ensures.stable (ap (is_rising c.args.w) (sym c.as_slice-3.ensures.value) ∙ sym c.rising-2.ensures ∙ c.if-rising-2.true) in
    record {
      rows = up;
      table = made-table c.args.w g.row.D c.args.rows.items _ c.sort_rows.new.rows.items (omega arith) c.requires.points c.as_slice.ensures.value
          c.are_values.ensures up;
    }

pub last_of_each-requires : goal.last_of_each-requires
last_of_each-requires g c = (
  omega arith,
  (
    c.requires.dims,
    (
      subst (Each (λ (r : Row). IsPoint c.args.w g.row.D r.point)) (sym c.as_slice-4.ensures.value)
          (points-moved c.args.w g.row.D c.args.rows.items c.sort_rows.new.rows.items c.requires.points
          c.sort_rows.ensures.moved),
      subst (IsSortedBy (row_before c.args.w)) (sym c.as_slice-4.ensures.value)
          c.in_ok-sort_rows.ensures.sorted,
    ),
  ),
)

pub returns : goal.returns
returns g c =
    let same = ap (table_of c.args.w) c.as_slice-4.ensures.value ∙ sorted-table c.args.w g.row.D c.args.rows.items c.sort_rows.new.rows.items (omega arith)
    c.requires.points
    c.sort_rows.ensures.moved c.in_ok-sort_rows.ensures.stable in
    record {
      rows = subst (λ t. IfOk c.last_of_each.result (λ v. v.items ≡ t)) same c.last_of_each.ensures;
      table = IfOk-weaker c.last_of_each.result (λ v. v.items ≡ table_of c.args.w c.as_slice-4.result.now) (λ v. IsTable c.args.w g.row.D v.items)
          (λ v e. made-table c.args.w g.row.D c.args.rows.items _ v.items (omega arith) c.requires.points c.as_slice.ensures.value c.are_values.ensures (e ∙ same))
          c.last_of_each.ensures;
    }
