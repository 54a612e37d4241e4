use Rattle.std.proofs.Common.{◌<◌, length, take, arith, sym, subst, ◌∙◌, ap}
use Rattle.std.specs.List.{list_all}
use Rattle.std.specs.Prelude.{not, IsTrue}
use Rattle.ph_specs.specs.Coordinate.{is_point}
use Rattle.ph_specs.specs.Sets.{table_of}
use Rattle.ph_specs.specs.Table.{put}
use Rattle.ph_model.specs.Order.{IsRising}
use Rattle.ph_specs.specs.ZOrder.{before}
use Rattle.ph_bulk.proofs.Sorted.{IsNext, next-row, table-more}
use Rattle.ph_bulk.proofs.last.last_of_each.Goals as goal

pub put_last-requires : goal.put_last-requires
put_last-requires g c =
    let m : c.loop-row.row-index < length c.args.rows.now = omega arith in
    let n : IsNext c.args.w g.row.D (table_of c.args.w (take c.loop-row.row-index c.args.rows.now))
    c.row-item.result = next-row c.args.w g.row.D c.args.rows.now c.loop-row.row-index c.row-item.result
    (omega arith) (omega arith) c.requires.points c.requires.sorted m c.row-item.is in
    let t = sym c.loop-row.invariant in (
      omega arith,
      (
        c.requires.dims,
        (
          n.point,
          (
            subst (λ rs. IsTrue (list_all (λ x. is_point c.args.w g.row.D x.point) rs)) t n.points,
            (
              subst (IsRising c.args.w) t n.rise,
              subst (λ rs. IsTrue (list_all (λ y. not (before c.args.w c.row-item.result.point y.point)) rs)) t n.behind,
            ),
          ),
        ),
      ),
    )

pub loop-row-preserved : goal.loop-row-preserved
loop-row-preserved g c =
    let m : c.loop-row.row-index < length c.args.rows.now = omega arith in
    c.in_ok-put_last.ensures
    ∙ ap (λ rs. put c.args.w rs c.row-item.result.point c.row-item.result.value) c.loop-row.invariant
    ∙ sym (table-more c.args.w c.args.rows.now c.loop-row.row-index c.row-item.result m c.row-item.is)
