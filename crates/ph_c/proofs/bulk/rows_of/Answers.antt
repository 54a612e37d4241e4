-- A row more stands behind those that are there.
use Rattle.std.proofs.Common.{◌≡◌, length, take, sym, ap, ◌∙◌, arith}
use Rattle.ph_c.specs.Builds.{rows_of}
use Rattle.ph_c.proofs.Paired.{rows-all, rows-more}
use Rattle.ph_c.proofs.bulk.rows_of.Goals as goal

pub loop-i-preserved : goal.loop-i-preserved
loop-i-preserved g c =
    let more = rows-more g.row.D c.args.points.now c.args.values.now c.loop-i.i (omega arith) in
    rw (c.in_ok-push.ensures.items, c.loop-i.invariant, c.point_at-point.ensures) (sym more)

pub returns : goal.returns
returns g c =
    let whole : c.loop-i.i ≡ length c.args.values.now = omega arith in
    c.loop-i.invariant ∙ ap (λ n. take n (rows_of g.row.D c.args.points.now c.args.values.now)) whole ∙ rows-all g.row.D c.args.points.now c.args.values.now
