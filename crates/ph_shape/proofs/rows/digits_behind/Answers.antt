use Rattle.std.proofs.Common.{◌≡◌, arith, refl, subst, sym, take, drop}
use Rattle.ph_specs.specs.TreeRows.{put_together}
use Rattle.ph_model.specs.PutTree.{body_above}
use Rattle.ph_shape.specs.Bodies.{AreBelow}
use Rattle.ph_shape.proofs.Walk.{below-more, joined-front}
use Rattle.ph_shape.proofs.rows.digits_behind.Goals as goal

pub join-requires-clause-known : goal.join-requires-clause-known
join-requires-clause-known g c = (
  refl,
  subst (λ d. AreBelow 62 (take d c.args.above.now)) (sym c.D-dims.ensures)
      (below-more c.args.w 62 (take g.P.Dims.D c.args.above.now) (omega arith) c.requires.above.small),
)

pub returns : goal.returns
returns g c =
    let made : c.join.new.known ≡ put_together c.args.level c.args.entry.now.addr
    (body_above c.args.level (take g.P.Dims.D c.args.above.now)) (take g.P.Dims.D c.args.entry.now.body) =
    subst (λ d. c.join.new.known ≡ put_together c.args.level c.args.entry.now.addr
    (body_above c.args.level (take d c.args.above.now)) (take d c.args.entry.now.body)) c.D-dims.ensures c.join.ensures in
    joined-front g.P.Dims.D c.args.level c.args.entry.now.addr c.join.new.known (take g.P.Dims.D c.args.above.now)
    (take g.P.Dims.D c.args.entry.now.body) (drop c.D-dims.result c.args.above.now) made c.requires.above.zeros
    c.requires.above.long c.requires.lawful.body.0
