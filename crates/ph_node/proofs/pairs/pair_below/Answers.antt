use Rattle.std.proofs.Common.{sym, subst, take, arith}
use Rattle.std.specs.Prelude.{Some}
use Rattle.ph_model.specs.Layout.{AreRising}
use Rattle.ph_node.specs.OneEdit.{held_by}
use Rattle.ph_node.proofs.Fitting.{few}
use Rattle.ph_node.proofs.PairLists.{pair_is, rising-order, length-order}
use Rattle.ph_node.proofs.pairs.pair_below.Goals as goal

pub block-requires-clause-entries : goal.block-requires-clause-entries
block-requires-clause-entries g c =
    let r = c.requires in
    let h = few _ _ _ (rising-order g.P.Dims.D c.args.level (take g.P.Dims.D c.args.old.now.body)
    (take g.P.Dims.D c.args.body.now) (held_by c.args.old.now) (Some c.args.v) r.old r.body r.differ) in
    omega (arith, h, length-order c.args.level (take g.P.Dims.D c.args.old.now.body) (take g.P.Dims.D c.args.body.now) (held_by c.args.old.now) (Some c.args.v))

pub write-requires-clause-rise : goal.write-requires-clause-rise
write-requires-clause-rise g c =
    let r = c.requires in
    subst (AreRising g.P.Dims.D c.args.level 0)
    (sym (pair_is g.P.Dims.D _ _ c.args.level c.in_order-pair.result.first.now c.in_order-pair.result.second.now
    c.written_below-was.result c.written_below-joins.result c.args.old.now c.args.body.now c.args.v c.D.ensures
    c.D-2.ensures c.written_below-was.ensures.entry c.written_below-joins.ensures.entry c.in_order-pair.ensures))
    (rising-order g.P.Dims.D c.args.level (take g.P.Dims.D c.args.old.now.body) (take g.P.Dims.D c.args.body.now)
    (held_by c.args.old.now) (Some c.args.v) r.old r.body r.differ)
