use Rattle.std.proofs.Common.{arith}
use Rattle.ph_set.specs.Held.{rows_held}
use Rattle.ph_set.proofs.Taking.{after-two}
use Rattle.ph_set.proofs.LeftOrRight.{in-order}
use Rattle.ph_set.proofs.meet.list_in_order.Goals as goal

pub returns-clause-rows : goal.returns-clause-rows
returns-clause-rows g c =
    let w = c.args.plan.now.width in
    after-two g.S.RowSink.adds g.met.S.RowSink.adds_more _ _ _ _ _ _ c.list_part_if.ensures.rows c.list_part_if-2.ensures.rows
    (in-order c.args.plan.now c.args.left (rows_held w g.P.Dims.D c.args.x.now) (rows_held w g.P.Dims.D c.args.y.now) c.requires.order)

pub returns-clause-visits : goal.returns-clause-visits
returns-clause-visits g c = omega (arith, c.list_part_if.ensures.visits, c.list_part_if-2.ensures.visits)
