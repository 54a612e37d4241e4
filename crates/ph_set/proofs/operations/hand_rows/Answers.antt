use Rattle.std.proofs.Common.{ap, subst, ◌∙◌, arith}
use Rattle.ph_set.specs.Operations.{plan_of}
use Rattle.ph_set.proofs.KeptRows.{AreKept, are-kept}
use Rattle.ph_set.proofs.operations.hand_rows.Given.{Over}
use Rattle.ph_set.proofs.operations.hand_rows.Goals.{After-hand_kept}
use Rattle.ph_set.proofs.operations.hand_rows.Goals as goal

-- what it keeps
kept_rows : (g : Over) (c : After-hand_kept g) →
    AreKept c.plan-plan.result c.args.operation c.args.a.now.width g.row.D c.args.a.now.table c.args.b.now.table
kept_rows g c =
    are-kept (c.plan-plan.ensures ∙ ap (plan_of c.args.operation) c.width.ensures) c.hand_kept.ensures.left c.hand_kept.ensures.right
    c.hand_kept.ensures.wide

pub returns-clause-rows : goal.returns-clause-rows
returns-clause-rows g c =
    subst (g.S.RowSink.adds c.args.rows.now c.hand_kept.new.rows) (kept_rows g (goal.at.returns-clause-rows g c).After-hand_kept).rows c.hand_kept.ensures.rows

pub returns-clause-table : goal.returns-clause-table
returns-clause-table g c = (kept_rows g (goal.at.returns-clause-table g c).After-hand_kept).table

pub returns-clause-visits : goal.returns-clause-visits
returns-clause-visits g c =
    omega (arith, (kept_rows g (goal.at.returns-clause-visits g c).After-hand_kept).visits, c.hand_kept.ensures.visits)
