use Rattle.std.proofs.Common.{arith, ◌∙◌}
use Rattle.ph_window.proofs.Starts.{whole-rows, whole-visits}
use Rattle.ph_window.proofs.whole.WindowOf+Dim+D.whole.Goals as goal

pub returns-clause-rows : goal.returns-clause-rows
returns-clause-rows g c =
    c.new.ensures.rows ∙ whole-rows g.row.D c.args.tree.now.table c.least_corner.ensures.value c.greatest_corner.ensures.value c.width-w.ensures
    c.root-root.ensures.table

pub returns-clause-visits : goal.returns-clause-visits
returns-clause-visits g c =
    c.new.ensures.visits ∙ whole-visits g.row.D c.args.tree.now.table c.least_corner.ensures.value c.greatest_corner.ensures.value c.width-w.ensures
    c.root-root.ensures.table (omega (arith, c.bits-bits.ensures.some, c.bits-bits.ensures.value))
