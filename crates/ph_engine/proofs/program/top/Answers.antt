use Rattle.std.proofs.Common.{◌∙◌, sym, ap, rules}
use Rattle.ph_engine.specs.Asking.{asked}
use Rattle.ph_engine.proofs.Ends.{ran, run_ends}
use Rattle.ph_engine.proofs.program.top.Goals as goal

pub returns-in-Run-clause-ends : goal.returns-in-Run-clause-ends
returns-in-Run-clause-ends g c =
    let ends = ran c.new-desk.result.limits.now _ _ _ c.run.result (sym (ap asked c.in-Run.is) ∙ c.task_of.ensures)
    (run_ends c.new-desk.result.limits.now _ _ c.run.result c.run.ensures.outcome c.run.ensures.causes c.run.ensures.filings) in
    search (rules, ends)
