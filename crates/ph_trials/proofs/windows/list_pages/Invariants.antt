use Rattle.ph_window.specs.Page.{IsLast}
use Rattle.ph_trials.proofs.windows.list_pages.Given as goal

abbrev pub invariant-loop : goal.invariant-loop
invariant-loop g l = IsLast g.row.W g.row.D l.last
