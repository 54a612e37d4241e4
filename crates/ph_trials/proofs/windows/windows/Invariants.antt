use Rattle.ph_window.specs.Page.{IsLast}
use Rattle.ph_trials.proofs.windows.windows.Given as goal

abbrev pub invariant-loop-v : goal.invariant-loop-v
invariant-loop-v g l = IsLast g.row.W g.row.D l.last
