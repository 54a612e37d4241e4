-- What has been written so far, and what is left of the window.
use Rattle.ph_c.proofs.Filling.{Filling}
use Rattle.ph_c.proofs.pages.fill.Given as goal

abbrev pub invariant-loop-i : goal.invariant-loop-i
invariant-loop-i g l = Filling g.row.D l.fn.window.rows l.fn.values l.fn.points l.i l.window.rows l.values l.points
