-- What has been written so far.
use Rattle.ph_c.proofs.Telling.{Telling}
use Rattle.ph_c.proofs.hits.write_hits.Given as goal

abbrev pub invariant-loop-i : goal.invariant-loop-i
invariant-loop-i g l = Telling g.row.D l.hits l.fn.values l.fn.points l.fn.distances l.i l.values l.points l.distances
