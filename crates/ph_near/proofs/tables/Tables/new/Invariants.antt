use Rattle.ph_near.specs.Tables.{HaveSums}
use Rattle.ph_near.proofs.tables.Tables.new.Given as goal

abbrev pub invariant-loop-place : goal.invariant-loop-place
invariant-loop-place g l = HaveSums g.row.D l.halves.low l.halves.high l.place l.sums
