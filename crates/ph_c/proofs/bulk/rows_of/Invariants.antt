-- The rows so far.
use Rattle.std.proofs.Common.{◌≡◌, take}
use Rattle.ph_c.specs.Builds.{rows_of}
use Rattle.ph_c.proofs.bulk.rows_of.Given as goal

abbrev pub invariant-loop-i : goal.invariant-loop-i
invariant-loop-i g l = l.rows.items ≡ take l.i (rows_of g.row.D l.points l.values)
