use Rattle.std.proofs.Common.{◌≡◌}
use Rattle.ph_plain_trials.proofs.tests.tables.put_new.Given as goal

abbrev pub invariant-loop-coords : goal.invariant-loop-coords
invariant-loop-coords g l = l.table.width ≡ 32
