use Rattle.std.proofs.Common.{◌≡◌, ◌≤◌, length}
use Rattle.ph_record_trials.proofs.tests.items_of.Given as goal

abbrev pub invariant-loop-addr : goal.invariant-loop-addr
invariant-loop-addr l = record { few : l.count ≤ l.addr; four : length l.items ≡ 4 }
