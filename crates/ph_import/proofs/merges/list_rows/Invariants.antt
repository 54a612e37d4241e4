use Rattle.std.proofs.Common.{◌≡◌, ◌≤◌, ◌+◌, ◌++◌, length}
use Rattle.ph_import.proofs.merges.list_rows.Given as goal

abbrev pub invariant-rows : goal.invariant-rows
invariant-rows g l = record {
  listed : l.rows.items ++ l.window.rows ≡ l.initial.window.rows;
  cost : l.visits + l.window.visits ≡ l.initial.visits + l.initial.window.visits;
  later : l.initial.visits ≤ l.visits;
}

abbrev pub decreases-rows : goal.decreases-rows
decreases-rows g l = length l.window.rows
