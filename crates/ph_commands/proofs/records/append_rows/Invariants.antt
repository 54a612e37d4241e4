use Rattle.std.proofs.Common.{◌≡◌, ◌≤◌, ◌+◌, length}
use Rattle.ph_commands.specs.Told.{shelf_by}
use Rattle.ph_commands.proofs.Shelves.{IsWritten}
use Rattle.ph_commands.proofs.records.append_rows.Given as goal

abbrev pub invariant-rows : goal.invariant-rows
invariant-rows g l = record {
  written : IsWritten l.initial.window.rows l.window.rows (shelf_by g.F.Files l.initial.files) (shelf_by g.F.Files l.files);
  cost : l.visits + l.window.visits ≡ l.initial.visits + l.initial.window.visits;
  later : l.initial.visits ≤ l.visits;
}

abbrev pub decreases-rows : goal.decreases-rows
decreases-rows g l = length l.window.rows
