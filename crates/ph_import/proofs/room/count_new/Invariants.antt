use Rattle.std.proofs.Common.{◌+◌, ◌*◌, ◌≤◌, take}
use Rattle.ph_import.specs.Imported.{looks_visits}
use Rattle.ph_import.proofs.Counts.{IsCounted}
use Rattle.ph_import.proofs.room.count_new.Given as goal

abbrev pub invariant-loop-row : goal.invariant-loop-row
invariant-loop-row g l = record {
  counted : IsCounted l.tree.width l.tree.table (take l.row-index l.rows) l.new_points;
  visits : l.visits ≤ l.fn.visits + looks_visits l.tree.width g.row.D l.tree.table (take l.row-index l.rows);
  limit : l.visits ≤ l.fn.visits + l.tree.width * l.row-index;
  later : l.fn.visits ≤ l.visits;
}
