use Rattle.std.proofs.Common.{◌≡◌, ◌+◌, ◌*◌, ◌≤◌, take}
use Rattle.ph_import.specs.Imported.{with_some, puts_visits}
use Rattle.ph_import.proofs.rows.put_each.Given as goal

abbrev pub invariant-loop-row : goal.invariant-loop-row
invariant-loop-row g l = record {
  state : l.kept ≡ with_some l.fn.kept (take l.row-index l.rows);
  visits : l.visits ≤ l.fn.visits + puts_visits l.fn.kept.width g.row.D l.fn.kept.table (take l.row-index l.rows);
  limit : l.visits ≤ l.fn.visits + 2 * l.fn.kept.width * l.row-index;
  later : l.fn.visits ≤ l.visits;
  changes : l.changes ≤ l.fn.changes + 2 * l.row-index;
  grown : l.fn.changes ≤ l.changes;
}
