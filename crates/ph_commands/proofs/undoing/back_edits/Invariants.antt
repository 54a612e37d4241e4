use Rattle.std.proofs.Common.{◌≡◌, ◌+◌, ◌*◌, ◌≤◌}
use Rattle.ph_specs.specs.Past.{back}
use Rattle.ph_commands.specs.Differing.{back_visits}
use Rattle.ph_commands.proofs.undoing.back_edits.Given as goal

abbrev pub invariant-loop-step : goal.invariant-loop-step
invariant-loop-step g l = record {
  state : l.kept ≡ back l.fn.kept l._step;
  visits : l.visits ≤ l.fn.visits + 5 * l.fn.kept.width * l._step;
  way : l.visits ≤ l.fn.visits + back_visits l.fn.kept.width g.row.D l.fn.kept.table l.fn.kept.past l._step;
  later : l.fn.visits ≤ l.visits;
  changes : l.changes ≤ l.fn.changes + 4 * l._step;
  made : l.fn.changes + l._step ≤ l.changes;
}
