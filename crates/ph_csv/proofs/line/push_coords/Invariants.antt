use Rattle.std.proofs.Common.{◌≡◌, ◌+◌, ◌*◌, ◌≤◌, ◌++◌, length, take}
use Rattle.ph_csv.specs.LineText.{coords_text}
use Rattle.ph_csv.proofs.line.push_coords.Given as goal

abbrev pub invariant-loop-coord : goal.invariant-loop-coord
invariant-loop-coord g l = record {
  text : l.line.bytes ≡ l.initial.line.bytes ++ coords_text (take l.coord-index l.coord-items);
  size : length l.line.bytes ≤ length l.initial.line.bytes + 21 * l.coord-index;
}
