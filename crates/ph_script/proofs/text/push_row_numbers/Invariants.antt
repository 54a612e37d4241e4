use Rattle.std.proofs.Common.{◌≡◌, ◌+◌, ◌*◌, ◌≤◌, ◌++◌, length, take, flat_map}
use Rattle.ph_script.specs.RowNumbers.{spaced}
use Rattle.ph_script.proofs.text.push_row_numbers.Given as goal

abbrev pub invariant-loop-coordinate : goal.invariant-loop-coordinate
invariant-loop-coordinate g l = record {
  bytes : l.line.bytes ≡ l.initial.line.bytes ++ flat_map spaced (take l.coordinate-index l.coordinate-items);
  len : length l.line.bytes ≤ length l.initial.line.bytes + 21 * l.coordinate-index;
}
