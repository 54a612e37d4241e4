use Rattle.std.proofs.Common.{◌≡◌, length, drop}
use Rattle.ph_script.specs.Plain.{IsSpelled}
use Rattle.ph_script.proofs.plain.read_coords.Given as goal

abbrev pub invariant-loop : goal.invariant-loop
invariant-loop l = record {
  spelled : IsSpelled (drop l.from l.line) l.coords (drop l.at l.line);
  count : length l.coords ≡ l.counter;
}
