use Rattle.std.proofs.Common.{◌≡◌, ℕ, ◌≤◌, true, false, length, take}
use Rattle.std.specs.Prelude.{filter_map}
use Rattle.std.specs.List.{list_all}
use Rattle.csv.specs.Records.{fields_of}
use Rattle.ph_specs.specs.Coordinate.{fits}
use Rattle.ph_specs.specs.Lines.{number}
use Rattle.ph_csv.specs.Spelled.{is_number}
use Rattle.ph_csv.proofs.fields.read_coords.Given as goal

abbrev pub invariant-loop-i : goal.invariant-loop-i
invariant-loop-i l = record {
  room : length l.coords.items ≤ l.i;
  numbers : list_all is_number (take l.i (fields_of l.fields)) ≡ true;
  near : l.far ≡ false → l.coords.items ≡ filter_map number (take l.i (fields_of l.fields));
  far : l.far ≡ true → (w : ℕ) → w ≤ 62 → list_all (fits w) (filter_map number (take l.i (fields_of l.fields))) ≡ false;
}
