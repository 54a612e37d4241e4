use Rattle.std.proofs.Common.{◌≡◌, ◌≤◌, ◌+◌, ◌++◌, length}
use Rattle.std.specs.Prelude.{true, false, None, ◌&&◌}
use Rattle.std.specs.List.{sum_by}
use Rattle.std.specs.Cmp.Lexicographic.{pointwise}
use Rattle.arrayvec.specs.ArrayVec.{array_vec_len}
use Rattle.ph_specs.specs.Lines.{words}
use Rattle.ph_specs.specs.Command.{number_fits, name_fits}
use Rattle.ph_script.specs.Forms.{spread_of}
use Rattle.ph_script.specs.Parts.{coords_at, counts_at, coords_room, counts_room, name_from, file_from, second_from}
use Rattle.ph_script.proofs.places.read_places.Given as goal

abbrev pub invariant-loop-place : goal.invariant-loop-place
invariant-loop-place l = record {
  size : length (words l.rest) + length (spread_of l.initial.places) ≡ length (words l.text) + length (spread_of l.places);
  fits : (l.numbers_fit && pointwise number_fits (spread_of l.places) (words l.rest)) ≡ pointwise number_fits (spread_of l.initial.places) (words l.text);
  named : (l.names_fit && pointwise name_fits (spread_of l.places) (words l.rest)) ≡ pointwise name_fits (spread_of l.initial.places) (words l.text);
  coords : l.coords ++ coords_at (spread_of l.places) (words l.rest) ≡ coords_at (spread_of l.initial.places) (words l.text);
  counts : l.parts.counts.items ++ counts_at (spread_of l.places) (words l.rest) ≡ counts_at (spread_of l.initial.places) (words l.text);
  name : l.names_fit ≡ true → name_from l.parts.name (spread_of l.places) (words l.rest) ≡ name_from None (spread_of l.initial.places) (words l.text);
  file : l.names_fit ≡ true → file_from l.parts.file (spread_of l.places) (words l.rest) ≡ file_from None (spread_of l.initial.places) (words l.text);
  second : second_from l.parts.is_second (spread_of l.places) (words l.rest) ≡ second_from false (spread_of l.initial.places) (words l.text);
  coords_fit : length l.coords + sum_by coords_room (spread_of l.places) ≤ 32;
  counts_fit : array_vec_len l.parts.counts + sum_by counts_room (spread_of l.places) ≤ 3;
}

abbrev pub decreases-loop-place : goal.decreases-loop-place
decreases-loop-place l = length (spread_of l.places)
