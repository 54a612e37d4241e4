use Rattle.std.proofs.Common.{◌≡◌, length}
use Rattle.std.specs.Cmp.Lexicographic.{pointwise}
use Rattle.ph_specs.specs.Lines.{words}
use Rattle.ph_specs.specs.Command.{fixed_fits}
use Rattle.ph_script.specs.Forms.{spread_of}
use Rattle.ph_script.proofs.places.has_own_words.Given as goal

abbrev pub invariant-loop-place : goal.invariant-loop-place
invariant-loop-place l = record {
  size : length (spread_of l.places) ≡ length (words l.rest);
  own : pointwise fixed_fits (spread_of l.places) (words l.rest) ≡ pointwise fixed_fits (spread_of l.initial.places) (words l.text);
}

abbrev pub decreases-loop-place : goal.decreases-loop-place
decreases-loop-place l = length (spread_of l.places)
