use Rattle.std.proofs.Common.{◌*◌}
use Rattle.ph_bits.specs.Moved.{IsMoved}
use Rattle.ph_bits.proofs.moves.shift_words_down.Given as goal

-- the first words
abbrev pub invariant-loop-turn : goal.invariant-loop-turn
invariant-loop-turn l = IsMoved l.initial.words l.from (64 * l.place) (256 * l.turn) l.words
