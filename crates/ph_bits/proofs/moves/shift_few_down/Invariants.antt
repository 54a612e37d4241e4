use Rattle.std.proofs.Common.{◌≡◌, ◌+◌, ◌*◌, ◌/◌, slice_index_or}
use Rattle.ph_bits.specs.Moved.{IsMoved}
use Rattle.ph_bits.proofs.moves.shift_few_down.Given as goal

-- the first words; the one that was read last is still there
abbrev pub invariant-loop-i : goal.invariant-loop-i
invariant-loop-i l = IsMoved l.initial.words l.from (64 * l.place) (64 * l.i) l.words × (l.first ≡ slice_index_or l.words (l.from / 64 + l.i) 0)
