use Rattle.std.proofs.Common.{◌≡◌, ◌≤◌, ◌+◌, ◌-◌, ◌*◌, ◌/◌, slice_index_or}
use Rattle.ph_bits.specs.Moved.{IsMoved}
use Rattle.ph_bits.proofs.moves.shift_few_up.Given as goal

-- the last words; the one that was read last is still there
abbrev pub invariant-loop-left : goal.invariant-loop-left
invariant-loop-left l =
    (l.left ≤ l.count) × IsMoved l.initial.words (l.from + 64 * l.left) (64 * l.place + 64 * l.left)
    (64 * (l.count - l.left)) l.words × (l.last ≡ slice_index_or l.words (l.from / 64 + l.left) 0)

abbrev pub decreases-loop-left : goal.decreases-loop-left
decreases-loop-left l = l.left
