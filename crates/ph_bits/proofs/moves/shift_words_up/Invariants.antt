use Rattle.std.proofs.Common.{◌≤◌, ◌+◌, ◌-◌, ◌*◌}
use Rattle.ph_bits.specs.Moved.{IsMoved}
use Rattle.ph_bits.proofs.moves.shift_words_up.Given as goal

-- the last words
abbrev pub invariant-loop-left : goal.invariant-loop-left
invariant-loop-left l =
    (l.left ≤ l.count) × IsMoved l.initial.words (l.from + 64 * l.left) (64 * l.place + 64 * l.left)
    (64 * (l.count - l.left)) l.words

abbrev pub decreases-loop-left : goal.decreases-loop-left
decreases-loop-left l = l.left
