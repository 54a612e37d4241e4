use Rattle.std.proofs.Common.{◌≡◌, ◌+◌, ◌-◌, ◌*◌, length, map, drop}
use Rattle.ph_specs.specs.DelTree.{same_digits}
use Rattle.ph_bits.specs.Fields.{cut, digits_row}
use Rattle.ph_bits.proofs.beside.are_fields.Given as goal

abbrev pub invariant-loop-i : goal.invariant-loop-i
invariant-loop-i l =
    same_digits (digits_row l.fn.words (l.fn.at + l.i * l.fn.width) l.fn.width (length l.fn.numbers - l.i))
    (map (cut l.fn.width l.fn.low) (drop l.i l.fn.numbers)) ≡
    same_digits (digits_row l.fn.words l.fn.at l.fn.width (length l.fn.numbers)) (map (cut l.fn.width l.fn.low) l.fn.numbers)
