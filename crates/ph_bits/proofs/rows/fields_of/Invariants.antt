use Rattle.std.proofs.Common.{◌≡◌, ◌-◌, take, drop, replicate}
use Rattle.ph_bits.specs.Fields.{digits_row}
use Rattle.ph_bits.proofs.rows.fields_of.Given as goal

abbrev pub invariant-loop-i : goal.invariant-loop-i
invariant-loop-i l =
    (take l.i l.body ≡ take l.i (digits_row l.fn.words l.fn.at l.fn.width l.fn.count)) × (drop l.i l.body ≡ replicate (16 - l.i) 0)
