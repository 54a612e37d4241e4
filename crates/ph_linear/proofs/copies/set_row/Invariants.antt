use Rattle.std.proofs.Common.{◌*◌, take}
use Rattle.ph_specs.specs.Digits.{number_of}
use Rattle.ph_specs.specs.Pack.{body_fields}
use Rattle.ph_linear.specs.Edited.{IsOver}
use Rattle.ph_linear.proofs.copies.set_row.Given as goal

abbrev pub invariant-loop-i : goal.invariant-loop-i
invariant-loop-i l = IsOver l.initial.words l.at (l.i * l.level) (number_of (body_fields l.level (take l.i l.body))) l.words
