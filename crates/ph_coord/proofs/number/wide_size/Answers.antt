use Rattle.std.proofs.Common.{arith}
use Rattle.ph_coord.proofs.Digits.{reaches}
use Rattle.ph_coord.proofs.number.wide_size.Goals as goal

pub returns-in_default : goal.returns-in_default
returns-in_default c = λ h. omega (arith, c.in_default.ensures, reaches _ c.args.digits.now c.loop-digit.digit-index _ c.loop-digit.invariant.value (omega arith))

pub returns-in_default-checked_add : goal.returns-in_default-checked_add
returns-in_default-checked_add c =
    λ h. omega (
      arith,
      c.in_default-checked_add.ensures,
      c.in-Some.ensures,
      reaches _ c.args.digits.now c.loop-digit.digit-index _ c.loop-digit.invariant.value (omega arith),
    )
