use Rattle.std.proofs.Common.{refl}
use Rattle.ph_script.proofs.FrontNumbers.{digits-more}
use Rattle.ph_script.proofs.digits.digits_behind.Goals as goal

pub loop-at-preserved : goal.loop-at-preserved
loop-at-preserved c =
    let digit = c.digit_of-digit in
    let few = c.if-digit-gt9.false in
    digits-more c.args.text.now c.args.from c.args.before c.loop-at.at c.loop-at.size digit.result _
    c.loop-at.invariant c.loop-at-test.true (digit.ensures.digit few) few (digit.ensures.value few) refl
