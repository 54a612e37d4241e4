use Rattle.ph_script.proofs.FrontNumbers.{number-at}
use Rattle.ph_script.proofs.numbers.number_at.Goals as goal

pub returns-then-is_end : goal.returns-then-is_end
returns-then-is_end c =
    let digits = c.digits_at-size in
    number-at c.args.text.now c.args.from c.sign-minus.result.0 c.sign-minus.result.1 digits.result.1 digits.result.0
    c.requires c.sign-minus.ensures.minus c.sign-minus.ensures.len digits.ensures c.if-count-gt0.true
    c.if-count-le-MOST_DIGITS.true (c.is_end.ensures c.if-is_end.true)
