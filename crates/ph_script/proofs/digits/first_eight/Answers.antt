use Rattle.ph_script.proofs.FrontNumbers.{digits-read}
use Rattle.ph_script.proofs.digits.first_eight.Goals as goal

pub returns-in-Some : goal.returns-in-Some
returns-in-Some c =
    digits-read c.args.text.now c.in-Some.bytes.now c.args.from 8 c.eight_digits.result c.requires
    (rw c.split_at.ensures.back at c.in-Some.ensures.cases) c.eight_digits.ensures
