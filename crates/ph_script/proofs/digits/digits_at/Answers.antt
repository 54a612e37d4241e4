use Rattle.ph_script.proofs.FrontNumbers.{digits-both}
use Rattle.ph_script.proofs.digits.digits_at.Goals as goal

pub returns-in-Some : goal.returns-in-Some
returns-in-Some c = digits-both c.args.text.now c.args.from _ c.digits_behind.result.1 c.in-Some.front c.digits_behind.result.0 c.in-Some.ensures c.digits_behind.ensures
