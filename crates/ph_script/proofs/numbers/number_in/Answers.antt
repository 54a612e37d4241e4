use Rattle.std.proofs.Common.{◌∙◌}
use Rattle.ph_script.proofs.FrontNumbers.{short-number}
use Rattle.ph_script.proofs.numbers.number_in.Goals as goal

pub returns-in-Some : goal.returns-in-Some
returns-in-Some c = c.number.ensures ∙ short-number c.args.word.text.now c.in-Some.short (rw c.in-Some.is at c.requires)
