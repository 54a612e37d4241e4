use Rattle.ph_script.specs.Words.{IsDigits}
use Rattle.ph_script.proofs.digits.digits_behind.Given as goal

abbrev pub invariant-loop-at : goal.invariant-loop-at
invariant-loop-at l = IsDigits l.text l.from l.before l.at l.size
