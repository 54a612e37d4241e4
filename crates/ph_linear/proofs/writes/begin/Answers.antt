use Rattle.std.proofs.Common.{◌≡◌, ◌++◌, ◌∷◌, [], length, arith, ◌∙◌, ap}
use Rattle.ph_bits.specs.Fields.{number_in}
use Rattle.ph_linear.proofs.writes.begin.Goals as goal
use Rattle.ph_linear.proofs.writes.begin.Goals.{After-new}

begun : (c : After-new) → c.push.new.self.words ≡ 0 ∷ []
begun c = c.push.ensures.words ∙ ap (λ t. t ++ 0 ∷ []) c.reset.ensures.words

pub returns-clause-digits : goal.returns-clause-digits
returns-clause-digits c =
    omega (arith, c.new.ensures.digits c.push.new.self.words, ap length (begun (goal.at.returns-clause-digits c).After-new))

pub returns-clause-number : goal.returns-clause-number
returns-clause-number c =
    c.new.ensures.number c.push.new.self.words ∙ ap number_in (begun (goal.at.returns-clause-number c).After-new)
