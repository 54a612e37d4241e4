use Rattle.std.proofs.Common.{◌≡◌, ◌-◌, suc, sym, ◌∙◌, arith}
use Rattle.ph_script.proofs.Draws.{drawn-next}
use Rattle.ph_script.proofs.generator.Gen.next.Goals as goal

pub returns-clause-next : goal.returns-clause-next
returns-clause-next c =
    let more : c.self.inside.left ≡ suc (c.self.inside.left - 1) = omega (arith, c.if-self-eq0.false) in
    let made = rw (c.draw-verb.ensures.draw, c.draw-first.ensures.draw, c.draw-second.ensures.draw, c.draw-value.ensures.draw) at c.drawn.ensures.meaning in
    sym c.self.view_is ∙ drawn-next _ _ _ _ _ _ _ _ more c.draw-verb.ensures.state c.draw-first.ensures.state c.draw-second.ensures.state c.draw-value.ensures.state made
