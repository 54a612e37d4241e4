use Rattle.std.proofs.Common.{ap, take, subst}
use Rattle.ph_window.specs.Parting.{IsParting}
use Rattle.ph_window.proofs.Marks.{part-order, part-none}
use Rattle.ph_window.proofs.mark.MarkOf.is_before.Goals as goal

pub returns-in-Some : goal.returns-in-Some
returns-in-Some g c =
    part-order (ap (λ n. take n c.self.inside.offsets) c.D.ensures) c.self.invariant c.self.view_is
    c.digits.ensures.body c.digits.ensures.value c.requires.width c.in-Some.field-0-0 c.in-Some.is_later
    (subst (IsParting _ _) c.in-Some.is c.parting.ensures)

pub returns-in-None : goal.returns-in-None
returns-in-None g c =
    part-none (ap (λ n. take n c.self.inside.offsets) c.D.ensures) c.self.invariant c.self.view_is
    c.digits.ensures.body c.digits.ensures.value c.requires.width (subst (IsParting _ _) c.in-None.is c.parting.ensures)
