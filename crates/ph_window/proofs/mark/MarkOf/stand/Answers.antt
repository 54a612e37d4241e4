use Rattle.std.proofs.Common.{ap, take, subst}
use Rattle.ph_window.specs.Parting.{IsParting}
use Rattle.ph_window.proofs.Marks.{part-holds, part-stands}
use Rattle.ph_window.proofs.mark.MarkOf.stand.Goals as goal

pub returns-then-place-level : goal.returns-then-place-level
returns-then-place-level g c =
    part-holds (ap (λ n. take n c.self.inside.offsets) c.D.ensures) c.self.invariant c.self.view_is
    c.digits.ensures.body c.digits.ensures.value c.requires.width c.in-Some.place c.args.level
    c.if-place-level.true (subst (IsParting _ _) c.in-Some.is c.parting.ensures).0

pub returns-then-is_later : goal.returns-then-is_later
returns-then-is_later g c =
    part-stands (ap (λ n. take n c.self.inside.offsets) c.D.ensures) c.self.invariant c.self.view_is
    c.digits.ensures.body c.digits.ensures.value c.requires.width (subst (IsParting _ _) c.in-Some.is c.parting.ensures)
    c.if-place-level.false c.if-is_later.true

pub returns-else-is_later : goal.returns-else-is_later
returns-else-is_later g c =
    part-stands (ap (λ n. take n c.self.inside.offsets) c.D.ensures) c.self.invariant c.self.view_is
    c.digits.ensures.body c.digits.ensures.value c.requires.width (subst (IsParting _ _) c.in-Some.is c.parting.ensures)
    c.if-place-level.false c.if-is_later.false
