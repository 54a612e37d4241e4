use Rattle.std.proofs.Common.{◌∙◌, ap, refl, sym}
use Rattle.ph_specs.specs.Command.{Command}
use Rattle.ph_script.specs.Meaning.{numbers_of}
use Rattle.ph_slot.proofs.Refused.{early-get, point-told}
use Rattle.ph_slot.proofs.slot_of.SlotOf.point_refusal.Goals as goal

pub returns-then-is_outside : goal.returns-then-is_outside
returns-then-is_outside g c = point-told (Command.Get (numbers_of c.args.at.now)) c.width.result c.self.view_is
    (early-get c.args.self.now (numbers_of c.args.at.now)) (c.width.ensures ∙ ap (λ t. t.width) c.tree.ensures) (sym c.if-is_outside.true ∙ c.is_outside.ensures) refl

pub returns-then-is_no_box : goal.returns-then-is_no_box
returns-then-is_no_box g c = point-told (Command.Get (numbers_of c.args.at.now)) c.width.result c.self.view_is
    (early-get c.args.self.now (numbers_of c.args.at.now)) (c.width.ensures ∙ ap (λ t. t.width) c.tree.ensures)
    (sym c.if-is_outside.false ∙ c.is_outside.ensures) (sym c.if-is_no_box.true ∙ c.is_no_box.ensures)

pub returns : goal.returns
returns g c = point-told (Command.Get (numbers_of c.args.at.now)) c.width.result c.self.view_is
    (early-get c.args.self.now (numbers_of c.args.at.now)) (c.width.ensures ∙ ap (λ t. t.width) c.tree.ensures)
    (sym c.if-is_outside.false ∙ c.is_outside.ensures) (sym c.if-is_no_box.false ∙ c.is_no_box.ensures)
