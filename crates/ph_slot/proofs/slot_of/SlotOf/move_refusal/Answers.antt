use Rattle.std.proofs.Common.{◌∙◌, ap, refl, sym}
use Rattle.ph_specs.specs.Command.{Command}
use Rattle.ph_script.specs.Meaning.{numbers_of}
use Rattle.ph_slot.proofs.Refused.{early-move, point-told}
use Rattle.ph_slot.proofs.slot_of.SlotOf.move_refusal.Goals as goal

pub returns-then-are_outside : goal.returns-then-are_outside
returns-then-are_outside g c = point-told (Command.Relocate (numbers_of c.args.from.now) (numbers_of c.args.to.now)) c.width.result c.self.view_is
    (early-move c.args.self.now (numbers_of c.args.from.now) (numbers_of c.args.to.now)) (c.width.ensures ∙ ap (λ t. t.width) c.tree.ensures)
    (sym c.if-are_outside.true ∙ c.are_outside.ensures) refl

pub returns-then-are_no_boxes : goal.returns-then-are_no_boxes
returns-then-are_no_boxes g c = point-told (Command.Relocate (numbers_of c.args.from.now) (numbers_of c.args.to.now)) c.width.result c.self.view_is
    (early-move c.args.self.now (numbers_of c.args.from.now) (numbers_of c.args.to.now)) (c.width.ensures ∙ ap (λ t. t.width) c.tree.ensures)
    (sym c.if-are_outside.false ∙ c.are_outside.ensures) (sym c.if-are_no_boxes.true ∙ c.are_no_boxes.ensures)

pub returns : goal.returns
returns g c = point-told (Command.Relocate (numbers_of c.args.from.now) (numbers_of c.args.to.now)) c.width.result c.self.view_is
    (early-move c.args.self.now (numbers_of c.args.from.now) (numbers_of c.args.to.now)) (c.width.ensures ∙ ap (λ t. t.width) c.tree.ensures)
    (sym c.if-are_outside.false ∙ c.are_outside.ensures) (sym c.if-are_no_boxes.false ∙ c.are_no_boxes.ensures)
