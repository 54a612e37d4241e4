use Rattle.std.proofs.Common.{◌∙◌, ap, false, refl, sym, true}
use Rattle.std.specs.Prelude.{option_map}
use Rattle.ph_script.specs.Meaning.{command_of}
use Rattle.ph_slot.specs.Causes.{refusal_reply}
use Rattle.ph_slot.proofs.Refused.{early-told}
use Rattle.ph_slot.proofs.slot_of.SlotOf.refusal.Goals as goal

pub returns-then-has_wrong_kind : goal.returns-then-has_wrong_kind
returns-then-has_wrong_kind g c = early-told (command_of c.args.cmd.now) true _ _ _ c.self.inside.kept.width c.self.view_is c.requires
    (sym c.if-has_wrong_kind.true ∙ c.has_wrong_kind.ensures) refl refl refl refl

pub returns-then-is_out_of_range : goal.returns-then-is_out_of_range
returns-then-is_out_of_range g c = early-told (command_of c.args.cmd.now) false true _ _ c.width.result c.self.view_is c.requires
    (sym c.if-has_wrong_kind.false ∙ c.has_wrong_kind.ensures) (c.width.ensures ∙ ap (λ t. t.width) c.tree.ensures)
    (sym c.if-is_out_of_range.true ∙ c.is_out_of_range.ensures) refl refl

pub returns-then-is_reversed : goal.returns-then-is_reversed
returns-then-is_reversed g c = early-told (command_of c.args.cmd.now) false false true _ c.width.result c.self.view_is c.requires
    (sym c.if-has_wrong_kind.false ∙ c.has_wrong_kind.ensures) (c.width.ensures ∙ ap (λ t. t.width) c.tree.ensures)
    (sym c.if-is_out_of_range.false ∙ c.is_out_of_range.ensures) (sym c.if-is_reversed.true ∙ c.is_reversed.ensures) refl

pub returns : goal.returns
returns g c = early-told (command_of c.args.cmd.now) false false false (option_map refusal_reply c.cursor_refusal.result) c.width.result
    c.self.view_is c.requires
    (sym c.if-has_wrong_kind.false ∙ c.has_wrong_kind.ensures) (c.width.ensures ∙ ap (λ t. t.width) c.tree.ensures)
    (sym c.if-is_out_of_range.false ∙ c.is_out_of_range.ensures) (sym c.if-is_reversed.false ∙ c.is_reversed.ensures) c.cursor_refusal.ensures
