use Rattle.std.proofs.Common.{◌∙◌, ap, refl, sym}
use Rattle.std.specs.Prelude.{Some}
use Rattle.ph_specs.specs.Command.{Command}
use Rattle.ph_script.specs.Meaning.{numbers_of}
use Rattle.ph_slot.specs.Refusing.{early_refusal}
use Rattle.ph_commands.specs.Tables.{table_at}
use Rattle.ph_slot.specs.Slots.{named}
use Rattle.ph_slot.proofs.Plain.{plain-put}
use Rattle.ph_slot.proofs.Refused.{early-put}
use Rattle.ph_slot.proofs.Quiet.{refused-quiet, served-quiet}
use Rattle.ph_slot.proofs.Slotted.{frame-kept, put-frame}
use Rattle.ph_slot.proofs.slot_of.SlotOf.put.Goals as goal

pub returns-in-Some : goal.returns-in-Some
returns-in-Some g c =
    let command = Command.Put (numbers_of c.args.at.now) c.args.value in
    refused-quiet c.args.self.now command c.reply.result _ _ refl
    (sym (early-put c.args.self.now (numbers_of c.args.at.now) c.args.value) ∙ sym c.in-Some.ensures ∙ ap Some (sym c.reply.ensures))

pub invariant_of-self : goal.invariant_of-self
invariant_of-self g c =
    let p = numbers_of c.args.at.now in
    let v = c.args.value in
    frame-kept _ c.put_row.result _ _ _ _
    (put-frame c.self.inside.kind (table_at g.row.D c.self.inside.kept) (named c.self.inside.cursors.items) p v
    (ap (λ x. early_refusal x (Command.Put p v)) c.self.view_is ∙ sym (early-put c.args.self.now p v) ∙ sym c.in_default.ensures)) c.put_row.ensures c.self.invariant

pub returns : goal.returns
returns g c =
    let p = numbers_of c.args.at.now in
    let v = c.args.value in
    rw (← c.self.view_is) (served-quiet c.self.inside.kind (table_at g.row.D c.self.inside.kept) _ (named c.self.inside.cursors.items) _
    c.put_row.result _ _ _ _ (plain-put p v)
    (ap (λ x. early_refusal x (Command.Put p v)) c.self.view_is ∙ sym (early-put c.args.self.now p v) ∙ sym c.in_default.ensures) c.put_row.ensures)
