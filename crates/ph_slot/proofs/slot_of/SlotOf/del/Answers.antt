use Rattle.std.proofs.Common.{◌∙◌, ap, refl, sym}
use Rattle.std.specs.Prelude.{Some}
use Rattle.ph_specs.specs.Command.{Command}
use Rattle.ph_script.specs.Meaning.{numbers_of}
use Rattle.ph_slot.specs.Refusing.{early_refusal}
use Rattle.ph_commands.specs.Tables.{table_at}
use Rattle.ph_slot.specs.Slots.{named}
use Rattle.ph_slot.proofs.Plain.{plain-del}
use Rattle.ph_slot.proofs.Refused.{early-del}
use Rattle.ph_slot.proofs.Quiet.{refused-quiet, served-quiet}
use Rattle.ph_slot.proofs.Slotted.{frame-kept, del-frame}
use Rattle.ph_slot.proofs.slot_of.SlotOf.del.Goals as goal

pub returns-in-Some : goal.returns-in-Some
returns-in-Some g c =
    refused-quiet c.args.self.now (Command.Del (numbers_of c.args.at.now)) c.reply.result _ _ refl
    (sym (early-del c.args.self.now (numbers_of c.args.at.now)) ∙ sym c.in-Some.ensures ∙ ap Some (sym c.reply.ensures))

pub invariant_of-self : goal.invariant_of-self
invariant_of-self g c = frame-kept _ c.del_row.result _ _ _ _
    (del-frame c.self.inside.kind (table_at g.row.D c.self.inside.kept) (named c.self.inside.cursors.items) (numbers_of c.args.at.now)) c.del_row.ensures c.self.invariant

pub returns : goal.returns
returns g c =
    let p = numbers_of c.args.at.now in
    rw (← c.self.view_is) (served-quiet c.self.inside.kind (table_at g.row.D c.self.inside.kept) _ (named c.self.inside.cursors.items) _
    c.del_row.result _ _ _ _ (plain-del p)
    (ap (λ x. early_refusal x (Command.Del p)) c.self.view_is ∙ sym (early-del c.args.self.now p) ∙ sym c.in_default.ensures) c.del_row.ensures)
