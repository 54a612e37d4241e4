use Rattle.std.proofs.Common.{◌∙◌, ap, refl, sym}
use Rattle.std.specs.Prelude.{Some, Ok}
use Rattle.ph_specs.specs.Command.{Command}
use Rattle.ph_script.specs.Meaning.{numbers_of, reply_of}
use Rattle.ph_slot.specs.Refusing.{early_refusal}
use Rattle.ph_commands.specs.Tables.{table_at}
use Rattle.ph_slot.specs.Slots.{named}
use Rattle.ph_slot.proofs.Filed.{filed-begun, filed-served}
use Rattle.ph_slot.proofs.Plain.{plain-get}
use Rattle.ph_slot.proofs.Refused.{refused-begun}
use Rattle.ph_slot.proofs.slot_of.SlotOf.get.Goals as goal

pub returns-in-Some : goal.returns-in-Some
returns-in-Some g c =
    let s = c.args.self.now in
    let begun = refused-begun s (Command.Get (numbers_of c.args.at.now)) (reply_of c.reply.result) refl (sym c.in-Some.ensures ∙ ap Some (sym c.reply.ensures)) in
    record { filed = λ most files filings changes. filed-begun most s s _ (reply_of c.reply.result) files filings _ changes begun }

pub returns : goal.returns
returns g c =
    let p = numbers_of c.args.at.now in
    rw (← c.self.view_is)
    (record {
      filed = λ most files filings changes. filed-served {E = ⊥} most c.self.inside.kind (table_at g.row.D c.self.inside.kept) _
          (named c.self.inside.cursors.items) _ (Ok c.get_row.result) files filings _ _ changes changes (plain-get p)
          (ap (λ x. early_refusal x (Command.Get p)) c.self.view_is ∙ sym c.in_default.ensures) (c.get_row.ensures.served changes);
    })
