use Rattle.std.proofs.Common.{◌≡◌, ◌∙◌, false, ap, rules, sym}
use Rattle.std.specs.Prelude.{Ok, Some}
use Rattle.ph_script.specs.Meaning.{command_of, reply_of}
use Rattle.ph_slot.specs.Doing.{is_page}
use Rattle.ph_commands.specs.Tables.{engine_of}
use Rattle.ph_slot.proofs.Commanded.{done-refused, tells-said}
use Rattle.ph_slot.proofs.Filed.{done-filed}
use Rattle.ph_slot.proofs.Refused.{refused-begun}
use Rattle.ph_slot.proofs.slot_of.SlotOf.exec_other.Goals as goal

pub returns-in-Some-clause-done : goal.returns-in-Some-clause-done
returns-in-Some-clause-done g c =
    let s = c.args.self.now in
    let cmd = command_of c.args.cmd.now in
    let told = tells-said _ _ c.reply.result c.say.result c.say.ensures.answer c.say.ensures.told c.say.ensures.err c.say.ensures.front in
    let begun = refused-begun s cmd (reply_of c.reply.result) c.requires.slot (sym c.in-Some.ensures ∙ ap Some (sym c.reply.ensures)) in
    done-refused c.args.desk.now.limits.now.file_bytes s cmd c.reply.result _ _ (g.F.Files.files c.args.desk.now.files.now)
    (g.F.Files.faults c.args.desk.now.files.now) c.args.desk.now.visits.now c.args.desk.now.changes.now c.say.result begun told

pub returns-in-Load-clause-done : goal.returns-in-Load-clause-done
returns-in-Load-clause-done g c =
    let no_page : is_page (command_of c.args.cmd.now) ≡ false = search rules in
    done-filed c.args.desk.now.limits.now.file_bytes (engine_of c.args.self.now) (engine_of c.try_reply-outcome.new.self)
    (command_of c.args.cmd.now) _ _ _ _ _ _ _ _ _ _ c.try_reply-outcome.result c.tell.result no_page
    c.try_reply-outcome.ensures.filed (rw c.try_reply-outcome.ensures.out at c.tell.ensures.told)

pub returns-in-Count-clause-done : goal.returns-in-Count-clause-done
returns-in-Count-clause-done g c =
    let no_page : is_page (command_of c.args.cmd.now) ≡ false = search rules in
    let told = tells-said _ _ c.reply-reply.result c.say-in-Count.result c.say-in-Count.ensures.answer
    c.say-in-Count.ensures.told c.say-in-Count.ensures.err c.say-in-Count.ensures.front in
    done-filed c.args.desk.now.limits.now.file_bytes (engine_of c.args.self.now) (engine_of c.reply-reply.new.self)
    (command_of c.args.cmd.now) _ _ _ _ _ _ _ _ _ _ {E = ⊥} (Ok c.reply-reply.result) c.say-in-Count.result
    no_page (c.reply-reply.ensures.replies.filed c.args.desk.now.limits.now.file_bytes c.args.desk.now.changes.now) told

pub returns-in-Window-clause-done : goal.returns-in-Window-clause-done
returns-in-Window-clause-done g c = c.list.ensures.done.done c.args.desk.now.limits.now.file_bytes
    (g.F.Files.files c.args.desk.now.files.now) (g.F.Files.faults c.args.desk.now.files.now) c.args.desk.now.changes.now
