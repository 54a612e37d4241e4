use Rattle.std.proofs.Common.{◌≡◌, false, refl, rules}
use Rattle.std.specs.Prelude.{Ok}
use Rattle.ph_script.specs.Meaning.{command_of}
use Rattle.ph_commands.specs.Tables.{engine_of}
use Rattle.ph_slot.specs.Doing.{is_on_row}
use Rattle.ph_slot.proofs.Commanded.{tells-said}
use Rattle.ph_slot.proofs.Filed.{done-filed}
use Rattle.ph_slot.proofs.Groups.{no-row}
use Rattle.ph_slot.proofs.Quiet.{done-quiet}
use Rattle.ph_slot.proofs.slot_of.SlotOf.exec.Goals as goal

pub exec_other-requires : goal.exec_other-requires
exec_other-requires g c =
    let other : is_on_row (command_of c.args.cmd.now) ≡ false =
    no-row c.args.cmd.now c.in_default.not-Put c.in_default.not-Get c.in_default.not-Del c.in_default.not-Relocate in
    search (rules, other)

pub returns-in-Put-clause-done : goal.returns-in-Put-clause-done
returns-in-Put-clause-done g c = rw c.in-Put.is
    (done-quiet c.args.desk.now.limits.now.file_bytes _ _ (g.F.Files.files c.args.desk.now.files.now) (g.F.Files.faults c.args.desk.now.files.now)
    c.tell.result refl c.put-outcome.ensures c.tell.ensures.told)

pub returns-in-Get-clause-done : goal.returns-in-Get-clause-done
returns-in-Get-clause-done g c =
    let most = c.args.desk.now.limits.now.file_bytes in
    let told = tells-said _ _ c.get-reply.result c.say.result c.say.ensures.answer c.say.ensures.told c.say.ensures.err c.say.ensures.front in
    rw c.in-Get.is (done-filed most (engine_of c.args.self.now) (engine_of c.args.self.now)
    _ _ _ _ _ _ _ _ _ _ _ {E = ⊥} (Ok c.get-reply.result) c.say.result refl
    (c.get-reply.ensures.filed most (g.F.Files.files c.args.desk.now.files.now) (g.F.Files.faults c.args.desk.now.files.now) c.args.desk.now.changes.now) told)

pub returns-in-Del-clause-done : goal.returns-in-Del-clause-done
returns-in-Del-clause-done g c = rw c.in-Del.is
    (done-quiet c.args.desk.now.limits.now.file_bytes _ _ (g.F.Files.files c.args.desk.now.files.now) (g.F.Files.faults c.args.desk.now.files.now)
    c.tell-in-Del.result refl c.del-outcome.ensures c.tell-in-Del.ensures.told)

pub returns-in-Relocate-clause-done : goal.returns-in-Relocate-clause-done
returns-in-Relocate-clause-done g c = rw c.in-Relocate.is
    (done-quiet c.args.desk.now.limits.now.file_bytes _ _ (g.F.Files.files c.args.desk.now.files.now) (g.F.Files.faults c.args.desk.now.files.now)
    c.tell-in-Relocate.result refl c.relocate-outcome.ensures c.tell-in-Relocate.ensures.told)
