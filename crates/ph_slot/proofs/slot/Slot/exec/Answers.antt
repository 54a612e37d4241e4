use Rattle.std.proofs.Common.{refl}
use Rattle.std.specs.Prelude.{Ok}
use Rattle.ph_commands.specs.Tables.{engine_of}
use Rattle.ph_slot.specs.AnySlots.{any_slot}
use Rattle.ph_slot.proofs.Commanded.{tells-said}
use Rattle.ph_slot.proofs.Filed.{done-filed, filed-begun}
use Rattle.ph_slot.proofs.Groups.{no-begin}
use Rattle.ph_slot.proofs.slot.Slot.exec.Goals as goal

pub exec_by-requires-clause-opened : goal.exec_by-requires-clause-opened
exec_by-requires-clause-opened g c = no-begin c.args.cmd.now c.in_default.not-Begin

pub returns-in-Begin-clause-done : goal.returns-in-Begin-clause-done
returns-in-Begin-clause-done g c =
    let most = c.args.desk.now.limits.now.file_bytes in
    let told = tells-said _ _ c.begin-reply.result c.say.result c.say.ensures.answer c.say.ensures.told c.say.ensures.err c.say.ensures.front in
    rw c.in-Begin.is (done-filed most (engine_of (any_slot c.args.self.now)) (engine_of (any_slot c.begin-reply.new.self))
    _ _ _ _ _ _ _ _ _ _ _ {E = ⊥} (Ok c.begin-reply.result) c.say.result refl
    (filed-begun most _ _ _ _ (g.F.Files.files c.args.desk.now.files.now) (g.F.Files.faults c.args.desk.now.files.now) _ c.args.desk.now.changes.now c.begin-reply.ensures) told)
