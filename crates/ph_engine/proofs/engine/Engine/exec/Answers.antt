use Rattle.ph_specs.specs.declared.Which.TheVariants.{A, B}
use Rattle.ph_script.specs.Meaning.{command_of}
use Rattle.ph_slot.specs.AnySlots.{any_slot}
use Rattle.ph_slot.proofs.Commanded.{select-done, tells-said}
use Rattle.ph_slot.proofs.Lifted.{done-at, on-slot}
use Rattle.ph_engine.proofs.engine.Engine.exec.Goals as goal

pub returns-in-Select-clause-done : goal.returns-in-Select-clause-done
returns-in-Select-clause-done g c =
    rw c.in-Select.is (select-done c.args.desk.now.limits.now.file_bytes c.args.self.now c.select.new.self c.in-Select.slot
    c.select.result _ _ (g.F.Files.files c.args.desk.now.files.now) (g.F.Files.faults c.args.desk.now.files.now) c.args.desk.now.visits.now
    c.args.desk.now.changes.now c.say.result c.select.ensures.engine c.select.ensures.reply
    (tells-said _ _ c.select.result c.say.result c.say.ensures.answer c.say.ensures.told c.say.ensures.err
    c.say.ensures.front))

pub returns-in-A-clause-done : goal.returns-in-A-clause-done
returns-in-A-clause-done g c =
    done-at c.args.desk.now.limits.now.file_bytes c.args.self.now _ (any_slot c.exec.new.self) A (command_of c.args.cmd.now) _ _ c.exec.result
    c.self.view_is c.in-A.is (on-slot c.args.cmd.now c.in_default.not-Select c.in_default.not-Same c.in_default.not-Join
    c.in_default.not-Combine) c.exec.ensures.done

pub returns-in-B-clause-done : goal.returns-in-B-clause-done
returns-in-B-clause-done g c =
    done-at c.args.desk.now.limits.now.file_bytes c.args.self.now _ (any_slot c.exec-in-B.new.self) B (command_of c.args.cmd.now) _ _ c.exec-in-B.result
    c.self.view_is c.in-B.is (on-slot c.args.cmd.now c.in_default.not-Select c.in_default.not-Same c.in_default.not-Join
    c.in_default.not-Combine) c.exec-in-B.ensures.done
