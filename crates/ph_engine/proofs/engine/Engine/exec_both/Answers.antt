use Rattle.ph_specs.specs.declared.Which.TheVariants.{A, B}
use Rattle.ph_script.specs.Meaning.{command_of}
use Rattle.ph_slot.specs.AnySlots.{any_slot}
use Rattle.ph_slot.proofs.Pairings.{both-at}
use Rattle.ph_engine.proofs.engine.Engine.exec_both.Goals as goal

pub returns-in-A-clause-done : goal.returns-in-A-clause-done
returns-in-A-clause-done g c =
    both-at c.args.desk.now.limits.now.file_bytes c.args.self.now _ (any_slot c.exec_beside.new.self) A (command_of c.args.cmd.now) _ _
    c.exec_beside.result c.self.view_is c.in-A.is c.exec_beside.ensures.done

pub returns-in-B-clause-done : goal.returns-in-B-clause-done
returns-in-B-clause-done g c =
    both-at c.args.desk.now.limits.now.file_bytes c.args.self.now _ (any_slot c.exec_beside-in-B.new.self) B (command_of c.args.cmd.now) _ _
    c.exec_beside-in-B.result c.self.view_is c.in-B.is c.exec_beside-in-B.ensures.done
