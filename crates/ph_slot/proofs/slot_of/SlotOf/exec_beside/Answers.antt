use Rattle.std.proofs.Common.{refl}
use Rattle.ph_specs.specs.declared.Which.TheVariants.{A, B}
use Rattle.ph_slot.specs.Pairing.{engine_at}
use Rattle.ph_slot.proofs.Commanded.{compare-done, tells-said}
use Rattle.ph_slot.proofs.Pairings.{combine-named}
use Rattle.ph_slot.proofs.Quiet.{done-quiet}
use Rattle.ph_slot.proofs.slot_of.SlotOf.exec_beside.Goals as goal

pub returns-in-Same-clause-done : goal.returns-in-Same-clause-done
returns-in-Same-clause-done g c =
    let desk = c.args.desk.now in
    rw c.in-Same.is (compare-done desk.limits.now.file_bytes (engine_at c.args.name c.args.self.now c.args.other.now) c.compare-reply.result _ _
    (g.F.Files.files desk.files.now) (g.F.Files.faults desk.files.now) desk.visits.now c.compare-reply.new.visits desk.changes.now
    c.say.result c.compare-reply.ensures
    (tells-said _ _ c.compare-reply.result c.say.result c.say.ensures.answer c.say.ensures.told c.say.ensures.err c.say.ensures.front))

pub returns-in-Combine-clause-done : goal.returns-in-Combine-clause-done
returns-in-Combine-clause-done g c =
    let desk = c.args.desk.now in
    rw c.in-Combine.is (done-quiet desk.limits.now.file_bytes _ _ (g.F.Files.files desk.files.now) (g.F.Files.faults desk.files.now) c.tell.result refl
    (combine-named c.in-Combine.operation c.args.name c.args.self.now c.args.other.now c.combine-outcome.new.self _ _ _ _ c.combine-outcome.result
    c.combine-outcome.ensures.visits c.combine-outcome.ensures.all c.combine-outcome.ensures.combines) c.tell.ensures.told)

pub returns-in-A-clause-done : goal.returns-in-A-clause-done
returns-in-A-clause-done g c =
    let desk = c.args.desk.now in
    rw (c.in-Join.is, c.in-A.is) ((c.join.ensures.done A).done desk.limits.now.file_bytes
    (g.F.Files.files desk.files.now) (g.F.Files.faults desk.files.now) desk.changes.now)

pub returns-in-B-clause-done : goal.returns-in-B-clause-done
returns-in-B-clause-done g c =
    let desk = c.args.desk.now in
    rw (c.in-Join.is, c.in-B.is) ((c.join-in-B.ensures.done B).done desk.limits.now.file_bytes
    (g.F.Files.files desk.files.now) (g.F.Files.faults desk.files.now) desk.changes.now)
