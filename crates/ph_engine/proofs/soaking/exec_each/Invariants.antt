use Rattle.std.specs.Prelude.{◌<◌, ◌^◌, None, Some, length}
use Rattle.ph_slot.specs.Beside.{beside}
use Rattle.ph_slot.specs.Desks.{SameDesk}
use Rattle.ph_engine.proofs.Soaks.{SoakedSoFar}
use Rattle.ph_engine.proofs.soaking.exec_each.Given as goal

abbrev pub invariant-commands : goal.invariant-commands
invariant-commands g l = record {
  same : SameDesk l.initial.desk l.desk;
  file : l.desk.limits.now.file_bytes < 2 ^ 63;
  soaked : SoakedSoFar l.initial.desk.limits.now.file_bytes l.initial.eng l.initial.commands
      (beside None (Some l.initial.desk.out.now) None 0 l.initial.desk.visits.now l.initial.desk.changes.now)
      (beside None (Some l.desk.out.now) None 0 l.desk.visits.now l.desk.changes.now) l.eng l.commands;
}

abbrev pub decreases-commands : goal.decreases-commands
decreases-commands g l = length l.commands
