use Rattle.std.proofs.Common.{◌≡◌, ◌+◌, ◌-◌, ◌≤◌, ◌<◌, ◌^◌, false}
use Rattle.ph_slot.specs.Desks.{SameDesk}
use Rattle.ph_engine.specs.Told.{standing_at}
use Rattle.ph_engine.specs.ScriptMachine.{script_machine}
use Rattle.ph_engine.specs.Serving.{FromKnown}
use Rattle.ph_engine.proofs.Runs.{Reached}
use Rattle.ph_engine.proofs.run.run_pieces.Given as goal

abbrev pub invariant-pieces : goal.invariant-pieces
invariant-pieces g l =
    let st = standing_at g.O.Sink g.F.Files l.initial.desk l.initial.eng in
    let now = standing_at g.O.Sink g.F.Files l.desk l.eng in
    record {
      within : l.taken ≤ l.initial.desk.limits.now.script_bytes;
      reads : g.S.Source.faults l.initial.src ≤ g.S.Source.faults l.src;
      writes : g.O.Sink.faults l.initial.desk.out.now ≤ g.O.Sink.faults l.desk.out.now;
      filings : g.F.Files.faults l.initial.desk.files.now ≤ g.F.Files.faults l.desk.files.now;
      begun : g.F.Files.is_begun l.initial.desk.files.now ≡ false → g.F.Files.is_begun l.desk.files.now ≡ false;
      same : SameDesk l.initial.desk l.desk;
      file : l.desk.limits.now.file_bytes < 2 ^ 63;
      reached : FromKnown st now (λ s after. Reached (script_machine l.initial.desk.limits.now.file_bytes)
          (g.S.Source.left l.initial.src) (g.S.Source.left l.src) st.beside now.beside s after l.lines l.refused l.taken);
    }

abbrev pub decreases-pieces : goal.decreases-pieces
decreases-pieces g l = l.initial.desk.limits.now.script_bytes + 1 - l.taken
