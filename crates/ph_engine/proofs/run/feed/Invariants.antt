use Rattle.std.proofs.Common.{◌≡◌, ◌-◌, ◌≤◌, ◌<◌, ◌^◌, false, length, take}
use Rattle.std.specs.Prelude.{Ok}
use Rattle.ph_slot.specs.Desks.{SameDesk}
use Rattle.ph_engine.specs.Told.{standing_at}
use Rattle.ph_engine.specs.Serving.{ServesPiece}
use Rattle.ph_engine.proofs.run.feed.Given as goal

abbrev pub invariant-lines : goal.invariant-lines
invariant-lines g l = record {
  within : l.at ≤ length l.piece;
  later : g.O.Sink.faults l.initial.desk.out.now ≤ g.O.Sink.faults l.desk.out.now;
  filings : g.F.Files.faults l.initial.desk.files.now ≤ g.F.Files.faults l.desk.files.now;
  begun : g.F.Files.is_begun l.initial.desk.files.now ≡ false → g.F.Files.is_begun l.desk.files.now ≡ false;
  same : SameDesk l.initial.desk l.desk;
  file : l.desk.limits.now.file_bytes < 2 ^ 63;
  fed : ServesPiece l.initial.desk.limits.now.file_bytes
      (standing_at g.O.Sink g.F.Files l.initial.desk l.initial.eng) l.initial.lines (take l.at l.piece)
      (standing_at g.O.Sink g.F.Files l.desk l.eng) l.lines (Ok l.refused);
}

abbrev pub decreases-lines : goal.decreases-lines
decreases-lines g l = length l.piece - l.at
