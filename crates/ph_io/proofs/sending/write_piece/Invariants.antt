use Rattle.std.proofs.Common.{◌≤◌, ◌-◌, length, take}
use Rattle.ph_io.specs.Giving.{Given, taken_of}
use Rattle.ph_io.proofs.sending.write_piece.Given as goal

abbrev pub invariant-loop-at : goal.invariant-loop-at
invariant-loop-at g l = record {
  told : Given (taken_of (g.O.Sink.written l.initial.out) (g.O.Sink.amount l.initial.out))
      (taken_of (g.O.Sink.written l.out) (g.O.Sink.amount l.out)) (take l.at l.piece);
  within : l.at ≤ length l.piece;
  later : g.O.Sink.faults l.initial.out ≤ g.O.Sink.faults l.out;
  follows : g.O.Sink.follows l.initial.out l.out;
}

abbrev pub decreases-loop-at : goal.decreases-loop-at
decreases-loop-at g l = length l.piece - l.at
