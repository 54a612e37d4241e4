use Rattle.std.proofs.Common.{◌≤◌, take}
use Rattle.ph_io.specs.Giving.{taken_of}
use Rattle.ph_specs.specs.Digits.{bytes_of}
use Rattle.ph_snap.specs.Saving.{Passed}
use Rattle.ph_snap.proofs.block.Block.put.Given as goal

abbrev pub invariant-loop-word : goal.invariant-loop-word
invariant-loop-word g l = record {
  passed : Passed (taken_of (g.S.Sink.written l.fn.sink) (g.S.Sink.amount l.fn.sink)) l.fn.self
      (taken_of (g.S.Sink.written l.sink) (g.S.Sink.amount l.sink)) l.self (bytes_of (take l.word-index l.words));
  later : g.S.Sink.faults l.fn.sink ≤ g.S.Sink.faults l.sink;
  follows : g.S.Sink.follows l.fn.sink l.sink;
}
