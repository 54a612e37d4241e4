use Rattle.std.proofs.Common.{◌≡◌, ◌+◌, ◌*◌, ◌^◌, ◌≤◌, ◌∷◌, take, length}
use Rattle.std.specs.Prelude.{Some}
use Rattle.ph_specs.specs.Node.{nodes}
use Rattle.ph_io.specs.Giving.{taken_of}
use Rattle.ph_tree.proofs.Sizes.{trees}
use Rattle.ph_snap.specs.Saving.{saved, Passed}
use Rattle.ph_snap.proofs.saves.+save_node.Given as goal

abbrev pub decreases-save_node : goal.decreases-save_node
decreases-save_node g l = length (nodes (Some l.node.now))

abbrev pub invariant-loop-held : goal.invariant-loop-held
invariant-loop-held g l = record {
  passed : Passed (taken_of (g.S.Sink.written l.fn.sink) (g.S.Sink.amount l.fn.sink)) l.fn.block
      (taken_of (g.S.Sink.written l.sink) (g.S.Sink.amount l.sink)) l.block
      (saved g.P.Dims.D (l.fn.node ∷ trees (take l.held-index l.held-items)));
  size : l.size ≡ length (saved g.P.Dims.D (l.fn.node ∷ trees (take l.held-index l.held-items)));
  few : l.size ≤ 2 ^ 63 * (1 + length (trees (take l.held-index l.held-items)));
  later : g.S.Sink.faults l.fn.sink ≤ g.S.Sink.faults l.sink;
  follows : g.S.Sink.follows l.fn.sink l.sink;
  visits : l.visits ≡ l.fn.visits + 1 + length (trees (take l.held-index l.held-items));
}
