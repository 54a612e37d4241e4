use Rattle.std.proofs.Common.{◌≡◌, ◌+◌, ◌∷◌, take, length}
use Rattle.std.specs.Prelude.{Some}
use Rattle.ph_specs.specs.Node.{nodes}
use Rattle.ph_tree.specs.Stats.{counted, IsFew}
use Rattle.ph_tree.proofs.Sizes.{trees}
use Rattle.ph_tree.proofs.stats.+count_node.Given as goal

abbrev pub decreases-count_node : goal.decreases-count_node
decreases-count_node g l = length (nodes (Some l.node.now))

abbrev pub invariant-loop-held : goal.invariant-loop-held
invariant-loop-held g l = record {
  counts : l.counts ≡ counted g.P.Dims.D l.fn.counts (l.fn.node ∷ trees (take l.held-index l.held-items));
  few : IsFew l.counts;
  visits : l.visits ≡ l.fn.visits + 1 + length (trees (take l.held-index l.held-items));
}
