use Rattle.std.proofs.Common.{◌≡◌, ◌+◌, ◌≤◌, ◌↔◌, Some, length}
use Rattle.ph_specs.specs.Node.{nodes}
use Rattle.ph_node.specs.Children.{nodes_of}
use Rattle.ph_tree.proofs.NodeComparisons.{AreLawful}
use Rattle.ph_tree.proofs.Sizes.{trees}
use Rattle.ph_tree.proofs.compare.+is_same_node.Given as goal

abbrev pub decreases-is_same_node : goal.decreases-is_same_node
decreases-is_same_node g l = length (nodes (Some l.a.now))

abbrev pub invariant-loop-x : goal.invariant-loop-x
invariant-loop-x g l = record {
  same : (nodes_of l.x-iterator.a.rest.now ≡ nodes_of l.x-iterator.b.rest.now) ↔ (l.fn.a ≡ l.fn.b);
  long : length l.x-iterator.a.rest.now ≡ length l.x-iterator.b.rest.now;
  left : AreLawful g.P.Dims.D (nodes_of l.x-iterator.a.rest.now);
  right : AreLawful g.P.Dims.D (nodes_of l.x-iterator.b.rest.now);
  few : length (trees l.x-iterator.a.rest.now) + 1 ≤ length (nodes (Some l.fn.a));
  later : l.fn.visits ≤ l.visits;
  visits : l.visits + length (trees l.x-iterator.a.rest.now) + length (trees l.x-iterator.b.rest.now) ≡
      l.fn.visits + length (nodes (Some l.fn.a)) + length (nodes (Some l.fn.b));
}
