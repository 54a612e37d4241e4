use Rattle.std.proofs.Common.{rules, ◌≡◌, ap, ◌∙◌, arith}
use Rattle.ph_model.proofs.laws.Unpacked.{child_nodes}
use Rattle.ph_node.specs.Children.{nodes_of}
use Rattle.ph_specs.specs.Pack.{pack}
use Rattle.ph_tree.proofs.NodeComparisons.{IsSeen, seen-lawful, seen-size, seen-long, seen-same}
use Rattle.ph_tree.proofs.compare.+is_same_node.Goals as goal

pub loop-x-init : goal.loop-x-init
loop-x-init g t c =
    let xs = c.into_iter-x-iterator.result.a.rest.now in
    let ys = c.into_iter-x-iterator.result.b.rest.now in
    let left : xs ≡ c.children.result.now = search rules in
    let right : ys ≡ c.children-2.result.now = search rules in
    let same : c.words.result.now ≡ c.words-2.result.now = search rules in
    let a : IsSeen g.P.Dims.D c.args.a.now c.words.result.now xs =
    record {
      kept = c.visit-left.ensures.kept;
      lawful = c.requires.left;
      words = c.words.ensures ∙ ap (pack g.P.Dims.D) c.visit-left.ensures.shows;
      children = ap nodes_of left ∙ c.children.ensures ∙ ap (λ n. child_nodes n.chain) c.visit-left.ensures.shows;
    } in
    let b : IsSeen g.P.Dims.D c.args.b.now c.words-2.result.now ys =
    record {
      kept = c.visit-right.ensures.kept;
      lawful = c.requires.right;
      words = c.words-2.ensures ∙ ap (pack g.P.Dims.D) c.visit-right.ensures.shows;
      children = ap nodes_of right ∙ c.children-2.ensures ∙ ap (λ n. child_nodes n.chain) c.visit-right.ensures.shows;
    } in
    record {
      same = seen-same a b same;
      long = seen-long a b same;
      left = seen-lawful a;
      right = seen-lawful b;
      few = omega (arith, seen-size a);
      later = omega (arith, c.visit-left.ensures.cost, c.visit-right.ensures.cost);
      visits = omega (arith, seen-size a, seen-size b, c.visit-left.ensures.cost, c.visit-right.ensures.cost);
    }
