use Rattle.std.proofs.Common.{◌≤◌, arith, ap, subst}
use Rattle.ph_tree.proofs.NodeComparisons.{IsRooted, root-lawful, root-nodes, tables-same}
use Rattle.ph_tree.proofs.tree.PhTree.same.Given.{Over}
use Rattle.ph_tree.proofs.tree.PhTree.same.Goals.{In-Some-Some}
use Rattle.ph_tree.proofs.tree.PhTree.same.Goals as goal

wide : (g : Over) (c : In-Some-Some g) → 1 ≤ c.args.self.now.width
wide g c = omega (arith, c.self.invariant.wide, ap (λ t. t.width) c.self.view_is)

left : (g : Over) (c : In-Some-Some g) → IsRooted c.args.self.now.width g.row.D c.args.self.now.table c.root.result
left g c = record { wide = wide g c; table = c.root.ensures.table; shape = c.root.ensures.shape }

right : (g : Over) (c : In-Some-Some g) → IsRooted c.args.other.now.width g.row.D c.args.other.now.table c.root-2.result
right g c =
    record { wide = subst (λ w. 1 ≤ w) c.requires (wide g c); table = c.root-2.ensures.table; shape = c.root-2.ensures.shape }

pub is_same_node-requires : goal.is_same_node-requires
is_same_node-requires g c =
    let at = (goal.at.is_same_node-requires g c).In-Some-Some in
    record {
      left = root-lawful (left g at) c.in-Some-Some.is-0;
      right = root-lawful (right g at) c.in-Some-Some.is-1;
    }

pub returns-in-Some-Some-clause-same : goal.returns-in-Some-Some-clause-same
returns-in-Some-Some-clause-same g c =
    let at = (goal.at.returns-in-Some-Some-clause-same g c).In-Some-Some in
    tables-same c.requires (left g at) (right g at) c.in-Some-Some.is-0 c.in-Some-Some.is-1 c.is_same_node.ensures.same

pub returns-in-Some-Some-clause-visits : goal.returns-in-Some-Some-clause-visits
returns-in-Some-Some-clause-visits g c =
    let at = (goal.at.returns-in-Some-Some-clause-visits g c).In-Some-Some in
    omega (arith, root-nodes (left g at) c.in-Some-Some.is-0, root-nodes (right g at) c.in-Some-Some.is-1, c.is_same_node.ensures.visits)

pub returns-in-Some-Some-clause-all : goal.returns-in-Some-Some-clause-all
returns-in-Some-Some-clause-all g c same =
    let at = (goal.at.returns-in-Some-Some-clause-all g c).In-Some-Some in
    omega (arith, root-nodes (left g at) c.in-Some-Some.is-0, root-nodes (right g at) c.in-Some-Some.is-1, c.is_same_node.ensures.all same)
