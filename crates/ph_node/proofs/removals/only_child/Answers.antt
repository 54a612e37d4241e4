use Rattle.std.proofs.Common.{arith, ap, sym, ◌∙◌, length}
use Rattle.ph_node.specs.OneEdit.{node_at}
use Rattle.ph_node.proofs.Listings.{length-nodes}
use Rattle.ph_node.proofs.OldNodes.{old}
use Rattle.ph_node.proofs.ChildLists.{at-child}
use Rattle.ph_node.proofs.removals.only_child.Goals as goal

pub remove-requires : goal.remove-requires
remove-requires g c =
    omega (arith, c.requires, ap (λ u. length u) (old _ _ _ _ c.node.view_is c.node.invariant).nodes, length-nodes c.node.inside.block.values)

pub returns : goal.returns
returns g c =
    let n = (old _ _ _ _ c.node.view_is c.node.invariant).nodes in
    at-child c.node.inside.block.values 0 c.remove.result (omega (arith, c.requires, ap (λ u. length u) n, length-nodes c.node.inside.block.values)) c.remove.ensures.value
    ∙ ap (λ u. node_at u 0) (sym n)
