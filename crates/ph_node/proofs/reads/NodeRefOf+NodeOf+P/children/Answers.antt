use Rattle.std.proofs.Common.{ap, sym, ◌∙◌}
use Rattle.ph_node.specs.Children.{nodes_of}
use Rattle.ph_node.proofs.OldNodes.{nodes_are}
use Rattle.ph_node.proofs.reads.NodeRefOf+NodeOf+P.children.Goals as goal

pub returns : goal.returns
returns g c = ap (λ ss. nodes_of ss) c.values.ensures ∙ sym (nodes_are _ _ _ _ c.node.view_is c.node.invariant)
