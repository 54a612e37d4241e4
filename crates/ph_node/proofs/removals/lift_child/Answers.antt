use Rattle.std.proofs.Common.{◌≡◌, ◌<◌, ap, sym, ◌∙◌, subst, length, Bool}
use Rattle.std.specs.List.{insert}
use Rattle.std.specs.Prelude.{if◌then◌else◌}
use Rattle.ph_specs.specs.Node.{PlainNode}
use Rattle.ph_model.specs.EntryList.{entries}
use Rattle.ph_bits.specs.Edits.{edited}
use Rattle.ph_node.specs.OneEdit.{node_at, nodes_held}
use Rattle.ph_node.specs.Children.{nodes_of}
use Rattle.ph_node.proofs.ChildLists.{at-child, nodes-again, nodes-gone}
use Rattle.ph_node.proofs.removals.lift_child.Goals as goal

pub only_child-requires : goal.only_child-requires
only_child-requires g c =
    let a = at-child c.args.block.now.values c.args.k c.remove-node.result c.requires.within c.remove-node.ensures.value in
    subst (λ (n : PlainNode). length (nodes_held (entries n)) ≡ 1) (sym a) (c.requires.one c.if-child.true)

pub returns-then-child-clause-nodes : goal.returns-then-child-clause-nodes
returns-then-child-clause-nodes g c =
    let l : c.args.k < length c.args.block.now.values = c.requires.within in
    let a = at-child c.args.block.now.values c.args.k c.remove-node.result l c.remove-node.ensures.value in
    ap nodes_of (c.insert.ensures.values ∙ ap (λ u. insert u c.args.k c.only_child.result) c.remove-node.ensures.values)
    ∙ nodes-again c.args.block.now.values c.args.k c.only_child.result l
    ∙ ap (λ n. edited c.args.k 1 1 n (nodes_of c.args.block.now.values)) (c.only_child.ensures ∙ ap (λ (n : PlainNode). node_at (nodes_held (entries n)) 0) a)
    ∙ ap (λ (b : Bool). edited c.args.k 1 (if b then 1 else 0)
    (node_at (nodes_held (entries (node_at (nodes_of c.args.block.now.values) c.args.k))) 0)
    (nodes_of c.args.block.now.values)) (sym c.if-child.true)

pub returns-else-child-clause-nodes : goal.returns-else-child-clause-nodes
returns-else-child-clause-nodes g c =
    let l : c.args.k < length c.args.block.now.values = c.requires.within in
    ap nodes_of c.remove-node.ensures.values
    ∙ nodes-gone c.args.block.now.values c.args.k c.remove-node.result (node_at (nodes_held (entries (node_at (nodes_of c.args.block.now.values) c.args.k))) 0) l
    ∙ ap (λ (b : Bool). edited c.args.k 1 (if b then 1 else 0)
    (node_at (nodes_held (entries (node_at (nodes_of c.args.block.now.values) c.args.k))) 0)
    (nodes_of c.args.block.now.values)) (sym c.if-child.false)
