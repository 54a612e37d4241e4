use Rattle.std.proofs.Common.{◌≡◌, arith, refl, ap, sym, ◌∙◌, get_or, length}
use Rattle.ph_model.specs.EntryList.{entries}
use Rattle.ph_node.specs.OneEdit.{before, nodes_held}
use Rattle.ph_node.specs.Children.{nodes_of}
use Rattle.ph_node.proofs.Lent.{lent, lent-is, lent-below}
use Rattle.ph_node.proofs.Listings.{length-nodes, get-nodes}
use Rattle.ph_node.proofs.Lists.{kept_new, seen_new}
use Rattle.ph_node.proofs.OldNodes.{old}
use Rattle.ph_node.proofs.node.NodeOf.child_mut.Goals as goal

pub value_mut-requires : goal.value_mut-requires
value_mut-requires g c =
    let o = old _ _ _ _ c.self.view_is c.self.invariant in
    let n : length (nodes_held (entries c.args.self.now)) ≡ length (nodes_of c.self.inside.block.values) = ap (λ u. length u) o.nodes in
    omega (arith, c.requires.rank, lent-below (entries c.args.self.now) c.args.spot.place c.requires.child, n, length-nodes c.self.inside.block.values)

pub invariant_of-self-lent : goal.invariant_of-self-lent
invariant_of-self-lent g c w =
    let o = old _ _ _ _ c.self.view_is c.self.invariant in
    let k = c.requires.rank in
    kept_new _ _ _ _ _ (lent _ _ c.self.inside.block.values _ o c.args.spot.place c.args.rank w c.requires.spot.within
    c.requires.child k) c.self.inside.block.words o.words

pub returns : goal.returns
returns g c =
    let o = old _ _ _ _ c.self.view_is c.self.invariant in
    let t = c.args.self.now in
    let k = c.requires.rank in (
      (
        refl,
        λ w. seen_new _ _ _ _ _
            (lent _ _ c.self.inside.block.values _ o c.args.spot.place c.args.rank w c.requires.spot.within
            c.requires.child k) c.self.inside.block.words o.words,
      ),
      record {
        lends = tt;
        shows =
            lent-is (entries t) c.args.spot.place c.value_mut.result.now.node c.requires.child
            (get-nodes c.self.inside.block.values c.args.rank c.value_mut.result.now c.value_mut.ensures.value
            ∙ ap (λ j. get_or (nodes_of c.self.inside.block.values) j c.value_mut.result.now.node) k
            ∙ ap (λ u. get_or u (before (entries t) c.args.spot.place) c.value_mut.result.now.node) (sym o.nodes));
      },
    )
