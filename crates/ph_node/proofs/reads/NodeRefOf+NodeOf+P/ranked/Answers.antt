use Rattle.std.proofs.Common.{arith, sym, ap, subst, true, ◌∙◌}
use Rattle.ph_model.specs.EntryList.{value}
use Rattle.ph_node.proofs.Listings.{length-nodes, get-nodes}
use Rattle.ph_specs.specs.Record.{entries_in}
use Rattle.ph_bits.specs.Packed.{rank_at}
use Rattle.ph_node.specs.Split.{IsNode}
use Rattle.ph_node.proofs.OldNodes.{ranked}
use Rattle.ph_node.proofs.Reading.{spot-in, child-told, point-told}
use Rattle.ph_node.proofs.reads.NodeRefOf+NodeOf+P.ranked.Goals as goal

pub ranked-child-requires : goal.ranked-child-requires
ranked-child-requires g c = spot-in _ _ _ _ _ _ c.node.view_is c.node.invariant c.words-words.ensures c.D-dims.ensures c.args.spot c.requires

pub value-held-requires : goal.value-held-requires
value-held-requires g c =
    let p = child-told _ _ _ _ _ _ c.node.view_is c.node.invariant c.words-words.ensures c.D-dims.ensures
    c.args.spot.place c.requires.within _ _ c.ranked-child.ensures.kind c.if-child.true c.ranked-child.ensures.rank in
    omega (arith, p.0, length-nodes c.node.inside.block.values)

pub value-requires-clause-within : goal.value-requires-clause-within
value-requires-clause-within g c =
    (point-told _ _ _ _ _ _ c.node.view_is c.node.invariant c.words-words.ensures c.D-dims.ensures c.args.spot.place
    c.requires.within _ _ c.ranked-child.ensures.kind c.if-child.false c.ranked-child.ensures.rank).0

pub returns-then-child : goal.returns-then-child
returns-then-child g c =
    let p = child-told _ _ _ _ _ _ c.node.view_is c.node.invariant c.words-words.ensures c.D-dims.ensures
    c.args.spot.place c.requires.within _ _ c.ranked-child.ensures.kind c.if-child.true c.ranked-child.ensures.rank in
    record {
      what = p.1 c.value-held.result.now.node (get-nodes c.node.inside.block.values c.ranked-child.result.1 c.value-held.result.now c.value-held.ensures);
      rank = λ _. ranked _ _ _ _ c.node.view_is c.node.invariant _ _ c.D-dims.ensures c.words-words.ensures true
          c.args.spot.place c.ranked-child.result.1
          (c.ranked-child.ensures.rank ∙
          ap (λ b. rank_at b (entries_in c.D-dims.result c.words-words.result.now) c.args.spot.place) c.if-child.true);
    }

pub returns-else-child : goal.returns-else-child
returns-else-child g c =
    let p = point-told _ _ _ _ _ _ c.node.view_is c.node.invariant c.words-words.ensures c.D-dims.ensures
    c.args.spot.place c.requires.within _ _ c.ranked-child.ensures.kind c.if-child.false c.ranked-child.ensures.rank in
    let what = ap value c.value.ensures ∙ p.1 in record { what = what; rank = λ h. absurd (subst IsNode (sym what) h) }
