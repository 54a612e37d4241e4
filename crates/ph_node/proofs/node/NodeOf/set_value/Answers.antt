use Rattle.std.proofs.Common.{◌≡◌, ℕ, List, arith, ap, ◌∙◌, sym, subst, length}
use Rattle.ph_model.specs.EntryList.{entries}
use Rattle.ph_specs.specs.Pack.{record_of}
use Rattle.ph_specs.specs.Record.{unpacked}
use Rattle.ph_node.specs.OneEdit.{flats_of}
use Rattle.ph_node.specs.Recorded.{IsRecorded}
use Rattle.ph_node.specs.Children.{nodes_of}
use Rattle.ph_node.proofs.Lists.{kept_new, seen_new}
use Rattle.ph_node.proofs.OldNodes.{old}
use Rattle.ph_node.proofs.ValuePlaces.{values-below}
use Rattle.ph_node.proofs.Valued.{renewed, set_is}
use Rattle.ph_node.proofs.node.NodeOf.set_value.Goals as goal

pub set-requires : goal.set-requires
set-requires g c =
    let o = old _ _ _ _ c.self.view_is c.self.invariant in
    let w : length c.self.inside.block.words ≡ length (record_of g.P.Dims.D c.args.self.now.level (flats_of c.args.self.now)) = ap (λ (u : List ℕ). length u) o.words in
    omega (arith, c.value_place-place.ensures, w, values-below (entries c.args.self.now) c.args.spot.place c.requires.spot.within c.requires.point)

pub invariant_of-self : goal.invariant_of-self
invariant_of-self g c =
    let o = old _ _ _ _ c.self.view_is c.self.invariant in
    subst (λ ss. IsRecorded g.P.Dims.D c.set.new.self.words (nodes_of ss)) (sym (ap (λ b. b.values) c.set.ensures))
    (kept_new _ _ _ _ _ (renewed _ _ _ _ o c.args.spot.place c.args.v c.requires.spot.within c.requires.point) _
    (ap (λ b. b.words) c.set.ensures ∙ set_is _ _ _ _ o c.args.spot.place c.args.v c.requires.spot.within c.requires.point _ c.value_place-place.ensures))

pub returns-clause-node : goal.returns-clause-node
returns-clause-node g c =
    let o = old _ _ _ _ c.self.view_is c.self.invariant in
    ap (λ ss. unpacked g.P.Dims.D c.set.new.self.words (nodes_of ss)) (ap (λ b. b.values) c.set.ensures)
    ∙ seen_new _ _ _ _ _ (renewed _ _ _ _ o c.args.spot.place c.args.v c.requires.spot.within c.requires.point) _
    (ap (λ b. b.words) c.set.ensures ∙ set_is _ _ _ _ o c.args.spot.place c.args.v c.requires.spot.within c.requires.point _ c.value_place-place.ensures)
