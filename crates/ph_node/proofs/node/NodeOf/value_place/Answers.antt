use Rattle.std.proofs.Common.{◌≡◌, ℕ, List, ap, arith, length}
use Rattle.ph_model.specs.EntryList.{entries}
use Rattle.ph_specs.specs.Pack.{record_of}
use Rattle.ph_node.specs.OneEdit.{flats_of}
use Rattle.ph_node.proofs.Listings.{length-nodes}
use Rattle.ph_node.proofs.OldEdits.{count_at}
use Rattle.ph_node.proofs.OldNodes.{old}
use Rattle.ph_node.proofs.ValuePlaces.{IsCounted, values-fit, values-below}
use Rattle.ph_node.proofs.node.NodeOf.value_place.Given.{Over}
use Rattle.ph_node.proofs.node.NodeOf.value_place.Goals as goal
use Rattle.ph_node.proofs.node.NodeOf.value_place.Goals.{After-count}

counted : (g : Over) (c : After-count g) → IsCounted g.P.Dims.D c.args.self.now c.len-len.result c.count.result c.count-children.result
counted g c =
    let o = old _ _ _ _ c.self.view_is c.self.invariant in
    let w : length c.self.inside.block.words ≡ length (record_of g.P.Dims.D c.args.self.now.level (flats_of c.args.self.now)) = ap (λ (u : List ℕ). length u) o.words in
    record {
      long = omega (arith, c.len-len.ensures.value, w);
      all = omega (
        arith,
        c.count.ensures,
        count_at _ _ _ _ _ o c.words.ensures,
        o.points,
        c.count-children.ensures.value,
        length-nodes c.self.inside.block.values,
      );
      fit = omega (arith, c.len-len.ensures.value, w, values-fit g.P.Dims.D c.args.self.now.level (flats_of c.args.self.now));
    }

pub overflow_sub-points : goal.overflow_sub-points
overflow_sub-points g c = omega (arith, (counted g (goal.at.overflow_sub-points g c).After-count).all)

pub overflow_sub-result : goal.overflow_sub-result
overflow_sub-result g c =
    let k = counted g (goal.at.overflow_sub-result g c).After-count in
    omega (arith, k.all, k.fit)

pub overflow_add-result : goal.overflow_add-result
overflow_add-result g c =
    let k = counted g (goal.at.overflow_add-result g c).After-count in
    omega (
      arith,
      k.all,
      k.fit,
      c.len-len.ensures.value,
      c.points_before.ensures,
      values-below (entries c.args.self.now) c.args.spot.place c.requires.spot.within c.requires.point,
    )

pub returns : goal.returns
returns g c =
    let k = counted g (goal.at.returns g c).After-count in
    omega (arith, k.long, k.all, k.fit, c.points_before.ensures)
