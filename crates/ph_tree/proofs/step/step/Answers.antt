use Rattle.std.proofs.Common.{◌≡◌, arith, refl, sym, ap, ◌∙◌, subst}
use Rattle.std.specs.Prelude.{position}
use Rattle.ph_model.specs.EntryList.{node, entries}
use Rattle.ph_specs.specs.ZOrder.{address}
use Rattle.ph_model.specs.EntryEdits.{has_address}
use Rattle.ph_node.specs.Places.{place_for}
use Rattle.ph_node.specs.Shown.{shown, what_of}
use Rattle.ph_node.specs.Split.{IsNode}
use Rattle.ph_model.proofs.laws.DelEntries.{lawful-child}
use Rattle.ph_tree.specs.Step.{IsAt, IsApart, opened_for}
use Rattle.ph_node.proofs.FoundSpots.{parts_at, parts_there}
use Rattle.ph_tree.proofs.Steps.{at_entry, same_below, other_below, same_between, other_between}
use Rattle.ph_tree.proofs.step.step.Given.{Over}
use Rattle.ph_tree.proofs.step.step.Goals.{In-Ok}
use Rattle.ph_tree.proofs.step.step.Goals as goal

-- the entry that was found stands at the point's address
at : (g : Over) (c : In-Ok g) → IsAt c.args.key.now.width c.args.key.now.point (shown c.args.node) c.in-Ok.spot
    (parts_at (entries (shown c.args.node)) c.in-Ok.spot.place)
at g c = at_entry c.args.key.now.width c.args.key.now.point (shown c.args.node) _ _ c.in-Ok.spot c.level.ensures.value
    c.address.ensures.value c.in-Ok.ensures.found c.in-Ok.ensures.spot

pub ranked-rank-requires : goal.ranked-rank-requires
ranked-rank-requires g c = c.in-Ok.ensures.spot

pub is_below-requires : goal.is_below-requires
is_below-requires g c =
    record { spot = c.in-Ok.ensures.spot; dims = c.offsets.ensures.dims }

pub is_joined-requires : goal.is_joined-requires
is_joined-requires g c =
    let n = shown c.args.node in
    let found = parts_at (entries n) c.in-Ok.spot.place in
    let below = lawful-child g.P.Dims.D n.level 0 n.chain c.in-Ok.spot.place found (shown c.visit-below.result)
    c.requires.lawful (parts_there (entries n) c.in-Ok.spot.place c.in-Ok.ensures.spot.within)
    (sym c.ranked-rank.ensures.what ∙ ap (λ u. what_of u) c.in-Child.is ∙ ap node (sym c.visit-below.ensures.shows)) in
    record {
      spot = c.in-Ok.ensures.spot;
      low = omega (arith, below.lower, c.level-in-Child.ensures.value);
      body = below.body;
      zeros = rw c.level-in-Child.ensures.value below.zeros;
    }

pub returns-in-Err-clause-step : goal.returns-in-Err-clause-step
returns-in-Err-clause-step g c =
    let n = shown c.args.node in
    let a : c.address.result ≡ address c.args.key.now.width c.args.key.now.point n.level = c.address.ensures.value ∙
    ap (address c.args.key.now.width c.args.key.now.point) c.level.ensures.value in (
      sym (c.in-Err.ensures.absent ∙ ap (λ t. position (has_address t) (entries n)) a),
      c.in-Err.ensures.place ∙ ap (λ t. place_for t (entries n)) a,
      omega arith,
    )

pub returns-then-is_below-clause-step : goal.returns-then-is_below-clause-step
returns-then-is_below-clause-step g c =
    let n = shown c.args.node in
    let x = parts_at (entries n) c.in-Ok.spot.place in (
      x,
      at g (goal.at.returns-then-is_below-clause-step g c).In-Ok,
      sym c.ranked-rank.ensures.what ∙ ap (λ u. what_of u) c.in-Value.is,
      same_below c.args.key.now.width n.level c.args.key.now.point x.body _ _ c.offsets.ensures.value c.is_below.ensures c.if-is_below.true,
      omega arith,
    )

pub returns-else-is_below-clause-step : goal.returns-else-is_below-clause-step
returns-else-is_below-clause-step g c =
    let n = shown c.args.node in
    let x = parts_at (entries n) c.in-Ok.spot.place in
    let what = sym c.ranked-rank.ensures.what ∙ ap (λ u. what_of u) c.in-Value.is in (
      x,
      at g (goal.at.returns-else-is_below-clause-step g c).In-Ok,
      subst (IsApart c.args.key.now.width c.args.key.now.point n.level x.body) (sym what)
          (other_below c.args.key.now.width n.level c.args.key.now.point x.body _ _ c.offsets.ensures.value
          c.is_below.ensures c.if-is_below.false),
      omega (arith, ap opened_for what),
    )

pub returns-then-is_joined-clause-step : goal.returns-then-is_joined-clause-step
returns-then-is_joined-clause-step g c =
    let n = shown c.args.node in
    let x = parts_at (entries n) c.in-Ok.spot.place in (
      x,
      at g (goal.at.returns-then-is_joined-clause-step g c).In-Ok,
      sym c.ranked-rank.ensures.what ∙ ap (λ u. what_of u) c.in-Child.is ∙ ap node (sym c.visit-below.ensures.shows),
      same_between c.args.key.now.width n.level c.args.key.now.point x.body _ _ refl _ _ c.level-in-Child.ensures.value c.is_joined.ensures c.if-is_joined.true,
      omega (arith, c.visit-below.ensures.cost),
      c.ranked-rank.ensures.rank (subst IsNode (sym (sym c.ranked-rank.ensures.what ∙ ap (λ u. what_of u) c.in-Child.is)) tt),
    )

pub returns-else-is_joined-clause-step : goal.returns-else-is_joined-clause-step
returns-else-is_joined-clause-step g c =
    let n = shown c.args.node in
    let x = parts_at (entries n) c.in-Ok.spot.place in
    let what = sym c.ranked-rank.ensures.what ∙ ap (λ u. what_of u) c.in-Child.is ∙ ap node (sym c.visit-below.ensures.shows) in (
      x,
      at g (goal.at.returns-else-is_joined-clause-step g c).In-Ok,
      subst (IsApart c.args.key.now.width c.args.key.now.point n.level x.body) (sym what)
          (other_between c.args.key.now.width n.level c.args.key.now.point x.body _ _ refl _ _
          c.level-in-Child.ensures.value c.is_joined.ensures c.if-is_joined.false),
      omega (arith, ap opened_for what, c.visit-below.ensures.cost),
    )
