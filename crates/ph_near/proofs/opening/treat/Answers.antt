use Rattle.std.proofs.Common.{◌≡◌, ◌<◌, ◌≤◌, ◌^◌, ◌∙◌, inl, inr, refl, ap, sym, subst, arith, map, true}
use Rattle.std.proofs.lemmas.Result.{on_ok_weaker}
use Rattle.ph_model.specs.BestFirst.{item_distance}
use Rattle.ph_specs.specs.Coordinate.{coordinate}
use Rattle.ph_model.specs.EntryEdits.{what_at}
use Rattle.ph_model.specs.EntryList.{entries}
use Rattle.ph_node.specs.Kinds.{is_node}
use Rattle.ph_node.specs.Shown.{shown}
use Rattle.ph_near.specs.Far.{corner_of, gaps_above}
use Rattle.ph_near.specs.Opening.{place_item}
use Rattle.ph_near.proofs.Entries.{place-least, place-child, place-small}
use Rattle.ph_near.proofs.opening.treat.Goals as goal

pub returns-then-near-limit-clause-treated : goal.returns-then-near-limit-clause-treated
returns-then-near-limit-clause-treated g c =
    let narrow : c.args.w ≤ 62 = omega (arith, c.bits-bits.ensures.value, c.bits-bits.ensures.limit) in
    let o = c.args.from.now in
    let i = c.args.near.spot.place in
    let there = c.requires.spot.within in
    let told = c.requires.told
    ∙ ap (λ a. gaps_above (shown o.node).level (corner_of (shown o.node).level a o.known) c.args.center.now) c.requires.spot.address in
    inl (
      refl,
      inl (
        refl,
        c.limit.ensures.beyond (item_distance c.args.w (map (coordinate c.args.w) c.args.center.now) (place_item c.args.w c.args.from.now c.args.near.spot.place))
            (omega (arith, c.if-near-limit.true, told, place-least o c.requires.opened i there c.args.center.now c.requires.point))
            (place-small o c.requires.opened i there c.args.center.now c.requires.point narrow c.requires.few),
      ),
    )

pub returns-then-not-is_child-clause-treated : goal.returns-then-not-is_child-clause-treated
returns-then-not-is_child-clause-treated g c = on_ok_weaker c.find.result (λ t. inl (refl, t)) c.find.ensures.tried

pub returns-clause-treated : goal.returns-clause-treated
returns-clause-treated g c =
    let narrow : c.args.w ≤ 62 = omega (arith, c.bits-bits.ensures.value, c.bits-bits.ensures.limit) in
    let o = c.args.from.now in
    let i = c.args.near.spot.place in
    let there = c.requires.spot.within in
    let child : is_node (what_at (entries (shown c.args.from.now.node)) c.args.near.spot.place) ≡ true =
    sym c.is_child.ensures ∙ c.if-not-is_child.false in
    let far = c.requires.told
    ∙ ap (λ a. gaps_above (shown o.node).level (corner_of (shown o.node).level a o.known) c.args.center.now) c.requires.spot.address
    ∙ place-child o c.requires.opened i there c.args.center.now c.requires.point child in
    on_ok_weaker c.push.result (λ moved. inr (
      refl,
      (
        record { distance = c.args.near.distance; opened = c.args.at; place = c.args.near.spot.place },
        refl,
        refl,
        record {
          place = there;
          child = child;
          far = far;
          small = subst (λ n. n < 2 ^ 128) (sym far)
              (place-small o c.requires.opened i there c.args.center.now c.requires.point narrow c.requires.few);
        },
        moved,
      ),
    )) c.push.ensures
