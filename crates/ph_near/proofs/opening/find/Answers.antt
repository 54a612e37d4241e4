use Rattle.std.proofs.Common.{◌≡◌, ◌<◌, ◌≤◌, ◌^◌, ◌∙◌, inl, inr, refl, ap, sym, subst, arith, map}
use Rattle.std.proofs.lemmas.Result.{on_ok_weaker}
use Rattle.std.specs.List.{AllByRecursion as Each}
use Rattle.ph_model.specs.BestFirst.{item_distance}
use Rattle.ph_specs.specs.Coordinate.{coordinate}
use Rattle.ph_model.specs.EntryEdits.{what_at}
use Rattle.ph_model.specs.EntryList.{entries}
use Rattle.ph_node.specs.Shown.{shown}
use Rattle.ph_near.specs.Far.{entry_gap}
use Rattle.ph_near.specs.Found.{IsFound, found_item}
use Rattle.ph_near.specs.Opening.{place_item}
use Rattle.ph_near.proofs.Entries.{small-wide, joined-is, joined-body, place-distance, place-small, place-found}
use Rattle.ph_near.proofs.opening.find.Given.{Over}
use Rattle.ph_near.proofs.opening.find.Goals.{After-limit-in-Value}
use Rattle.ph_near.proofs.opening.find.Goals as goal

pub is_point_beyond-requires-clause-known : goal.is_point_beyond-requires-clause-known
is_point_beyond-requires-clause-known g c =
    let narrow : c.args.w ≤ 62 = omega (arith, c.bits-bits.ensures.value, c.bits-bits.ensures.limit) in
    (c.requires.opened.known.0, small-wide c.args.w c.args.from.now.known narrow c.requires.opened.known.1)

pub is_point_beyond-requires-clause-center : goal.is_point_beyond-requires-clause-center
is_point_beyond-requires-clause-center g c =
    let narrow : c.args.w ≤ 62 = omega (arith, c.bits-bits.ensures.value, c.bits-bits.ensures.limit) in
    (c.requires.point.0, small-wide c.args.w c.args.center.now narrow c.requires.point.1)

pub returns-then-is_point_beyond-clause-tried : goal.returns-then-is_point_beyond-clause-tried
returns-then-is_point_beyond-clause-tried g c =
    let narrow : c.args.w ≤ 62 = omega (arith, c.bits-bits.ensures.value, c.bits-bits.ensures.limit) in
    let o = c.args.from.now in
    let i = c.args.spot.place in
    let there = c.requires.spot.within in
    let far = ap (λ k. entry_gap (shown o.node).level k c.args.center.now (what_at (entries (shown o.node)) i))
    (joined-is o c.requires.opened i there c.args.spot c.requires.spot refl) ∙ place-distance o c.requires.opened
    i there c.args.center.now c.requires.point in
    inl (
      refl,
      c.limit.ensures.beyond (item_distance c.args.w (map (coordinate c.args.w) c.args.center.now) (place_item c.args.w c.args.from.now c.args.spot.place))
          (subst (λ t. c.limit.result < t) far (c.is_point_beyond.ensures c.if-is_point_beyond.true))
          (place-small o c.requires.opened i there c.args.center.now c.requires.point narrow c.requires.few),
    )

pub join-requires-clause-known : goal.join-requires-clause-known
join-requires-clause-known g c =
    let narrow : c.args.w ≤ 62 = omega (arith, c.bits-bits.ensures.value, c.bits-bits.ensures.limit) in
    (c.requires.opened.known.0, small-wide c.args.w c.args.from.now.known narrow c.requires.opened.known.1)

pub offset_distance-distance-requires-clause-first : goal.offset_distance-distance-requires-clause-first
offset_distance-distance-requires-clause-first g c =
    let o = c.args.from.now in
    let i = c.args.spot.place in
    let there = c.requires.spot.within in
    subst (λ ks. Each (λ x. x < 2 ^ c.args.w) ks)
    (sym (c.join.ensures.known ∙ joined-is o c.requires.opened i there c.args.spot c.requires.spot refl))
    (joined-body o c.requires.opened i there).1

-- the row that was read
row_found : (g : Over) (c : After-limit-in-Value g) →
    IsFound c.args.w g.row.D (map (coordinate c.args.w) c.args.center.now)
    (record { distance = c.offset_distance-distance.result; known = c.join.new.known; value = c.in-Value.value }) ×
    (place_item c.args.w c.args.from.now c.args.spot.place ≡
    found_item {d = g.row.D} c.args.w (record { distance = c.offset_distance-distance.result; known = c.join.new.known; value = c.in-Value.value }))
row_found g c =
    let o = c.args.from.now in
    let i = c.args.spot.place in
    let there = c.requires.spot.within in
    place-found o c.requires.opened i there c.args.center.now c.requires.point
    (record { distance = c.offset_distance-distance.result; known = c.join.new.known; value = c.in-Value.value })
    (c.join.ensures.known ∙ joined-is o c.requires.opened i there c.args.spot c.requires.spot refl)
    c.offset_distance-distance.ensures refl c.in-Value.ensures

pub returns-then-distance-limit-clause-tried : goal.returns-then-distance-limit-clause-tried
returns-then-distance-limit-clause-tried g c =
    let narrow : c.args.w ≤ 62 = omega (arith, c.bits-bits.ensures.value, c.bits-bits.ensures.limit) in
    let o = c.args.from.now in
    let i = c.args.spot.place in
    let there = c.requires.spot.within in
    let f = row_found g (goal.at.returns-then-distance-limit-clause-tried g c).After-limit-in-Value in
    let far = ap (item_distance c.args.w (map (coordinate c.args.w) c.args.center.now)) f.1 ∙ sym c.offset_distance-distance.ensures in
    inl (
      refl,
      c.limit-in-Value.ensures.beyond (item_distance c.args.w (map (coordinate c.args.w) c.args.center.now) (place_item c.args.w c.args.from.now c.args.spot.place))
          (omega (arith, c.if-distance-limit.true, far))
          (place-small o c.requires.opened i there c.args.center.now c.requires.point narrow c.requires.few),
    )

pub returns-clause-tried : goal.returns-clause-tried
returns-clause-tried g c =
    let f = row_found g (goal.at.returns-clause-tried g c).After-limit-in-Value in
    on_ok_weaker c.add.result (λ a. inr (
      record { distance = c.offset_distance-distance.result; known = c.join.new.known; value = c.in-Value.value },
      f.0,
      f.1,
      a,
    )) c.add.ensures.added
