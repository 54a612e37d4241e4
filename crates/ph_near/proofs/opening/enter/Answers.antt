use Rattle.std.proofs.Common.{◌≤◌, ◌∙◌, refl, ap, sym, subst, arith}
use Rattle.ph_model.specs.Lawful.{HasZerosFrom}
use Rattle.ph_model.specs.EntryList.{entries}
use Rattle.ph_node.specs.Shown.{shown}
use Rattle.ph_node.specs.Split.{body_at}
use Rattle.ph_near.specs.Opening.{IsEntered}
use Rattle.ph_near.proofs.Entries.{small-wide, entry-body, joined-is, child-lower, child-zeros, child-opened}
use Rattle.ph_near.proofs.opening.enter.Goals as goal

pub join_child-requires-clause-low : goal.join_child-requires-clause-low
join_child-requires-clause-low g c =
    let lower = child-lower c.args.from.now c.requires.opened c.spot-spot.result.place c.spot-spot.ensures.spot.within c.in-Child.child.now c.in-Child.ensures in
    omega (arith, lower, c.level.ensures.value, ap (λ m. m.level) c.visit-node.ensures.shows)

pub join_child-requires-clause-body : goal.join_child-requires-clause-body
join_child-requires-clause-body g c =
    entry-body c.args.from.now c.requires.opened c.spot-spot.result.place c.spot-spot.ensures.spot.within

pub join_child-requires-clause-zeros : goal.join_child-requires-clause-zeros
join_child-requires-clause-zeros g c =
    let zeros = child-zeros c.args.from.now c.requires.opened c.spot-spot.result.place c.spot-spot.ensures.spot.within c.in-Child.child.now c.in-Child.ensures in
    subst (λ k. HasZerosFrom k (body_at (entries (shown c.args.from.now.node)) c.spot-spot.result.place))
    (sym (c.level.ensures.value ∙ ap (λ m. m.level) c.visit-node.ensures.shows)) zeros

pub join_child-requires-clause-known : goal.join_child-requires-clause-known
join_child-requires-clause-known g c =
    let narrow : c.args.w ≤ 62 = omega (arith, c.bits-bits.ensures.value, c.bits-bits.ensures.limit) in
    (c.requires.opened.known.0, small-wide c.args.w c.args.from.now.known narrow c.requires.opened.known.1)

pub returns-clause-opened : goal.returns-clause-opened
returns-clause-opened g c =
    let i = c.spot-spot.result.place in
    let there = c.spot-spot.ensures.spot.within in
    (child-opened c.args.from.now c.requires.opened i there c.in-Child.child.now c.in-Child.ensures
    (record { node = c.visit-node.result; known = c.join_child.new.known }) c.visit-node.ensures.shows
    (c.join_child.ensures ∙ joined-is c.args.from.now c.requires.opened i there c.spot-spot.result c.spot-spot.ensures.spot refl)).0

pub returns-clause-entered : goal.returns-clause-entered
returns-clause-entered g c =
    let i = c.spot-spot.result.place in
    let there = c.spot-spot.ensures.spot.within in
    subst (λ i. IsEntered c.args.w c.args.from.now i (record { node = c.visit-node.result; known = c.join_child.new.known })) c.spot-spot.ensures.place
    (child-opened c.args.from.now c.requires.opened i there c.in-Child.child.now c.in-Child.ensures
    (record { node = c.visit-node.result; known = c.join_child.new.known }) c.visit-node.ensures.shows
    (c.join_child.ensures ∙ joined-is c.args.from.now c.requires.opened i there c.spot-spot.result c.spot-spot.ensures.spot refl)).1
