use Rattle.std.proofs.Common.{ℕ, ◌∙◌, ap, arith, refl, sym, subst, rules, length}
use Rattle.ph_node.specs.Shown.{shown, what_of}
use Rattle.ph_specs.specs.Node.{PlainNode}
use Rattle.ph_path.specs.Known.{Known}
use Rattle.ph_window.specs.Resumed.{IsStand, IsReady}
use Rattle.ph_window.proofs.Resumes.{IsHere, entry_of, unmet, unmet-at, exhausted, same-here, found-first, address-at, first-at, entry-behind}
use Rattle.ph_window.proofs.Resumes.{behind-is, apart-is, resumed-at, room-at, jumped, point-ahead, point-passed, held, child-none}
use Rattle.ph_window.proofs.Resumes.{shut-child, child-opens, child-past, child-ready, child-resumed, child-entered, way-one, way-more}
use Rattle.ph_window.proofs.resume.+resume.Given.{Over}
use Rattle.ph_window.proofs.resume.+resume.Goals.{After-what}
use Rattle.ph_window.proofs.resume.+resume.Goals as goal

-- ---- there is room on the path

pub push-requires : goal.push-requires
push-requires g t c = (omega arith, (room-at c.requires).0)

pub push-requires-then-is_before : goal.push-requires-then-is_before
push-requires-then-is_before g t c = (omega arith, (room-at c.requires).0)

pub push-requires-else-is_before : goal.push-requires-else-is_before
push-requires-else-is_before g t c = (omega arith, (room-at c.requires).0)

pub push-requires-in-Child : goal.push-requires-in-Child
push-requires-in-Child g t c = (omega arith, (room-at c.requires).0)

-- ---- nothing is left in the node

pub returns-in_default-clause-done : goal.returns-in_default-clause-done
returns-in_default-clause-done g t c =
    same-here c.requires (unmet c.requires (unmet-at c.requires c.note.result c.level-level.ensures.value c.note.ensures c.in_default.is))

pub returns-in_default-next_at_or_after-clause-done : goal.returns-in_default-next_at_or_after-clause-done
returns-in_default-next_at_or_after-clause-done g t c =
    same-here c.requires (exhausted c.requires
    (first-at c.requires c.level-level.ensures.value c.address-address.ensures.value c.next_at_or_after.ensures ∙
    c.in_default-next_at_or_after.is))

-- ---- the first entry is behind the point

pub returns-then-spot-address-clause-done : goal.returns-then-spot-address-clause-done
returns-then-spot-address-clause-done g t c =
    let at = found-first {r = c.args.node} c.requires c.level-level.ensures.value c.note.ensures c.in-Some.is
    c.address-address.ensures.value c.next_at_or_after.ensures c.in-Some-next_at_or_after.is
    c.spot-spot.ensures.place c.spot-spot.ensures.spot refl in
    let later = entry-behind c.requires at c.level-level.ensures.value c.address-address.ensures.value c.if-spot-address.true in
    resumed-at refl c.push.ensures (jumped c.requires at later)

-- ---- it stands at the point's address

-- the entry that was found
found : (g : Over) (t : ℕ) (c : After-what g t) → IsHere c.args.mark.now c.args.corners.now c.args.known.now c.args.node
    c.in-Some-next_at_or_after.place (entry_of c.args.node c.spot-spot.result (what_of c.what.result)) c.in-Some.note
found g t c = record {
  first = found-first {r = c.args.node} c.requires c.level-level.ensures.value c.note.ensures c.in-Some.is
      c.address-address.ensures.value c.next_at_or_after.ensures c.in-Some-next_at_or_after.is
      c.spot-spot.ensures.place c.spot-spot.ensures.spot c.what.ensures;
  same = c.if-spot-address.false ∙ address-at c.requires c.level-level.ensures.value c.address-address.ensures.value;
}

-- ---- it is a point

pub returns-then-is_before-clause-done : goal.returns-then-is_before-clause-done
returns-then-is_before-clause-done g t c =
    let at = found g t (goal.at.returns-then-is_before-clause-done g t c).After-what in
    resumed-at c.join.ensures c.push-then-is_before.ensures
    (point-ahead c.requires at.first at.same (ap what_of c.in-Value.is) (behind-is c.requires at.first c.join.ensures c.is_before.ensures ∙ c.if-is_before.true))

pub returns-else-is_before-clause-done : goal.returns-else-is_before-clause-done
returns-else-is_before-clause-done g t c =
    let at = found g t (goal.at.returns-else-is_before-clause-done g t c).After-what in
    resumed-at c.join.ensures c.push-else-is_before.ensures
    (point-passed c.requires at.first at.same (ap what_of c.in-Value.is) (behind-is c.requires at.first c.join.ensures c.is_before.ensures ∙ c.if-is_before.false))

-- ---- it is a child

pub returns-then-not-fits-clause-done : goal.returns-then-not-fits-clause-done
returns-then-not-fits-clause-done g t c =
    let at = found g t (goal.at.returns-then-not-fits-clause-done g t c).After-what in
    let is = ap what_of c.in-Child.is in
    resumed-at c.join.ensures c.push-in-Child.ensures
    (child-none c.requires at.first at.same is (shut-child c.requires at.first at.same is
    (child-opens c.requires at.first at.same is c.if-spot-address.false c.fits.ensures ∙ c.if-not-fits.true)))

pub resume-requires : goal.resume-requires
resume-requires g t c κs within =
    let at = found g t (goal.at.resume-requires g t c).After-what in
    let is = ap what_of c.in-Child.is in
    let holds = subst (IsStand c.level.result c.join.new.self c.args.mark.now) c.in-Holds.is c.stand.ensures in
    let ready : IsReady g.P.Dims.D c.args.mark.now c.args.corners.now c.join.new.self c.push-in-Child.new.self
    (shown c.visit-below.result) = child-ready c.requires at.first at.same is c.join.ensures c.push-in-Child.ensures
    c.visit-below.ensures.shows c.level.ensures.value holds in
    (omega (arith, (held c.requires at.first at.same is).0, (ap (λ t. t.level) c.visit-below.ensures.shows), c.decreases), search (rules, within, ready))

pub note-requires-in-Later-clause-level : goal.note-requires-in-Later-clause-level
note-requires-in-Later-clause-level g t c =
    let at = found g t (goal.at.note-requires-in-Later-clause-level g t c).After-what in
    omega (
      arith,
      (held c.requires at.first at.same (ap what_of c.in-Child.is)).0,
      ap (λ (t : PlainNode). t.level) c.visit-below.ensures.shows,
      c.level-in-Later.ensures.value,
      c.requires.level,
      c.requires.same,
      ap (λ (k : Known). k.width) c.join.ensures,
    )

pub enter-requires : goal.enter-requires
enter-requires g t c =
    let at = found g t (goal.at.enter-requires g t c).After-what in
    let lower = (held c.requires at.first at.same (ap what_of c.in-Child.is)).0 in
    let below = ap (λ t. t.level) c.visit-below.ensures.shows in
    omega (arith, (room-at c.requires).1, lower, ap (λ fs. length fs) c.push-in-Child.ensures)

pub returns-in-Holds-clause-done : goal.returns-in-Holds-clause-done
returns-in-Holds-clause-done g t c =
    let at = found g t (goal.at.returns-in-Holds-clause-done g t c).After-what in
    let is = ap what_of c.in-Child.is in
    let opens = child-opens c.requires at.first at.same is c.if-spot-address.false c.fits.ensures ∙ c.if-not-fits.false in
    child-resumed c.requires at.first at.same is opens c.join.ensures c.push-in-Child.ensures c.visit-below.ensures.shows c.resume.ensures.done

pub returns-in-Holds-clause-cost : goal.returns-in-Holds-clause-cost
returns-in-Holds-clause-cost g t c =
    let at = found g t (goal.at.returns-in-Holds-clause-cost g t c).After-what in
    omega (
      arith,
      c.resume.ensures.cost,
      c.visit-below.ensures.cost,
      (held c.requires at.first at.same (ap what_of c.in-Child.is)).0,
      (ap (λ t. t.level) c.visit-below.ensures.shows),
    )

pub returns-in-Later-clause-done : goal.returns-in-Later-clause-done
returns-in-Later-clause-done g t c =
    let at = found g t (goal.at.returns-in-Later-clause-done g t c).After-what in
    let is = ap what_of c.in-Child.is in
    let opens = child-opens c.requires at.first at.same is c.if-spot-address.false c.fits.ensures ∙ c.if-not-fits.false in
    let later = subst (IsStand c.level.result c.join.new.self c.args.mark.now) c.in-Later.is c.stand.ensures in
    let apart = apart-is c.requires at.first c.join.ensures (c.level.ensures.value ∙ ap (λ t. t.level) c.visit-below.ensures.shows) later.0 in
    child-entered c.requires at.first at.same is apart c.enter.new.path c.visit-below.result c.note-in-Later.result opens
    c.join.ensures c.push-in-Child.ensures c.visit-below.ensures.shows
    (behind-is c.requires at.first c.join.ensures (sym later.1)) c.level-in-Later.ensures.value c.note-in-Later.ensures
    c.enter.ensures

pub returns-in-Later-clause-cost : goal.returns-in-Later-clause-cost
returns-in-Later-clause-cost g t c =
    let at = found g t (goal.at.returns-in-Later-clause-cost g t c).After-what in
    omega (arith, c.visit-below.ensures.cost, (held c.requires at.first at.same (ap what_of c.in-Child.is)).0)

pub returns-in-Earlier-clause-done : goal.returns-in-Earlier-clause-done
returns-in-Earlier-clause-done g t c =
    let at = found g t (goal.at.returns-in-Earlier-clause-done g t c).After-what in
    let is = ap what_of c.in-Child.is in
    let earlier = subst (IsStand c.level.result c.join.new.self c.args.mark.now) c.in-Earlier.is c.stand.ensures in
    let apart = apart-is c.requires at.first c.join.ensures (c.level.ensures.value ∙ ap (λ t. t.level) c.visit-below.ensures.shows) earlier.0 in
    resumed-at c.join.ensures c.push-in-Child.ensures
    (child-none c.requires at.first at.same is (child-past c.requires at.first at.same is apart (behind-is c.requires at.first c.join.ensures (sym earlier.1))))

pub returns-in-Earlier-clause-cost : goal.returns-in-Earlier-clause-cost
returns-in-Earlier-clause-cost g t c =
    let at = found g t (goal.at.returns-in-Earlier-clause-cost g t c).After-what in
    omega (arith, c.visit-below.ensures.cost, (held c.requires at.first at.same (ap what_of c.in-Child.is)).0)

-- ---- the way to the point

pub returns-in-Holds-clause-way : goal.returns-in-Holds-clause-way
returns-in-Holds-clause-way g t c =
    let at = found g t (goal.at.returns-in-Holds-clause-way g t c).After-what in
    way-more c.requires at.first at.same (ap what_of c.in-Child.is) c.args.visits.now c.visit-below.new.visits c.resume.new.visits c.join.ensures c.visit-below.ensures.shows c.visit-below.ensures.cost
    c.resume.ensures.way

pub returns-in-Later-clause-way : goal.returns-in-Later-clause-way
returns-in-Later-clause-way g t c =
    let at = found g t (goal.at.returns-in-Later-clause-way g t c).After-what in
    way-one c.requires at.first at.same (ap what_of c.in-Child.is) c.args.visits.now c.visit-below.new.visits c.visit-below.ensures.cost

pub returns-in-Earlier-clause-way : goal.returns-in-Earlier-clause-way
returns-in-Earlier-clause-way g t c =
    let at = found g t (goal.at.returns-in-Earlier-clause-way g t c).After-what in
    way-one c.requires at.first at.same (ap what_of c.in-Child.is) c.args.visits.now c.visit-below.new.visits c.visit-below.ensures.cost
