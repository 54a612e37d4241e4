use Rattle.std.proofs.Common.{rules, ◌≡◌, ℕ, ◌<◌, ◌≤◌, [], ◌++◌, length, take, None, refl, sym, ◌∙◌, ap, subst, arith}
use Rattle.ph_model.specs.EntryList.{entries, node, value}
use Rattle.ph_node.specs.Shown.{shown}
use Rattle.ph_model.specs.Combined.{chosen}
use Rattle.ph_set.specs.Held.{IsLawfulPart, held_what, part_digits, part_what}
use Rattle.ph_set.specs.Meeting.{kept_of, kept_parts, IsParting}
use Rattle.ph_set.specs.Parts.{height, rows_in, stretch}
use Rattle.ph_set.proofs.Meetings.{both-values, sides-start, sides-work, sides-end, sides-end-work, rest-seen}
use Rattle.ph_set.proofs.Taking.{after-three, taken-on, taken-both, taken-all}
use Rattle.ph_set.proofs.Overs.{IsOver, over-by, over-found, found-cost, none-place, over-missed, missed-cost}
use Rattle.ph_set.proofs.Pairs.{paired, both-passed, both-cost}
use Rattle.ph_set.specs.Sides.{kept_from, side_digits, side_entries, side_node}
use Rattle.ph_set.proofs.meet.+meet.Given.{Over}
use Rattle.ph_set.proofs.meet.+meet.Goals.{over-After-body_address, side_by_side-After-list_stretch_if-2}
use Rattle.ph_set.proofs.meet.+meet.Goals.{side_by_side-then-loop-i-test+else-j-rights, side_by_side-else-loop-i-test}
use Rattle.ph_set.proofs.Walking.{wide-digits, new-lawful}
use Rattle.ph_set.proofs.meet.+meet.Goals as goal

-- the lower part lies at one address in the node
lies_over : (g : Over) (t : ℕ) (c : over-After-body_address g t) →
    IsOver c.args.plan.now.width g.P.Dims.D (part_digits g.P.Dims.D c.args.x.now) (shown c.args.a)
    (take g.P.Dims.D c.args.y.now.digits) (part_what c.args.y.now) c.body_address.result
lies_over g t c =
    over-by g.P.Dims.D c.args.y.now.digits c.requires.whole c.requires.part c.requires.lower c.requires.agree
    c.level.ensures.value c.D-dims.ensures c.body_address.ensures.value

pub meet-returns-in-Value-Value-clause-rows : goal.meet-returns-in-Value-Value-clause-rows
meet-returns-in-Value-Value-clause-rows g t c =
    let p = c.args.plan.now in
    let dx = take g.P.Dims.D c.args.x.now.digits in
    let dy = take g.P.Dims.D c.args.y.now.digits in
    let agree : IsParting 0 0 dx dy None =
    subst (λ h. IsParting (height (held_what h)) 0 dx dy None) c.in-Value-Value.is-0
    (subst (λ h. IsParting (height (held_what c.args.x.now.held)) (height (held_what h)) dx dy None) c.in-Value-Value.is-1 c.in_default.ensures) in
    subst (g.S.RowSink.adds c.args.rows.now c.list_both.new.rows)
    (sym (both-values p dx dy c.in-Value-Value.value c.in-Value-Value.field-0-1 agree)
    ∙ ap (λ h. kept_of p dx (held_what h) dy (value c.in-Value-Value.field-0-1)) (sym c.in-Value-Value.is-0)
    ∙ ap (λ h. kept_of p dx (held_what c.args.x.now.held) dy (held_what h)) (sym c.in-Value-Value.is-1))
    c.list_both.ensures

pub over-part_at-part-requires-clause-digits : goal.over-part_at-part-requires-clause-digits
over-part_at-part-requires-clause-digits g t c =
    wide-digits c.args.plan.now.width g.P.Dims.D (part_digits g.P.Dims.D c.args.x.now) (node (shown c.args.a))
    (omega (arith, c.bits-bits.ensures.value, c.bits-bits.ensures.limit)) c.requires.whole

pub over-meet_either-requires : goal.over-meet_either-requires
over-meet_either-requires g t c κs within =
    let new = new-lawful c.args.plan.now.width g.P.Dims.D (part_digits g.P.Dims.D c.args.x.now) (shown c.args.a) c.requires.whole c.in-Ok.spot c.in-Ok.ensures.spot
    (part_digits g.P.Dims.D c.part_at-part.result) (part_what c.part_at-part.result) c.part_at-part.ensures.digits c.part_at-part.ensures.held in
    let part : IsLawfulPart c.args.plan.now.width g.P.Dims.D c.part_at-part.result = new.0 in
    (omega (arith, new.1, c.decreases), search (rules, within, part))

pub over-list_stretch_if-requires-in-Err-clause-within : goal.over-list_stretch_if-requires-in-Err-clause-within
over-list_stretch_if-requires-in-Err-clause-within g t c =
    let over = lies_over g t (goal.at.over-list_stretch_if-requires-in-Err-clause-within g t c).After-body_address in
    none-place c.args.plan.now c.args.left over c.in-Err.ensures.absent c.in-Err.ensures.place c.len-end.ensures

pub over-returns-in-Ok-clause-rows : goal.over-returns-in-Ok-clause-rows
over-returns-in-Ok-clause-rows g t c =
    let over = lies_over g t (goal.at.over-returns-in-Ok-clause-rows g t c).After-body_address in
    after-three g.S.RowSink.adds g.met.S.RowSink.adds_more _ _ _ _ _ _ _ _ c.list_stretch_if.ensures.rows c.meet_either.ensures.rows
    c.list_stretch_if-in-Ok.ensures.rows
    (over-found c.args.plan.now c.args.left over c.in-Ok.ensures.spot c.in-Ok.ensures.found c.part_at-part.ensures.digits c.part_at-part.ensures.held
    c.len-end.ensures)

pub over-returns-in-Ok-clause-visits : goal.over-returns-in-Ok-clause-visits
over-returns-in-Ok-clause-visits g t c =
    let over = lies_over g t (goal.at.over-returns-in-Ok-clause-visits g t c).After-body_address in
    let bound = found-cost c.args.plan.now c.args.left over c.in-Ok.ensures.spot c.in-Ok.ensures.found c.part_at-part.ensures.digits c.part_at-part.ensures.held
    c.len-end.ensures in
    omega (arith, bound, c.list_stretch_if.ensures.visits, c.part_at-part.ensures.visits, c.meet_either.ensures.visits, c.list_stretch_if-in-Ok.ensures.visits)

pub over-returns-in-Err-clause-rows : goal.over-returns-in-Err-clause-rows
over-returns-in-Err-clause-rows g t c =
    let over = lies_over g t (goal.at.over-returns-in-Err-clause-rows g t c).After-body_address in
    after-three g.S.RowSink.adds g.met.S.RowSink.adds_more _ _ _ _ _ _ _ _ c.list_stretch_if-in-Err.ensures.rows c.list_part_if.ensures.rows
    c.list_stretch_if-in-Err-2.ensures.rows
    (over-missed c.args.plan.now c.args.left over c.in-Err.ensures.absent c.in-Err.ensures.place c.len-end.ensures)

pub over-returns-in-Err-clause-visits : goal.over-returns-in-Err-clause-visits
over-returns-in-Err-clause-visits g t c =
    let over = lies_over g t (goal.at.over-returns-in-Err-clause-visits g t c).After-body_address in
    let bound = missed-cost c.args.plan.now c.args.left over c.in-Err.ensures.absent c.in-Err.ensures.place c.len-end.ensures in
    omega (arith, bound, c.list_stretch_if-in-Err.ensures.visits, c.list_part_if.ensures.visits, c.list_stretch_if-in-Err-2.ensures.visits)

pub meet_nodes-returns-clause-rows : goal.meet_nodes-returns-clause-rows
meet_nodes-returns-clause-rows g t c =
    let d = g.P.Dims.D in
    subst (g.S.RowSink.adds c.args.rows.now c.side_by_side.new.rows)
    (sides-start c.args.plan.now (part_digits d c.args.x.now) (part_digits d c.args.y.now) (shown c.args.a) (shown c.args.b))
    c.side_by_side.ensures.rows

pub meet_nodes-returns-clause-visits : goal.meet_nodes-returns-clause-visits
meet_nodes-returns-clause-visits g t c =
    let d = g.P.Dims.D in
    let bound = sides-work c.args.plan.now (part_digits d c.args.x.now) (part_digits d c.args.y.now) (shown c.args.a) (shown c.args.b) in
    omega (arith, bound, c.side_by_side.ensures.visits)

pub pair_at-part_at-x-requires-clause-digits : goal.pair_at-part_at-x-requires-clause-digits
pair_at-part_at-x-requires-clause-digits g t c =
    wide-digits c.args.plan.now.width g.P.Dims.D (side_digits g.P.Dims.D c.args.a.now) (node (side_node c.args.a.now))
    (omega (arith, c.bits-bits.ensures.value, c.bits-bits.ensures.limit)) c.requires.sides.left

pub pair_at-part_at-y-requires-clause-digits : goal.pair_at-part_at-y-requires-clause-digits
pair_at-part_at-y-requires-clause-digits g t c =
    wide-digits c.args.plan.now.width g.P.Dims.D (side_digits g.P.Dims.D c.args.b.now) (node (side_node c.args.b.now))
    (omega (arith, c.bits-bits.ensures.value, c.bits-bits.ensures.limit)) c.requires.sides.right

pub pair_at-meet-requires : goal.pair_at-meet-requires
pair_at-meet-requires g t c κs within =
    let w = c.args.plan.now.width in
    let d = g.P.Dims.D in
    let a = c.args.a.now in
    let b = c.args.b.now in
    let x = c.part_at-x.result in
    let y = c.part_at-y.result in
    let one = new-lawful w d (side_digits d a) (side_node a) c.requires.sides.left c.spot-left.result c.spot-left.ensures.spot
    (part_digits d x) (part_what x) c.part_at-x.ensures.digits c.part_at-x.ensures.held in
    let other = new-lawful w d (side_digits d b) (side_node b) c.requires.sides.right c.spot-right.result c.spot-right.ensures.spot
    (part_digits d y) (part_what y) c.part_at-y.ensures.digits c.part_at-y.ensures.held in
    let left : IsLawfulPart w d x = one.0 in
    let right : IsLawfulPart w d y = other.0 in
    (omega (arith, one.1, other.1, c.decreases), search (rules, within, left, right))

pub pair_at-returns-clause-visits : goal.pair_at-returns-clause-visits
pair_at-returns-clause-visits g t c =
    let bound = both-cost c.args.plan.now (paired c.requires.sides c.spot-left.ensures.place c.spot-right.ensures.place c.spot-left.ensures.spot
    c.spot-right.ensures.spot) (omega arith) c.part_at-x.ensures.digits c.part_at-x.ensures.held c.part_at-y.ensures.digits c.part_at-y.ensures.held in
    omega (arith, bound, c.part_at-x.ensures.visits, c.part_at-y.ensures.visits, c.meet.ensures.visits)

pub pair_at-returns-clause-rows : goal.pair_at-returns-clause-rows
pair_at-returns-clause-rows g t c =
    let pair = paired c.requires.sides c.spot-left.ensures.place c.spot-right.ensures.place c.spot-left.ensures.spot c.spot-right.ensures.spot in
    record {
      taken = kept_parts c.args.plan.now g.P.Dims.D c.part_at-x.result c.part_at-y.result;
      adds_them = c.meet.ensures.rows;
      split = both-passed c.args.plan.now pair (omega (arith, c.if-left-right.false, c.if-right-left.false))
          c.part_at-x.ensures.digits c.part_at-x.ensures.held c.part_at-y.ensures.digits c.part_at-y.ensures.held;
    }

pub side_by_side-loop-i-init : goal.side_by_side-loop-i-init
side_by_side-loop-i-init g t c = record {
  rows = record { taken = []; adds_them = g.met.S.RowSink.adds_none c.args.rows.now; split = refl };
  visits = refl;
  left = omega arith;
  right = omega arith;
}

pub side_by_side-loop-i-preserved : goal.side_by_side-loop-i-preserved
side_by_side-loop-i-preserved g t c = record {
  rows = taken-both g.S.RowSink.adds g.met.S.RowSink.adds_more _ _ _ _ _ _ c.loop-i.invariant.rows c.pair_at-next.ensures.rows;
  visits = omega (arith, c.pair_at-next.ensures.visits, c.loop-i.invariant.visits);
  left = omega (arith, c.pair_at-next.ensures.inside.0, c.len-lefts.ensures);
  right = omega (arith, c.pair_at-next.ensures.inside.1, c.len-rights.ensures);
}

-- all entries of one of the nodes are passed
done : (g : Over) (t : ℕ) (c : side_by_side-After-list_stretch_if-2 g t) →
    c.loop-i.i < length (side_entries c.args.a.now) → length (side_entries c.args.b.now) ≤ c.loop-i.j
done g t c l =
    elim c.loop-i-test.branch [
      | side_by_side-then-loop-i-test+else-j-rights w ↦ omega (arith, w.if-j-rights.false, c.len-rights.ensures)
      | side_by_side-else-loop-i-test w ↦ absurd (omega (arith, l, w.loop-i-test.false, c.len-lefts.ensures))
    ]

pub side_by_side-returns-clause-rows : goal.side_by_side-returns-clause-rows
side_by_side-returns-clause-rows g t c =
    let p = c.args.plan.now in
    let d = g.P.Dims.D in
    let n = shown c.args.a.now.node in
    let m = shown c.args.b.now.node in
    let ds = take g.P.Dims.D c.args.a.now.digits.now in
    let dt = take g.P.Dims.D c.args.b.now.digits.now in
    let left = chosen p.left (rows_in p.width n.level ds (stretch c.loop-i.i c.len-lefts.result (entries n))) in
    let right = chosen p.right (rows_in p.width m.level dt (stretch c.loop-i.j c.len-rights.result (entries m))) in
    let over = (goal.at.side_by_side-returns-clause-rows g t c).After-list_stretch_if-2 in
    let end : kept_from p d c.args.a.now c.loop-i.i c.args.b.now c.loop-i.j ≡ left ++ right =
    sides-end p ds dt n m c.loop-i.i c.loop-i.j (done g t over)
    ∙ ap (λ k. chosen p.left (rows_in p.width n.level ds (stretch c.loop-i.i k (entries n))) ++
    chosen p.right (rows_in p.width m.level dt (stretch c.loop-i.j (length (entries m)) (entries m))))
    (sym c.len-lefts.ensures)
    ∙ ap (λ k. left ++ chosen p.right (rows_in p.width m.level dt (stretch c.loop-i.j k (entries m)))) (sym c.len-rights.ensures) in
    taken-all g.S.RowSink.adds g.met.S.RowSink.adds_more _ _ _ _ _
    (taken-on g.S.RowSink.adds g.met.S.RowSink.adds_more _ _ _ _ _ left right c.loop-i.invariant.rows c.list_stretch_if.ensures.rows end)
    c.list_stretch_if-2.ensures.rows

pub side_by_side-returns-clause-visits : goal.side_by_side-returns-clause-visits
side_by_side-returns-clause-visits g t c =
    let p = c.args.plan.now in
    let a = c.args.a.now in
    let b = c.args.b.now in
    let n = side_node a in
    let m = side_node b in
    let over = (goal.at.side_by_side-returns-clause-visits g t c).After-list_stretch_if-2 in
    let first = rest-seen p.width p.left n.level (side_digits g.P.Dims.D a) (side_entries a) c.loop-i.i c.len-lefts.result c.len-lefts.ensures in
    let second = rest-seen p.width p.right m.level (side_digits g.P.Dims.D b) (side_entries b) c.loop-i.j c.len-rights.result c.len-rights.ensures in
    let bound = sides-end-work p (side_digits g.P.Dims.D a) (side_digits g.P.Dims.D b) n m c.loop-i.i c.loop-i.j (done g t over) in
    omega (arith, first, second, bound, c.loop-i.invariant.visits, c.list_stretch_if.ensures.visits, c.list_stretch_if-2.ensures.visits)
