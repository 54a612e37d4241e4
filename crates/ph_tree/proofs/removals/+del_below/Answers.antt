use Rattle.std.proofs.Common.{◌≡◌, ◌-◌, ◌≤◌, ℕ, length, arith, refl, rules, sym, ap, ◌∙◌, subst}
use Rattle.std.specs.Prelude.{Some}
use Rattle.ph_model.specs.EntryList.{entries, node}
use Rattle.ph_model.specs.DelTree.{del_node}
use Rattle.ph_model.specs.EntryEdits.{with_child, what_at}
use Rattle.ph_node.specs.Merge.{IsPair, entries_held, merge_node}
use Rattle.ph_node.specs.Shown.{shown}
use Rattle.ph_node.specs.Split.{IsValue, body_at}
use Rattle.ph_node.specs.Spots.{IsSpot}
use Rattle.ph_tree.specs.declared.step.StepOf.TheVariants.{Below}
use Rattle.ph_tree.specs.Rooms.{relaid_room}
use Rattle.ph_tree.specs.Spares.{HasRoom}
use Rattle.ph_tree.proofs.Walks.{IsStepAt, IsWayBelow, step_at, same_found, same_opened, same_value, same_spot}
use Rattle.ph_tree.proofs.Walks.{below_leading, leading_node, leading_spot, leading_step, missing_found, missing_opened, way_below, some_none}
use Rattle.ph_tree.proofs.Gone.{missing_del, same_own, same_del, same_length, below_many, below_left, below_del, merges}
use Rattle.ph_tree.proofs.RemovalCases.{removal_as, lifted, unfound}
use Rattle.ph_tree.proofs.Wanted.{same_wanted, child_wanted}
use Rattle.ph_tree.proofs.removals.+del_below.Given.{Over}
use Rattle.ph_tree.proofs.removals.+del_below.Goals.{After-step, After-relaid_room-room}
use Rattle.ph_tree.proofs.removals.+del_below.Goals as goal

-- the way to the child
leads : (g : Over) (t : ℕ) (c : After-step g t) →
    IsStepAt g.P.Dims.D c.args.key.now.width c.args.key.now.point c.args.cur.now (Below c.args.spot c.args.rank c.visit-below.result) 1
leads g t c = leading_step c.requires.leads c.requires.lawful c.visit-below.result
    (ap node (c.visit-below.ensures.shows ∙ c.node_mut-child.ensures.shows) ∙ c.child_mut-held.ensures.shows)

-- what the node has of the child
below : (g : Over) (t : ℕ) (c : After-step g t) →
    IsWayBelow g.P.Dims.D c.args.key.now.width c.args.key.now.point c.args.cur.now c.args.spot.place c.node_mut-child.result.now 1
below g t c = way_below (leads g t c) refl c.visit-below.ensures.shows

-- the child has two entries
many : (g : Over) (t : ℕ) (c : After-step g t) → 2 ≤ length (entries c.node_mut-child.result.now)
many g t c = below_many (leads g t c) refl c.visit-below.ensures.shows

-- what the step finds in the child
stepped : (g : Over) (t : ℕ) (c : After-step g t) →
    IsStepAt g.P.Dims.D c.args.key.now.width c.args.key.now.point c.node_mut-child.result.now c.step.result
    (c.step.new.visits - c.visit-below.new.visits)
stepped g t c = step_at c.visit-below.ensures.shows (below g t c).lawful c.step.ensures.step

-- the room that the child wants
room_taken : (g : Over) (t : ℕ) (c : After-relaid_room-room g t) →
    c.relaid_room-room.result ≡ relaid_room g.P.Dims.D c.node_mut-child.result.now.level c.node_mut-child.result.now.chain
room_taken g t c =
    c.relaid_room-room.ensures.room ∙ ap (λ n. relaid_room g.P.Dims.D n.level n.chain) c.visit-below.ensures.shows

pub child_mut-held-requires : goal.child_mut-held-requires
child_mut-held-requires g t c =
    record { spot = leading_spot c.requires.leads; child = leading_node c.requires.leads; rank = c.requires.leads.place }

pub step-requires : goal.step-requires
step-requires g t c =
    let k = leading_step c.requires.leads c.requires.lawful c.visit-below.result
    (ap node (c.visit-below.ensures.shows ∙ c.node_mut-child.ensures.shows) ∙ c.child_mut-held.ensures.shows) in
    let way = way_below k refl refl in
    record { lawful = way.lawful; level = omega (arith, way.lower, c.requires.level) }

pub drop_child-requires : goal.drop_child-requires
drop_child-requires g t c =
    let at = (goal.at.drop_child-requires g t c).After-step in
    let n = c.args.cur.now in
    let i = c.args.spot.place in
    let two : length (entries (shown c.visit-below.result)) ≡ 2 = omega (arith, c.len-pair.ensures, c.if-pair.true) in
    let k = step_at refl (way_below (leads g t at) refl refl).lawful c.step.ensures.step in
    let m = merges (leads g t at) refl (two, same_own k c.in-Same.is) in
    let back = sym (below g t at).back in
    record {
      spot = subst (λ u. IsSpot (entries u) c.args.spot) back m.there;
      child = subst (λ u. IsPair n.level (body_at (entries u) i) (what_at (entries u) i)) back m.pair;
      one = m.one;
      point = subst (λ u. IsValue (what_at (entries_held (what_at (entries u) i)) c.in-Same.own.place)) back m.point;
    }

pub relaid_room-room-requires-clause-lawful : goal.relaid_room-room-requires-clause-lawful
relaid_room-room-requires-clause-lawful g t c =
    (way_below (leads g t (goal.at.relaid_room-room-requires-clause-lawful g t c).After-step) refl refl).lawful

pub drop_point-requires : goal.drop_point-requires
drop_point-requires g t c =
    let at = goal.at.drop_point-requires g t c in
    let k = stepped g t at.After-step in
    record {
      spot = same_spot k c.in-Same.is;
      point = same_value k c.in-Same.is;
      many = many g t at.After-step;
      room = room_taken g t at.After-relaid_room-room;
      limit = omega (arith, c.relaid_room-room.ensures.limit);
    }

pub del_below-requires : goal.del_below-requires
del_below-requires g t c κs within =
    let at = (goal.at.del_below-requires g t c).After-step in
    let way = below g t at in
    let leading = below_leading (stepped g t at) c.in-Below.is in
    (omega (arith, way.lower, c.decreases), search (rules, within, way.lower, way.lawful, c.requires.level, leading))

pub returns-in-Absent : goal.returns-in-Absent
returns-in-Absent g t c =
    let at = (goal.at.returns-in-Absent g t c).After-step in
    let k = stepped g t at in
    let way = below g t at in
    let same = missing_del k c.in-Absent.is in
    let kept = subst (λ u. 2 ≤ length (entries u)) same (many g t at) in
    record {
      del = lifted (with_child c.args.cur.now c.args.spot.place) (sym way.found) way.back
          (below_del (leads g t at) refl c.visit-below.ensures.shows kept) (unfound (missing_found k c.in-Absent.is) same);
      roomy = λ _. refl;
      visits = omega (arith, way.opened, missing_opened k c.in-Absent.is, c.step.ensures.cost, c.visit-below.ensures.cost);
      later = omega (arith, c.step.ensures.cost, c.visit-below.ensures.cost);
    }

pub returns-then-pair : goal.returns-then-pair
returns-then-pair g t c =
    let at = (goal.at.returns-then-pair g t c).After-step in
    let way = below g t at in
    let two : length (entries (shown c.visit-below.result)) ≡ 2 = omega (arith, c.len-pair.ensures, c.if-pair.true) in
    let k = step_at refl (way_below (leads g t at) refl refl).lawful c.step.ensures.step in
    let m = merges (leads g t at) refl (two, same_own k c.in-Same.is) in
    let drop = c.drop_child.ensures in
    record {
      del = record {
        answer = ap Some drop.value ∙ sym m.found;
        del = drop.del ∙ ap (λ u. merge_node u c.args.spot.place c.in-Same.own.place) way.back ∙ m.del;
        err = tt;
        absent = λ _. refl;
        changes = omega (arith, drop.cost);
        idle = λ none. some_none (sym m.found ∙ none);
        spared = tt;
        kept = omega (arith, drop.cost);
        made = λ _. omega (arith, drop.cost);
      };
      roomy = λ _. refl;
      visits = omega (arith, way.opened, same_opened (stepped g t at) c.in-Same.is, c.in-Same.ensures.cost, c.visit-below.ensures.cost);
      later = omega (arith, c.in-Same.ensures.cost, c.visit-below.ensures.cost);
    }

pub returns-else-pair : goal.returns-else-pair
returns-else-pair g t c =
    let at = goal.at.returns-else-pair g t c in
    let step = at.After-step in
    let way = below g t step in
    let k = stepped g t step in
    let drop = c.drop_point.ensures in
    let long = c.len-pair.ensures ∙ ap (λ n. length (entries n)) c.visit-below.ensures.shows in
    let kept : 2 ≤ length (entries (del_node c.args.key.now.width c.node_mut-child.result.now c.args.key.now.point)) =
    omega (arith, same_length k c.in-Same.is, many g t step, long, c.if-pair.false) in
    let wanted = child_wanted (leads g t step) refl c.visit-below.ensures.shows kept ∙ same_wanted k c.in-Same.is
    ∙ sym (room_taken g t at.After-relaid_room-room) in
    record {
      del = lifted (with_child c.args.cur.now c.args.spot.place) (sym way.found) way.back
          (below_del (leads g t step) refl c.visit-below.ensures.shows kept)
          (removal_as (sym (same_found k c.in-Same.is)) (same_del k c.in-Same.is) drop.del);
      roomy = λ room. drop.roomy (subst (HasRoom c.args.removal.now) wanted room);
      visits = omega (arith, way.opened, same_opened k c.in-Same.is, c.in-Same.ensures.cost, c.visit-below.ensures.cost);
      later = omega (arith, c.in-Same.ensures.cost, c.visit-below.ensures.cost);
    }

pub returns-in-Below : goal.returns-in-Below
returns-in-Below g t c =
    let at = (goal.at.returns-in-Below g t c).After-step in
    let way = below g t at in
    let k = stepped g t at in
    let del = c.del_below.ensures in
    let kept = below_left k c.in-Below.is 2 (many g t at) in
    record {
      del = lifted (with_child c.args.cur.now c.args.spot.place) (sym way.found) way.back
          (below_del (leads g t at) refl c.visit-below.ensures.shows kept) del.del;
      roomy = λ room. del.roomy
          (subst (HasRoom c.args.removal.now) (child_wanted (leads g t at) refl c.visit-below.ensures.shows kept) room);
      visits = omega (arith, way.opened, (way_below k c.in-Below.is refl).one, c.in-Below.ensures.cost, del.visits, c.visit-below.ensures.cost);
      later = omega (arith, c.in-Below.ensures.cost, del.later, c.visit-below.ensures.cost);
    }
