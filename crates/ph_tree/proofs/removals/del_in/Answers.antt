use Rattle.std.proofs.Common.{◌≡◌, ◌∙◌, ◌-◌, ◌≤◌, length, ap, arith, refl, subst, sym}
use Rattle.std.specs.Prelude.{Some}
use Rattle.ph_model.specs.DelTree.{del_node}
use Rattle.ph_specs.specs.Node.{PlainNode}
use Rattle.ph_model.specs.EntryList.{entries}
use Rattle.ph_tree.specs.Opened.{opened_in}
use Rattle.ph_tree.specs.Rooms.{relaid_room}
use Rattle.ph_tree.specs.Spares.{HasRoom}
use Rattle.ph_tree.proofs.Gone.{root_lawful, root_some, root_found, root_kept, root_gone, missing_del, same_del, same_length, below_left}
use Rattle.ph_tree.proofs.RemovalCases.{lifted, removal_as, unfound}
use Rattle.ph_tree.proofs.Walks.{IsStepAt, step_at, missing_found, missing_opened, same_found, same_opened, same_value, same_spot}
use Rattle.ph_tree.proofs.Walks.{below_leading, way_below, some_none}
use Rattle.ph_tree.proofs.Wanted.{same_wanted, root_wanted}
use Rattle.ph_tree.proofs.removals.del_in.Given.{Over}
use Rattle.ph_tree.proofs.removals.del_in.Goals.{After-step, After-relaid_room-room}
use Rattle.ph_tree.proofs.removals.del_in.Goals as goal

-- what the step finds in the root
stepped : (g : Over) (c : After-step g) →
    IsStepAt g.P.Dims.D c.args.key.now.width c.args.key.now.point c.in-Some.node c.step.result (c.step.new.visits - c.visit-top.new.visits)
stepped g c =
    let root = root_lawful c.args.key.now.width g.P.Dims.D c.args.key.now.point c.in-Some.node _ c.in-Some.ensures.value c.requires.lawful in
    step_at c.visit-top.ensures.shows root.2 c.step.ensures.step

-- the root has an entry
some : (g : Over) (c : After-step g) → 1 ≤ length (entries c.in-Some.node)
some g c = root_some c.args.key.now.width g.P.Dims.D c.args.key.now.point c.in-Some.node _ c.in-Some.ensures.value c.requires.lawful

-- the nodes that are opened
opened : (g : Over) (c : After-step g) →
    opened_in c.args.key.now.width c.args.root.now c.args.key.now.point
    ≡ opened_in c.args.key.now.width (Some c.in-Some.node) c.args.key.now.point
opened g c = ap (λ t. opened_in c.args.key.now.width t c.args.key.now.point) (sym c.in-Some.ensures.value)

-- the room that the root wants
room_taken : (g : Over) (c : After-relaid_room-room g) → c.relaid_room-room.result ≡ relaid_room g.P.Dims.D c.in-Some.node.level c.in-Some.node.chain
room_taken g c =
    c.relaid_room-room.ensures.room ∙ ap (λ n. relaid_room g.P.Dims.D n.level n.chain) c.visit-top.ensures.shows

pub drop_point-found-requires : goal.drop_point-found-requires
drop_point-found-requires g c =
    let at = goal.at.drop_point-found-requires g c in
    let k = stepped g at.After-step in
    let long = c.len.ensures ∙ ap (λ n. length (entries n)) c.visit-top.ensures.shows in
    record {
      spot = same_spot k c.in-Same.is;
      point = same_value k c.in-Same.is;
      many = omega (arith, some g at.After-step, long, c.if-len-eq1.false);
      room = room_taken g at.After-relaid_room-room;
      limit = omega (arith, c.relaid_room-room.ensures.limit);
    }

pub del_below-found-requires-clause-leads : goal.del_below-found-requires-clause-leads
del_below-found-requires-clause-leads g c =
    below_leading (stepped g (goal.at.del_below-found-requires-clause-leads g c).After-step) c.in-Below.is

-- ---- the point is not there

pub returns-in-Absent : goal.returns-in-Absent
returns-in-Absent g c =
    let at = (goal.at.returns-in-Absent g c).After-step in
    let w = c.args.key.now.width in
    let p = c.args.key.now.point in
    let root = c.in-Some.ensures.value in
    let k = stepped g at in
    let same = missing_del k c.in-Absent.is in
    let left : 1 ≤ length (entries (del_node w c.in-Some.node p)) = subst (λ u. 1 ≤ length (entries u)) same (some g at) in
    let found = root_found w g.P.Dims.D p c.in-Some.node _ root c.requires.lawful in
    let kept = root_kept w g.P.Dims.D p c.in-Some.node _ root c.requires.lawful left in
    record {
      del = lifted (λ (n : PlainNode). Some n) found root kept (unfound (missing_found k c.in-Absent.is) same);
      roomy = λ _. refl;
      visits = omega (arith, opened g at, missing_opened k c.in-Absent.is, c.step.ensures.cost, c.visit-top.ensures.cost);
      later = omega (arith, c.step.ensures.cost, c.visit-top.ensures.cost);
    }

-- ---- it is the only entry

pub returns-then-len-eq1 : goal.returns-then-len-eq1
returns-then-len-eq1 g c =
    let at = (goal.at.returns-then-len-eq1 g c).After-step in
    let w = c.args.key.now.width in
    let p = c.args.key.now.point in
    let root = c.in-Some.ensures.value in
    let k = stepped g at in
    let one : length (entries c.in-Some.node) ≡ 1 =
    sym (ap (λ n. length (entries n)) c.visit-top.ensures.shows) ∙ sym c.len.ensures ∙ c.if-len-eq1.true in
    let none : length (entries (del_node w c.in-Some.node p)) ≡ 0 = omega (arith, same_length k c.in-Same.is, one) in
    let found = sym (same_found k c.in-Same.is) ∙ root_found w g.P.Dims.D p c.in-Some.node _ root c.requires.lawful in
    record {
      del = record {
        answer = found;
        del = c.take.ensures.after ∙ root_gone w g.P.Dims.D p c.in-Some.node _ root c.requires.lawful none;
        err = tt;
        absent = λ _. refl;
        changes = omega (arith, c.dissolve.ensures);
        idle = λ no. some_none (found ∙ no);
        spared = tt;
        kept = omega (arith, c.dissolve.ensures);
        made = λ _. omega (arith, c.dissolve.ensures);
      };
      roomy = λ _. refl;
      visits = omega (arith, opened g at, same_opened k c.in-Same.is, c.in-Same.ensures.cost, c.visit-top.ensures.cost);
      later = omega (arith, c.in-Same.ensures.cost, c.visit-top.ensures.cost);
    }

-- ---- the root loses it

pub returns-else-len-eq1 : goal.returns-else-len-eq1
returns-else-len-eq1 g c =
    let at = goal.at.returns-else-len-eq1 g c in
    let w = c.args.key.now.width in
    let p = c.args.key.now.point in
    let root = c.in-Some.ensures.value in
    let k = stepped g at.After-step in
    let drop = c.drop_point-found.ensures in
    let long = c.len.ensures ∙ ap (λ n. length (entries n)) c.visit-top.ensures.shows in
    let left : 1 ≤ length (entries (del_node w c.in-Some.node p)) =
    omega (arith, some g at.After-step, same_length k c.in-Same.is, long, c.if-len-eq1.false) in
    let found = root_found w g.P.Dims.D p c.in-Some.node _ root c.requires.lawful in
    let kept = root_kept w g.P.Dims.D p c.in-Some.node _ root c.requires.lawful left in
    let wanted = root_wanted w g.P.Dims.D p c.in-Some.node _ root left ∙ same_wanted k c.in-Same.is
    ∙ sym (room_taken g at.After-relaid_room-room) in
    record {
      del = rw c.outcome.ensures (lifted (λ (n : PlainNode). Some n) found root kept
          (removal_as (sym (same_found k c.in-Same.is)) (same_del k c.in-Same.is) drop.del));
      roomy = λ room. rw c.outcome.ensures (drop.roomy (subst (HasRoom c.args.removal.now) wanted room));
      visits = omega (arith, opened g at.After-step, same_opened k c.in-Same.is, c.in-Same.ensures.cost, c.visit-top.ensures.cost);
      later = omega (arith, c.in-Same.ensures.cost, c.visit-top.ensures.cost);
    }

-- ---- a child leads to it

pub returns-in-Below : goal.returns-in-Below
returns-in-Below g c =
    let at = (goal.at.returns-in-Below g c).After-step in
    let w = c.args.key.now.width in
    let p = c.args.key.now.point in
    let root = c.in-Some.ensures.value in
    let k = stepped g at in
    let del = c.del_below-found.ensures in
    let left : 1 ≤ length (entries (del_node w c.in-Some.node p)) = below_left k c.in-Below.is 1 (some g at) in
    let found = root_found w g.P.Dims.D p c.in-Some.node _ root c.requires.lawful in
    let kept = root_kept w g.P.Dims.D p c.in-Some.node _ root c.requires.lawful left in
    let wanted = root_wanted w g.P.Dims.D p c.in-Some.node _ root left in
    record {
      del = rw c.outcome-in-Below.ensures (lifted (λ (n : PlainNode). Some n) found root kept del.del);
      roomy = λ room. rw c.outcome-in-Below.ensures (del.roomy (subst (HasRoom c.args.removal.now) wanted room));
      visits = omega (arith, opened g at, (way_below k c.in-Below.is refl).one, c.in-Below.ensures.cost, del.visits, c.visit-top.ensures.cost);
      later = omega (arith, c.in-Below.ensures.cost, del.later, c.visit-top.ensures.cost);
    }
