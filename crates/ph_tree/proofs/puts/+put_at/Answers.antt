use Rattle.std.proofs.Common.{◌-◌, ℕ, arith, rules, sym, ap, ◌∙◌}
use Rattle.ph_model.specs.EntryList.{node}
use Rattle.ph_model.specs.EntryEdits.{with_child}
use Rattle.ph_tree.proofs.PutCases.{found_as, put_as, lifted}
use Rattle.ph_tree.proofs.Walks.{IsStepAt, step_at, absent_found, same_found, same_value, same_spot, same_put, below_node}
use Rattle.ph_tree.proofs.Walks.{below_spot, below_rank, below_lent, way_below, other_found, other_opened}
use Rattle.ph_tree.proofs.puts.+put_at.Given.{Over}
use Rattle.ph_tree.proofs.puts.+put_at.Goals.{After-step}
use Rattle.ph_tree.proofs.puts.+put_at.Goals as goal

-- what the step finds in the node
stepped : (g : Over) (t : ℕ) (c : After-step g t) →
    IsStepAt g.P.Dims.D c.args.put.now.key.now.width c.args.put.now.key.now.point c.args.cur.now c.step.result
    (c.step.new.visits - c.visit-node.new.visits)
stepped g t c = step_at c.visit-node.ensures.shows c.requires.lawful c.step.ensures.step

pub replace_value-requires : goal.replace_value-requires
replace_value-requires g t c =
    let k = stepped g t (goal.at.replace_value-requires g t c).After-step in
    record { spot = same_spot k c.in-Same.is; point = same_value k c.in-Same.is }

pub child_mut-held-requires : goal.child_mut-held-requires
child_mut-held-requires g t c =
    let k = stepped g t (goal.at.child_mut-held-requires g t c).After-step in
    record { spot = below_spot k c.in-Below.is; child = below_node k c.in-Below.is; rank = below_rank k c.in-Below.is }

pub put_at-requires : goal.put_at-requires
put_at-requires g t c κs within =
    let k = stepped g t (goal.at.put_at-requires g t c).After-step in
    let below = way_below k c.in-Below.is (below_lent k c.in-Below.is (ap node c.node_mut.ensures.shows ∙ c.child_mut-held.ensures.shows)) in
    (omega (arith, below.lower, c.decreases), search (rules, within, below.lower, below.lawful, c.requires.level, c.requires.room))

pub returns-in-Absent-clause-put : goal.returns-in-Absent-clause-put
returns-in-Absent-clause-put g t c =
    found_as (sym (absent_found (stepped g t (goal.at.returns-in-Absent-clause-put g t c).After-step) c.in-Absent.is)) c.add_point.ensures.put

pub returns-in-Same-clause-put : goal.returns-in-Same-clause-put
returns-in-Same-clause-put g t c =
    let k = stepped g t (goal.at.returns-in-Same-clause-put g t c).After-step in
    found_as (sym (same_found k c.in-Same.is))
    (put_as (same_put k c.in-Same.is c.args.put.now.value) c.replace_value.ensures.put)

pub returns-in-Below-clause-put : goal.returns-in-Below-clause-put
returns-in-Below-clause-put g t c =
    let k = stepped g t (goal.at.returns-in-Below-clause-put g t c).After-step in
    let below = way_below k c.in-Below.is (below_lent k c.in-Below.is (ap node c.node_mut.ensures.shows ∙ c.child_mut-held.ensures.shows)) in
    lifted (with_child c.args.cur.now c.in-Below.spot.place) (sym below.found) below.back (below.put c.args.put.now.value) c.put_at.ensures.put

pub returns-in-Below-clause-visits : goal.returns-in-Below-clause-visits
returns-in-Below-clause-visits g t c =
    let k = stepped g t (goal.at.returns-in-Below-clause-visits g t c).After-step in
    let below = way_below k c.in-Below.is (below_lent k c.in-Below.is (ap node c.node_mut.ensures.shows ∙ c.child_mut-held.ensures.shows)) in
    omega (arith, below.one, below.opened, c.in-Below.ensures.cost, c.put_at.ensures.visits, c.visit-node.ensures.cost)

pub returns-in-Other-clause-put : goal.returns-in-Other-clause-put
returns-in-Other-clause-put g t c =
    found_as (sym (other_found (stepped g t (goal.at.returns-in-Other-clause-put g t c).After-step) c.in-Other.is)) c.split_entry.ensures.put

pub returns-in-Other-clause-visits : goal.returns-in-Other-clause-visits
returns-in-Other-clause-visits g t c =
    omega (arith, other_opened (stepped g t (goal.at.returns-in-Other-clause-visits g t c).After-step) c.in-Other.is, c.in-Other.ensures.cost, c.visit-node.ensures.cost)
