use Rattle.std.proofs.Common.{inl, inr}
use Rattle.ph_tree.proofs.Walks.{ended_missing, ended_same, goes_below, goes_lower}
use Rattle.ph_tree.proofs.find.find_in.Goals as goal

pub returns-in-Absent : goal.returns-in-Absent
returns-in-Absent g c =
    let told = ended_missing c.down.invariant c.step.ensures.step c.step.ensures.cost (inl (_, c.in-Absent.is)) in
    record { found = told.0; cost = told.1 }

pub returns-in-Same : goal.returns-in-Same
returns-in-Same g c =
    let told = ended_same c.down.invariant c.step.ensures.step c.step.ensures.cost c.in-Same.is in
    record { found = told.0; cost = told.1 }

pub down-smaller : goal.down-smaller
down-smaller g c = goes_lower c.down.invariant c.step.ensures.step c.step.ensures.cost c.in-Below.is

pub down-preserved : goal.down-preserved
down-preserved g c = goes_below c.down.invariant c.step.ensures.step c.step.ensures.cost c.in-Below.is

pub returns-in-Other : goal.returns-in-Other
returns-in-Other g c =
    let told = ended_missing c.down.invariant c.step.ensures.step c.step.ensures.cost (inr (_, c.in-Other.is)) in
    record { found = told.0; cost = told.1 }
