use Rattle.std.proofs.Common.{inl, inr, refl, sym, ap, ◌∙◌}
use Rattle.ph_node.specs.Shown.{shown}
use Rattle.ph_tree.specs.Rooms.{spare_room}
use Rattle.ph_tree.proofs.Walks.{on_step, ended_missing, ended_same, goes_below, goes_lower}
use Rattle.ph_tree.proofs.Wanted.{same_left, below_left_room}
use Rattle.ph_tree.proofs.find.find_spare_in.Goals as goal

pub down-init : goal.down-init
down-init g c =
    record {
      way = record { lawful = c.requires.lawful; level = c.requires.level; found = refl; cost = refl };
      room = refl;
    }

pub spare_room-room-requires-clause-lawful : goal.spare_room-room-requires-clause-lawful
spare_room-room-requires-clause-lawful g c = c.down.invariant.way.lawful

pub step-requires-clause-lawful : goal.step-requires-clause-lawful
step-requires-clause-lawful g c = c.down.invariant.way.lawful

pub step-requires-clause-level : goal.step-requires-clause-level
step-requires-clause-level g c = c.down.invariant.way.level

pub returns-in-Absent : goal.returns-in-Absent
returns-in-Absent g c =
    let told = ended_missing c.down.invariant.way c.step.ensures.step c.step.ensures.cost (inl (_, c.in-Absent.is)) in
    record { found = sym told.0; room = tt; limit = tt; cost = told.1 }

pub returns-in-Same-clause-found : goal.returns-in-Same-clause-found
returns-in-Same-clause-found g c =
    sym (ended_same c.down.invariant.way c.step.ensures.step c.step.ensures.cost c.in-Same.is).0

pub returns-in-Same-clause-room : goal.returns-in-Same-clause-room
returns-in-Same-clause-room g c =
    let n = shown c.down.node in
    c.spare_room-room.ensures.room ∙ ap (λ w. spare_room w g.P.Dims.D n.level n.chain) c.width.ensures.value
    ∙ sym (same_left (on_step c.down.invariant.way c.step.ensures.step c.step.ensures.cost) c.in-Same.is) ∙ c.down.invariant.room

pub returns-in-Same-clause-cost : goal.returns-in-Same-clause-cost
returns-in-Same-clause-cost g c =
    (ended_same c.down.invariant.way c.step.ensures.step c.step.ensures.cost c.in-Same.is).1

pub down-smaller : goal.down-smaller
down-smaller g c = goes_lower c.down.invariant.way c.step.ensures.step c.step.ensures.cost c.in-Below.is

pub down-preserved : goal.down-preserved
down-preserved g c =
    let k = on_step c.down.invariant.way c.step.ensures.step c.step.ensures.cost in
    record {
      way = goes_below c.down.invariant.way c.step.ensures.step c.step.ensures.cost c.in-Below.is;
      room = sym (below_left_room k c.in-Below.is) ∙ c.down.invariant.room;
    }

pub returns-in-Other : goal.returns-in-Other
returns-in-Other g c =
    let told = ended_missing c.down.invariant.way c.step.ensures.step c.step.ensures.cost (inr (_, c.in-Other.is)) in
    record { found = sym told.0; room = tt; limit = tt; cost = told.1 }
