use Rattle.ph_engine.proofs.OwnDims.{header-given}
use Rattle.ph_engine.proofs.OwnHeaders.{own-line}
use Rattle.ph_engine.proofs.checking.snapshot_line.Goals as goal
use Rattle.ph_slot.specs.AnySlots.{any_slot}

pub returns-in-Err-clause-fault : goal.returns-in-Err-clause-fault
returns-in-Err-clause-fault g c = header-given c.args.bytes.now c.in-Err.fault c.in-Err.ensures.fault

pub returns-clause-line : goal.returns-clause-line
returns-clause-line g c =
    own-line _ _ _ c.args.bytes.now _ (any_slot c.in_ok-slot.slot) _ _ _ _ c.in_ok-slot.ensures.loaded c.slot_line.ensures.line c.slot_line.ensures.visits
