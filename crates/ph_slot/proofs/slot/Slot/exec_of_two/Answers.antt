use Rattle.std.proofs.Common.{◌∙◌, sym}
use Rattle.ph_slot.proofs.Variants.{two-dims}
use Rattle.ph_slot.proofs.slot.Slot.exec_of_two.Goals as goal

pub unreachable-requires : goal.unreachable-requires
unreachable-requires g c =
    two-dims c.args.self.now (sym c.dims-dims.ensures.known ∙ c.dims-dims.ensures.value ∙ c.requires.two) c.in_default.not-D2

pub returns-clause-done : goal.returns-clause-done
returns-clause-done g c = rw c.in-D2.is c.exec.ensures.done
