use Rattle.std.proofs.Common.{◌∙◌, sym}
use Rattle.ph_slot.specs.AnySlots.{any_slot}
use Rattle.ph_slot.proofs.Refused.{wrong-dims-begun}
use Rattle.ph_slot.proofs.slot.Slot.begin.Goals as goal

pub returns-then-has_wrong_dims : goal.returns-then-has_wrong_dims
returns-then-has_wrong_dims c =
    wrong-dims-begun (any_slot c.args.self.now) c.args.kind c.args.k c.args.width c.args.max (sym c.has_wrong_dims.ensures ∙ c.if-has_wrong_dims.true)
