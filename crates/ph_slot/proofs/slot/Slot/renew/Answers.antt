use Rattle.std.proofs.Common.{◌∙◌, ap}
use Rattle.ph_specs.specs.State.{empty_slot}
use Rattle.ph_slot.specs.AnySlots.{any_slot}
use Rattle.ph_slot.proofs.Paged.{slot-begun}
use Rattle.ph_slot.proofs.slot.Slot.renew.Goals as goal

pub returns : goal.returns
returns c =
    slot-begun (any_slot c.args.self.now) (any_slot c.replace.new.dest) c.args.kind c.args.k c.args.width c.args.max c.requires
    (ap any_slot c.replace.ensures.after ∙ c.open.ensures
    ∙ (λ i. empty_slot c.args.kind (c.tree_dims.ensures.value i) (c.in-Some.ensures.1 i) c.args.max))
