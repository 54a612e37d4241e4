use Rattle.std.proofs.Common.{ap, take, ◌∙◌}
use Rattle.ph_window.proofs.Between.{body-seen, masks-seen}
use Rattle.ph_window.proofs.corners.CornersOf.masks.Goals as goal

pub offset_masks-requires-clause-small : goal.offset_masks-requires-clause-small
offset_masks-requires-clause-small g c =
    (body-seen c.self.invariant c.self.view_is c.requires.width c.digits.ensures.body c.digits.ensures.value).1

pub returns : goal.returns
returns g c =
    c.offset_masks.ensures
    ∙ masks-seen c.self.invariant c.self.view_is c.requires.width c.digits.ensures.body c.digits.ensures.value
    (ap (λ n. take n c.self.inside.low) c.D-dims.ensures) (ap (λ n. take n c.self.inside.high) c.D-dims.ensures)
    c.args.level c.requires.level
