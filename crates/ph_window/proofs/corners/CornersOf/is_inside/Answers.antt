use Rattle.std.proofs.Common.{ap, take, ◌∙◌}
use Rattle.ph_window.proofs.Between.{inside-seen}
use Rattle.ph_window.proofs.corners.CornersOf.is_inside.Goals as goal

pub returns : goal.returns
returns g c =
    c.are_between.ensures
    ∙ inside-seen c.self.invariant c.self.view_is c.requires c.digits.ensures.body c.digits.ensures.value
    (ap (λ n. take n c.self.inside.low) c.D-dims.ensures) (ap (λ n. take n c.self.inside.high) c.D-dims.ensures)
