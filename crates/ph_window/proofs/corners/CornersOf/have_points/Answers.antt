use Rattle.std.proofs.Common.{◌∙◌, ap, arith}
use Rattle.ph_path.specs.Known.{Known, point_at}
use Rattle.ph_window.specs.Corners.{Corners}
use Rattle.ph_window.proofs.Starts.{met-root}
use Rattle.ph_window.proofs.corners.CornersOf.have_points.Goals as goal

pub returns : goal.returns
returns g c =
    let s = c.args.self.now in
    let same = c.bits.ensures.value ∙ ap (λ (c : Corners). c.width) c.self.view_is in
    c.is_some.ensures
    ∙ met-root g.P.Dims.D s.width (point_at s.width s.low) (point_at s.width s.high)
    (omega (arith, c.bits.ensures.some, same)) same (ap (λ (k : Known). k.digits) c.new-known.ensures) c.masks.ensures
