use Rattle.std.proofs.Common.{arith, sym, subst}
use Rattle.ph_window.specs.Corners.{AreCorners}
use Rattle.ph_window.proofs.Starts.{start-corners, made-corners}
use Rattle.ph_window.proofs.corners.CornersOf.new.Goals as goal

pub invariant_of-result : goal.invariant_of-result
invariant_of-result g c =
    subst (AreCorners g.P.Dims.D) (sym
    (made-corners g.P.Dims.D c.args.w c.args.lo.now c.args.hi.now c.offsets_of.result c.offsets_of-2.result
    c.requires.lo c.requires.hi c.offsets_of.ensures.values c.offsets_of-2.ensures.values))
    (start-corners g.P.Dims.D c.args.w c.args.lo.now c.args.hi.now c.requires.few
    (omega (arith, c.bits-bits.ensures.value, c.bits-bits.ensures.some))
    (omega (arith, c.bits-bits.ensures.value, c.bits-bits.ensures.limit)) c.requires.lo c.requires.hi)

pub returns : goal.returns
returns g c = made-corners g.P.Dims.D c.args.w c.args.lo.now c.args.hi.now c.offsets_of.result c.offsets_of-2.result
    c.requires.lo c.requires.hi c.offsets_of.ensures.values c.offsets_of-2.ensures.values
