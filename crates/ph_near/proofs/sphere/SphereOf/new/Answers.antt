use Rattle.std.proofs.Common.{arith, sym, subst}
use Rattle.ph_near.specs.BallSphere.{IsSphere}
use Rattle.ph_near.proofs.BallStarts.{made-sphere, start-sphere}
use Rattle.ph_near.proofs.sphere.SphereOf.new.Goals as goal

pub invariant_of-result : goal.invariant_of-result
invariant_of-result g c =
    subst (IsSphere g.P.Dims.D) (sym (made-sphere g.P.Dims.D c.args.w c.args.r c.args.q.now c.offsets_of.result c.requires.point c.offsets_of.ensures.values))
    (start-sphere g.P.Dims.D c.args.w c.args.r c.args.q.now c.requires.few
    (omega (arith, c.bits-bits.ensures.value, c.bits-bits.ensures.some))
    (omega (arith, c.bits-bits.ensures.value, c.bits-bits.ensures.limit)) c.requires.point)

pub returns : goal.returns
returns g c =
    made-sphere g.P.Dims.D c.args.w c.args.r c.args.q.now c.offsets_of.result c.requires.point c.offsets_of.ensures.values
