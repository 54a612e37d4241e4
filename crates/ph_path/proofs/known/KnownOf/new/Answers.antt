use Rattle.std.proofs.Common.{arith, ap, sym, subst}
use Rattle.ph_path.specs.Known.{AreKnown, known_at}
use Rattle.ph_path.proofs.Knowns.{start-known, take-zeros}
use Rattle.ph_path.proofs.known.KnownOf.new.Goals as goal

pub invariant_of-result : goal.invariant_of-result
invariant_of-result g c =
    subst (λ xs. AreKnown g.P.Dims.D (known_at c.args.w xs)) (sym (take-zeros g.P.Dims.D 16 c.requires.few))
    (start-known g.P.Dims.D c.args.w c.requires.some c.requires.few
    (omega (arith, c.bits-bits.ensures.value, c.bits-bits.ensures.some))
    (omega (arith, c.bits-bits.ensures.value, c.bits-bits.ensures.limit)))

pub returns : goal.returns
returns g c = ap (known_at c.args.w) (take-zeros g.P.Dims.D 16 c.requires.few)
