use Rattle.std.proofs.Common.{ℕ, arith, sym, subst, ap, ◌∙◌, map, take}
use Rattle.ph_specs.specs.Coordinate.{coordinate}
use Rattle.ph_tree.specs.Key.{IsKey}
use Rattle.ph_tree.proofs.Offsets.{made, given_back}
use Rattle.ph_tree.proofs.key.KeyOf.new.Goals as goal

pub invariant_of-result : goal.invariant_of-result
invariant_of-result g c =
    subst (λ (w : ℕ). IsKey g.P.Dims.D w c.offsets_of.result) (sym c.bits.ensures.value)
    (made c.args.w g.P.Dims.D c.args.coords.now c.offsets_of.result c.requires.some c.requires.few
    (omega (arith, c.bits.ensures.value, c.bits.ensures.some))
    (omega (arith, c.bits.ensures.value, c.bits.ensures.limit)) c.requires.point c.offsets_of.ensures.values
    c.offsets_of.ensures.zeros)

pub returns-clause-point : goal.returns-clause-point
returns-clause-point g c =
    ap (λ (w : ℕ). map (coordinate w) (take g.P.Dims.D c.offsets_of.result)) c.bits.ensures.value
    ∙ given_back c.args.w g.P.Dims.D c.args.coords.now c.offsets_of.result c.requires.point c.offsets_of.ensures.values
