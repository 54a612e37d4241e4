use Rattle.std.proofs.Common.{◌+◌, ◌*◌, ◌^◌, ℕ, true, sym, subst, arith}
use Rattle.ph_model.specs.Layout.{entries_as}
use Rattle.ph_specs.specs.Record.{first_in}
use Rattle.ph_model.proofs.laws.WordDigits.{each-fits}
use Rattle.ph_bits.specs.Packed.{IsBodyAt}
use Rattle.ph_linear.proofs.Halving.{shifted}
use Rattle.ph_cube.proofs.Bodies.{begins}
use Rattle.ph_cube.proofs.parts.body_of.Goals as goal

pub returns : goal.returns
returns c =
    let words = c.args.words.now in
    let d : ℕ = c.args.dims in
    let a : ℕ = c.args.addr in
    let i : ℕ = c.args.i in
    let r = c.requires in
    let h = each-fits words c.type_inv.words in
    subst (λ t. IsBodyAt d (first_in words).level words (entries_as true d words) i
    (64 + t * 2 + a * d * c.level_in.result)) (sym (shifted d (omega (arith, r.record.few))))
    (subst (λ t. IsBodyAt d (first_in words).level words (entries_as true d words) i (64 + 2 ^ d * 2 + a * d * t)) (sym c.level_in.ensures)
    (begins d words a i r.record h r.within r.stands))
