use Rattle.std.proofs.Common.{◌*◌, ◌/◌, ◌%◌, ◌^◌, ◌<◌, ◌≤◌, ap, ◌∙◌, arith}
use Rattle.std.proofs.Math.Nat.{pow-le-pow_right}
use Rattle.ph_bits.specs.Fields.{cut}
use Rattle.ph_bits.proofs.Packing.{cut-small}
use Rattle.ph_bits.proofs.PenSteps.{masked}
use Rattle.ph_bits.proofs.beside.cut.Goals as goal

pub returns-clause-value : goal.returns-clause-value
returns-clause-value c =
    let o : 0 < 2 = omega arith in
    let p : 2 ^ c.args.width ≤ 2 ^ 63 = pow-le-pow_right o c.requires.digits in
    let s : cut c.args.width c.args.low c.args.number < 2 ^ c.args.width = cut-small c.args.width c.args.low c.args.number in
    ap (λ t. t / 2 ^ c.args.low * 2 ^ c.args.low % 2 ^ 64) (masked c.args.number c.args.width (omega (arith, c.requires.digits))) ∙ omega (arith, s, p)
