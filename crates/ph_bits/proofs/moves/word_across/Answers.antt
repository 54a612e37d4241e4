use Rattle.std.proofs.Common.{◌≡◌, ◌∙◌, ◌^◌, ◌*◌, ◌%◌, ◌/◌, ◌-◌, ap, arith}
use Rattle.std.specs.Int.Bits.{bit_or}
use Rattle.ph_bits.proofs.FieldReads.{across-is}
use Rattle.ph_bits.proofs.moves.word_across.Goals as goal

pub returns : goal.returns
returns c =
    let e : c.args.behind ≡ 64 - c.args.front = omega (arith, c.requires.word) in
    ap (λ t. bit_or (c.args.first * 2 ^ c.args.front % 2 ^ 64) (c.args.last / 2 ^ t)) e
    ∙ across-is c.args.first c.args.last c.args.front (omega (arith, c.requires.inside)) c.ranges.last.fits
