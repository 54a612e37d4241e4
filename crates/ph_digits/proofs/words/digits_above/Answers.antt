use Rattle.std.proofs.Common.{◌∙◌, ◌+◌, ◌≤◌, ap, arith}
use Rattle.std.specs.Prelude.{bit_and}
use Rattle.std.proofs.lemmas.Nat.Bits.{ones_shl, and_high_mask}
use Rattle.ph_digits.proofs.words.digits_above.Goals as goal

pub returns-clause-value : goal.returns-clause-value
returns-clause-value c =
    let within : c.args.place + 1 ≤ 64 = omega arith in
    ap (λ n. bit_and c.args.word n) (ones_shl 64 (c.args.place + 1) within) ∙ and_high_mask 64 (c.args.place + 1) within c.args.word (omega arith)
