use Rattle.std.proofs.Common.{◌≡◌, ◌≤◌, ◌+◌, ◌-◌, ◌*◌, ◌/◌, ◌%◌, ◌^◌, ℕ, ◌∙◌, ap, arith}
use Rattle.ph_bits.proofs.Stores.{shl_shr}
use Rattle.ph_bits.proofs.fields.part_of.Goals as goal

part : (x f w : ℕ) → f + w ≤ 64 → x * 2 ^ f % 2 ^ 64 / 2 ^ (64 - w) ≡ x / 2 ^ (64 - f - w) % 2 ^ w
part x f w l =
    let k : ℕ = 64 - f - w in
    let a : 64 ≡ w + (64 - f - w + f) = omega (arith, l) in
    let b : 64 - w ≡ 64 - f - w + f = omega (arith, l) in
    ap (λ t. x * 2 ^ f % 2 ^ t / 2 ^ (64 - w)) a ∙ ap (λ t. x * 2 ^ f % 2 ^ (w + (k + f)) / 2 ^ t) b ∙ shl_shr x f k w

pub returns : goal.returns
returns c = part c.args.word c.args.front c.args.width c.requires.inside
