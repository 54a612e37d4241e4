-- Rows stand in an order.
use Rattle.std.proofs.Common.{◌≡◌, ℕ, ◌+◌, ◌-◌, ◌*◌, ◌%◌, ◌^◌, ◌<◌, ◌≤◌, map, ◌∙◌, ap, arith}
use Rattle.std.specs.Cmp.{IsStrictWeakOrder}
use Rattle.std.proofs.Math.Nat.{mod-eq_of_lt}
use Rattle.std.proofs.Math.Pow.{pow_mono, mod-mod-pow}
use Rattle.std.proofs.lemmas.List.MinMax.{ranks_by}
use Rattle.ph_specs.specs.Coordinate.{half}
use Rattle.ph_digits.specs.WordOrder.{words_total}
use Rattle.ph_bulk.specs.Order.{any_offset, row_before}

pub order : (w : ℕ) → IsStrictWeakOrder (row_before w)
order w = ranks_by words_total (λ r. map (any_offset w) r.point)

-- a sum of words that is cut at the width is the sum of numbers that is cut there
pub cut-sum : (w i j u : ℕ) → 1 ≤ w → w ≤ 62 → i ≡ w → j ≡ w → (u + 1 * 2 ^ (i - 1) % 2 ^ 64) % 2 ^ 64 % 2 ^ j ≡ (u + half w) % 2 ^ w
cut-sum w i j u positive l e f =
    let low : w - 1 ≤ 61 = omega (arith, l) in
    let small : 1 * 2 ^ (w - 1) < 2 ^ 64 = omega (arith, pow_mono {i = w - 1} {j = 61} low) in
    let alone : 1 * 2 ^ (w - 1) ≡ half w = omega arith in
    let whole : 64 ≡ (64 - w) + w = omega (arith, l) in
    (λ k. (u + 1 * 2 ^ (e k - 1) % 2 ^ 64) % 2 ^ 64 % 2 ^ f k)
    ∙ ap (λ n. (u + n) % 2 ^ 64 % 2 ^ w) (mod-eq_of_lt small ∙ alone)
    ∙ ap (λ n. (u + half w) % 2 ^ n % 2 ^ w) whole
    ∙ mod-mod-pow (u + half w) (64 - w) w
