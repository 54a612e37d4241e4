-- How many words a record has.
use Rattle.std.proofs.Common.{◌≡◌, ℕ, zero, suc, ◌+◌, ◌-◌, ◌*◌, ◌/◌, ◌%◌, ◌^◌, ◌<◌, ◌≤◌, List, length, ap, ◌∙◌, subst, arith}
use Rattle.std.proofs.Math.Nat.{mul-le-mul, div-mul-le_self, mul-mod_left}
use Rattle.std.proofs.Math.Pow.{pow_mono}
use Rattle.std.proofs.lemmas.Nat.{pow_pos}
use Rattle.std.proofs.lemmas.List.{length-append}
use Rattle.ph_specs.specs.Digits.{digits_of, words_for, words_of}
use Rattle.ph_model.specs.Layout.{AreRising}
use Rattle.ph_specs.specs.Node.{Flat}
use Rattle.ph_specs.specs.Pack.{is_cube, table, values, linear_digits, record_of}
use Rattle.ph_model.proofs.lemmas.LayoutTables.{table-digits}
use Rattle.ph_specs.proofs.lemmas.Numbers.{length-words_of}
use Rattle.ph_bits.specs.Edits.{least_digits, words_wanted}

pub record-long : (d level : ℕ) (fs : List Flat) → AreRising d level 0 fs → length (record_of d level fs) ≡ words_wanted d level (length fs) (length (values fs))
record-long d level fs h =
    let a = length-append (words_of (table (is_cube d level (length fs)) d level fs)) (values fs) in
    let b = length-words_of (table (is_cube d level (length fs)) d level fs) in
    let c : words_for (digits_of (table (is_cube d level (length fs)) d level fs)) ≡
    words_for (least_digits d level (length fs)) = ap words_for (table-digits (is_cube d level (length fs)) d level 0 fs h) in
    omega (arith, a, b, c)

-- of equally many entries they differ as the numbers of points do
pub length-by_points : (d level : ℕ) (fs gs : List Flat) → AreRising d level 0 fs → AreRising d level 0 gs →
    length fs ≡ length gs → length (record_of d level fs) + length (values gs) ≡ length (record_of d level gs) +
    length (values fs)
length-by_points d level fs gs h k e =
    let a : words_for (least_digits d level (length fs)) ≡ words_for (least_digits d level (length gs)) = ap (λ n. words_for (least_digits d level n)) e in
    omega (arith, record-long d level fs h, record-long d level gs k, a)

-- ---- limits

pub digits-few : (d level n : ℕ) → d ≤ 16 → level ≤ 61 → n ≤ 2 ^ d → linear_digits d level n ≤ 2 ^ 16 * 993
digits-few d level n few low h =
    let a : d * level ≤ 16 * 61 = mul-le-mul few low in
    let b : 1 + d + d * level ≤ 993 = omega (arith, a, few) in
    let c : 2 ^ d ≤ 2 ^ 16 = pow_mono few in
    let e : n ≤ 2 ^ 16 = omega (arith, h, c) in
    mul-le-mul e b

pub two-digits : (r room : ℕ) → 32 < room → room < 2 * 2 ^ r → 2 ≤ r
two-digits zero room a b = absurd (omega (arith, a, b))
two-digits (suc zero) room a b = absurd (omega (arith, a, b))
two-digits (suc (suc r)) room a b = omega arith

pub quarter : (r : ℕ) → 2 ≤ r → 2 ^ (r - 2) * 4 ≡ 2 ^ r
quarter zero l = absurd (omega (arith, l))
quarter (suc zero) l = absurd (omega (arith, l))
quarter (suc (suc r)) l =
    let e : suc (suc r) - 2 ≡ r = omega arith in rw e (grind arith)

-- what a room is rounded to
pub rounded-steps : (r room s : ℕ) → 2 ≤ r → 2 ^ r ≤ room → room < 2 * 2 ^ r → s ≡ 2 ^ (r - 2)
    → (k : ℕ) × (2 ^ (k + 2) ≤ room) × (room < 2 ^ (k + 3)) × ((room + s - 1) / s * s % 2 ^ k ≡ 0) × ((room + s - 1) / s * s < room + 2 ^ k)
rounded-steps r room s l h k e =
    let four : 2 ^ (r - 2 + 2) ≡ 2 ^ r = ap (λ n. 2 ^ n) (omega (arith, l)) in
    let eight : 2 ^ (r - 2 + 3) ≡ 2 * 2 ^ r = (let z : r - 2 + 3 ≡ suc r = omega (arith, l) in ap (λ n. 2 ^ n) z) ∙ grind arith in
    let whole : (room + s - 1) / s * s % 2 ^ (r - 2) ≡ 0 = subst (λ n. (room + s - 1) / s * s % n ≡ 0) e (mul-mod_left ((room + s - 1) / s) s) in
    (r - 2, omega (arith, four, h), omega (arith, eight, k), whole, omega (arith, div-mul-le_self (room + s - 1) s, e, h, quarter r l, pow_pos r))

pub rounded-most : (r room s : ℕ) → 2 ≤ r → 2 ^ r ≤ room → s ≤ 2 ^ (r - 2) → 4 * ((room + s - 1) / s * s) ≤ 5 * room
rounded-most r room s l h k = omega (arith, div-mul-le_self (room + s - 1) s, quarter r l, h, k)

pub rounded-below : (r room s : ℕ) → 2 ≤ r → 2 ^ r ≤ room → s ≤ 2 ^ (r - 2) → room ≤ 2 ^ 20 + 2 ^ 19 → (room + s - 1) / s * s < 2 ^ 21
rounded-below r room s l h k m = omega (arith, div-mul-le_self (room + s - 1) s, quarter r l, h, k, m)
