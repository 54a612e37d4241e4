-- The first digits of kinds, under a mask.
use Rattle.std.proofs.Common.{◌≡◌, ℕ, zero, suc, ◌+◌, ◌*◌, ◌/◌, ◌^◌, ◌<◌, ◌≤◌, refl, sym, ◌∙◌, ap, subst, arith, List, length, bit_and, ◌-◌, slice_index_or, Fits, w64}
use Rattle.std.specs.Int.RustNames.{count_ones}
use Rattle.std.proofs.lemmas.Nat.{ones_cat, and_block, and_le_l}
use Rattle.std.proofs.lemmas.Nat.Bits.{and_pow}
use Rattle.std.specs.Int.{bit_at}
use Rattle.ph_model.specs.Digits.{digits_at}
use Rattle.std.proofs.Math.Nat.{mod-eq_of_lt}
use Rattle.std.proofs.lemmas.Nat.{shr_below}
use Rattle.ph_model.proofs.laws.WordDigits.{digits-parts, digits-below, digits-one, each-fits}
use Rattle.ph_cube.specs.Cube.{twos_in, HIGH}

abbrev mask : ℕ → ℕ
mask zero = 0
mask (suc k) = mask k * 2 ^ 2 + 2

second : (q : ℕ) → q < 2 ^ 2 → count_ones (bit_at q 1 * 2 ^ 1) ≡ q / 2
unfolding count_ones
second zero l = refl
second (suc zero) l = refl
second (suc (suc zero)) l = refl
second (suc (suc (suc zero))) l = refl
second (suc (suc (suc (suc q)))) l = absurd (omega (arith, l))

high : (q : ℕ) → q < 2 ^ 2 → count_ones (bit_and q 2) ≡ q / 2
high q l = ap count_ones (and_pow q 1) ∙ second q l

under : (ws : List ℕ) (at m k : ℕ) → m ≤ k → at + m * 2 ≤ 64 * length ws → count_ones (bit_and (digits_at ws at (m * 2)) (mask k)) ≡ twos_in ws at m
unfolding count_ones
under ws at zero k l i =
    let z : digits_at ws at (0 * 2) < 2 ^ (0 * 2) = digits-below ws at (0 * 2) in
    ap count_ones (none (bit_and (digits_at ws at (0 * 2)) (mask k)) (digits_at ws at (0 * 2)) (and_le_l (digits_at ws at (0 * 2)) (mask k)) z)
  where
    none : (x y : ℕ) → x ≤ y → y < 2 ^ (0 * 2) → x ≡ 0
    none x y l m = omega (arith, l, m)
under ws at (suc m) zero l i = elim l [ ]
under ws at (suc m) (suc k) l i =
    let d : ℕ = digits_at ws at (m * 2) in
    let q : ℕ = digits_at ws (at + m * 2) 2 in
    let e : suc m * 2 ≡ m * 2 + 2 = omega arith in
    let small : digits_at ws (at + m * 2) 2 < 2 ^ 2 = digits-below ws (at + m * 2) 2 in
    let r : bit_and (digits_at ws (at + m * 2) 2) 2 < 2 ^ 2 = omega (arith, and_le_l (digits_at ws (at + m * 2) 2) 2, small) in
    ap (λ t. count_ones (bit_and (digits_at ws at t) (mask (suc k)))) e
    ∙ ap (λ t. count_ones (bit_and t (mask (suc k)))) (digits-parts ws at (m * 2) 2 (omega (arith, i)))
    ∙ ap count_ones (and_block 2 d (mask k) q 2 small (omega arith))
    ∙ ones_cat 2 (bit_and d (mask k)) (bit_and q 2) r
    ∙ ap (λ t. t + count_ones (bit_and q 2)) (under ws at m k (omega (arith, l)) (omega (arith, i)))
    ∙ ap (λ t. twos_in ws at m + t) (high q small)

pub high-digits : (ws : List ℕ) (at m : ℕ) → m ≤ 32 → at + m * 2 ≤ 64 * length ws → HIGH (digits_at ws at (m * 2)) ≡ twos_in ws at m
high-digits ws at m l i =
    let e : 12297829382473034410 ≡ mask 32 = refl in
    ap (λ t. count_ones (bit_and (digits_at ws at (m * 2)) t)) e ∙ under ws at m 32 l i

-- the first digits of a word
pub word-front : (ws : List ℕ) (place m : ℕ) → 1 ≤ place → m ≤ 32 → place < length ws → ((i : ℕ) → Fits w64 (slice_index_or ws i 0))
    → slice_index_or ws place 0 / 2 ^ (64 - m * 2) ≡ digits_at ws (64 + 32 * (place - 1) * 2) (m * 2)
word-front ws place m o l i h =
    let x : ℕ = slice_index_or ws place 0 in
    let a : 64 ≡ m * 2 + (64 - m * 2) = omega (arith, l) in
    let b : 64 * place + 0 ≡ 64 + 32 * (place - 1) * 2 = omega (arith, o) in
    sym (mod-eq_of_lt (shr_below x (m * 2) (64 - m * 2) (subst (λ t. x < 2 ^ t) a (h place).fits)))
    ∙ sym (digits-one ws place 0 (m * 2) (64 - m * 2) (omega (arith, l)) i (each-fits ws h))
    ∙ ap (λ t. digits_at ws t (m * 2)) b

pub word-whole : (ws : List ℕ) (place : ℕ) → 1 ≤ place → place < length ws → ((i : ℕ) → Fits w64 (slice_index_or ws i 0))
    → slice_index_or ws place 0 ≡ digits_at ws (64 + 32 * (place - 1) * 2) (32 * 2)
word-whole ws place o i h = let e : slice_index_or ws place 0 ≡ slice_index_or ws place 0 / 1 = omega arith in e ∙ word-front ws place 32 o (omega arith) i h
