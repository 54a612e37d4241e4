-- Sums over the last dimensions for an address.
use Rattle.std.proofs.Common.{◌≡◌, ℕ, zero, suc, ◌+◌, ◌*◌, ◌-◌, ◌/◌, ◌%◌, ◌^◌, ◌<◌, ◌≤◌, List, length, drop, get_or, refl, sym, ◌∙◌, ap, arith}
use Rattle.std.specs.Int.{bit_at}
use Rattle.std.proofs.lemmas.List.{drop_all}
use Rattle.std.proofs.lemmas.Nat.{shr-shr, shr_split}
use Rattle.std.proofs.lemmas.Nat.Bits.{bit_at_cat_low}
use Rattle.ph_node.specs.Apart.{greatest_square}
use Rattle.ph_near.specs.Halves.{half_of, halves_sum, digits_sum}
use Rattle.ph_near.proofs.HalfGaps.{halves-first}

half-small : (digit low high m : ℕ) → low ≤ m → high ≤ m → half_of digit low high ≤ m
half-small zero low high m l h = l
half-small (suc digit) low high m l h = h

module _ (n : ℕ) (low high : List ℕ) where
  -- ---- one dimension more

  pub digits-more : (from number i : ℕ) → digits_sum n low high from number (i + 1) ≡
      digits_sum n low high from number i + half_of (number / 2 ^ i % 2) (get_or low (n - 1 - (from + i)) 0) (get_or high (n - 1 - (from + i)) 0)
  digits-more from number i = ap (digits_sum n low high from number) (let s : i + 1 ≡ suc i = omega arith in s)

  -- ---- the same digits have the same sum

  digits-same : (from a b i : ℕ) → ((j : ℕ) → j < i → a / 2 ^ j % 2 ≡ b / 2 ^ j % 2) → digits_sum n low high from a i ≡ digits_sum n low high from b i
  digits-same from a b zero h = refl
  digits-same from a b (suc i) h =
      let rest = digits-same from a b i (λ j k. h j (omega (arith, k))) in
      let here = ap (λ t. half_of t (get_or low (n - 1 - (from + i)) 0) (get_or high (n - 1 - (from + i)) 0)) (h i (omega arith)) in
      λ k. rest k + here k

  -- so those above are not looked at
  pub digits-low : (from a m i : ℕ) → i ≤ m → digits_sum n low high from (a % 2 ^ m) i ≡ digits_sum n low high from a i
  digits-low from a m i l =
      digits-same from (a % 2 ^ m) a i (λ j k. sym (bit_at_cat_low (a / 2 ^ m) m (a % 2 ^ m) j (omega (arith, k, l)))
      ∙ ap (λ t. bit_at t j) (shr_split a m))

  pub digits-behind : (from a i : ℕ) → digits_sum n low high from (2 ^ i + a) i ≡ digits_sum n low high from a i
  digits-behind from a i =
      digits-same from (2 ^ i + a) a i (λ j k. ap (λ t. bit_at t j) (let e : 2 ^ i + a ≡ 1 * 2 ^ i + a = omega arith in e) ∙ bit_at_cat_low 1 i a j k)

  -- ---- first some dimensions, then others

  pub digits-append : (from a i j : ℕ) → digits_sum n low high from a (i + j) ≡ digits_sum n low high from a i + digits_sum n low high (from + i) (a / 2 ^ i) j
  digits-append from a i zero =
      let e : i + zero ≡ i = omega arith in
      let s = ap (digits_sum n low high from a) e in
      omega (arith, s)
  digits-append from a i (suc j) =
      let s : i + suc j ≡ suc (i + j) = omega arith in
      let t : from + (i + j) ≡ from + i + j = omega arith in
      let whole = ap (digits_sum n low high from a) s in
      let rest = digits-append from a i j in
      let here = ap (λ m. half_of (a / 2 ^ (i + j) % 2) (get_or low (n - 1 - m) 0) (get_or high (n - 1 - m) 0)) t
      ∙ ap (λ x. half_of (x % 2) (get_or low (n - 1 - (from + i + j)) 0) (get_or high (n - 1 - (from + i + j)) 0)) (sym (shr-shr a i j)) in
      omega (arith, whole, rest, here)

  -- ---- all dimensions

  digits-drop : (addr i : ℕ) → length low ≡ n → length high ≡ n → i ≤ n → digits_sum n low high 0 addr i ≡ halves_sum addr (drop (n - i) low) (drop (n - i) high)
  digits-drop addr zero l m k =
      sym (ap (λ xs. halves_sum addr xs (drop (n - zero) high)) (drop_all (n - zero) low (omega (arith, l))))
  digits-drop addr (suc i) l m k =
      let rest = digits-drop addr i l m (omega (arith, k)) in
      let first = halves-first addr (n - suc i) n low high l m (omega (arith, k)) in
      let place : n - 1 - (n - suc i) ≡ i = omega (arith, k) in
      let behind : n - suc i + 1 ≡ n - i = omega (arith, k) in
      let there : n - 1 - (0 + i) ≡ n - suc i = omega (arith, k) in
      let digit = ap (λ t. half_of (addr / 2 ^ t % 2) (get_or low (n - suc i) 0) (get_or high (n - suc i) 0)) place in
      let here = ap (λ t. half_of (addr / 2 ^ i % 2) (get_or low t 0) (get_or high t 0)) there in
      let others = ap (λ t. halves_sum addr (drop t low) (drop t high)) behind in
      omega (arith, rest, first, digit, here, others)

  pub digits-all : (addr i : ℕ) → length low ≡ n → length high ≡ n → i ≡ n → digits_sum n low high 0 addr i ≡ halves_sum addr low high
  digits-all addr i l m e =
      digits-drop addr i l m (omega (arith, e)) ∙ ap (λ t. halves_sum addr (drop t low) (drop t high)) (let z : n - i ≡ 0 = omega (arith, e) in z)

  -- ---- sums are small

  pub digits-small : (from a i : ℕ) → ((j : ℕ) → j < n → get_or low j 0 ≤ greatest_square) →
      ((j : ℕ) → j < n → get_or high j 0 ≤ greatest_square) → from + i ≤ n → digits_sum n low high from a i ≤ i * greatest_square
  digits-small from a zero l h k = omega arith
  digits-small from a (suc i) l h k =
      let rest = digits-small from a i l h (omega (arith, k)) in
      let here = half-small (a / 2 ^ i % 2) (get_or low (n - 1 - (from + i)) 0) (get_or high (n - 1 - (from + i)) 0) greatest_square
      (l (n - 1 - (from + i)) (omega (arith, k))) (h (n - 1 - (from + i)) (omega (arith, k))) in
      let m : suc i * greatest_square ≡ greatest_square + i * greatest_square = omega arith in
      omega (arith, rest, here, m)
