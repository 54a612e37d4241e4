-- Tables of sums, and what is read of them.
use Rattle.std.proofs.Common.{◌≡◌, ◌⊎◌, inl, inr, ℕ, zero, suc, ◌+◌, ◌*◌, ◌-◌, ◌/◌, ◌%◌, ◌^◌, ◌<◌, ◌≤◌, List, get_or, min, replicate, refl, sym, ◌∙◌, ap, subst, arith}
use Rattle.std.proofs.Math.Pow.{pow_mono, shr_lt}
use Rattle.std.proofs.lemmas.Nat.{pow-add, shr_high}
use Rattle.ph_node.specs.Apart.{greatest_square}
use Rattle.ph_near.specs.Halves.{half_of, digits_sum}
use Rattle.ph_near.specs.Tables.{digits_in, HaveSums, IsDoubled}
use Rattle.ph_near.proofs.AddressSums.{digits-more, digits-low, digits-behind, digits-append, digits-small}

-- ---- no dimension yet

zero-at : (m i : ℕ) → let none : ℕ = get_or (replicate m 0) i 0 in none ≡ 0
zero-at zero i = refl
zero-at (suc m) zero = refl
zero-at (suc m) (suc i) = zero-at m i

pub none-summed : (n : ℕ) (low high : List ℕ) → HaveSums n low high 0 (replicate 64 0)
none-summed n low high = record {
  long = refl;
  each = λ k j a l. zero-at 64 (16 * k + j) ∙ sym (ap (digits_sum n low high (4 * k) j) (none k));
}
  where
    none : (k : ℕ) → digits_in 0 k ≡ 0
    none k = omega arith

-- ---- one dimension more

below-or : (a b : ℕ) → (a < b) ⊎ (b ≤ a)
below-or a zero = inr (omega arith)
below-or zero (suc b) = inl (omega arith)
below-or (suc a) (suc b) = elim (below-or a b) as (λ _. (suc a < suc b) ⊎ (suc b ≤ suc a)) [ inl k ↦ inl (omega (arith, k)) | inr k ↦ inr (omega (arith, k)) ]

-- the digit at a place
digit-at : (r t j : ℕ) → j < 2 ^ r → (t * 2 ^ r + j) / 2 ^ r % 2 ≡ t % 2
digit-at r t j l = ap (λ n. n % 2) (shr_high t r j l)

module _ (n : ℕ) (low high : List ℕ) (p : ℕ) (old new : List ℕ) (h : HaveSums n low high p old) (few : p < 16)
    (d : IsDoubled (p / 4 * 16) (2 ^ (p % 4)) (get_or low (n - 1 - p) 0) (get_or high (n - 1 - p) 0) old new) where
  own : digits_in p (p / 4) ≡ p % 4
  own = omega arith

  own-next : digits_in (p + 1) (p / 4) ≡ p % 4 + 1
  own-next = omega arith

  last : 4 * (p / 4) + p % 4 ≡ p
  last = omega arith

  narrow : 2 ^ (p % 4) ≤ 8
  narrow = pow_mono {i = p % 4} {j = 3} (omega arith)

  -- in another table
  other : (k j m : ℕ) → k < 4 → (k < p / 4) ⊎ (p / 4 < k) → m ≡ digits_in (p + 1) k → j < 2 ^ m → get_or new (16 * k + j) 0 ≡ digits_sum n low high (4 * k) j m
  other k j m a (inl b) e l =
      let s : m ≡ digits_in p k = omega (arith, b, e) in
      let t : m ≤ 4 = omega (arith, e) in
      let w : 2 ^ m ≤ 16 = pow_mono {i = m} {j = 4} t in
      d.below (16 * k + j) (omega (arith, w, l, b))
      ∙ h.each k j a (subst (λ t. j < 2 ^ t) s l) ∙ sym (ap (digits_sum n low high (4 * k) j) s)
  other k j m a (inr b) e l =
      let s : m ≡ digits_in p k = omega (arith, b, e) in
      d.above (16 * k + j) (omega (arith, narrow, b))
      ∙ h.each k j a (subst (λ t. j < 2 ^ t) s l) ∙ sym (ap (digits_sum n low high (4 * k) j) s)

  -- in its own one, what was there
  old-sum : (j : ℕ) → j < 2 ^ (p % 4) → get_or old (p / 4 * 16 + j) 0 ≡ digits_sum n low high (4 * (p / 4)) j (p % 4)
  old-sum j l =
      ap (λ i. get_or old i 0) (let e : p / 4 * 16 + j ≡ 16 * (p / 4) + j = omega arith in e)
      ∙ h.each (p / 4) j (omega (arith, few)) (subst (λ t. j < 2 ^ t) (sym own) l) ∙ ap (digits_sum n low high (4 * (p / 4)) j) own

  low-sum : (j : ℕ) → j < 2 ^ (p % 4) → get_or new (16 * (p / 4) + j) 0 ≡ digits_sum n low high (4 * (p / 4)) j (p % 4 + 1)
  low-sum j l =
      let at = ap (λ i. get_or new i 0) (let e : 16 * (p / 4) + j ≡ p / 4 * 16 + j = omega arith in e) in
      let more = digits-more n low high (4 * (p / 4)) j (p % 4) in
      let digit = ap (λ i. half_of (j / 2 ^ (p % 4) % 2) (get_or low (n - 1 - i) 0) (get_or high (n - 1 - i) 0)) last
      ∙ ap (λ i. half_of (i / 2 ^ (p % 4) % 2) (get_or low (n - 1 - p) 0) (get_or high (n - 1 - p) 0)) (let e : j ≡ 0 * 2 ^ (p % 4) + j = omega arith in e)
      ∙ ap (λ t. half_of t (get_or low (n - 1 - p) 0) (get_or high (n - 1 - p) 0)) (digit-at (p % 4) 0 j l) in
      omega (arith, at, d.lows j l, old-sum j l, more, digit)

  high-sum : (j : ℕ) → j < 2 ^ (p % 4) →
      get_or new (16 * (p / 4) + (2 ^ (p % 4) + j)) 0 ≡ digits_sum n low high (4 * (p / 4)) (2 ^ (p % 4) + j) (p % 4 + 1)
  high-sum j l =
      let at = ap (λ i. get_or new i 0) (let e : 16 * (p / 4) + (2 ^ (p % 4) + j) ≡ p / 4 * 16 + 2 ^ (p % 4) + j = omega arith in e) in
      let more = digits-more n low high (4 * (p / 4)) (2 ^ (p % 4) + j) (p % 4) in
      let same = digits-behind n low high (4 * (p / 4)) j (p % 4) in
      let digit = ap (λ i. half_of ((2 ^ (p % 4) + j) / 2 ^ (p % 4) % 2) (get_or low (n - 1 - i) 0) (get_or high (n - 1 - i) 0)) last
      ∙ ap (λ i. half_of (i / 2 ^ (p % 4) % 2) (get_or low (n - 1 - p) 0) (get_or high (n - 1 - p) 0)) (let e : 2 ^ (p % 4) + j ≡ 1 * 2 ^ (p % 4) + j = omega arith in e)
      ∙ ap (λ t. half_of t (get_or low (n - 1 - p) 0) (get_or high (n - 1 - p) 0)) (digit-at (p % 4) 1 j l) in
      omega (arith, at, d.highs j l, old-sum j l, more, same, digit)

  own-sum : (j : ℕ) → j < 2 ^ (p % 4 + 1) → (j < 2 ^ (p % 4)) ⊎ (2 ^ (p % 4) ≤ j) → get_or new (16 * (p / 4) + j) 0 ≡ digits_sum n low high (4 * (p / 4)) j (p % 4 + 1)
  own-sum j l (inl k) = low-sum j k
  own-sum j l (inr k) =
      let e : 2 ^ (p % 4) + (j - 2 ^ (p % 4)) ≡ j = omega (arith, k) in
      subst (λ i. get_or new (16 * (p / 4) + i) 0 ≡ digits_sum n low high (4 * (p / 4)) i (p % 4 + 1)) e
      (high-sum (j - 2 ^ (p % 4)) (omega (arith, k, l, pow-add 2 (p % 4) 1)))

  -- in each
  each : (k j : ℕ) → k < 4 → j < 2 ^ digits_in (p + 1) k → (k < p / 4) ⊎ (p / 4 ≤ k) → (p / 4 < k) ⊎ (k ≤ p / 4) →
      get_or new (16 * k + j) 0 ≡ digits_sum n low high (4 * k) j (digits_in (p + 1) k)
  each k j a l (inl b) c = other k j (digits_in (p + 1) k) a (inl b) refl l
  each k j a l (inr b) (inl c) = other k j (digits_in (p + 1) k) a (inr c) refl l
  each k j a l (inr b) (inr c) =
      let e : p / 4 ≡ k = omega (arith, b, c) in
      subst (λ t. get_or new (16 * t + j) 0 ≡ digits_sum n low high (4 * t) j (digits_in (p + 1) t)) e
      (own-sum j (subst (λ t. j < 2 ^ t) own-next (subst (λ t. j < 2 ^ digits_in (p + 1) t) (sym e) l)) (below-or j (2 ^ (p % 4)))
      ∙ sym (ap (digits_sum n low high (4 * (p / 4)) j) own-next))

  pub more-summed : HaveSums n low high (p + 1) new
  more-summed = record {
    long = d.long ∙ h.long;
    each = λ k j a l. each k j a l (below-or k (p / 4)) (below-or (p / 4) k);
  }

-- ---- sums are small

module _ (n : ℕ) (low high : List ℕ) (l : (j : ℕ) → j < n → get_or low j 0 ≤ greatest_square) (m : (j : ℕ) → j < n → get_or high j 0 ≤ greatest_square) where
  pub own-small : (p : ℕ) (old : List ℕ) → HaveSums n low high p old → p < n → n ≤ 16 →
      (j : ℕ) → j < 2 ^ (p % 4) → get_or old (p / 4 * 16 + j) 0 ≤ 3 * greatest_square
  own-small p old h less few j k =
      let own : digits_in p (p / 4) ≡ p % 4 = omega arith in
      let at = ap (λ i. get_or old i 0) (let e : p / 4 * 16 + j ≡ 16 * (p / 4) + j = omega arith in e) in
      let told = h.each (p / 4) j (omega (arith, less, few)) (subst (λ t. j < 2 ^ t) (sym own) k) in
      let small = digits-small n low high (4 * (p / 4)) j (digits_in p (p / 4)) l m (omega (arith, less)) in
      omega (arith, at, told, small, own)

  module _ (sums : List ℕ) (h : HaveSums n low high n sums) (few : n ≤ 16) (addr k : ℕ) (fits : addr < 2 ^ n) (there : 4 * k < n) where
    some : digits_in n k ≤ 4
    some = omega arith

    -- the digits of the table
    picked : addr / 2 ^ (4 * k) % 16 < 2 ^ digits_in n k
    picked = by_size (digits_in n k) refl (below-or (n - 4 * k) 4)
      where
        by_size : (t : ℕ) → t ≡ digits_in n k → (n - 4 * k < 4) ⊎ (4 ≤ n - 4 * k) → addr / 2 ^ (4 * k) % 16 < 2 ^ t
        by_size t e (inl a) =
            let s : t + 4 * k ≡ n = omega (arith, e, a, there) in
            let b : addr / 2 ^ (4 * k) < 2 ^ t = shr_lt {n = addr} t (4 * k) (subst (λ i. addr < 2 ^ i) (sym s) fits) in
            omega (arith, b)
        by_size t e (inr a) = subst (λ i. addr / 2 ^ (4 * k) % 16 < 2 ^ i) (let s : 4 ≡ t = omega (arith, e, a) in s) (omega arith)

    read : get_or sums (16 * k + addr / 2 ^ (4 * k) % 16) 0 ≡ digits_sum n low high (4 * k) (addr / 2 ^ (4 * k)) (digits_in n k)
    read =
        h.each k (addr / 2 ^ (4 * k) % 16) (omega (arith, there, few)) picked
        ∙ digits-low n low high (4 * k) (addr / 2 ^ (4 * k)) 4 (digits_in n k) some

    pub read-small : get_or sums (16 * k + addr / 2 ^ (4 * k) % 16) 0 ≤ 4 * greatest_square
    read-small =
        let small = digits-small n low high (4 * k) (addr / 2 ^ (4 * k)) (digits_in n k) l m (omega (arith, there)) in
        omega (arith, read, small, some)

    pub read-more : digits_sum n low high 0 addr (min (4 * k) n) + get_or sums (16 * k + addr / 2 ^ (4 * k) % 16) 0
        ≡ digits_sum n low high 0 addr (min (4 * (k + 1)) n)
    read-more =
        let both = digits-append n low high 0 addr (4 * k) (digits_in n k) in
        let from = ap (λ t. digits_sum n low high t (addr / 2 ^ (4 * k)) (digits_in n k)) (let e : 0 + 4 * k ≡ 4 * k = omega arith in e) in
        let first = ap (digits_sum n low high 0 addr) (let e : min (4 * k) n ≡ 4 * k = omega (arith, there) in e) in
        let all = ap (digits_sum n low high 0 addr) (let e : min (4 * (k + 1)) n ≡ 4 * k + digits_in n k = omega (arith, there) in e) in
        omega (arith, both, from, first, all, read)
