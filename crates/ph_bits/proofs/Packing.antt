-- Numbers that are packed, and digits that are compared with them.
use Rattle.std.proofs.Common.{◌≡◌, ℕ, zero, suc, ◌+◌, ◌*◌, ◌/◌, ◌%◌, ◌^◌, ◌<◌, ◌≤◌, refl, sym, ◌∙◌, ap, arith, List, []}
use Rattle.std.proofs.Common.{◌∷◌, length, map, drop, slice_index_or, true, false, inl, inr, ne_eqb, eq-eqb}
use Rattle.std.specs.Prelude.{◌==◌}
use Rattle.std.specs.List.{AllByRecursion as Each}
use Rattle.std.proofs.lemmas.Nat.{div-mul-add, mod-mul-add, pow-add, pow_pos}
use Rattle.std.proofs.Math.Nat.{mod-eq_of_lt, mod-lt, div-mul-le_self, mul-le-mul_left, pow-le-pow_right}
use Rattle.ph_specs.specs.Digits.{Field, field, number_after, number_of, digits_of, pieces}
use Rattle.ph_specs.specs.DelTree.{same_digits}
use Rattle.ph_specs.proofs.lemmas.Numbers.{number_after-start, number_of-small, number_of-pieces}
use Rattle.ph_model.proofs.lemmas.PointDigits.{same_digits-true, same_digits-refl}
use Rattle.ph_specs.proofs.laws.Put.{either}
use Rattle.ph_bits.specs.Fields.{cut}

fit : (w : ℕ) (ys : List ℕ) → Each (λ y. y < 2 ^ w) ys → Each (λ (f : Field). f.number < 2 ^ f.width) (map (field w) ys)
fit w [] h = tt
fit w (y ∷ ys) h = (h.0, fit w ys h.1)

digits-map : (w : ℕ) (ys : List ℕ) → digits_of (map (field w) ys) ≡ w * length ys
digits-map w [] = omega arith
digits-map w (y ∷ ys) = omega (arith, digits-map w ys)

-- the pieces of a packed number
pieces-packed : (w s : ℕ) (ys : List ℕ) → Each (λ y. y < 2 ^ w) ys → pieces w (length ys) (number_after s (map (field w) ys)) ≡ ys
pieces-packed w s [] h = refl
pieces-packed w s (y ∷ ys) h =
    let fs : List Field = map (field w) ys in
    let n : ℕ = s * 2 ^ w + y in
    let e : number_after (s * 2 ^ w + y) (map (field w) ys) / 2 ^ (w * length ys) ≡ s * 2 ^ w + y =
    ap (λ t. number_after n fs / 2 ^ t) (sym (digits-map w ys)) ∙ ap (λ t. t / 2 ^ digits_of fs) (number_after-start n fs)
    ∙ div-mul-add n (2 ^ digits_of fs) (number_of fs) (number_of-small fs (fit w ys h.1)) in
    ap (λ t. t % 2 ^ w ∷ pieces w (length ys) (number_after n fs)) e
    ∙ ap (λ t. t ∷ pieces w (length ys) (number_after n fs)) (mod-mul-add s (2 ^ w) y h.0)
    ∙ ap {B = List ℕ} (λ t. y ∷ t) (pieces-packed w n ys h.1)

-- digits are those of numbers where they make the same number
pub packed-same : (w n x : ℕ) (ys : List ℕ) → n ≡ length ys → Each (λ y. y < 2 ^ w) ys → x < 2 ^ (w * n) →
    (x == number_of (map (field w) ys)) ≡ same_digits (pieces w n x) ys
packed-same w n x ys e h l =
    elim (either (same_digits (pieces w n x) ys)) [
      | inl t ↦
          let s : pieces w n x ≡ ys = same_digits-true (pieces w n x) ys t in
          let k : x ≡ number_of (map (field w) ys) = sym (number_of-pieces w n x ∙ mod-eq_of_lt l) ∙ ap (λ u. number_of (map (field w) u)) s in
          eq-eqb x (number_of (map (field w) ys)) k ∙ sym t
      | inr f ↦ ne_eqb x (number_of (map (field w) ys)) (λ k. other (same k) f) ∙ sym f
    ]
  where
    same : x ≡ number_of (map (field w) ys) → pieces w n x ≡ ys
    same k = ap (λ u. pieces w u x) e ∙ ap (pieces w (length ys)) k ∙ pieces-packed w 0 ys h

    other : pieces w n x ≡ ys → same_digits (pieces w n x) ys ≡ false → ⊥
    other s f = let clash : true ≡ false = sym (same_digits-refl (pieces w n x) ys s) ∙ f in cc

pub cut-small : (w low x : ℕ) → cut w low x < 2 ^ w
cut-small w low x =
    let p : 0 < 2 ^ w = pow_pos w in
    let q : x % 2 ^ w < 2 ^ w = mod-lt x p in
    let r : x % 2 ^ w / 2 ^ low * 2 ^ low ≤ x % 2 ^ w = div-mul-le_self (x % 2 ^ w) (2 ^ low) in
    omega (arith, q, r)

pub cuts-small : (w low : ℕ) (xs : List ℕ) → Each (λ y. y < 2 ^ w) (map (cut w low) xs)
cuts-small w low [] = tt
cuts-small w low (x ∷ xs) = (cut-small w low x, cuts-small w low xs)

-- ---- number by number

drop_one : (xs : List ℕ) (i : ℕ) → i < length xs → drop i xs ≡ slice_index_or xs i 0 ∷ drop (i + 1) xs
drop_one [] i l = absurd (omega (arith, l))
drop_one (x ∷ xs) zero l = refl
drop_one (x ∷ xs) (suc i) l =
    let e : suc (i + 1) ≡ suc i + 1 = omega arith in
    drop_one xs i (omega (arith, l)) ∙ ap (λ t. slice_index_or xs i 0 ∷ drop t (x ∷ xs)) e

pub packed-more : (w low all i : ℕ) (xs : List ℕ) → i < length xs
    → number_after all (map (field w) (map (cut w low) (drop i xs))) ≡
    number_after (all * 2 ^ w + cut w low (slice_index_or xs i 0)) (map (field w) (map (cut w low) (drop (i + 1) xs)))
packed-more w low all i xs l = ap (λ t. number_after all (map (field w) (map (cut w low) t))) (drop_one xs i l)

-- so many fields, and one more
pub small-more : (w i all v : ℕ) → all < 2 ^ (w * i) → v < 2 ^ w → all * 2 ^ w + v < 2 ^ (w * (i + 1))
small-more w i all v h l =
    let e : w * (i + 1) ≡ w * i + w = omega arith in
    let p : 2 ^ (w * (i + 1)) ≡ 2 ^ (w * i) * 2 ^ w = ap (λ t. 2 ^ t) e ∙ pow-add 2 (w * i) w in
    let m : 2 ^ w * suc all ≤ 2 ^ w * 2 ^ (w * i) = mul-le-mul_left (2 ^ w) h in
    omega (arith, p, m, l)

pub small-word : (w i n x : ℕ) → x < 2 ^ (w * (i + 1)) → i < n → n * w ≤ 64 → x < 2 ^ 64
small-word w i n x h l m =
    let o : 0 < 2 = omega arith in
    let k : w * (i + 1) ≤ w * n = mul-le-mul_left w (omega (arith, l)) in
    let j : w * (i + 1) ≤ 64 = omega (arith, k, m) in
    let p : 2 ^ (w * (i + 1)) ≤ 2 ^ 64 = pow-le-pow_right o j in
    omega (arith, h, p)
