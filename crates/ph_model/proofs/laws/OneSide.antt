-- A point that is not in a region comes before all points of it, or before none.
use Rattle.std.proofs.Common.{◌≡◌, ℕ, zero, suc, ◌+◌, ◌-◌, ◌/◌, ◌%◌, ◌^◌, ◌<◌, ◌≤◌, ◌⊎◌, inl, inr, refl, sym, ◌∙◌, ap, subst, arith, List, []}
use Rattle.std.proofs.Common.{◌∷◌, length, Bool, true, false, ◌&&◌, ◌||◌, eqb-true, ne_eqb, ltb-true, ltb-false, get_or, drop}
use Rattle.std.specs.Prelude.{ℤ, nat_lt, ◌==◌}
use Rattle.std.proofs.lemmas.Nat.{shr_below}
use Rattle.std.proofs.lemmas.Nat.Bits.{same_from_bits_below}
use Rattle.ph_specs.specs.Coordinate.{IsPoint}
use Rattle.ph_specs.specs.ZOrder.{address, before, before_below}
use Rattle.ph_specs.specs.Region.{Region, is_in}
use Rattle.ph_specs.proofs.lemmas.Places.{div-pow-add}
use Rattle.ph_model.proofs.lemmas.Joined.{offsets, from_place, address_from-is, same_number}
use Rattle.ph_model.proofs.lemmas.Bounds.{small, point-fit, point-long, fit-small, in-same, same-in}
use Rattle.ph_model.proofs.lemmas.MaskDigits.{digits_at, digits_at-bits, address-by, same-digits}

-- ---- the same digits at all places of a width from one on

same-bits : (k w x y : ℕ) → k ≤ w → x < 2 ^ w → y < 2 ^ w → ((j : ℕ) → k ≤ j → j < w → x / 2 ^ j % 2 ≡ y / 2 ^ j % 2) → x / 2 ^ k ≡ y / 2 ^ k
same-bits k w x y l p q f =
    let m : w ≡ (w - k) + k = omega (arith, l) in
    same_from_bits_below (w - k) (x / 2 ^ k) (y / 2 ^ k) (shr_below x (w - k) k (subst (λ n. x < 2 ^ n) m p)) (shr_below y (w - k) k (subst (λ n. y < 2 ^ n) m q))
    (λ i h. ap (λ n. n % 2) (sym (div-pow-add x k i)) ∙ f (k + i) (omega arith) (omega (arith, h, l)) ∙ ap (λ n. n % 2) (div-pow-add y k i))

same-places : (k w : ℕ) (xs ys : List ℕ) → k ≤ w → length xs ≡ length ys → small w xs → small w ys →
    ((j : ℕ) → k ≤ j → j < w → digits_at j xs ≡ digits_at j ys) → from_place k xs ≡ from_place k ys
same-places k w [] [] l n p q f = refl
same-places k w [] (y ∷ ys) l n p q f = absurd (omega (arith, n))
same-places k w (x ∷ xs) [] l n p q f = absurd (omega (arith, n))
same-places k w (x ∷ xs) (y ∷ ys) l n p q f =
    ap (λ t. t ∷ from_place k xs) (same-bits k w x y l p.0 q.0 (λ j a b. ap (λ r. get_or r 0 0) (f j a b)))
    ∙ ap {B = List ℕ} (λ t. y / 2 ^ k ∷ t) (same-places k w xs ys l (omega (arith, n)) p.1 q.1 (λ j a b. ap (drop 1) (f j a b)))

digits-length : (j : ℕ) (ys : List ℕ) → length (digits_at j ys) ≡ length ys
digits-length j [] = refl
digits-length j (y ∷ ys) = ap suc (digits-length j ys)

-- points with the same addresses at all places above a level are in one region
same-addresses : (w d k : ℕ) (p q : List ℤ) → k ≤ w → 1 ≤ w → IsPoint w d p → IsPoint w d q →
    ((j : ℕ) → k ≤ j → j < w → address w p j ≡ address w q j) → from_place k (offsets w p) ≡ from_place k (offsets w q)
same-addresses w d k p q l o h i f =
    let n : length (offsets w p) ≡ length (offsets w q) = point-long w d p h ∙ sym (point-long w d q i) in
    same-places k w (offsets w p) (offsets w q) l n (fit-small w p o (point-fit w d p h)) (fit-small w q o (point-fit w d q i))
    (λ j a b. (same-digits 0 0 (digits_at j (offsets w p)) (digits_at j (offsets w q))
    (digits-length j (offsets w p) ∙ n ∙ sym (digits-length j (offsets w q))) (digits_at-bits j (offsets w p))
    (digits_at-bits j (offsets w q)) (sym (address-by w j p) ∙ f j a b ∙ address-by w j q)).1)

-- ---- the order

-- where the addresses differ, the places below do not matter
other-below : (a b : ℕ) (s t : Bool) → (a ≡ b → ⊥) → (nat_lt a b || ((a == b) && s)) ≡ (nat_lt a b || ((a == b) && t))
other-below a b s t n =
    let e : (a == b) ≡ false = ne_eqb a b n in
    ap (λ x. nat_lt a b || (x && s)) e ∙ sym (ap (λ x. nat_lt a b || (x && t)) e)

one-side-below : (n w m : ℕ) (l p q : List ℤ) → ((j : ℕ) → m < j → address w p j ≡ address w q j) →
    (before_below n w l p ≡ before_below n w l q) ⊎ ((j : ℕ) → m < j → j < n → address w l j ≡ address w p j)
one-side-below zero w m l p q f = inl refl
one-side-below (suc n) w m l p q f = by_place (nat_lt m n) refl (address w l n == address w p n) refl (one-side-below n w m l p q f)
  where
    apart : (a b : ℕ) → (a == b) ≡ false → a ≡ b → ⊥
    apart a b e s = let t : (a == b) ≡ true = eqb_same a b s in let no : false ≡ true = sym e ∙ t in cc
      where
        eqb_same : (a b : ℕ) → a ≡ b → (a == b) ≡ true
        eqb_same a b e = grind (arith, e)

    by_place : (s : Bool) → nat_lt m n ≡ s → (t : Bool) → (address w l n == address w p n) ≡ t →
        (before_below n w l p ≡ before_below n w l q) ⊎ ((j : ℕ) → m < j → j < n → address w l j ≡ address w p j) →
        (before_below (suc n) w l p ≡ before_below (suc n) w l q) ⊎ ((j : ℕ) → m < j → j < suc n → address w l j ≡ address w p j)
    by_place false e t g ih = inr (λ j a b. absurd (omega (arith, a, b, ltb-false m n e)))
    by_place true e true g (inl ih) =
        inl (ap (λ x. nat_lt (address w l n) (address w p n) || ((address w l n == address w p n) && x)) ih ∙
        ap (λ y. nat_lt (address w l n) y || ((address w l n == y) && before_below n w l q)) (f n (ltb-true m n e)))
    by_place true e true g (inr ih) = inr (λ j a b. at_place j a (nat_lt j n) refl b)
      where
        at_place : (j : ℕ) → m < j → (t : Bool) → nat_lt j n ≡ t → j < suc n → address w l j ≡ address w p j
        at_place j a true k b = ih j a (ltb-true j n k)
        at_place j a false k b =
            let s : n ≡ j = omega (arith, b, ltb-false j n k) in
            subst (λ i. address w l i ≡ address w p i) s (eqb-true (address w l n) (address w p n) g)
    by_place true e false g ih =
        inl (other-below (address w l n) (address w p n) (before_below n w l p) (before_below n w l q)
        (apart (address w l n) (address w p n) g) ∙
        ap (λ y. nat_lt (address w l n) y || ((address w l n == y) && before_below n w l q)) (f n (ltb-true m n e)))

-- ---- the laws

-- a point outside of a region comes before one point of it exactly where it comes before another
pub one-side : (w d : ℕ) (r : Region) (l p q : List ℤ) → r.level < w → IsPoint w d l → IsPoint w d p →
    is_in w r p ≡ true → is_in w r q ≡ true → is_in w r l ≡ false → before w l p ≡ before w l q
one-side w d r l p q m a b h k n =
    by_cases (one-side-below w w r.level l p q
    (λ j i. address_from-is w 0 j p ∙ same_number 0 (r.level + 1) j (offsets w p) (offsets w q) (omega (arith, i))
    (sym (in-same w r.level r.corner p h) ∙ in-same w r.level r.corner q k) ∙ sym (address_from-is w 0 j q)))
  where
    by_cases : (before_below w w l p ≡ before_below w w l q) ⊎ ((j : ℕ) → r.level < j → j < w → address w l j ≡ address w p j) → before w l p ≡ before w l q
    by_cases (inl e) = e
    by_cases (inr f) =
        let s : from_place (r.level + 1) (offsets w l) ≡ from_place (r.level + 1) (offsets w p) =
        same-addresses w d (r.level + 1) l p (omega (arith, m)) (omega (arith, m)) a b (λ j i o. f j (omega (arith, i)) o) in
        let i : is_in w r l ≡ true = same-in w r.level r.corner l (in-same w r.level r.corner p h ∙ sym s) in
        absurd (let no : false ≡ true = sym n ∙ i in cc)
