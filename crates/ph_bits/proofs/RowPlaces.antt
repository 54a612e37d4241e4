-- Rows of fields, place by place.
use Rattle.std.proofs.Common.{◌≡◌, ℕ, zero, suc, ◌+◌, ◌-◌, ◌*◌, ◌/◌, ◌%◌, ◌^◌, ◌<◌, ◌≤◌, refl, sym, ◌∙◌, ap, subst, arith}
use Rattle.std.proofs.Common.{List, [], ◌∷◌, ◌++◌, length, take, drop, replicate, slice_index_or, slice_set}
use Rattle.std.proofs.lemmas.List.{take_more_set}
use Rattle.ph_specs.specs.Digits.{pieces}
use Rattle.ph_model.specs.Digits.{digits_at}
use Rattle.ph_specs.proofs.lemmas.Numbers.{length-pieces}
use Rattle.ph_bits.specs.Fields.{digits_row}
use Rattle.ph_model.proofs.laws.WordDigits.{digits-within}

pub length-row : (ws : List ℕ) (at w n : ℕ) → length (digits_row ws at w n) ≡ n
length-row ws at w zero = refl
length-row ws at w (suc n) = ap suc (length-row ws (at + w) w n)

pub row-at : (ws : List ℕ) (at w n i : ℕ) → i < n → slice_index_or (digits_row ws at w n) i 0 ≡ digits_at ws (at + i * w) w
row-at ws at w zero i l = elim l [ ]
row-at ws at w (suc n) zero l = let a : at ≡ at + 0 * w = omega arith in ap (λ t. digits_at ws t w) a
row-at ws at w (suc n) (suc i) l =
    let a : at + w + i * w ≡ at + suc i * w = omega arith in
    row-at ws (at + w) w n i (omega (arith, l)) ∙ ap (λ t. digits_at ws t w) a

pub pieces-at : (w n x i : ℕ) → i < n → slice_index_or (pieces w n x) i 0 ≡ x / 2 ^ (w * (n - 1 - i)) % 2 ^ w
pieces-at w zero x i l = elim l [ ]
pieces-at w (suc n) x zero l = let a : w * n ≡ w * (suc n - 1 - 0) = let b : n ≡ suc n - 1 - 0 = omega arith in ap (λ t. w * t) b in ap (λ t. x / 2 ^ t % 2 ^ w) a
pieces-at w (suc n) x (suc i) l =
    let b : n - 1 - i ≡ suc n - 1 - suc i = omega arith in
    pieces-at w n x i (omega (arith, l)) ∙ ap (λ t. x / 2 ^ (w * t) % 2 ^ w) b

take_more : (xs : List ℕ) (i : ℕ) → i < length xs → take (i + 1) xs ≡ take i xs ++ slice_index_or xs i 0 ∷ []
take_more [] i l = absurd (omega (arith, l))
take_more (x ∷ xs) zero l = refl
take_more (x ∷ xs) (suc i) l =
    let e : suc i + 1 ≡ suc (i + 1) = omega arith in
    ap (λ t. take t (x ∷ xs)) e ∙ ap {B = List ℕ} (λ t. x ∷ t) (take_more xs i (omega (arith, l)))

-- one place more of a list that is copied
pub copied : (body xs : List ℕ) (i v : ℕ) → i < length body → i < length xs → v ≡ slice_index_or xs i 0 →
    take i body ≡ take i xs → take (i + 1) (slice_set body i v) ≡ take (i + 1) xs
copied body xs i v l m e h =
    take_more_set body i v l ∙ ap (λ t. t ++ v ∷ []) h ∙ ap (λ t. take i xs ++ t ∷ []) e ∙ sym (take_more xs i m)

pub inside : (body : List ℕ) (i k : ℕ) → drop i body ≡ replicate (suc k) 0 → i < length body
inside [] i k h = absurd (nothing i k (ap length h))
  where
    nothing : (i k : ℕ) → length (drop {A = ℕ} i []) ≡ length (replicate {A = ℕ} (suc k) 0) → ⊥
    nothing zero k e = omega (arith, e)
    nothing (suc i) k e = omega (arith, e)
inside (x ∷ body) zero k h = omega arith
inside (x ∷ body) (suc i) k h = omega (arith, inside body i k h)

-- the places behind it
pub left_over : (body : List ℕ) (i v k : ℕ) → drop i body ≡ replicate (suc k) 0 → drop (i + 1) (slice_set body i v) ≡ replicate k 0
left_over [] i v k h = absurd (nothing i k (ap length h))
  where
    nothing : (i k : ℕ) → length (drop {A = ℕ} i []) ≡ length (replicate {A = ℕ} (suc k) 0) → ⊥
    nothing zero k e = omega (arith, e)
    nothing (suc i) k e = omega (arith, e)
left_over (x ∷ body) zero v k h = ap (drop 1) h
left_over (x ∷ body) (suc i) v k h =
    let e : suc i + 1 ≡ suc (i + 1) = omega arith in
    ap (λ t. drop t (slice_set (x ∷ body) (suc i) v)) e ∙ left_over body i v k h

pub take-all : (xs : List ℕ) (n : ℕ) → length xs ≡ n → take n xs ≡ xs
take-all [] zero e = refl
take-all [] (suc n) e = refl
take-all (x ∷ xs) zero e = absurd (omega (arith, e))
take-all (x ∷ xs) (suc n) e = ap {B = List ℕ} (λ t. x ∷ t) (take-all xs n (omega (arith, e)))

-- the pieces of digits are the fields in them
pub pieces-row : (ws : List ℕ) (at w n : ℕ) → at + n * w ≤ 64 * length ws → pieces w n (digits_at ws at (n * w)) ≡ digits_row ws at w n
pieces-row ws at w n l = same (pieces w n (digits_at ws at (n * w))) (digits_row ws at w n) (length-pieces w n (digits_at ws at (n * w)) ∙ sym (length-row ws at w n))
    (λ i m. one i (subst (λ t. i < t) (length-pieces w n (digits_at ws at (n * w))) m))
  where
    same : (xs ys : List ℕ) → length xs ≡ length ys → ((i : ℕ) → i < length xs → slice_index_or xs i 0 ≡ slice_index_or ys i 0) → xs ≡ ys
    same [] [] e h = refl
    same [] (y ∷ ys) e h = absurd (omega (arith, e))
    same (x ∷ xs) [] e h = absurd (omega (arith, e))
    same (x ∷ xs) (y ∷ ys) e h =
        ap {B = List ℕ} (λ t. t ∷ xs) (h 0 (omega arith)) ∙ ap {B = List ℕ} (λ t. y ∷ t) (same xs ys (omega (arith, e)) (λ i l. h (suc i) (omega (arith, l))))

    within : (i n w : ℕ) → i < n → i * w + w ≤ n * w
    within i n w l = grind (arith, l)

    rest : (i n w : ℕ) → i < n → w * (n - 1 - i) ≡ n * w - i * w - w
    rest i n w l = let e : n ≡ i + 1 + (n - 1 - i) = omega (arith, l) in
        let f : n * w ≡ (i + 1 + (n - 1 - i)) * w = ap (λ t. t * w) e in omega (arith, f)

    one : (i : ℕ) → i < n → slice_index_or (pieces w n (digits_at ws at (n * w))) i 0 ≡ slice_index_or (digits_row ws at w n) i 0
    one i m =
        pieces-at w n (digits_at ws at (n * w)) i m
        ∙ ap (λ t. digits_at ws at (n * w) / 2 ^ t % 2 ^ w) (rest i n w m)
        ∙ digits-within ws at (n * w) (i * w) w l (within i n w m)
        ∙ sym (row-at ws at w n i m)
