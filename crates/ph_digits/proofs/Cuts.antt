-- Bodies, cut at a place.
use Rattle.std.proofs.Common.{◌≡◌, ◌≢◌, ℕ, zero, suc, ◌+◌, ◌*◌, ◌/◌, ◌%◌, ◌^◌, ◌<◌, List, [], ◌∷◌, length, take, refl, arith, ap, sym, ◌∙◌, get_or, drop, subst}
use Rattle.std.specs.List.{take-map}
use Rattle.std.proofs.lemmas.Nat.{pow_pos, shr_split, shr-shr}
use Rattle.std.proofs.Math.Nat.{mod-lt, div-eq_of_lt, pow-succ'}
use Rattle.ph_model.specs.Lawful.{IsBody, HasZerosFrom}
use Rattle.ph_specs.proofs.lemmas.Places.{quotient}
use Rattle.ph_model.specs.PutTree.{digits_from, body_address_from, body_address, body_below, body_above}

pub take-below : (place n : ℕ) (body : List ℕ) → take n (body_below place body) ≡ body_below place (take n body)
take-below place n body = take-map (λ x. x % 2 ^ place) n body

pub take-above : (place n : ℕ) (body : List ℕ) → take n (body_above place body) ≡ body_above place (take n body)
take-above place n body = take-map (λ x. x / 2 ^ (place + 1) * 2 ^ (place + 1)) n body

-- a body with zeros from a place down is what it is above it
pub above-zeros : (place : ℕ) (body : List ℕ) → HasZerosFrom place body → body ≡ body_above place body
above-zeros place [] h = refl
above-zeros place (x ∷ xs) h =
    ap (λ n. n ∷ xs) (quotient x (2 ^ (place + 1)) h.0) ∙ ap {B = List ℕ} (λ u. x / 2 ^ (place + 1) * 2 ^ (place + 1) ∷ u) (above-zeros place xs h.1)

-- ---- parts of a body are bodies

pub is_body-below : (dims place : ℕ) (body : List ℕ) → length body ≡ dims → IsBody dims place (body_below place body)
is_body-below zero place [] e = (refl, tt)
is_body-below (suc dims) place [] e = absurd (omega (arith, e))
is_body-below zero place (x ∷ xs) e = absurd (omega (arith, e))
is_body-below (suc dims) place (x ∷ xs) e =
    let ih : IsBody dims place (body_below place xs) = is_body-below dims place xs (omega (arith, e)) in
    (ap suc ih.0, (mod-lt x (pow_pos place), ih.1))

pub is_body-above : (dims level place : ℕ) (body : List ℕ) → IsBody dims level body → IsBody dims level (body_above place body)
is_body-above zero level place [] h = (refl, tt)
is_body-above (suc dims) level place [] h = absurd (omega (arith, h.0))
is_body-above zero level place (x ∷ xs) h = absurd (omega (arith, h.0))
is_body-above (suc dims) level place (x ∷ xs) h =
    let ih : IsBody dims level (body_above place xs) = is_body-above dims level place xs (omega (arith, h.0), h.1.1) in
    let split : x / 2 ^ (place + 1) * 2 ^ (place + 1) + x % 2 ^ (place + 1) ≡ x = shr_split x (place + 1) in
    let small : x < 2 ^ level = h.1.0 in
    (ap suc ih.0, (omega (arith, split, small), ih.1))

-- ---- addresses

double : (a n : ℕ) → a * 2 ^ suc n ≡ a * 2 * 2 ^ n
double a n = rw (pow-succ' 2 n) (omega arith)

address-from-below : (start k place : ℕ) (body : List ℕ) → start < k → body_address_from start place body < k * 2 ^ length body
address-from-below start k place [] h = omega (arith, h)
address-from-below start k place (x ∷ xs) h =
    let d : x / 2 ^ place % 2 < 2 = omega arith in
    rw (double k (length xs)) (address-from-below (start * 2 + x / 2 ^ place % 2) (k * 2) place xs (omega (arith, h, d)))

pub address-below : (dims place : ℕ) (body : List ℕ) → length body ≡ dims → body_address place body < 2 ^ dims
address-below dims place body e =
    let h : body_address place body < 1 * 2 ^ length body = address-from-below 0 1 place body (omega arith) in
    subst (λ n. body_address place body < 2 ^ n) e (omega (arith, h))

-- a number from a place on, by its digit there and what is above
from-place : (place x : ℕ) → x / 2 ^ place ≡ x / 2 ^ (place + 1) * 2 + x / 2 ^ place % 2
from-place place x =
    let e : x / 2 ^ place / 2 ^ 1 ≡ x / 2 ^ (place + 1) = shr-shr x place 1 in omega (arith, e)

-- bodies that agree above a place and have one address there agree from it on
pub same_from_address : (place s t : ℕ) (xs ys : List ℕ) → length xs ≡ length ys →
    digits_from (place + 1) xs ≡ digits_from (place + 1) ys →
    body_address_from s place xs ≡ body_address_from t place ys → (s ≡ t) × (digits_from place xs ≡ digits_from place ys)
same_from_address place s t [] [] l e a = (a, refl)
same_from_address place s t [] (y ∷ ys) l e a = absurd (omega (arith, l))
same_from_address place s t (x ∷ xs) [] l e a = absurd (omega (arith, l))
same_from_address place s t (x ∷ xs) (y ∷ ys) l e a =
    let ih : (s * 2 + x / 2 ^ place % 2 ≡ t * 2 + y / 2 ^ place % 2) × (digits_from place xs ≡ digits_from place ys) =
    same_from_address place (s * 2 + x / 2 ^ place % 2) (t * 2 + y / 2 ^ place % 2) xs ys (omega (arith, l))
    (ap (drop 1) e) a in
    let above : x / 2 ^ (place + 1) ≡ y / 2 ^ (place + 1) = ap (λ u. get_or u 0 0) e in
    let starts : s ≡ t = omega (arith, ih.0) in
    let digit : x / 2 ^ place % 2 ≡ y / 2 ^ place % 2 = omega (arith, ih.0) in
    let here : x / 2 ^ place ≡ y / 2 ^ place = omega (arith, from-place place x, from-place place y, above, digit) in
    (starts, ap (λ n. n ∷ digits_from place xs) here ∙ ap {B = List ℕ} (λ u. y / 2 ^ place ∷ u) ih.1)

pub other_address : (place : ℕ) (xs ys : List ℕ) → length xs ≡ length ys →
    digits_from (place + 1) xs ≡ digits_from (place + 1) ys → (digits_from place xs ≡ digits_from place ys → ⊥) →
    body_address place xs ≢ body_address place ys
other_address place xs ys l e n a = n (same_from_address place 0 0 xs ys l e a).1

-- bodies below a level have no digit from it on
pub none_from : (dims level : ℕ) (xs ys : List ℕ) → IsBody dims level xs → IsBody dims level ys → digits_from level xs ≡ digits_from level ys
none_from dims level [] [] h k = refl
none_from dims level [] (y ∷ ys) h k = absurd (omega (arith, h.0, k.0))
none_from dims level (x ∷ xs) [] h k = absurd (omega (arith, h.0, k.0))
none_from zero level (x ∷ xs) (y ∷ ys) h k = absurd (omega (arith, h.0))
none_from (suc dims) level (x ∷ xs) (y ∷ ys) h k =
    ap (λ n. n ∷ digits_from level xs) (none level x h.1.0 ∙ sym (none level y k.1.0)) ∙
    ap {B = List ℕ} (λ u. y / 2 ^ level ∷ u)
    (none_from dims level xs ys (omega (arith, h.0), h.1.1) (omega (arith, k.0), k.1.1))
  where
    none : (n x : ℕ) → x < 2 ^ n → x / 2 ^ n ≡ 0
    none n x l = div-eq_of_lt l
