-- The word of differences has a 1 exactly where the digits of some pair differ.
use Rattle.std.proofs.Common.{◌≡◌, ◌≢◌, ℕ, suc, ◌+◌, ◌-◌, ◌*◌, ◌/◌, ◌%◌, ◌<◌, ◌≤◌, ◌^◌, List, [], ◌∷◌, length}
use Rattle.std.proofs.Common.{map, inl, inr, sym, ◌∙◌, ap, refl, arith, get_or, drop, subst}
use Rattle.std.specs.List.{AllByRecursion as Each}
use Rattle.std.specs.Int.{bit_at}
use Rattle.std.specs.Int.Bits.{bit_or, bit_xor}
use Rattle.std.specs.Int.Count.{count_leading_zeros}
use Rattle.std.proofs.lemmas.Nat.{shr-shr, leading_top}
use Rattle.std.proofs.lemmas.Nat.Bits.{bit_at-zero, bit_at_above, same_from_bits}
use Rattle.std.proofs.Math.Nat.{div-eq_of_lt-le}
use Rattle.std.proofs.Math.Pow.{pow_mono}
use Rattle.std.proofs.lemmas.Bool.{cases_lt}
use Rattle.ph_model.specs.Lawful.{IsBody}
use Rattle.ph_model.specs.PutTree.{digits_from}
use Rattle.ph_specs.proofs.lemmas.JoinedBits.{joined-none, joined-same}
use Rattle.ph_digits.proofs.Cuts.{none_from}
use Rattle.ph_digits.specs.Differences.{differences, IsTopDifference}

-- where the word has a 0, all digits are the same
same-at : (m k : ℕ) (xs ys : List ℕ) → length xs ≡ length ys → bit_at (differences m xs ys) k ≡ 0 →
    (bit_at m k ≡ 0) × (map (λ x. bit_at x k) xs ≡ map (λ x. bit_at x k) ys)
same-at m k [] [] long e = (e, refl)
same-at m k [] (y ∷ ys) long e = absurd (omega (arith, long))
same-at m k (x ∷ xs) [] long e = absurd (omega (arith, long))
same-at m k (x ∷ xs) (y ∷ ys) long e =
    let more : (bit_at (bit_or m (bit_xor x y)) k ≡ 0) × (map (λ x. bit_at x k) xs ≡ map (λ x. bit_at x k) ys) =
    same-at (bit_or m (bit_xor x y)) k xs ys (omega (arith, long)) e in
    let here : (bit_at m k ≡ 0) × (bit_at x k ≡ bit_at y k) = joined-none m x y k more.0 in
    (here.0, ap (λ n. n ∷ map (λ x. bit_at x k) xs) here.1 ∙ ap {B = List ℕ} (λ u. bit_at y k ∷ u) more.1)

-- where all digits are the same, the word has the digit that it began with
kept-at : (m k : ℕ) (xs ys : List ℕ) → map (λ x. bit_at x k) xs ≡ map (λ x. bit_at x k) ys → bit_at (differences m xs ys) k ≡ bit_at m k
kept-at m k [] ys e = refl
kept-at m k (x ∷ xs) [] e = refl
kept-at m k (x ∷ xs) (y ∷ ys) e =
    kept-at (bit_or m (bit_xor x y)) k xs ys (ap (drop 1) e) ∙ joined-same m x y k (ap (λ u. get_or u 0 0) e)

-- the digits from a place on, by the digits at each place
from_bits : (t : ℕ) (xs ys : List ℕ) → length xs ≡ length ys →
    ((k : ℕ) → t ≤ k → map (λ x. bit_at x k) xs ≡ map (λ x. bit_at x k) ys) → digits_from t xs ≡ digits_from t ys
from_bits t [] [] long e = refl
from_bits t [] (y ∷ ys) long e = absurd (omega (arith, long))
from_bits t (x ∷ xs) [] long e = absurd (omega (arith, long))
from_bits t (x ∷ xs) (y ∷ ys) long e =
    let here : x / 2 ^ t ≡ y / 2 ^ t = same_from_bits (x / 2 ^ t) (y / 2 ^ t)
    (λ i. ap (λ n. n % 2) (shr-shr x t i) ∙ ap (λ u. get_or u 0 0) (e (t + i) (omega arith)) ∙
    sym (ap (λ n. n % 2) (shr-shr y t i))) in
    ap (λ n. n ∷ digits_from t xs) here ∙ ap {B = List ℕ} (λ u. y / 2 ^ t ∷ u) (from_bits t xs ys (omega (arith, long)) (λ k l. ap (drop 1) (e k l)))

bits_from : (t : ℕ) (xs ys : List ℕ) → digits_from t xs ≡ digits_from t ys → map (λ x. bit_at x t) xs ≡ map (λ x. bit_at x t) ys
bits_from t [] [] e = refl
bits_from t [] (y ∷ ys) e = cc
bits_from t (x ∷ xs) [] e = cc
bits_from t (x ∷ xs) (y ∷ ys) e =
    ap (λ n. n % 2 ∷ map (λ x. bit_at x t) xs) (ap (λ u. get_or u 0 0) e) ∙ ap {B = List ℕ} (λ u. bit_at y t ∷ u) (bits_from t xs ys (ap (drop 1) e))

from-zero : (xs : List ℕ) → digits_from 0 xs ≡ xs
from-zero [] = refl
from-zero (x ∷ xs) =
    let e : x / 1 ≡ x = omega arith in ap (λ t. t ∷ digits_from 0 xs) e ∙ ap {B = List ℕ} (λ t. x ∷ t) (from-zero xs)

-- the word is 0 only where nothing differs
pub none-differs : (xs ys : List ℕ) → length xs ≡ length ys → differences 0 xs ys ≡ 0 → xs ≡ ys
none-differs xs ys long e =
    sym (from-zero xs) ∙ from_bits 0 xs ys long (λ k l. (same-at 0 k xs ys long (ap (λ m. bit_at m k) e ∙ bit_at-zero k)).1) ∙ from-zero ys

-- the digit at the top of a number is 1
pub top-digit : (m j : ℕ) → 2 ^ j ≤ m → m < 2 ^ suc j → bit_at m j ≡ 1
top-digit m j h k =
    let e : 2 ^ suc j ≡ 2 * 2 ^ j = omega arith in
    ap (λ x. x % 2) (div-eq_of_lt-le {k = 1} (2 ^ j) {m = m} (omega (arith, h)) (omega (arith, k, e)))

-- the place of the word's top digit
pub top-place : (xs ys : List ℕ) (m : ℕ) → length xs ≡ length ys → m < 2 ^ 64 → m ≢ 0 → m ≡ differences 0 xs ys → IsTopDifference xs ys (63 - count_leading_zeros 64 m)
top-place xs ys m long small some e =
    let t = leading_top 64 m (omega (arith, some)) small in
    let at : t.0 ≡ 63 - count_leading_zeros 64 m = omega (arith, t.1) in
    subst (IsTopDifference xs ys) at (record {
      within = omega (arith, t.1);
      agree = from_bits (t.0 + 1) xs ys long (λ i g. (same-at 0 i xs ys long (sym (ap (λ x. bit_at x i) e) ∙ bit_at_above m (suc t.0) i t.3 (omega (arith, g)))).1);
      differ = λ a. let no : ⊥ = omega (arith, top-digit m t.0 t.2 t.3, ap (λ x. bit_at x t.0) e, kept-at 0 t.0 xs ys (bits_from t.0 xs ys a), bit_at-zero t.0) in no;
    })

-- ---- of lists that differ

-- numbers below a level differ below it
pub top-lower : (dims level place : ℕ) (xs ys : List ℕ) → IsBody dims level xs → IsBody dims level ys → IsTopDifference xs ys place → place < level
top-lower dims level place xs ys h k t =
    elim (cases_lt place level) [
      | inl l ↦ l
      | inr l ↦ absurd (t.differ (none_from dims place xs ys (wider xs l h) (wider ys l k)))
    ]
  where
    each-wider : (zs : List ℕ) → level ≤ place → Each (λ z. z < 2 ^ level) zs → Each (λ z. z < 2 ^ place) zs
    each-wider [] l g = tt
    each-wider (z ∷ zs) l g = (omega (arith, g.0, pow_mono {i = level} {j = place} l), each-wider zs l g.1)

    wider : (zs : List ℕ) → level ≤ place → IsBody dims level zs → IsBody dims place zs
    wider zs l g = (g.0, each-wider zs l g.1)
