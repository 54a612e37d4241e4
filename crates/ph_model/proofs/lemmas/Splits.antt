-- The place at which two entries of one address are split, and what is known there.
use Rattle.std.proofs.Common.{◌≡◌, ◌≢◌, ℕ, zero, suc, ◌+◌, ◌-◌, ◌*◌, ◌/◌, ◌%◌, ◌^◌, ◌<◌, ◌≤◌, refl, sym, ◌∙◌, ap, subst, arith, List, [], ◌∷◌, get_or, drop, inl, inr}
use Rattle.std.specs.Prelude.{ℤ}
use Rattle.std.proofs.lemmas.Bool.{cases_lt}
use Rattle.std.proofs.lemmas.Nat.{pow_pos, div-add-mod', mod-pow-add, mod-mul-add}
use Rattle.std.proofs.Math.Nat.{mul-div_cancel, mod-lt}
use Rattle.ph_specs.specs.Coordinate.{offset}
use Rattle.ph_specs.specs.Shape.{digits_below, digits_between}
use Rattle.ph_specs.specs.TreeRows.{put_together}
use Rattle.ph_model.specs.Lawful.{IsBody, HasZerosFrom}
use Rattle.ph_specs.specs.DelTree.{same_digits}
use Rattle.ph_model.specs.PutTree.{digits_from, split_place, body_address_from, body_address, body_below}
use Rattle.ph_specs.proofs.laws.Put.{either}
use Rattle.ph_specs.proofs.lemmas.Places.{div-pow-add, mod-div-pow, quotient}
use Rattle.ph_model.proofs.lemmas.Joined.{offsets, from_place, number_at, same_from}
use Rattle.ph_model.proofs.lemmas.Assembled.{cleared, between, put_together-digits, cleared-zero}
use Rattle.ph_model.proofs.lemmas.Grouped.{same_place}
use Rattle.ph_model.proofs.lemmas.PointDigits.{same_digits-true, same_digits-false, IsWhole}
use Rattle.ph_model.proofs.lemmas.Shaped.{zeros-between, body-between, below-between, between-between}

-- ---- numbers

-- the digits below one place and from another on
middle : (b k x : ℕ) → k ≤ b → x % 2 ^ b / 2 ^ k ≡ x / 2 ^ k % 2 ^ (b - k)
middle b k x l =
    let m : b ≡ k + (b - k) = omega (arith, l) in ap (λ n. x % 2 ^ n / 2 ^ k) m ∙ mod-div-pow x k (b - k)

twice : (b k x : ℕ) → k ≤ b → x % 2 ^ b % 2 ^ k ≡ x % 2 ^ k
twice b k x l =
    let m : b ≡ (b - k) + k = omega (arith, l) in
    ap (λ n. x % 2 ^ n % 2 ^ k) m ∙ ap (λ n. n % 2 ^ k) (mod-pow-add x (b - k) k) ∙ mod-mul-add (x / 2 ^ k % 2 ^ (b - k)) (2 ^ k) (x % 2 ^ k) (mod-lt x (pow_pos k))

one-digit : (b k x : ℕ) → k < b → x % 2 ^ b / 2 ^ k % 2 ≡ x / 2 ^ k % 2
one-digit b k x l =
    ap (λ n. n % 2) (middle b k x (omega (arith, l))) ∙ twice (b - k) 1 (x / 2 ^ k) (omega (arith, l))

same-number : (b k z x : ℕ) → k ≤ b → z / 2 ^ b ≡ x / 2 ^ b → z % 2 ^ b / 2 ^ k ≡ x % 2 ^ b / 2 ^ k → z / 2 ^ k ≡ x / 2 ^ k
same-number b k z x l e f =
    let i : ℕ = b - k in
    let m : b ≡ k + (b - k) = omega (arith, l) in
    let g : z / 2 ^ k / 2 ^ (b - k) ≡ x / 2 ^ k / 2 ^ (b - k) =
    sym (ap (λ n. z / 2 ^ n) m ∙ div-pow-add z k (b - k)) ∙ e ∙ ap (λ n. x / 2 ^ n) m ∙ div-pow-add x k (b - k) in
    let h : z / 2 ^ k % 2 ^ (b - k) ≡ x / 2 ^ k % 2 ^ (b - k) = sym (middle b k z l) ∙ f ∙ middle b k x l in
    sym (div-add-mod' (z / 2 ^ k) (2 ^ i)) ∙ ap (λ n. n * 2 ^ i + z / 2 ^ k % 2 ^ i) g ∙ ap (λ n. x / 2 ^ k / 2 ^ i * 2 ^ i + n) h ∙ div-add-mod' (x / 2 ^ k) (2 ^ i)

-- zeros below a place change no digit from it on
cleared-number : (low k y : ℕ) → low ≤ k → y / 2 ^ low * 2 ^ low / 2 ^ k ≡ y / 2 ^ k
cleared-number low k y l =
    let m : k ≡ low + (k - low) = omega (arith, l) in
    ap (λ n. y / 2 ^ low * 2 ^ low / 2 ^ n) m ∙ div-pow-add (y / 2 ^ low * 2 ^ low) low (k - low) ∙
    ap (λ n. n / 2 ^ (k - low)) (mul-div_cancel (y / 2 ^ low) (pow_pos low)) ∙
    sym (ap (λ n. y / 2 ^ n) m ∙ div-pow-add y low (k - low))

-- ---- lists

pub below-offsets : (w b : ℕ) (p : List ℤ) → digits_below w b p ≡ body_below b (offsets w p)
below-offsets w b [] = refl
below-offsets w b (c ∷ p) = ap {B = List ℕ} (λ r. offset w c % 2 ^ b ∷ r) (below-offsets w b p)

same-lists : (b k : ℕ) (zs xs : List ℕ) → k ≤ b → from_place b zs ≡ from_place b xs →
    from_place k (body_below b zs) ≡ from_place k (body_below b xs) → from_place k zs ≡ from_place k xs
same-lists b k [] [] l e f = refl
same-lists b k [] (x ∷ xs) l e f = cc
same-lists b k (z ∷ zs) [] l e f = cc
same-lists b k (z ∷ zs) (x ∷ xs) l e f =
    ap (λ t. t ∷ from_place k zs) (same-number b k z x l (ap (λ t. get_or t 0 0) e) (ap (λ t. get_or t 0 0) f)) ∙
    ap {B = List ℕ} (λ t. x / 2 ^ k ∷ t) (same-lists b k zs xs l (ap (drop 1) e) (ap (drop 1) f))

same-below : (b k : ℕ) (zs xs : List ℕ) → k ≤ b → from_place k zs ≡ from_place k xs → from_place k (body_below b zs) ≡ from_place k (body_below b xs)
same-below b k [] [] l e = refl
same-below b k [] (x ∷ xs) l e = cc
same-below b k (z ∷ zs) [] l e = cc
same-below b k (z ∷ zs) (x ∷ xs) l e =
    let h : z % 2 ^ b / 2 ^ k ≡ x % 2 ^ b / 2 ^ k = middle b k z l ∙ ap (λ n. n % 2 ^ (b - k)) (ap (λ t. get_or t 0 0) e) ∙ sym (middle b k x l) in
    ap (λ t. t ∷ from_place k (body_below b zs)) h ∙ ap {B = List ℕ} (λ t. x % 2 ^ b / 2 ^ k ∷ t) (same-below b k zs xs l (ap (drop 1) e))

pub from-between : (b low k : ℕ) (xs : List ℕ) → low ≤ k → from_place k (between b low xs) ≡ from_place k (body_below b xs)
from-between b low k [] l = refl
from-between b low k (x ∷ xs) l =
    ap (λ t. t ∷ from_place k (between b low xs)) (cleared-number low k (x % 2 ^ b) l) ∙ ap {B = List ℕ} (λ t. x % 2 ^ b / 2 ^ k ∷ t) (from-between b low k xs l)

-- numbers with zeros below a place are told by their digits from it on
pub zeros-same : (c : ℕ) (xs ys : List ℕ) → HasZerosFrom c xs → HasZerosFrom c ys → from_place (c + 1) xs ≡ from_place (c + 1) ys → xs ≡ ys
zeros-same c [] [] h k e = refl
zeros-same c [] (y ∷ ys) h k e = cc
zeros-same c (x ∷ xs) [] h k e = cc
zeros-same c (x ∷ xs) (y ∷ ys) h k e =
    let f : x ≡ y = quotient x (2 ^ (c + 1)) h.0 ∙ ap (λ n. n * 2 ^ (c + 1)) (ap (λ t. get_or t 0 0) e) ∙ sym (quotient y (2 ^ (c + 1)) k.0) in
    ap (λ t. t ∷ xs) f ∙ ap {B = List ℕ} (λ t. y ∷ t) (zeros-same c xs ys h.1 k.1 (ap (drop 1) e))

from-zero : (xs : List ℕ) → from_place 0 xs ≡ xs
from-zero [] = refl
from-zero (x ∷ xs) =
    let e : x / 1 ≡ x = omega arith in ap (λ t. t ∷ from_place 0 xs) e ∙ ap {B = List ℕ} (λ t. x ∷ t) (from-zero xs)

-- ---- the greatest place at which numbers differ

pub record Differ (b k : ℕ) (xs ys : List ℕ) : Type 0 where
  pub lower : k < b
  pub agree : from_place (k + 1) xs ≡ from_place (k + 1) ys
  pub differ : from_place k xs ≡ from_place k ys → ⊥

-- two lists that differ only below a level differ at the place that splits them, and not above it
pub split-differ : (b : ℕ) (xs ys : List ℕ) → from_place b xs ≡ from_place b ys → (xs ≡ ys → ⊥) → Differ b (split_place b xs ys) xs ys
split-differ zero xs ys e n = absurd (n (sym (from-zero xs) ∙ e ∙ from-zero ys))
split-differ (suc b) xs ys e n =
    elim (either (same_digits (digits_from b xs) (digits_from b ys))) [
      | inl same ↦
          let ih : Differ b (split_place b xs ys) xs ys = split-differ b xs ys (same_digits-true (digits_from b xs) (digits_from b ys) same) n in
          rw same (record { lower = omega (arith, ih.lower); agree = ih.agree; differ = ih.differ })
      | inr other ↦
          let m : suc b ≡ b + 1 = omega arith in
          rw other (record {
            lower = omega arith;
            agree = subst (λ k. from_place k xs ≡ from_place k ys) m e;
            differ = same_digits-false (digits_from b xs) (digits_from b ys) other;
          })
    ]

-- and there is no other such place
pub split-unique : (b k : ℕ) (xs ys : List ℕ) → Differ b k xs ys → split_place b xs ys ≡ k
split-unique zero k xs ys d = absurd (omega (arith, d.lower))
split-unique (suc b) k xs ys d =
    elim (either (same_digits (digits_from b xs) (digits_from b ys))) [
      | inl same ↦
          let e : from_place b xs ≡ from_place b ys = same_digits-true (digits_from b xs) (digits_from b ys) same in
          elim (cases_lt k b) [
            | inl l ↦ rw same (split-unique b k xs ys (record { lower = l; agree = d.agree; differ = d.differ }))
            | inr g ↦ let m : b ≡ k = omega (arith, g, d.lower) in absurd (d.differ (subst (λ j. from_place j xs ≡ from_place j ys) m e))
          ]
      | inr other ↦
          elim (cases_lt k b) [
            | inl l ↦ absurd (same_digits-false (digits_from b xs) (digits_from b ys) other (same_from (k + 1) b xs ys (omega (arith, l)) d.agree))
            | inr g ↦ let m : b ≡ k = omega (arith, g, d.lower) in rw other m
          ]
    ]

-- ---- entries of one address

-- the place that splits what is known behind an entry from a point, above which both agree
pub record IsSplit (b low k : ℕ) (zs xs : List ℕ) : Type 0 where
  pub lower : k < b
  pub above : low ≤ k
  pub agree : from_place (k + 1) zs ≡ from_place (k + 1) xs
  pub differ : number_at 0 k zs ≢ number_at 0 k xs

pub split-point : (b : ℕ) (zs xs : List ℕ) → from_place b zs ≡ from_place b xs →
    (body_below b zs ≡ body_below b xs → ⊥) → IsSplit b 0 (split_place b (body_below b zs) (body_below b xs)) zs xs
split-point b zs xs e n =
    let k : ℕ = split_place b (body_below b zs) (body_below b xs) in
    let d : Differ b (split_place b (body_below b zs) (body_below b xs)) (body_below b zs) (body_below b xs) =
    split-differ b (body_below b zs) (body_below b xs) (same-below b b zs xs (omega arith) e) n in
    let a : from_place (split_place b (body_below b zs) (body_below b xs) + 1) zs ≡
    from_place (split_place b (body_below b zs) (body_below b xs) + 1) xs =
    same-lists b (k + 1) zs xs (omega (arith, d.lower)) e d.agree in
    record {
      lower = d.lower;
      above = omega arith;
      agree = a;
      differ = λ s. d.differ (same-below b k zs xs (omega (arith, d.lower)) (same_place 0 k zs xs a s));
    }

pub split-child : (b c : ℕ) (zs xs : List ℕ) → c < b → HasZerosFrom c (body_below b zs) →
    from_place b zs ≡ from_place b xs → (body_below b zs ≡ between b (c + 1) xs → ⊥) →
    IsSplit b (c + 1) (split_place b (body_below b zs) (between b (c + 1) xs)) zs xs
split-child b c zs xs l z e n =
    let ys : List ℕ = between b (c + 1) xs in
    let k : ℕ = split_place b (body_below b zs) (between b (c + 1) xs) in
    let top : from_place b (body_below b zs) ≡ from_place b (between b (c + 1) xs) =
    same-below b b zs xs (omega arith) e ∙ sym (from-between b (c + 1) b xs (omega (arith, l))) in
    let d : Differ b (split_place b (body_below b zs) (between b (c + 1) xs)) (body_below b zs) (between b (c + 1) xs) = split-differ b (body_below b zs) ys top n in
    elim (cases_lt k (c + 1)) [
      | inl g ↦ absurd (n (zeros-same c (body_below b zs) ys z (zeros-between b c xs) (same_from (k + 1) (c + 1) (body_below b zs) ys (omega (arith, g)) d.agree)))
      | inr g ↦
          let a : from_place (split_place b (body_below b zs) (between b (c + 1) xs) + 1) zs ≡
          from_place (split_place b (body_below b zs) (between b (c + 1) xs) + 1) xs =
          same-lists b (k + 1) zs xs (omega (arith, d.lower)) e (d.agree ∙ from-between b (c + 1) (k + 1) xs (omega (arith, g)))
          in
          record {
            lower = d.lower;
            above = g;
            agree = a;
            differ = λ s. d.differ (same-below b k zs xs (omega (arith, d.lower)) (same_place 0 k zs xs a s) ∙ sym (from-between b (c + 1) k xs g));
          }
    ]

-- ---- an entry further down

pub body_address-is : (s b k : ℕ) (zs : List ℕ) → k < b → body_address_from s k (body_below b zs) ≡ number_at s k zs
body_address-is s b k [] l = refl
body_address-is s b k (z ∷ zs) l =
    ap (λ t. body_address_from (s * 2 + t) k (body_below b zs)) (one-digit b k z l) ∙ body_address-is (s * 2 + z / 2 ^ k % 2) b k zs l

pub below-below : (b k : ℕ) (zs : List ℕ) → k ≤ b → body_below k (body_below b zs) ≡ body_below k zs
below-below b k [] l = refl
below-below b k (z ∷ zs) l = ap (λ t. t ∷ body_below k (body_below b zs)) (twice b k z l) ∙ ap {B = List ℕ} (λ t. z % 2 ^ k ∷ t) (below-below b k zs l)

cleared-same : (k : ℕ) (xs ys : List ℕ) → from_place k xs ≡ from_place k ys → cleared k xs ≡ cleared k ys
cleared-same k [] [] e = refl
cleared-same k [] (y ∷ ys) e = cc
cleared-same k (x ∷ xs) [] e = cc
cleared-same k (x ∷ xs) (y ∷ ys) e =
    ap (λ t. t ∷ cleared k xs) (ap (λ n. n * 2 ^ k) (ap (λ t. get_or t 0 0) e)) ∙ ap {B = List ℕ} (λ t. y / 2 ^ k * 2 ^ k ∷ t) (cleared-same k xs ys (ap (drop 1) e))

pub from-cleared : (k : ℕ) (xs : List ℕ) → from_place k (cleared k xs) ≡ from_place k xs
from-cleared k [] = refl
from-cleared k (x ∷ xs) =
    ap (λ t. t ∷ from_place k (cleared k xs)) (cleared-number k k x (omega arith)) ∙ ap {B = List ℕ} (λ t. x / 2 ^ k ∷ t) (from-cleared k xs)

below-is : (k : ℕ) (zs : List ℕ) → body_below k zs ≡ between k 0 zs
below-is k [] = refl
below-is k (z ∷ zs) =
    let e : z % 2 ^ k ≡ z % 2 ^ k / 1 * 1 = omega arith in
    ap (λ t. t ∷ body_below k zs) e ∙ ap {B = List ℕ} (λ t. z % 2 ^ k / 1 * 1 ∷ t) (below-is k zs)

-- what is known behind an entry is known behind it further down, below digits that it shares
pub known-below : (b k : ℕ) (zs xs : List ℕ) → k < b → from_place (k + 1) zs ≡ from_place (k + 1) xs →
    put_together k (body_address k (body_below b zs)) (cleared (k + 1) xs) (body_below k (body_below b zs)) ≡ zs
known-below b k zs xs l e =
    ap (λ t. put_together k t (cleared (k + 1) xs) (body_below k (body_below b zs))) (body_address-is 0 b k zs l)
    ∙ ap (λ t. put_together k (number_at 0 k zs) t (body_below k (body_below b zs))) (sym (cleared-same (k + 1) zs xs e))
    ∙ ap (put_together k (number_at 0 k zs) (cleared (k + 1) zs)) (below-below b k zs (omega (arith, l)) ∙ below-is k zs)
    ∙ put_together-digits 0 k 0 zs (omega arith)
    ∙ cleared-zero zs

-- ---- bodies

pub is-body-between : (w dims b c : ℕ) (p : List ℤ) → IsWhole w dims p → IsBody dims b (digits_between w b c p)
is-body-between w dims b c p h =
    subst (IsBody dims b) (sym (between-between w b c p)) (subst (λ d. IsBody d b (between b (c + 1) (offsets w p))) h.long (body-between b (c + 1) (offsets w p)))

pub is-body-below : (w dims b : ℕ) (p : List ℤ) → IsWhole w dims p → IsBody dims b (digits_below w b p)
is-body-below w dims b p h =
    subst (IsBody dims b) (sym (below-between w b p)) (subst (λ d. IsBody d b (between b 0 (offsets w p))) h.long (body-between b 0 (offsets w p)))

pub is-body-lower : (dims b k : ℕ) (body : List ℕ) → IsBody dims b body → IsBody dims k (body_below k body)
is-body-lower dims b k body h =
    subst (IsBody dims k) (sym (below-is k body)) (subst (λ d. IsBody d k (between k 0 body)) h.0 (body-between k 0 body))

pub zeros-lower : (k c : ℕ) (body : List ℕ) → c < k → HasZerosFrom c body → HasZerosFrom c (body_below k body)
zeros-lower k c [] l h = tt
zeros-lower k c (x ∷ xs) l h = (twice k (c + 1) x (omega (arith, l)) ∙ h.0, zeros-lower k c xs l h.1)
