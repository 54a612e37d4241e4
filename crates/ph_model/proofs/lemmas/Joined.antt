-- Laws of points that are put together, and of the rows behind entries.
use Rattle.std.proofs.Common.{◌≡◌, ℕ, zero, suc, ◌+◌, ◌-◌, ◌*◌, ◌/◌, ◌%◌, ◌^◌, ◌<◌, ◌≤◌, refl, sym, ◌∙◌, ap, arith, List, [], ◌∷◌, length, map, get_or}
use Rattle.std.specs.Prelude.{ℤ}
use Rattle.std.specs.List.{AllByRecursion as Each}
use Rattle.std.proofs.Math.Nat.{mod-lt}
use Rattle.ph_specs.specs.Coordinate.{offset, coordinate}
use Rattle.ph_specs.specs.ZOrder.{address_from}
use Rattle.ph_specs.specs.TreeRows.{put_together}
use Rattle.ph_model.specs.Lawful.{IsBody, HasZerosFrom}
pub use Rattle.ph_model.specs.Lawful.{IsAbove}
use Rattle.ph_specs.proofs.laws.Coordinates.{offset-coordinate}
use Rattle.ph_specs.proofs.lemmas.Places.{joined-below, joined-at, joined-above, joined-zeros, div-pow-add, digit-in-front}

-- ---- the offsets of a point, and its digits from a place on

abbrev pub offsets : ℕ → List ℤ → List ℕ
offsets w p = map (offset w) p

abbrev pub from_place : ℕ → List ℕ → List ℕ
from_place k xs = map (λ x. x / 2 ^ k) xs

-- the address at a place, of offsets
abbrev pub number_at : ℕ → ℕ → List ℕ → ℕ
number_at s place [] = s
number_at s place (x ∷ xs) = number_at (s * 2 + x / 2 ^ place % 2) place xs

pub offsets-coordinate : (w : ℕ) (xs : List ℕ) → offsets w (map (coordinate w) xs) ≡ xs
offsets-coordinate w [] = refl
offsets-coordinate w (x ∷ xs) =
    ap (λ n. n ∷ offsets w (map (coordinate w) xs)) (offset-coordinate w x) ∙ ap {B = List ℕ} (λ r. x ∷ r) (offsets-coordinate w xs)

pub address_from-is : (w s place : ℕ) (p : List ℤ) → address_from s w p place ≡ number_at s place (offsets w p)
address_from-is w s place [] = refl
address_from-is w s place (c ∷ p) = address_from-is w (s * 2 + offset w c / 2 ^ place % 2) place p

pub number_at-from : (s k i : ℕ) (xs : List ℕ) → number_at s (k + i) xs ≡ number_at s i (from_place k xs)
number_at-from s k i [] = refl
number_at-from s k i (x ∷ xs) =
    ap (λ n. number_at (s * 2 + n % 2) (k + i) xs) (div-pow-add x k i) ∙ number_at-from (s * 2 + x / 2 ^ k / 2 ^ i % 2) k i xs

pub from_place-from : (k i : ℕ) (xs : List ℕ) → from_place (k + i) xs ≡ from_place i (from_place k xs)
from_place-from k i [] = refl
from_place-from k i (x ∷ xs) =
    ap (λ n. n ∷ from_place (k + i) xs) (div-pow-add x k i) ∙ ap {B = List ℕ} (λ r. x / 2 ^ k / 2 ^ i ∷ r) (from_place-from k i xs)

-- points with the same digits from a place on have the same address at each place from it on
pub same_number : (s k j : ℕ) (xs ys : List ℕ) → k ≤ j → from_place k xs ≡ from_place k ys → number_at s j xs ≡ number_at s j ys
same_number s k j xs ys l e =
    let m : j ≡ k + (j - k) = omega arith in
    ap (λ n. number_at s n xs) m ∙ number_at-from s k (j - k) xs ∙ ap (λ r. number_at s (j - k) r) e ∙
    sym (number_at-from s k (j - k) ys) ∙ sym (ap (λ n. number_at s n ys) m)

pub same_from : (k j : ℕ) (xs ys : List ℕ) → k ≤ j → from_place k xs ≡ from_place k ys → from_place j xs ≡ from_place j ys
same_from k j xs ys l e =
    let m : j ≡ k + (j - k) = omega arith in
    ap (λ n. from_place n xs) m ∙ from_place-from k (j - k) xs ∙ ap (λ r. from_place (j - k) r) e ∙ sym (from_place-from k (j - k) ys) ∙ sym (ap (λ n. from_place n ys) m)

-- ---- what is put together

bit_small : (a k : ℕ) → a / 2 ^ k % 2 < 2
bit_small a k = mod-lt (a / 2 ^ k) (omega arith)

pub length-put_together : (b a : ℕ) (above body : List ℕ) → length above ≡ length body → length (put_together b a above body) ≡ length above
length-put_together b a [] [] h = refl
length-put_together b a [] (y ∷ body) h = refl
length-put_together b a (x ∷ above) [] h = absurd (omega (arith, h))
length-put_together b a (x ∷ above) (y ∷ body) h = ap suc (length-put_together b a above body (omega (arith, h)))

-- a number of what is put together
pub get-put_together : (level a i : ℕ) (xs ys : List ℕ) → length xs ≡ length ys → i < length xs →
    get_or (put_together level a xs ys) i 0 ≡ get_or xs i 0 + a / 2 ^ (length xs - 1 - i) % 2 * 2 ^ level + get_or ys i 0
get-put_together level a i [] ys e l = absurd (omega (arith, l))
get-put_together level a i (x ∷ xs) [] e l = absurd (omega (arith, e))
get-put_together level a zero (x ∷ xs) (y ∷ ys) e l =
    let k : length (x ∷ xs) - 1 - 0 ≡ length xs = omega arith in
    ap (λ n. x + a / 2 ^ n % 2 * 2 ^ level + y) (sym k)
get-put_together level a (suc i) (x ∷ xs) (y ∷ ys) e l =
    let k : length (x ∷ xs) - 1 - suc i ≡ length xs - 1 - i = omega arith in
    get-put_together level a i xs ys (omega (arith, e)) (omega (arith, l)) ∙ ap (λ n. get_or xs i 0 + a / 2 ^ n % 2 * 2 ^ level + get_or ys i 0) (sym k)

pub number_at-put_together : (s b a : ℕ) (above body : List ℕ) → length above ≡ length body → HasZerosFrom b above →
    Each (λ y. y < 2 ^ b) body → number_at s b (put_together b a above body) ≡ s * 2 ^ length above + a % 2 ^ length above
number_at-put_together s b a [] [] h z k =
    let e : a % 1 ≡ 0 = omega (arith, mod-lt a {m = 1} (omega arith)) in omega (arith, e)
number_at-put_together s b a [] (y ∷ body) h z k = absurd (omega (arith, h))
number_at-put_together s b a (x ∷ above) [] h z k = absurd (omega (arith, h))
number_at-put_together s b a (x ∷ above) (y ∷ body) h z k =
    let n : ℕ = length above in
    let e : (x + a / 2 ^ length above % 2 * 2 ^ b + y) / 2 ^ b % 2 ≡ a / 2 ^ length above % 2 =
    joined-at b x (a / 2 ^ length above % 2) y z.0 (bit_small a (length above)) k.0 in
    let ih : number_at (s * 2 + a / 2 ^ length above % 2) b (put_together b a above body) ≡
    (s * 2 + a / 2 ^ length above % 2) * 2 ^ length above + a % 2 ^ length above =
    number_at-put_together (s * 2 + a / 2 ^ length above % 2) b a above body (omega (arith, h)) z.1 k.1 in
    let c : length above + 1 ≡ suc (length above) = omega arith in
    ap (λ t. number_at (s * 2 + t) b (put_together b a above body)) e ∙ ih ∙ digit-in-front s a (length above) ∙ ap (λ t. s * 2 ^ t + a % 2 ^ t) c

pub from_place-put_together : (b a : ℕ) (above body : List ℕ) → length above ≡ length body → HasZerosFrom b above →
    Each (λ y. y < 2 ^ b) body → from_place (b + 1) (put_together b a above body) ≡ from_place (b + 1) above
from_place-put_together b a [] [] h z k = refl
from_place-put_together b a [] (y ∷ body) h z k = refl
from_place-put_together b a (x ∷ above) [] h z k = absurd (omega (arith, h))
from_place-put_together b a (x ∷ above) (y ∷ body) h z k =
    ap (λ t. t ∷ from_place (b + 1) (put_together b a above body))
    (joined-above b x (a / 2 ^ length above % 2) y z.0 (bit_small a (length above)) k.0) ∙
    ap {B = List ℕ} (λ r. x / 2 ^ (b + 1) ∷ r) (from_place-put_together b a above body (omega (arith, h)) z.1 k.1)

pub below-put_together : (b a : ℕ) (above body : List ℕ) → length above ≡ length body → HasZerosFrom b above →
    Each (λ y. y < 2 ^ b) body → map (λ x. x % 2 ^ b) (put_together b a above body) ≡ body
below-put_together b a [] [] h z k = refl
below-put_together b a [] (y ∷ body) h z k = absurd (omega (arith, h))
below-put_together b a (x ∷ above) [] h z k = absurd (omega (arith, h))
below-put_together b a (x ∷ above) (y ∷ body) h z k =
    ap (λ t. t ∷ map (λ x. x % 2 ^ b) (put_together b a above body))
    (joined-below b x (a / 2 ^ length above % 2) y z.0 k.0) ∙
    ap {B = List ℕ} (λ r. y ∷ r) (below-put_together b a above body (omega (arith, h)) z.1 k.1)

pub zeros-put_together : (b c a : ℕ) (above body : List ℕ) → c < b → HasZerosFrom b above → HasZerosFrom c body → HasZerosFrom c (put_together b a above body)
zeros-put_together b c a [] body l z k = tt
zeros-put_together b c a (x ∷ above) [] l z k = tt
zeros-put_together b c a (x ∷ above) (y ∷ body) l z k =
    (joined-zeros b c x (a / 2 ^ length above % 2) y l z.0 k.0, zeros-put_together b c a above body l z.1 k.1)

-- what is known behind a child entry
pub above-child : (dims b c a : ℕ) (above body : List ℕ) → c < b → IsAbove dims b above → IsBody dims b body →
    HasZerosFrom c body → IsAbove dims c (put_together b a above body)
above-child dims b c a above body l h k z =
    record { long = length-put_together b a above body (h.long ∙ sym k.0) ∙ h.long; zeros = zeros-put_together b c a above body l h.zeros z }
