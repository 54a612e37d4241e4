-- A point is put together again from its digits above a place, its address at it and its digits below.
use Rattle.std.proofs.Common.{◌≡◌, ℕ, zero, suc, ◌+◌, ◌-◌, ◌*◌, ◌/◌, ◌%◌, ◌^◌, ◌<◌, ◌≤◌, refl, ◌∙◌, ap, arith, List, [], ◌∷◌, length, map}
use Rattle.std.proofs.lemmas.Nat.{div-mul-add, mod-mul-add, div-add-mod', pow-add}
use Rattle.std.proofs.Math.Nat.{mod-lt}
use Rattle.ph_specs.specs.TreeRows.{put_together}
use Rattle.ph_specs.proofs.lemmas.Places.{pow-next, div-pow-add, mod-div-pow}
use Rattle.ph_model.proofs.lemmas.Joined.{number_at}

-- ---- numbers

-- zeros from a place down
abbrev pub cleared : ℕ → List ℕ → List ℕ
cleared k xs = map (λ x. x / 2 ^ k * 2 ^ k) xs

-- the digits below a place, with zeros below another
abbrev pub between : ℕ → ℕ → List ℕ → List ℕ
between b k xs = map (λ x. x % 2 ^ b / 2 ^ k * 2 ^ k) xs

pub number-joined : (b k x : ℕ) → k ≤ b → x / 2 ^ (b + 1) * 2 ^ (b + 1) + x / 2 ^ b % 2 * 2 ^ b + x % 2 ^ b / 2 ^ k * 2 ^ k ≡ x / 2 ^ k * 2 ^ k
number-joined b k x l =
    let m : b ≡ k + (b - k) = omega arith in
    let p : 2 ^ b ≡ 2 ^ k * 2 ^ (b - k) = ap (λ n. 2 ^ n) m ∙ pow-add 2 k (b - k) in
    let d : x / 2 ^ (b + 1) ≡ x / 2 ^ b / 2 = div-pow-add x b 1 in
    let e : x / 2 ^ b / 2 * 2 + x / 2 ^ b % 2 ≡ x / 2 ^ b = div-add-mod' (x / 2 ^ b) 2 in
    let f : x / 2 ^ b ≡ x / 2 ^ k / 2 ^ (b - k) = ap (λ n. x / 2 ^ n) m ∙ div-pow-add x k (b - k) in
    let g : x % 2 ^ b / 2 ^ k ≡ x / 2 ^ k % 2 ^ (b - k) = ap (λ n. x % 2 ^ n / 2 ^ k) m ∙ mod-div-pow x k (b - k) in
    let q : x / 2 ^ k / 2 ^ (b - k) * 2 ^ (b - k) + x / 2 ^ k % 2 ^ (b - k) ≡ x / 2 ^ k = div-add-mod' (x / 2 ^ k) (2 ^ (b - k)) in
    let t1 : x / 2 ^ (b + 1) * 2 ^ (b + 1) ≡ x / 2 ^ b / 2 * (2 * 2 ^ b) = ap (λ n. n * 2 ^ (b + 1)) d ∙ ap (λ n. x / 2 ^ b / 2 * n) (pow-next b) in
    let t2 : (x / 2 ^ b / 2 * 2 + x / 2 ^ b % 2) * 2 ^ b ≡ x / 2 ^ b * 2 ^ b = ap (λ n. n * 2 ^ b) e in
    let t3 : x / 2 ^ b * 2 ^ b ≡ x / 2 ^ k / 2 ^ (b - k) * (2 ^ k * 2 ^ (b - k)) = ap (λ n. n * 2 ^ b) f ∙ ap (λ n. x / 2 ^ k / 2 ^ (b - k) * n) p in
    let t4 : x % 2 ^ b / 2 ^ k * 2 ^ k ≡ x / 2 ^ k % 2 ^ (b - k) * 2 ^ k = ap (λ n. n * 2 ^ k) g in
    let t5 : (x / 2 ^ k / 2 ^ (b - k) * 2 ^ (b - k) + x / 2 ^ k % 2 ^ (b - k)) * 2 ^ k ≡ x / 2 ^ k * 2 ^ k = ap (λ n. n * 2 ^ k) q in
    omega (arith, t1, t2, t3, t4, t5)

-- ---- addresses

-- an address is its first digits, and behind them one more for each number
pub number_at-start : (s b : ℕ) (xs : List ℕ) → number_at s b xs ≡ s * 2 ^ length xs + number_at 0 b xs
number_at-start s b [] = omega arith
number_at-start s b (x ∷ xs) =
    let d : ℕ = x / 2 ^ b % 2 in
    let e : number_at (s * 2 + x / 2 ^ b % 2) b xs ≡ (s * 2 + x / 2 ^ b % 2) * 2 ^ length xs + number_at 0 b xs = number_at-start (s * 2 + x / 2 ^ b % 2) b xs in
    let f : number_at (0 * 2 + x / 2 ^ b % 2) b xs ≡ (0 * 2 + x / 2 ^ b % 2) * 2 ^ length xs + number_at 0 b xs = number_at-start (0 * 2 + x / 2 ^ b % 2) b xs in
    let p : s * 2 ^ suc (length xs) ≡ s * (2 * 2 ^ length xs) =
    ap (λ n. s * n) (ap (λ n. 2 ^ n) (let c : suc (length xs) ≡ length xs + 1 = omega arith in c) ∙ pow-next (length xs)) in
    omega (arith, e, f, p)

pub number_at-small : (b : ℕ) (xs : List ℕ) → number_at 0 b xs < 2 ^ length xs
number_at-small b [] = omega arith
number_at-small b (x ∷ xs) =
    let f : number_at (0 * 2 + x / 2 ^ b % 2) b xs ≡ (0 * 2 + x / 2 ^ b % 2) * 2 ^ length xs + number_at 0 b xs = number_at-start (0 * 2 + x / 2 ^ b % 2) b xs in
    let p : 2 ^ suc (length xs) ≡ 2 * 2 ^ length xs = ap (λ n. 2 ^ n) (let c : suc (length xs) ≡ length xs + 1 = omega arith in c) ∙ pow-next (length xs) in
    by_digit (x / 2 ^ b % 2) (mod-lt (x / 2 ^ b) (omega arith)) (2 ^ length xs) (2 ^ suc (length xs)) (number_at 0 b xs) p f (number_at-small b xs)
  where
    by_digit : (d : ℕ) → d < 2 → (m n t : ℕ) → n ≡ 2 * m → {a : ℕ} → a ≡ (0 * 2 + d) * m + t → t < m → a < n
    by_digit zero l m n t e f k = omega arith
    by_digit (suc zero) l m n t e f k = omega arith
    by_digit (suc (suc d)) l m n t e f k = absurd (omega arith)

-- the digit of an address at a place
pub number_at-digit : (s b x : ℕ) (xs : List ℕ) → number_at (s * 2 + x / 2 ^ b % 2) b xs / 2 ^ length xs % 2 ≡ x / 2 ^ b % 2
number_at-digit s b x xs =
    ap (λ n. n / 2 ^ length xs % 2) (number_at-start (s * 2 + x / 2 ^ b % 2) b xs) ∙
    ap (λ n. n % 2) (div-mul-add (s * 2 + x / 2 ^ b % 2) (2 ^ length xs) (number_at 0 b xs)
    (number_at-small b xs)) ∙ mod-mul-add s 2 (x / 2 ^ b % 2) (mod-lt (x / 2 ^ b) (omega arith))

-- ---- points

pub length-cleared : (k : ℕ) (xs : List ℕ) → length (cleared k xs) ≡ length xs
length-cleared k [] = refl
length-cleared k (x ∷ xs) = ap suc (length-cleared k xs)

-- what is put together from the digits of numbers is these numbers, as far down as the digits go
pub put_together-digits : (s b k : ℕ) (xs : List ℕ) → k ≤ b → put_together b (number_at s b xs) (cleared (b + 1) xs) (between b k xs) ≡ cleared k xs
put_together-digits s b k [] l = refl
put_together-digits s b k (x ∷ xs) l =
    let a : ℕ = number_at (s * 2 + x / 2 ^ b % 2) b xs in
    let d : number_at (s * 2 + x / 2 ^ b % 2) b xs / 2 ^ length (cleared (b + 1) xs) % 2 ≡ x / 2 ^ b % 2 =
    ap (λ n. number_at (s * 2 + x / 2 ^ b % 2) b xs / 2 ^ n % 2) (length-cleared (b + 1) xs) ∙ number_at-digit s b x xs in
    ap (λ t. (x / 2 ^ (b + 1) * 2 ^ (b + 1) + t * 2 ^ b + x % 2 ^ b / 2 ^ k * 2 ^ k) ∷ put_together b a (cleared (b + 1) xs) (between b k xs)) d
    ∙ ap (λ t. t ∷ put_together b a (cleared (b + 1) xs) (between b k xs)) (number-joined b k x l)
    ∙ ap {B = List ℕ} (λ r. x / 2 ^ k * 2 ^ k ∷ r) (put_together-digits (s * 2 + x / 2 ^ b % 2) b k xs l)

pub cleared-zero : (xs : List ℕ) → cleared 0 xs ≡ xs
cleared-zero [] = refl
cleared-zero (x ∷ xs) =
    let e : x / 1 * 1 ≡ x = omega arith in ap (λ t. t ∷ cleared 0 xs) e ∙ ap {B = List ℕ} (λ r. x ∷ r) (cleared-zero xs)
