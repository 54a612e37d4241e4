-- The kinds of a word from an address on, and the first of them that is not 0.
use Rattle.std.proofs.Common.{◌≡◌, ◌≢◌, ℕ, suc, ◌+◌, ◌-◌, ◌*◌, ◌/◌, ◌%◌, ◌^◌, ◌<◌, ◌≤◌, sym, ◌∙◌, ap, arith, List, length, inl, inr}
use Rattle.std.proofs.Common.{slice_index_or, true, Fits, w64}
use Rattle.std.specs.Prelude.{◌⊎◌}
use Rattle.std.specs.List.{AllByRecursion as Each}
use Rattle.std.specs.Int.RustNames.{count_ones}
use Rattle.std.specs.Int.Count.{count_leading_zeros}
use Rattle.std.proofs.lemmas.Bool.{cases_lt}
use Rattle.std.proofs.lemmas.Nat.{div-mul-add, mod-pow-add, mod_low, pow_pos, shl-shr, shr-shr, leading_top}
use Rattle.std.proofs.Math.Nat.{div-eq_of_lt, lt-div-mul-add, pow-le-pow_right}
use Rattle.ph_model.specs.Digits.{digits_at}
use Rattle.ph_model.specs.Layout.{IsRecord}
use Rattle.ph_specs.specs.Record.{first_in}
use Rattle.ph_model.proofs.laws.WordDigits.{digits-parts, digits-below, digits-one, each-fits}
use Rattle.ph_bits.specs.Fields.{ones_in}
use Rattle.ph_cube.proofs.Masks.{word-whole}
use Rattle.ph_cube.proofs.Ranks.{ones-add, present-ones, present-entries}

-- a shift to the left keeps the last digits
shifted : (x w k : ℕ) → x * 2 ^ k % 2 ^ (w + k) ≡ x % 2 ^ w * 2 ^ k
shifted x w k =
    let z : x * 2 ^ k % 2 ^ k ≡ 0 = ap (λ t. t % 2 ^ k) (omega arith) ∙ mod_low x k 0 (pow_pos k) in
    mod-pow-add (x * 2 ^ k) w k ∙ ap (λ t. t % 2 ^ w * 2 ^ k + x * 2 ^ k % 2 ^ k) (shl-shr x k) ∙ ap (λ t. x % 2 ^ w * 2 ^ k + t) z ∙ omega arith

two-pow : (i j : ℕ) → i ≤ j → 2 ^ i ≤ 2 ^ j
two-pow i j l = let o : 0 < 2 = omega arith in pow-le-pow_right o l

-- a number below a power has nothing in front, and one with nothing in front is below it
none-front : (x b j : ℕ) → x < 2 ^ j → j ≤ b → x / 2 ^ b ≡ 0
none-front x b j l m = let p : 2 ^ j ≤ 2 ^ b = two-pow j b m in let q : x < 2 ^ b = omega (arith, l, p) in div-eq_of_lt q

below-front : (x b : ℕ) → x / 2 ^ b ≡ 0 → x < 2 ^ b
below-front x b e =
    let l : x < x / 2 ^ b * 2 ^ b + 2 ^ b = lt-div-mul-add (pow_pos b) in
    let z : x / 2 ^ b * 2 ^ b ≡ 0 * 2 ^ b = ap (λ t. t * 2 ^ b) e in
    omega (arith, l, z)

-- the kinds from an address on in its word, and those of the next word
pub word-rest : (ws : List ℕ) (first : ℕ) → first / 32 + 1 < length ws → ((i : ℕ) → Fits w64 (slice_index_or ws i 0)) →
    slice_index_or ws (first / 32 + 1) 0 * 2 ^ (first % 32 * 2) % 2 ^ 64
    ≡ digits_at ws (64 + first * 2) ((32 * (first / 32 + 1) - first) * 2) * 2 ^ (64 - (32 * (first / 32 + 1) - first) * 2)
word-rest ws first l h =
    let x : ℕ = slice_index_or ws (first / 32 + 1) 0 in
    let s : ℕ = first % 32 * 2 in
    let w : ℕ = (32 * (first / 32 + 1) - first) * 2 in
    let a : first % 32 * 2 + (32 * (first / 32 + 1) - first) * 2 + 0 ≡ 64 = omega arith in
    let b : 64 * (first / 32 + 1) + first % 32 * 2 ≡ 64 + first * 2 = omega arith in
    let t : 64 ≡ (32 * (first / 32 + 1) - first) * 2 + first % 32 * 2 = omega arith in
    let u : first % 32 * 2 ≡ 64 - (32 * (first / 32 + 1) - first) * 2 = omega arith in
    let o : slice_index_or ws (first / 32 + 1) 0 / 2 ^ 0 ≡ slice_index_or ws (first / 32 + 1) 0 = omega arith in
    ap (λ v. x * 2 ^ s % 2 ^ v) t
    ∙ shifted x w s
    ∙ ap (λ v. v % 2 ^ w * 2 ^ s) (sym o)
    ∙ ap (λ v. v * 2 ^ s) (sym (digits-one ws (first / 32 + 1) s w 0 a l (each-fits ws h)))
    ∙ ap (λ v. digits_at ws v w * 2 ^ s) b
    ∙ ap (λ v. digits_at ws (64 + first * 2) w * 2 ^ v) u

pub word-next : (ws : List ℕ) (place : ℕ) → place + 1 < length ws → ((i : ℕ) → Fits w64 (slice_index_or ws i 0)) →
    slice_index_or ws (place + 1) 0
    ≡ digits_at ws (64 + place * 32 * 2) ((32 * (place + 1) - place * 32) * 2) * 2 ^ (64 - (32 * (place + 1) - place * 32) * 2)
word-next ws place l h =
    let a : 64 + 32 * (place + 1 - 1) * 2 ≡ 64 + place * 32 * 2 = omega arith in
    let n : 32 * 2 ≡ (32 * (place + 1) - place * 32) * 2 = omega arith in
    let z : 0 ≡ 64 - (32 * (place + 1) - place * 32) * 2 = omega arith in
    let d : ℕ = digits_at ws (64 + place * 32 * 2) ((32 * (place + 1) - place * 32) * 2) in
    let o : d ≡ d * 2 ^ 0 = omega arith in
    word-whole ws (place + 1) (omega arith) l h
    ∙ ap (λ t. digits_at ws t (32 * 2)) a
    ∙ ap (digits_at ws (64 + place * 32 * 2)) n
    ∙ o
    ∙ ap (λ t. d * 2 ^ t) z

pub record FirstKind (ws : List ℕ) (at n k : ℕ) : Type 0 where
  pub inside : k < n
  pub none : digits_at ws at (k * 2) ≡ 0
  pub some : digits_at ws (at + k * 2) 2 ≢ 0

-- n kinds at the front of a word
module _ (ws : List ℕ) (at n x : ℕ) (l : at + n * 2 ≤ 64 * length ws) (m : n ≤ 32) (e : x ≡ digits_at ws at (n * 2) * 2 ^ (64 - n * 2)) where
  front : (k : ℕ) → k ≤ n → digits_at ws at (k * 2) ≡ x / 2 ^ (64 - k * 2)
  front k h =
      let w : ℕ = (n - k) * 2 in
      let b : ℕ = 64 - n * 2 in
      let s : n * 2 ≡ k * 2 + (n - k) * 2 = omega (arith, h) in
      let t : 64 - n * 2 + (n - k) * 2 ≡ 64 - k * 2 = omega (arith, h, m) in
      sym (ap (λ u. x / 2 ^ u) (sym t)
      ∙ sym (shr-shr x b w)
      ∙ ap (λ u. u / 2 ^ b / 2 ^ w) e
      ∙ ap (λ u. u / 2 ^ w) (shl-shr (digits_at ws at (n * 2)) b)
      ∙ ap (λ u. digits_at ws at u / 2 ^ w) s
      ∙ ap (λ u. u / 2 ^ w) (digits-parts ws at (k * 2) w (omega (arith, l, h)))
      ∙ div-mul-add (digits_at ws at (k * 2)) (2 ^ w) (digits_at ws (at + k * 2) w) (digits-below ws (at + k * 2) w))

  -- where the word is 0
  pub none-left : x ≡ 0 → digits_at ws at (n * 2) ≡ 0
  none-left z = let p : 0 / 2 ^ (64 - n * 2) ≡ 0 = div-eq_of_lt (pow_pos (64 - n * 2)) in front n (omega arith) ∙ ap (λ u. u / 2 ^ (64 - n * 2)) z ∙ p

  -- where it is not
  pub first-kind : (k : ℕ) → k ≡ count_leading_zeros 64 x / 2 → 0 < x → x < 2 ^ 64 → FirstKind ws at n k
  first-kind k d p f =
      let t = leading_top 64 x p f in
      let j : ℕ = t.0 in
      let low : suc j ≤ 64 - k * 2 = omega (arith, d, t.1) in
      let high : 64 - (k + 1) * 2 ≤ j = omega (arith, d, t.1) in
      let inside : k < n = by (cases_lt k n) j t.3 low in
      record {
        inside = inside;
        none = front k (omega (arith, inside)) ∙ none-front x (64 - k * 2) (suc j) t.3 low;
        some = λ q.
            let s : (k + 1) * 2 ≡ k * 2 + 2 = omega arith in
            let z : digits_at ws at (k * 2) ≡ 0 = front k (omega (arith, inside)) ∙ none-front x (64 - k * 2) (suc j) t.3 low in
            let a : digits_at ws at ((k + 1) * 2) ≡ digits_at ws at (k * 2) * 2 ^ 2 + digits_at ws (at + k * 2) 2 =
            ap (digits_at ws at) s ∙ digits-parts ws at (k * 2) 2 (omega (arith, l, inside)) in
            let c : x / 2 ^ (64 - (k + 1) * 2) ≡ 0 = sym (front (k + 1) (omega (arith, inside))) ∙ a ∙ omega (arith, z, q) in
            let u : x < 2 ^ (64 - (k + 1) * 2) = below-front x (64 - (k + 1) * 2) c in
            absurd (omega (arith, u, t.2, two-pow (64 - (k + 1) * 2) j high));
      }
    where
      by : (k < n) ⊎ (n ≤ k) → (j : ℕ) → x < 2 ^ suc j → suc j ≤ 64 - k * 2 → k < n
      by (inl a) j h i = a
      by (inr a) j h i =
          let z : digits_at ws at (n * 2) ≡ 0 = front n (omega arith) ∙ none-front x (64 - n * 2) (suc j) h (omega (arith, i, a)) in
          let o : x ≡ 0 * 2 ^ (64 - n * 2) = e ∙ ap (λ u. u * 2 ^ (64 - n * 2)) z in
          absurd (omega (arith, o, p))

none-ones : (ws : List ℕ) (at w : ℕ) → digits_at ws at w ≡ 0 → ones_in ws at w ≡ 0
unfolding count_ones
none-ones ws at w e = ap count_ones e

-- behind so many kinds that are 0 there is an address, with as few entries in front of it
pub behind : (d : ℕ) (ws : List ℕ) (i first m : ℕ) → IsRecord true d ws → Each (λ x. x < 2 ^ 64) ws → i + 1 < (first_in ws).entries → first ≤ 2 ^ d →
    64 + first * 2 + m * 2 ≤ 64 * length ws → ones_in ws 64 (first * 2) ≡ i + 1 → digits_at ws (64 + first * 2) (m * 2) ≡ 0
    → (first + m < 2 ^ d) × (ones_in ws 64 ((first + m) * 2) ≡ i + 1)
behind d ws i first m r h within f l b z = (by (cases_lt (first + m) (2 ^ d)), same)
  where
    clear : ones_in ws (64 + first * 2) (m * 2) ≡ 0
    clear = none-ones ws (64 + first * 2) (m * 2) z

    same : ones_in ws 64 ((first + m) * 2) ≡ i + 1
    same = let s : (first + m) * 2 ≡ first * 2 + m * 2 = omega arith in
        ap (ones_in ws 64) s ∙ ones-add ws 64 (first * 2) (m * 2) l ∙ omega (arith, b, clear)

    by : (first + m < 2 ^ d) ⊎ (2 ^ d ≤ first + m) → first + m < 2 ^ d
    by (inl a) = a
    by (inr a) =
        let k : ℕ = 2 ^ d - first in
        let s : m * 2 ≡ (2 ^ d - first) * 2 + (m - (2 ^ d - first)) * 2 = omega (arith, a, f) in
        let t : 2 ^ d * 2 ≡ first * 2 + (2 ^ d - first) * 2 = omega (arith, f) in
        let u : ones_in ws (64 + first * 2) (m * 2) ≡ ones_in ws (64 + first * 2) (k * 2) + ones_in ws (64 + first * 2 + k * 2) ((m - k) * 2) =
        ap (ones_in ws (64 + first * 2)) s ∙ ones-add ws (64 + first * 2) (k * 2) ((m - k) * 2) (omega (arith, l, s)) in
        let v : ones_in ws 64 (2 ^ d * 2) ≡ ones_in ws 64 (first * 2) + ones_in ws (64 + first * 2) (k * 2) =
        ap (ones_in ws 64) t ∙ ones-add ws 64 (first * 2) (k * 2) (omega (arith, l, s)) in
        let all : ones_in ws 64 (2 ^ d * 2) ≡ (first_in ws).entries = present-ones d ws (2 ^ d) r h (omega arith) ∙ present-entries d ws r in
        absurd (omega (arith, u, v, all, clear, b, within))
