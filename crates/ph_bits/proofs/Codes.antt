-- A field is replaced as the code does it, in one word or in two. Each takes what a contract knows of the words of a slice.
use Rattle.std.proofs.Common.{◌≡◌, refl, ◌≤◌, ◌<◌, ◌+◌, ◌*◌, ◌/◌, ◌%◌, ◌^◌, length, ℕ, suc, ◌-◌, sym, ◌∙◌, ap, subst, arith, List, slice_index_or, slice_set, Fits, w64}
use Rattle.std.proofs.lemmas.Nat.{shr_below, field_of, shl-shr}
use Rattle.std.proofs.Math.Nat.{mod-one, mod-eq_of_lt}
use Rattle.ph_model.specs.Digits.{digits_at}
use Rattle.ph_bits.specs.Fields.{number_in, with_digits}
use Rattle.ph_model.proofs.laws.WordDigits.{each-fits}
use Rattle.ph_bits.proofs.Stores.{same_number, with_digits-one, with_digits-two}

-- the last digits of v, as the code takes them
pub last : (v low : ℕ) → low ≤ 64 → v * 2 ^ (64 - low) % 2 ^ 64 / 2 ^ (64 - low) ≡ v % 2 ^ low
last v low l =
    let a : 64 ≡ low + (64 - low) = omega (arith, l) in
    ap (λ t. v * 2 ^ (64 - low) % 2 ^ t / 2 ^ (64 - low)) a ∙ field_of (v * 2 ^ (64 - low)) low (64 - low) ∙ ap (λ t. t % 2 ^ low) (shl-shr v (64 - low))

pub none : (ws : List ℕ) (at width v : ℕ) → width ≡ 0 → v < 2 ^ width → ((i : ℕ) → Fits w64 (slice_index_or ws i 0)) → ws ≡ with_digits ws at width v
none ws at width v e l h =
    subst (λ w. ws ≡ with_digits ws at w v) (sym e)
    (same_number ws ws at 0 v refl (each-fits ws h)
    (same (number_in ws) (2 ^ (64 * length ws - at - 0)) (digits_at ws at 0) v (mod-one (number_in ws / 2 ^ (64 * length ws - at - 0))) (subst (λ w. v < 2 ^ w) e l)))
  where
    same : (n k d v : ℕ) → d ≡ 0 → v < 1 → n + d * k ≡ n + v * k
    same n k d v e l = let f : v ≡ 0 = omega (arith, l) in ap (λ t. n + t * k) (e ∙ sym f)

pub one : (ws : List ℕ) (at width x v : ℕ) → width ≤ 64 - at % 64 → 0 < width → at + width ≤ 64 * length ws → ((i : ℕ) → Fits w64 (slice_index_or ws i 0)) → x < 2 ^ 64
    → x + slice_index_or ws (at / 64) 0 / 2 ^ (64 - at % 64 - width) % 2 ^ width * 2 ^ (64 - at % 64 - width) ≡
    slice_index_or ws (at / 64) 0 + v * 2 ^ (64 - at % 64 - width)
    → slice_set ws (at / 64) x ≡ with_digits ws at width v
one ws at width x v l p m h f e =
    let w : 64 * (at / 64) + at % 64 ≡ at = omega arith in
    with_digits-one ws (at / 64) (at % 64) width (64 - at % 64 - width) x v (omega (arith, l)) (omega (arith, l, m, p)) (each-fits ws h) f e
    ∙ ap (λ t. with_digits ws t width v) w

pub two : (ws : List ℕ) (at width x y v : ℕ) → width ≤ 64 → 64 - at % 64 < width → at + width ≤ 64 * length ws →
    ((i : ℕ) → Fits w64 (slice_index_or ws i 0)) → x < 2 ^ 64 → y < 2 ^ 64
    → x + slice_index_or ws (at / 64) 0 / 1 % 2 ^ (64 - at % 64) * 1 ≡ slice_index_or ws (at / 64) 0 + v / 2 ^ (width - (64 - at % 64)) * 1
    → y + slice_index_or ws (at / 64 + 1) 0 / 2 ^ (64 - (width - (64 - at % 64))) % 2 ^ (width - (64 - at % 64)) * 2 ^ (64 - (width - (64 - at % 64)))
    ≡ slice_index_or ws (at / 64 + 1) 0 + v * 2 ^ (64 - (width - (64 - at % 64))) % 2 ^ 64 / 2 ^ (64 - (width - (64 - at % 64))) * 2 ^ (64 - (width - (64 - at % 64)))
    → slice_set (slice_set ws (at / 64) x) (at / 64 + 1) y ≡ with_digits ws at width v
two ws at width x y v n l m h fx fy ex ey =
    let room : ℕ = 64 - at % 64 in
    let low : ℕ = width - (64 - at % 64) in
    let behind : ℕ = 64 - (width - (64 - at % 64)) in
    let place : ℕ = at / 64 in
    let z : ℕ = slice_index_or ws (suc (at / 64)) 0 in
    let w : 64 * (at / 64) + at % 64 ≡ at = omega arith in
    let b : 64 - at % 64 + (width - (64 - at % 64)) ≡ width = omega (arith, l) in
    let next : at / 64 + 1 ≡ suc (at / 64) = omega arith in
    let all : 64 ≡ width - (64 - at % 64) + (64 - (width - (64 - at % 64))) = omega (arith, n) in
    let front : x + slice_index_or ws (at / 64) 0 % 2 ^ (64 - at % 64) ≡ slice_index_or ws (at / 64) 0 + v / 2 ^
    (width - (64 - at % 64)) = plain x (slice_index_or ws place 0) (2 ^ room) (v / 2 ^ low) ex in
    let other : slice_index_or ws (at / 64 + 1) 0 ≡ slice_index_or ws (suc (at / 64)) 0 = ap (λ t. slice_index_or ws t 0) next in
    let small : slice_index_or ws (suc (at / 64)) 0 / 2 ^ (64 - (width - (64 - at % 64))) % 2 ^
    (width - (64 - at % 64)) ≡ slice_index_or ws (suc (at / 64)) 0 / 2 ^ (64 - (width - (64 - at % 64))) =
    mod-eq_of_lt (shr_below z low behind (subst (λ t. z < 2 ^ t) all (h (suc (at / 64))).fits)) in
    let back : y + slice_index_or ws (suc (at / 64)) 0 / 2 ^ (64 - (width - (64 - at % 64))) * 2 ^
    (64 - (width - (64 - at % 64))) ≡ slice_index_or ws (suc (at / 64)) 0 + v % 2 ^ (width - (64 - at % 64)) * 2 ^
    (64 - (width - (64 - at % 64))) =
    sym (ap (λ t. y + t * 2 ^ behind) small)
    ∙ subst (λ t. y + t / 2 ^ behind % 2 ^ low * 2 ^ behind ≡ t + v * 2 ^ behind % 2 ^ 64 / 2 ^ behind * 2 ^ behind) other ey
    ∙ ap (λ t. z + t * 2 ^ behind) (last v low (omega (arith, n))) in
    ap (λ t. slice_set (slice_set ws place x) t y) next
    ∙ with_digits-two ws place (at % 64) room low behind x y v (omega arith) (sym all) (omega (arith, l, m)) (each-fits ws h) fx fy front back
    ∙ ap (λ t. with_digits ws t (room + low) v) w ∙ ap (λ t. with_digits ws at t v) b
  where
    plain : (x w k u : ℕ) → x + w / 1 % k * 1 ≡ w + u * 1 → x + w % k ≡ w + u
    plain x w k u e =
        let d : w / 1 ≡ w = omega arith in
        let f : x + w % k * 1 ≡ w + u * 1 = subst (λ t. x + t % k * 1 ≡ w + u * 1) d e in
        omega (arith, f)
