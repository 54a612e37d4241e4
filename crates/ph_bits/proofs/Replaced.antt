-- What is read of words in which some digits were replaced.
use Rattle.std.proofs.Common.{◌≡◌, refl, Fits, w64, slice_index_or, ℕ, ◌+◌, ◌-◌, ◌*◌, ◌/◌, ◌%◌, ◌^◌, ◌<◌, ◌≤◌, sym, ◌∙◌, ap, subst, arith, List, length}
use Rattle.std.specs.List.{AllByRecursion as Each}
use Rattle.std.proofs.lemmas.Nat.{div-mul-add, mod-mul-add, pow_pos, shr-shr, shr_split, mod_below}
use Rattle.std.proofs.Math.Nat.{mod-eq_of_lt}
use Rattle.ph_model.specs.Digits.{digits_at}
use Rattle.ph_specs.proofs.lemmas.Numbers.{number_of-pieces, length-pieces}
use Rattle.ph_bits.specs.Fields.{number_in, with_digits, IsPut}
use Rattle.ph_model.proofs.laws.WordDigits.{each-fits, high_gone, number-small}
use Rattle.ph_bits.proofs.Stores.{replaced-fits}

-- a number with v in its w digits in front of the last k
abbrev made : ℕ → ℕ → ℕ → ℕ → ℕ
made x w k v = (x / 2 ^ (w + k) * 2 ^ w + v) * 2 ^ k + x % 2 ^ k

length-with_digits : (ws : List ℕ) (at width v : ℕ) → length (with_digits ws at width v) ≡ length ws
length-with_digits ws at width v = length-pieces 64 (length ws) (made (number_in ws) width (64 * length ws - at - width) v)

number-with_digits : (ws : List ℕ) (at width v : ℕ) → at + width ≤ 64 * length ws → v < 2 ^ width → Each (λ x. x < 2 ^ 64) ws
    → number_in (with_digits ws at width v) ≡ made (number_in ws) width (64 * length ws - at - width) v
number-with_digits ws at width v l m h =
    let e : ℕ = 64 * length ws - at - width in
    let a : at + (width + (64 * length ws - at - width)) ≡ 64 * length ws = omega (arith, l) in
    number_of-pieces 64 (length ws) (made (number_in ws) width e v)
    ∙ mod-eq_of_lt (subst (λ t. made (number_in ws) width e v < 2 ^ t) a
    (replaced-fits (number_in ws) width e at v m (subst (λ t. number_in ws < 2 ^ t) (sym a) (number-small ws h))))

read : (ws : List ℕ) (at width v a k : ℕ) → at + width ≤ 64 * length ws → v < 2 ^ width → Each (λ x. x < 2 ^ 64) ws
    → digits_at (with_digits ws at width v) a k ≡ made (number_in ws) width (64 * length ws - at - width) v / 2 ^ (64 * length ws - a - k) % 2 ^ k
read ws at width v a k l m h =
    ap (λ t. t / 2 ^ (64 * length (with_digits ws at width v) - a - k) % 2 ^ k) (number-with_digits ws at width v l m h)
    ∙ ap (λ t. made (number_in ws) width (64 * length ws - at - width) v / 2 ^ (64 * t - a - k) % 2 ^ k) (length-with_digits ws at width v)

-- the digits are v
digits-same : (ws : List ℕ) (at width v : ℕ) → at + width ≤ 64 * length ws → v < 2 ^ width → Each (λ x. x < 2 ^ 64) ws
    → digits_at (with_digits ws at width v) at width ≡ v
digits-same ws at width v l m h =
    let e : ℕ = 64 * length ws - at - width in
    let x : ℕ = number_in ws in
    read ws at width v at width l m h
    ∙ ap (λ t. t % 2 ^ width) (div-mul-add (x / 2 ^ (width + e) * 2 ^ width + v) (2 ^ e) (x % 2 ^ e) (mod_below x (2 ^ e) (pow_pos e)))
    ∙ mod-mul-add (x / 2 ^ (width + e)) (2 ^ width) v m

-- digits in front of them are as they were
digits-in_front : (ws : List ℕ) (at width v a k : ℕ) → at + width ≤ 64 * length ws → v < 2 ^ width → Each (λ x. x < 2 ^ 64) ws → a + k ≤ at
    → digits_at (with_digits ws at width v) a k ≡ digits_at ws a k
digits-in_front ws at width v a k l m h f =
    let e : ℕ = 64 * length ws - at - width in
    let x : ℕ = number_in ws in
    let far : ℕ = at - a - k in
    let d : 64 * length ws - a - k ≡ 64 * length ws - at - width + (width + (at - a - k)) = omega (arith, l, f) in
    let g : 64 * length ws - at - width + width ≡ width + (64 * length ws - at - width) = omega arith in
    read ws at width v a k l m h
    ∙ ap (λ t. t % 2 ^ k)
    (ap (λ t. made x width e v / 2 ^ t) d
    ∙ sym (shr-shr (made x width e v) e (width + far))
    ∙ ap (λ t. t / 2 ^ (width + far)) (div-mul-add (x / 2 ^ (width + e) * 2 ^ width + v) (2 ^ e) (x % 2 ^ e) (mod_below x (2 ^ e) (pow_pos e)))
    ∙ sym (shr-shr (x / 2 ^ (width + e) * 2 ^ width + v) width far)
    ∙ ap (λ t. t / 2 ^ far) (div-mul-add (x / 2 ^ (width + e)) (2 ^ width) v m ∙ ap (λ t. x / 2 ^ t) (sym g) ∙ sym (shr-shr x e width))
    ∙ shr-shr (x / 2 ^ e) width far
    ∙ shr-shr x e (width + far)
    ∙ ap (λ t. x / 2 ^ t) (sym d))

-- and so are digits behind them
digits-after : (ws : List ℕ) (at width v a k : ℕ) → at + width ≤ 64 * length ws → v < 2 ^ width → Each (λ x. x < 2 ^ 64) ws → at + width ≤ a → a + k ≤ 64 * length ws
    → digits_at (with_digits ws at width v) a k ≡ digits_at ws a k
digits-after ws at width v a k l m h f g =
    let e : ℕ = 64 * length ws - at - width in
    let x : ℕ = number_in ws in
    let far : ℕ = 64 * length ws - a - k in
    let d : 64 * length ws - at - width ≡ a - at - width + k + (64 * length ws - a - k) = omega (arith, l, f, g) in
    let r : ℕ = x % 2 ^ e in
    let up : (y : ℕ) → (y * 2 ^ e + r) / 2 ^ far % 2 ^ k ≡ r / 2 ^ far % 2 ^ k = λ y.
    ap (λ t. (y * 2 ^ t + r) / 2 ^ far % 2 ^ k) d ∙ high_gone y r far k (a - at - width) in
    read ws at width v a k l m h
    ∙ up (x / 2 ^ (width + e) * 2 ^ width + v)
    ∙ sym (up (x / 2 ^ e))
    ∙ ap (λ t. t / 2 ^ far % 2 ^ k) (shr_split x e)

pub put : (ws xs : List ℕ) (at width v : ℕ) → at + width ≤ 64 * length ws → v < 2 ^ width →
    ((i : ℕ) → Fits w64 (slice_index_or ws i 0)) → xs ≡ with_digits ws at width v → IsPut ws at width v xs
put ws xs at width v l m f e =
    let h : Each (λ x. x < 2 ^ 64) ws = each-fits ws f in
    subst (IsPut ws at width v) (sym e)
    (record {
      words = refl;
      value = digits-same ws at width v l m h;
      front = λ a k. digits-in_front ws at width v a k l m h;
      behind = λ a k. digits-after ws at width v a k l m h;
    })
