-- The words of a table are made by the number that its fields make.
use Rattle.std.proofs.Common.{◌≡◌, ℕ, ◌+◌, ◌-◌, ◌*◌, ◌^◌, ◌<◌, sym, ◌∙◌, ap, arith, List, ◌++◌, length, length-append}
use Rattle.std.specs.List.{AllByRecursion as Each}
use Rattle.std.proofs.lemmas.Nat.{pow-add}
use Rattle.ph_specs.specs.Digits.{Field, number_after, number_of, digits_of, words_for, words_of, pieces}
use Rattle.ph_specs.proofs.lemmas.Numbers.{Fit, number_after-start, length-words_of, number_of-words_of}
use Rattle.ph_model.proofs.lemmas.RowsBehind.{Each-append}
use Rattle.ph_model.proofs.laws.OneToOne.{pieces-small}
use Rattle.ph_specs.proofs.laws.ReadBack.{pieces-number}
use Rattle.ph_bits.specs.Fields.{number_in}
use Rattle.ph_model.proofs.laws.WordDigits.{number-append}

-- words are known by their number
same-number : (xs ys : List ℕ) → Each (λ x. x < 2 ^ 64) xs → Each (λ x. x < 2 ^ 64) ys → length xs ≡ length ys → number_in xs ≡ number_in ys → xs ≡ ys
same-number xs ys h k l e =
    sym (pieces-number 64 xs h) ∙ ap (λ n. pieces 64 n (number_in xs)) l ∙ ap (pieces 64 (length ys)) e ∙ pieces-number 64 ys k

-- words whose number is that of the fields behind other words
pub table-words : (front ws : List ℕ) (fs : List Field) → Each (λ x. x < 2 ^ 64) front → Each (λ x. x < 2 ^ 64) ws →
    Fit fs → length ws ≡ length front + words_for (digits_of fs)
    → number_in ws ≡ number_after (number_in front) fs * 2 ^ (64 * words_for (digits_of fs) - digits_of fs) → ws ≡ front ++ words_of fs
table-words front ws fs f h k l e =
    let d : ℕ = digits_of fs in
    let t : ℕ = words_for (digits_of fs) in
    let pad : ℕ = 64 * words_for (digits_of fs) - digits_of fs in
    let n : ℕ = number_in front in
    let long : length ws ≡ length (front ++ words_of fs) = l ∙ ap (λ s. length front + s) (sym (length-words_of fs)) ∙ sym (length-append front (words_of fs)) in
    let c : 64 * words_for (digits_of fs) ≡ digits_of fs + (64 * words_for (digits_of fs) - digits_of fs) = omega arith in
    let p : 2 ^ (64 * words_for (digits_of fs)) ≡
    2 ^ digits_of fs * 2 ^ (64 * words_for (digits_of fs) - digits_of fs) = ap (λ s. 2 ^ s) c ∙
    pow-add 2 (digits_of fs) (64 * words_for (digits_of fs) - digits_of fs) in
    let q : number_in (front ++ words_of fs) ≡ n * 2 ^ (64 * t) + number_of fs * 2 ^ pad =
    number-append front (words_of fs) ∙ ap (λ s. n * 2 ^ (64 * s) + number_in (words_of fs)) (length-words_of fs) ∙
    ap (λ s. n * 2 ^ (64 * t) + s) (number_of-words_of fs k) in
    same-number ws (front ++ words_of fs) h (Each-append (λ x. x < 2 ^ 64) front (words_of fs) f (pieces-small 64 t (number_of fs * 2 ^ pad))) long
    (e ∙ ap (λ s. s * 2 ^ pad) (number_after-start n fs) ∙ parts n (2 ^ d) (number_of fs) (2 ^ pad) (2 ^ (64 * t)) p ∙ sym q)
  where
    parts : (x A N P K : ℕ) → K ≡ A * P → (x * A + N) * P ≡ x * K + N * P
    parts x A N P K e = let f : x * K ≡ x * (A * P) = ap (λ s. x * s) e in omega (arith, f)
