-- Words whose digits behind the first word are those of fields, and zeros up to the end of a word.
use Rattle.std.proofs.Common.{◌≡◌, ℕ, zero, suc, ◌+◌, ◌-◌, ◌*◌, ◌/◌, ◌%◌, ◌^◌, ◌≤◌, ◌<◌, sym, ◌∙◌, ap, subst, arith, List, [], ◌∷◌, ◌++◌, length, take, drop}
use Rattle.std.specs.List.{AllByRecursion as Each}
use Rattle.std.proofs.lemmas.List.{take-append-drop, length-take-le, length-drop}
use Rattle.std.proofs.lemmas.Nat.{mod-mul-add}
use Rattle.std.proofs.Math.Nat.{mod-eq_of_lt}
use Rattle.ph_specs.specs.Digits.{Field, number_of, digits_of, pieces, words_for, words_of}
use Rattle.ph_model.specs.Digits.{digits_at}
use Rattle.ph_specs.proofs.laws.ReadBack.{pieces-number}
use Rattle.ph_model.proofs.laws.WordDigits.{digits-behind, digits-first, digits-front, number-append, number-small}
use Rattle.ph_bits.specs.Fields.{number_in}
use Rattle.ph_linear.specs.Edited.{IsOver}
use Rattle.ph_linear.specs.Runs.{with_fields}
use Rattle.ph_linear.proofs.Overs.{all-digits, same-number}

each-front : (n : ℕ) (xs : List ℕ) → Each (λ x. x < 2 ^ 64) xs → Each (λ x. x < 2 ^ 64) (take n xs)
each-front zero xs h = tt
each-front (suc n) [] h = tt
each-front (suc n) (x ∷ xs) h = (h.0, each-front n xs h.1)

pub each-back : (n : ℕ) (xs : List ℕ) → Each (λ x. x < 2 ^ 64) xs → Each (λ x. x < 2 ^ 64) (drop n xs)
each-back zero xs h = h
each-back (suc n) [] h = tt
each-back (suc n) (x ∷ xs) h = each-back n xs h.1

-- the first words, and those behind them, by their digits
front-words : (n : ℕ) (ws : List ℕ) → n ≤ length ws → Each (λ x. x < 2 ^ 64) ws → digits_at ws 0 (64 * n) ≡ number_in (take n ws)
front-words n ws l h =
    let t : length (take n ws) ≡ n = length-take-le n ws l in
    ap (λ xs. digits_at xs 0 (64 * n)) (sym (take-append-drop n ws))
    ∙ digits-front (take n ws) (drop n ws) 0 (64 * n) (omega (arith, t)) (each-back n ws h)
    ∙ ap (λ k. digits_at (take n ws) 0 (64 * k)) (sym t)
    ∙ all-digits (take n ws) (each-front n ws h)

back-words : (n r : ℕ) (ws : List ℕ) → n + r ≡ length ws → Each (λ x. x < 2 ^ 64) ws → digits_at ws (64 * n) (64 * r) ≡ number_in (drop n ws)
back-words n r ws e h =
    let l : length (drop n ws) ≡ r = length-drop n ws ∙ omega (arith, e) in
    let z : 64 * length ws - 64 * n - 64 * r ≡ 0 = omega (arith, e) in
    let s : number_in (drop n ws) < 2 ^ (64 * r) = subst (λ t. number_in (drop n ws) < 2 ^ (64 * t)) l (number-small (drop n ws) (each-back n ws h)) in
    ap (λ t. number_in ws / 2 ^ t % 2 ^ (64 * r)) z
    ∙ ap (λ t. t % 2 ^ (64 * r)) (omega arith)
    ∙ ap (λ t. number_in t % 2 ^ (64 * r)) (sym (take-append-drop n ws))
    ∙ ap (λ t. t % 2 ^ (64 * r)) (number-append (take n ws) (drop n ws) ∙ ap (λ t. number_in (take n ws) * 2 ^ (64 * t) + number_in (drop n ws)) l)
    ∙ mod-mul-add (number_in (take n ws)) (2 ^ (64 * r)) (number_in (drop n ws)) s

-- words that are fields as words are the words of other fields with as many digits and the same number
pub words-equal : (fs gs : List Field) → digits_of fs ≡ digits_of gs → number_of fs ≡ number_of gs → words_of fs ≡ words_of gs
words-equal fs gs d n =
    ap (λ t. pieces 64 (words_for t) (number_of fs * 2 ^ (64 * words_for t - t))) d
    ∙ ap (λ t. pieces 64 (words_for (digits_of gs)) (t * 2 ^ (64 * words_for (digits_of gs) - digits_of gs))) n

made : (w x : ℕ) (os ns : List ℕ) (t v : ℕ) → Each (λ y. y < 2 ^ 64) (w ∷ os) → Each (λ y. y < 2 ^ 64) (x ∷ ns) →
    t ≤ length os → length ns ≡ length os → IsOver (w ∷ os) 64 (64 * t) v (x ∷ ns)
    → x ∷ ns ≡ w ∷ pieces 64 t v ++ drop t os
made w x os ns t v h k l e o =
    let r : ℕ = length os - t in
    let many : t + (length os - t) ≡ length os = omega (arith, l) in
    let many2 : t + (length os - t) ≡ length ns = omega (arith, l, e) in
    let first : x ≡ w = first-word x w ns os k h (o.front 0 64 (omega arith)) in
    let number : number_in (take t ns) ≡ v =
    sym (front-words t ns (omega (arith, l, e)) k.1) ∙ sym (digits-behind x ns 0 (64 * t) (omega (arith, l, e))) ∙
    ap (λ a. digits_at (x ∷ ns) a (64 * t)) (omega arith) ∙ o.value in
    let long : length (take t ns) ≡ t = length-take-le t ns (omega (arith, l, e)) in
    let table : take t ns ≡ pieces 64 t v =
    sym (pieces-number 64 (take t ns) (each-front t ns k.1)) ∙ ap (λ n. pieces 64 n (number_in (take t ns))) long ∙ ap (pieces 64 t) number in
    let stay : digits_at (x ∷ ns) (64 + 64 * t) (64 * r) ≡ digits_at (w ∷ os) (64 + 64 * t) (64 * r) =
    o.behind (64 + 64 * t) (64 * r) (omega arith) (omega (arith, many)) in
    let back : number_in (drop t ns) ≡ number_in (drop t os) =
    sym (back-words t r ns many2 k.1) ∙ sym (digits-behind x ns (64 * t) (64 * r) (omega (arith, many2))) ∙ stay ∙
    digits-behind w os (64 * t) (64 * r) (omega (arith, many)) ∙ back-words t r os many h.1 in
    let same : drop t ns ≡ drop t os = same-number (drop t ns) (drop t os) (each-back t ns k.1) (each-back t os h.1)
    (length-drop t ns ∙ ap (λ n. n - t) e ∙ sym (length-drop t os)) back in
    ap (λ y. y ∷ ns) first
    ∙ ap {B = List ℕ} (λ ys. w ∷ ys) (sym (take-append-drop t ns) ∙ ap (λ ys. ys ++ drop t ns) table ∙ ap (λ ys. pieces 64 t v ++ ys) same)
  where
    first-word : (x w : ℕ) (ns os : List ℕ) → Each (λ y. y < 2 ^ 64) (x ∷ ns) → Each (λ y. y < 2 ^ 64) (w ∷ os) →
        digits_at (x ∷ ns) 0 64 ≡ digits_at (w ∷ os) 0 64 → x ≡ w
    first-word x w ns os h k e = word x ns h ∙ e ∙ sym (word w os k)
      where
        word : (y : ℕ) (ys : List ℕ) → Each (λ z. z < 2 ^ 64) (y ∷ ys) → y ≡ digits_at (y ∷ ys) 0 64
        word y ys h =
            let z : y / 2 ^ 0 ≡ y = omega arith in
            sym (digits-first y ys 0 64 0 (omega arith) h.1 ∙ ap (λ t. t % 2 ^ 64) z ∙ mod-eq_of_lt h.0)

-- words with fields put over the digits behind the first word, and zeros behind them up to the end of a word
pub over-fields : (old new : List ℕ) (fs : List Field) → Each (λ x. x < 2 ^ 64) old → Each (λ x. x < 2 ^ 64) new →
    1 + words_for (digits_of fs) ≤ length old → length new ≡ length old
    → IsOver old 64 (64 * words_for (digits_of fs)) (number_of fs * 2 ^ (64 * words_for (digits_of fs) - digits_of fs)) new → new ≡ with_fields fs old
over-fields [] new fs h k l e o = absurd (none (words_for (digits_of fs)) l)
  where
    none : (t : ℕ) → 1 + t ≤ 0 → ⊥
    none t l = omega (arith, l)
over-fields (w ∷ os) [] fs h k l e o = absurd (none (length os) e)
  where
    none : (t : ℕ) → 0 ≡ suc t → ⊥
    none t l = omega (arith, l)
over-fields (w ∷ os) (x ∷ ns) fs h k l e o =
    let s : suc (words_for (digits_of fs)) ≡ 1 + words_for (digits_of fs) = omega arith in
    made w x os ns (words_for (digits_of fs)) (number_of fs * 2 ^ (64 * words_for (digits_of fs) - digits_of fs)) h k
    (less (words_for (digits_of fs)) (length os) l) (more (length ns) (length os) e) o
    ∙ ap {B = List ℕ} (λ t. w ∷ words_of fs ++ drop t (w ∷ os)) s
  where
    less : (t n : ℕ) → 1 + t ≤ suc n → t ≤ n
    less t n l = omega (arith, l)

    more : (m n : ℕ) → suc m ≡ suc n → m ≡ n
    more m n e = omega (arith, e)
