-- Where the words of a text stand.
use Rattle.std.proofs.Common.{◌≡◌, ℕ, suc, ◌+◌, ◌<◌, ◌≤◌, List, [], ◌∷◌, length, take, drop, get_or, Bool, true, not, refl, sym, ap, ◌∙◌, subst, arith, inl, inr}
use Rattle.std.specs.Prelude.{filter, nat_lt, unwrap_or, Some, None}
use Rattle.std.specs.List.{slice_split, position, position_or_len}
use Rattle.std.proofs.lemmas.Bool.Decides.{nat_tests}
use Rattle.std.proofs.lemmas.Grind.{common_steps}
use Rattle.std.proofs.lemmas.List.Sums.{prefix_len-le-length}
use Rattle.std.proofs.lemmas.List.Folds.{length-prefix_len}
use Rattle.std.proofs.lemmas.Bool.{lt-ltb}
use Rattle.ph_specs.specs.Lines.{is_blank, words}
use Rattle.ph_specs.proofs.laws.Put.{either}
use Rattle.ph_script.specs.declared.numbers.Short.{Short}
use Rattle.ph_script.specs.Words.{IsShort, IsNumberAt}
use Rattle.ph_script.specs.Plain.{IsNext}
use Rattle.std.proofs.lemmas.List.{drop-drop, drop_all, drop_more}

abbrev pub is_other : ℕ → Bool
is_other b = not (is_blank b)

-- blanks in front go
words-blanks : (text : List ℕ) → words (drop (position_or_len is_other text) text) ≡ words text
words-blanks [] = refl
words-blanks (b ∷ bs) =
    let e : 1 + position_or_len is_other bs ≡ suc (position_or_len is_other bs) = omega arith in
    elim (either (is_blank b)) [
      | inl blank ↦ rw (blank, e) (words-blanks bs)
      | inr other ↦ rw (other, other) refl
    ]

-- behind them there is no blank in front
first-other : (text : List ℕ) → position_or_len is_other text < length text → 0 < position_or_len is_blank (drop (position_or_len is_other text) text)
first-other [] h = absurd (omega arith)
first-other (b ∷ bs) h =
    let e : 1 + position_or_len is_other bs ≡ suc (position_or_len is_other bs) = omega arith in
    elim (either (is_blank b)) [
      | inl blank ↦ rw (blank, e) (first-other bs (let k = rw blank at h in omega arith))
      | inr other ↦ rw (other, other) (omega arith)
    ]

-- the parts of a text: the one before the first blank, and those that make the words behind
record Parts (text : List ℕ) : Type 0 where
  behind : List (List ℕ)
  are : slice_split is_blank text ≡ take (position_or_len is_blank text) text ∷ behind
  words_behind : filter (λ word. nat_lt 0 (length word)) behind ≡ words (drop (position_or_len is_blank text) text)

parts : (text : List ℕ) → Parts text
parts [] = record { behind = []; are = refl; words_behind = refl }
parts (b ∷ bs) =
    let inner = parts bs in
    let e : 1 + position_or_len is_blank bs ≡ suc (position_or_len is_blank bs) = omega arith in
    elim (either (is_blank b)) [
      | inl blank ↦ record { behind = slice_split is_blank bs; are = rw blank refl; words_behind = rw (blank, blank) refl }
      | inr other ↦ record { behind = inner.behind; are = rw (other, e, inner.are) refl; words_behind = rw (other, e) inner.words_behind }
    ]

-- a word, where the text begins with one
words-word : (text : List ℕ) (n : ℕ) → position_or_len is_blank text ≡ n → 0 < n → words text ≡ take n text ∷ words (drop n text)
words-word text n e h =
    let p = parts text in
    let some : nat_lt 0 (length (take (position_or_len is_blank text) text)) ≡ true = lt-ltb _ _ (omega (arith, length-prefix_len (λ b. not (is_blank b)) text, e)) in
    rw (p.are, some, p.words_behind, e) refl

-- where a position is found, and where none is
pub position-some : (p : ℕ → Bool) (xs : List ℕ) (n : ℕ) → position p xs ≡ Some n → (position_or_len p xs ≡ n) × (n < length xs)
position-some p xs n h =
    elim (either (nat_lt (position_or_len p xs) (length xs))) [
      | inl below ↦ (let k = rw below at h in cc, let k = rw below at h in grind (arith, nat_tests))
      | inr over ↦ absurd (let k = rw over at h in cc)
    ]

pub position-none : (p : ℕ → Bool) (xs : List ℕ) → position p xs ≡ None → position_or_len p xs ≡ length xs
position-none p xs h =
    elim (either (nat_lt (position_or_len p xs) (length xs))) [
      | inl below ↦ absurd (let k = rw below at h in cc)
      | inr over ↦ let l = prefix_len-le-length (λ x. not (p x)) xs in grind (arith, nat_tests)
    ]

drop_length : (xs : List ℕ) → drop (length xs) xs ≡ []
drop_length xs = grind (arith, common_steps)

pub no_word : (text : List ℕ) → position is_other text ≡ None → words text ≡ []
no_word text h = sym (words-blanks text) ∙ rw (position-none is_other text h, drop_length text) refl

-- what stands behind the blanks in front
behind_blanks : (text rest : List ℕ) (start : ℕ) → position is_other text ≡ Some start → rest ≡ drop start text →
    (words text ≡ words rest) × (0 < position_or_len is_blank rest)
behind_blanks text rest start h e =
    let p = position-some is_other text start h in
    let r : drop (position_or_len is_other text) text ≡ rest = rw p.0 (sym e) in
    let below : position_or_len is_other text < length text = omega (arith, p.0, p.1) in
    (sym (words-blanks text) ∙ ap words r, subst (λ x. 0 < position_or_len is_blank x) r (first-other text below))

-- the word there, and what stands behind it
pub word_front : (text rest : List ℕ) (start end : ℕ) → position is_other text ≡ Some start → rest ≡ drop start text →
    position_or_len is_blank rest ≡ end → (words text ≡ take end rest ∷ words (drop end rest)) × (0 < end) × (end ≤ length rest)
word_front text rest start end h e k =
    let b = behind_blanks text rest start h e in
    let some : 0 < end = omega (arith, b.1, k) in
    (b.0 ∙ words-word rest end k some, some, omega (arith, k, prefix_len-le-length (λ x. not (is_blank x)) rest))

pub first_or_len : (text : List ℕ) → unwrap_or (position is_blank text) (length text) ≡ position_or_len is_blank text
first_or_len text =
    elim (either (nat_lt (position_or_len is_blank text) (length text))) [
      | inl below ↦ rw below refl
      | inr over ↦ (let l = prefix_len-le-length (λ x. not (is_blank x)) text in
          let e : position_or_len is_blank text ≡ length text = grind (arith, nat_tests) in
          rw over (sym e))
    ]

pub some_word : (text : List ℕ) (start : ℕ) → position is_other text ≡ Some start → 0 < length (words text)
some_word text start h =
    let p = position-some is_other text start h in
    let rest = drop (position_or_len is_other text) text in
    let some = first-other text (omega (arith, p.0, p.1)) in
    rw (sym (words-blanks text) ∙ words-word rest (position_or_len is_blank rest) refl some) (omega arith)

-- a blank in front goes
words-blank : (text : List ℕ) (at : ℕ) → at < length text → is_blank (get_or text at 0) ≡ true → words (drop (at + 1) text) ≡ words (drop at text)
words-blank text at l blank = sym (ap words (drop_more text at 0 l) ∙ rw blank refl)

-- a number at the front of a text
pub number_front : (text : List ℕ) (end : ℕ) (s : Short) → IsNumberAt text 0 end s →
    (end ≡ position_or_len is_blank text) × (end ≤ length text) × IsShort (take end text) s
number_front text end s h =
    let e : h.count ≡ end = omega (arith, h.reaches) in
    (sym (h.ends ∙ e), h.within, subst (λ n. IsShort (take n text) s) e h.number)

-- the number of a word, behind which one blank goes
pub next_number : (text : List ℕ) (from end next : ℕ) (s : Short) → IsNumberAt text from end s → next ≡ end + 1 → IsNext (drop from text) s (drop next text)
next_number text from end next s h e =
    let word = take h.count (drop from text) in
    let left : words (drop next text) ≡ words (drop end text) = elim (either (nat_lt end (length text))) [
      | inl more ↦ (let l : end < length text = grind (arith, nat_tests) in
          ap (λ i. words (drop i text)) e ∙ words-blank text end l (h.blank l))
      | inr none ↦ (let l : length text ≤ end = grind (arith, nat_tests) in
          ap words (drop_all next text (omega (arith, e, l)) ∙ sym (drop_all end text l)))
    ] in
    record {
      word = word;
      first = words-word (drop from text) h.count h.ends h.some ∙ ap (λ rest. word ∷ words rest)
          (drop-drop h.count from text ∙ ap (λ i. drop i text) h.reaches) ∙ ap (λ ws. word ∷ ws) (sym left);
      number = h.number;
    }

-- no word is left at the end
pub no-words : (text : List ℕ) (at : ℕ) → length text ≤ at → words (drop at text) ≡ []
no-words text at l = ap words (drop_all at text l)
