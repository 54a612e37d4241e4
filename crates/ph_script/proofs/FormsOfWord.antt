-- The form that the search among forms finds is the one that the definition filters.
use Rattle.std.proofs.Common.{◌≡◌, ℕ, List, [], ◌∷◌, length, get_or, Bool, true, false, refl, sym, ap, ◌∙◌, inl, inr, arith}
use Rattle.std.proofs.lemmas.Bool.{and_parts}
use Rattle.std.proofs.lemmas.Bool.Decides.{nat_tests}
use Rattle.std.specs.Prelude.{filter, ◌==◌, ◌||◌, bytes_eq, if◌then◌else◌}
use Rattle.std.specs.Cmp.Lexicographic.{pointwise}
use Rattle.ph_specs.proofs.laws.Put.{either}
use Rattle.ph_specs.proofs.lemmas.Tests.{and-made}
use Rattle.ph_specs.specs.Command.{Place, Form, Reading, is_comment, number_fits, name_fits, fixed_fits, read_form, read_sized, read_forms, read_words_by}
use Rattle.ph_specs.specs.Command.Place.{Coordinate, Below, CursorName, FileName, OneOf}
use Rattle.ph_specs.specs.Reply.{Reply}
use Rattle.ph_script.specs.declared.command.Bad.{Bad}
use Rattle.ph_script.specs.declared.command.Bad.TheVariants.{Word, Count, Number, Name}
use Rattle.ph_script.specs.Meaning.{bad_reply}
use Rattle.ph_script.specs.Forms.{counted, bad_in, read_among, IsPassed, IsRefusing}
use Rattle.ph_script.specs.Fit.{IsFault}

-- ---- a form's own words are among its names

one-own : (place : Place) (word : List ℕ) → name_fits place word ≡ true → fixed_fits place word ≡ true
one-own Coordinate word h = refl
one-own (Below limit) word h = refl
one-own CursorName word h = refl
one-own FileName word h = refl
one-own (OneOf []) word h = refl
one-own (OneOf (fixed ∷ [])) word h = own (bytes_eq word fixed) h
  where
    own : (b : Bool) → (b || false) ≡ true → b ≡ true
    own true k = refl
    own false k = k
one-own (OneOf (fixed ∷ other ∷ more)) word h = refl

pub names-own : (places : List Place) (ws : List (List ℕ)) → pointwise name_fits places ws ≡ true → pointwise fixed_fits places ws ≡ true
names-own [] [] h = refl
names-own [] (w ∷ ws) h = h
names-own (p ∷ places) [] h = h
names-own (p ∷ places) (w ∷ ws) h =
    let b = and_parts _ _ h in and-made (fixed_fits p w) _ (one-own p w b.0) (names-own places ws b.1)

-- a form whose own words are not there refuses
pub not-own : (f : Form) (ws : List (List ℕ)) → pointwise fixed_fits f.places ws ≡ false → read_form f ws ≡ Reading.Refused (bad_reply (bad_in f ws))
not-own f ws h = by-names (pointwise name_fits f.places ws) refl
  where
    by-names : (b : Bool) → pointwise name_fits f.places ws ≡ b → read_form f ws ≡ Reading.Refused (bad_reply (bad_in f ws))
    by-names true e = absurd (let clash : true ≡ false = sym (names-own f.places ws e) ∙ h in cc)
    by-names false e = by-numbers (pointwise number_fits f.places ws) refl
      where
        by-numbers : (b : Bool) → pointwise number_fits f.places ws ≡ b → read_form f ws ≡ Reading.Refused (bad_reply (bad_in f ws))
        by-numbers true k = rw (k, e) refl
        by-numbers false k = rw k refl

-- ---- the search

abbrev of_word : List ℕ → Form → Bool
of_word word f = bytes_eq f.word word

abbrev of_size : List (List ℕ) → Form → Bool
of_size ws f = length f.places == length ws

-- the first of the forms whose own words are there, or else this refusal
abbrev own_or : Reading → List Form → List (List ℕ) → Reading
own_or last [] ws = last
own_or last (f ∷ fs) ws = if pointwise fixed_fits f.places ws then read_form f ws else own_or (read_form f ws) fs ws

sized-own : (fs : List Form) (ws : List (List ℕ)) → own_or (Reading.Refused Reply.ErrorCount) fs ws ≡ read_sized fs ws
sized-own [] ws = refl
sized-own (f ∷ fs) ws = behind f fs
  where
    behind : (f : Form) (fs : List Form) → own_or (Reading.Refused Reply.ErrorCount) (f ∷ fs) ws ≡ read_sized (f ∷ fs) ws
    behind f [] = same (pointwise fixed_fits f.places ws)
      where
        same : (b : Bool) → (if b then read_form f ws else read_form f ws) ≡ read_form f ws
        same true = refl
        same false = refl
    behind f (g ∷ fs) =
        ap (λ r. if pointwise fixed_fits f.places ws then read_form f ws else r) (behind g fs)

-- a form of the word was seen
seen-among : (bad : Bad) (word : List ℕ) (ws : List (List ℕ)) (fs : List Form) → counted bad ≡ bad →
    read_among bad word ws fs ≡ own_or (Reading.Refused (bad_reply bad)) (filter (of_size ws) (filter (of_word word) fs)) ws
unfolding read_among
seen-among bad word ws [] k = refl
seen-among bad word ws (f ∷ fs) k =
    elim (either (bytes_eq f.word word)) [
      | inl is ↦ elim (either (length f.places == length ws)) [
        | inl fits ↦ elim (either (pointwise fixed_fits f.places ws)) [
          | inl own ↦ rw (is, fits, own) refl
          | inr not ↦ rw (is, fits, not)
              (seen-among (bad_in f ws) word ws fs (counted-in f) ∙
              ap (λ r. own_or r (filter (of_size ws) (filter (of_word word) fs)) ws) (sym (not-own f ws not)))
        ]
        | inr other ↦ rw (is, other, k) (seen-among bad word ws fs k)
      ]
      | inr other ↦ rw other (seen-among bad word ws fs k)
    ]
  where
    counted-in : (f : Form) → counted (bad_in f ws) ≡ bad_in f ws
    counted-in f = either-bad (pointwise number_fits f.places ws)
      where
        either-bad : (b : Bool) → counted (if b then Name else Number) ≡ (if b then Name else Number)
        either-bad true = refl
        either-bad false = refl

among-reads : (word : List ℕ) (ws : List (List ℕ)) (fs : List Form) → read_among Word word ws fs ≡ read_forms (filter (of_word word) fs) ws
unfolding read_among
among-reads word ws [] = refl
among-reads word ws (f ∷ fs) =
    elim (either (bytes_eq f.word word)) [
      | inl is ↦ rw is (rw is at (seen-among Count word ws (f ∷ fs) refl ∙ sized-own (filter (of_size ws) (filter (of_word word) (f ∷ fs))) ws))
      | inr other ↦ rw other (among-reads word ws fs)
    ]

-- ---- a form that is passed over, and one that refuses

-- it has another number of places
pub passed-count : (bad : Bad) (places : List Place) (ws : List (List ℕ)) → (length places == length ws) ≡ false → IsPassed bad (counted bad) places ws
unfolding read_among
passed-count bad places ws sized f word fs e is = rw (is, e, sized) refl

-- it has as many, and its own words are there or not
by-own : (bad wrong : Bad) (places : List Place) (ws : List (List ℕ)) (b : Bool) → (wrong ≡ Count → ⊥) →
    IsFault wrong (length places == length ws) (pointwise number_fits places ws) (pointwise name_fits places ws) →
    pointwise fixed_fits places ws ≡ b → (f : Form) (word : List ℕ) (fs : List Form) → f.places ≡ places → bytes_eq f.word word ≡ true →
    read_among bad word ws (f ∷ fs) ≡ (if b then Reading.Refused (bad_reply wrong) else read_among wrong word ws fs)
unfolding read_among
by-own bad Word places ws b m h own f word fs e is = absurd h
by-own bad Count places ws b m h own f word fs e is = absurd (m refl)
by-own bad Number places ws true m h own f word fs e is = rw (is, e, h.0, own, h.1) refl
by-own bad Number places ws false m h own f word fs e is = rw (is, e, h.0, own, h.1) refl
by-own bad Name places ws true m h own f word fs e is = rw (is, e, h.0, own, h.1, h.2) refl
by-own bad Name places ws false m h own f word fs e is = rw (is, e, h.0, own, h.1) refl

pub passed-own : (bad wrong : Bad) (places : List Place) (ws : List (List ℕ)) → (wrong ≡ Count → ⊥) →
    IsFault wrong (length places == length ws) (pointwise number_fits places ws) (pointwise name_fits places ws) →
    pointwise fixed_fits places ws ≡ false → IsPassed bad wrong places ws
passed-own bad wrong places ws m h own = by-own bad wrong places ws false m h own

pub refusing-own : (bad wrong : Bad) (places : List Place) (ws : List (List ℕ)) → (wrong ≡ Count → ⊥) →
    IsFault wrong (length places == length ws) (pointwise number_fits places ws) (pointwise name_fits places ws) →
    pointwise fixed_fits places ws ≡ true → IsRefusing bad wrong places ws
refusing-own bad wrong places ws m h own = by-own bad wrong places ws true m h own

-- what the words of a line are, by the forms of its first word
pub line-reads : (all : List (List ℕ)) (word : List ℕ) (ws : List (List ℕ)) (fs : List Form) → all ≡ word ∷ ws →
    is_comment word ≡ false → read_words_by fs all ≡ read_among Word word ws fs
line-reads all word ws fs e c = rw (e, c) (sym (among-reads word ws fs))

pub not_comment : (word : List ℕ) → ¬ (get_or word 0 0 ≡ 35) → is_comment word ≡ false
not_comment [] h = refl
not_comment (b ∷ bs) h = grind (arith, nat_tests)
