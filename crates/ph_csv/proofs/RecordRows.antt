-- What a record reads as, by its fields.
use Rattle.std.proofs.Common.{◌≡◌, ℕ, suc, ◌+◌, ◌^◌, Bool, true, false, ◌&&◌, ◌==◌, List, [], ◌∷◌, ◌++◌, length, take, ℤ, refl, ap, sym, ◌∙◌, arith}
use Rattle.std.specs.Prelude.{Option, Some, None, Err, pos, filter_map}
use Rattle.std.specs.List.{list_all}
use Rattle.std.proofs.Math.Seq.{take-length, take-append_seam, drop-append_seam, get_or-append_seam}
use Rattle.std.proofs.lemmas.List.{length-take}
use Rattle.std.proofs.lemmas.List.Elements.{filter_map-append}
use Rattle.std.proofs.lemmas.Bool.Decides.{nat_tests}
use Rattle.std.specs.Cmp.Derive.{both_true}
use Rattle.std.proofs.lemmas.Bool.{and_right}
use Rattle.csv.specs.Records.{field_at}
use Rattle.ph_specs.specs.declared.Kind.{Kind}
use Rattle.ph_specs.specs.Coordinate.{fits}
use Rattle.ph_specs.specs.Table.{Row, row}
use Rattle.ph_specs.specs.Lines.{number}
use Rattle.ph_specs.specs.Reply.Reply.{BadNumber, BadRange}
use Rattle.ph_specs.specs.Command.{is_number_below}
use Rattle.ph_specs.specs.Csv.{record_row, are_numbers, read_record}
use Rattle.ph_csv.specs.Spelled.{is_number, IsValue}
use Rattle.ph_csv.specs.Faults.{row_answer}
use Rattle.ph_csv.proofs.FieldNumbers.{field-more, numbers-more}

-- ---- the fields as coordinates and a value

fields-split : (fields : List (List ℕ)) (dims : ℕ) (text : List ℕ) → length fields ≡ dims + 1 → field_at fields dims ≡ Some text → fields ≡ take dims fields ++ text ∷ []
fields-split fields dims text h k = let size : length fields ≡ suc dims = omega arith in sym (rw size at (take-length fields)) ∙ field-more fields dims text k

no-left : (a b : Bool) → a ≡ false → (a && b) ≡ false
no-left a b h = rw h refl

numbers-length-step : (f : List ℕ) (front : List (List ℕ)) (o : Option ℤ) → number f ≡ o →
    list_all is_number (f ∷ front) ≡ true →
    (list_all is_number front ≡ true → length (filter_map number front) ≡ length front) →
    length (filter_map number (f ∷ front)) ≡ suc (length front)
numbers-length-step f front None e h more = let never : list_all is_number (f ∷ front) ≡ false = rw e refl in cc
numbers-length-step f front (Some c) e h more = let rest : list_all is_number front ≡ true =
    sym (let same : list_all is_number (f ∷ front) ≡ list_all is_number front = rw e refl in same) ∙ h in
    rw e (ap suc (more rest))

pub numbers-length : (front : List (List ℕ)) → list_all is_number front ≡ true → length (filter_map number front) ≡ length front
numbers-length [] h = refl
numbers-length (f ∷ front) h = numbers-length-step f front (number f) refl h (λ k. numbers-length front k)

module _ (front : List (List ℕ)) (text : List ℕ) where
  bad-front : list_all is_number front ≡ false → are_numbers (length front) (front ++ text ∷ []) ≡ false
  bad-front h = no-left _ _ (numbers-more front text ∙ no-left _ _ h)

  bad-value : is_number_below (2 ^ 64) (number text) ≡ false → are_numbers (length front) (front ++ text ∷ []) ≡ false
  bad-value h = rw drop-append_seam (and_right (list_all is_number (front ++ text ∷ [])) _ (no-left _ _ h))

  good-numbers : (v : ℕ) → list_all is_number front ≡ true → number text ≡ Some (pos v) →
      is_number_below (2 ^ 64) (number text) ≡ true → are_numbers (length front) (front ++ text ∷ []) ≡ true
  good-numbers v h k b = rw drop-append_seam (both_true (numbers-more front text ∙ both_true h (rw k refl)) (both_true b refl))

  good-row : (v : ℕ) → list_all is_number front ≡ true → number text ≡ Some (pos v) → record_row (length front) (front ++ text ∷ []) ≡ row (filter_map number front) v
  good-row v h k =
      let all : filter_map number (front ++ text ∷ []) ≡ filter_map number front ++ pos v ∷ [] =
      filter_map-append number front (text ∷ []) ∙ ap (λ t. filter_map number front ++ t) (rw k refl) in
      let size = numbers-length front h in
      rw (all, ← size, take-append_seam, get_or-append_seam) refl

-- ---- the answer of a record, by its last field and those in front

same-number : (n : ℕ) → (n == n) ≡ true
same-number n = grind (arith, nat_tests)

front-size : (fields : List (List ℕ)) (dims : ℕ) → length fields ≡ dims + 1 → length (take dims fields) ≡ dims
front-size fields dims h = omega (arith, length-take dims fields)

by-number : (w dims : ℕ) (kind : Kind) (n : ℕ) (fields : List (List ℕ)) → length fields ≡ dims + 1 →
    are_numbers dims fields ≡ false → read_record w dims kind n fields ≡ Err (BadNumber n)
by-number w dims kind n fields e h = rw (e, same-number (dims + 1), h) refl

by-row : (w dims : ℕ) (kind : Kind) (n : ℕ) (fields : List (List ℕ)) → length fields ≡ dims + 1 →
    are_numbers dims fields ≡ true → read_record w dims kind n fields ≡ row_answer w kind n (record_row dims fields)
by-row w dims kind n fields e h = rw (e, same-number (dims + 1), h) refl

module _ (w dims : ℕ) (kind : Kind) (n : ℕ) (fields : List (List ℕ)) (text : List ℕ) (size : length fields ≡ dims + 1) (last : field_at fields dims ≡ Some text) where
  pub read-bad-front : list_all is_number (take dims fields) ≡ false → read_record w dims kind n fields ≡ Err (BadNumber n)
  read-bad-front h =
      by-number w dims kind n fields size (rw (front-size fields dims size, ← (fields-split fields dims text size last)) at (bad-front (take dims fields) text h))

  pub read-bad-value : is_number_below (2 ^ 64) (number text) ≡ false → read_record w dims kind n fields ≡ Err (BadNumber n)
  read-bad-value h =
      by-number w dims kind n fields size (rw (front-size fields dims size, ← (fields-split fields dims text size last)) at (bad-value (take dims fields) text h))

  pub read-numbers : (v : ℕ) → list_all is_number (take dims fields) ≡ true → IsValue text (Some v) →
      read_record w dims kind n fields ≡ row_answer w kind n (row (filter_map number (take dims fields)) v)
  read-numbers v front value =
      let are : are_numbers dims fields ≡ true =
      rw (front-size fields dims size, ← (fields-split fields dims text size last)) at
      (good-numbers (take dims fields) text v front value.0 value.1) in
      let good : record_row (length (take dims fields)) (take dims fields ++ text ∷ []) ≡
      row (filter_map number (take dims fields)) v = good-row (take dims fields) text v front value.0 in
      let is = sym (ap (λ d. record_row d (take dims fields ++ text ∷ [])) (front-size fields dims size) ∙
      ap (record_row dims) (sym (fields-split fields dims text size last))) ∙ good in
      by-row w dims kind n fields size are ∙ ap (row_answer w kind n) is

-- ---- the answer of a row

pub answer-far : (w : ℕ) (kind : Kind) (n : ℕ) (r : Row) → list_all (fits w) r.point ≡ false → row_answer w kind n r ≡ Err (BadRange n)
answer-far w kind n r h = rw h refl
