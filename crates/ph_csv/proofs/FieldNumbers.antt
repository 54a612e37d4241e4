-- The fields of a record, and the numbers that they spell.
use Rattle.std.proofs.Common.{◌≡◌, ℕ, zero, suc, ◌<◌, ◌≤◌, true, false, ◌&&◌, List, [], ◌∷◌, ◌++◌, length, take, ℤ, refl, ap, ◌∙◌, arith}
use Rattle.std.specs.Prelude.{Some, None, is_some, filter_map}
use Rattle.std.specs.List.{list_all}
use Rattle.std.proofs.lemmas.List.Folds.{list_all-append}
use Rattle.std.proofs.lemmas.List.Elements.{filter_map-append}
use Rattle.std.specs.Cmp.Derive.{both_true}
use Rattle.std.proofs.Math.Bool.{and-true}
use Rattle.std.proofs.lemmas.Bool.{and_right}
use Rattle.csv.specs.Records.{field_at}
use Rattle.ph_specs.specs.Coordinate.{fits}
use Rattle.ph_specs.specs.Lines.{number}
use Rattle.ph_csv.specs.Spelled.{is_number}

pub field-more : (fields : List (List ℕ)) (i : ℕ) (text : List ℕ) → field_at fields i ≡ Some text → take (suc i) fields ≡ take i fields ++ text ∷ []
unfolding field_at
field-more [] i text h = cc
field-more (f ∷ fields) zero text h = ap (λ x. x ∷ []) (cc)
field-more (f ∷ fields) (suc i) text h = ap (λ t. f ∷ t) (field-more fields i text h)

pub field-there : (fields : List (List ℕ)) (i : ℕ) → i < length fields → is_some (field_at fields i) ≡ true
unfolding field_at
field-there [] i h = absurd (omega arith)
field-there (f ∷ fields) zero h = refl
field-there (f ∷ fields) (suc i) h = field-there fields i (omega arith)

-- whether fields with one more are numbers
pub numbers-more : (front : List (List ℕ)) (text : List ℕ) → list_all is_number (front ++ text ∷ []) ≡ (list_all is_number front && is_number text)
numbers-more front text = list_all-append is_number front (text ∷ []) ∙ ap (λ b. list_all is_number front && b) (and-true (is_number text))

pub numbers-kept : (front : List (List ℕ)) (text : List ℕ) (c : ℤ) → number text ≡ Some c → filter_map number (front ++ text ∷ []) ≡ filter_map number front ++ c ∷ []
numbers-kept front text c h = filter_map-append number front (text ∷ []) ∙ ap (λ t. filter_map number front ++ t) (rw h refl)

-- one more field that is a number
pub numbers-next : (front : List (List ℕ)) (text : List ℕ) (c : ℤ) → number text ≡ Some c →
    list_all is_number front ≡ true → list_all is_number (front ++ text ∷ []) ≡ true
numbers-next front text c h k = numbers-more front text ∙ both_true k (rw h refl)

pub numbers-stop : (front : List (List ℕ)) (text : List ℕ) → number text ≡ None → list_all is_number (front ++ text ∷ []) ≡ false
numbers-stop front text h = numbers-more front text ∙ and_right (list_all is_number front) (is_number text) (rw h refl)

-- a number that no width has stays among more
pub far-more : (w : ℕ) (cs : List ℤ) (c : ℤ) → list_all (fits w) cs ≡ false → list_all (fits w) (cs ++ c ∷ []) ≡ false
far-more w cs c h = list_all-append (fits w) cs (c ∷ []) ∙ rw h refl

pub far-now : (w : ℕ) (cs : List ℤ) (c : ℤ) → fits w c ≡ false → list_all (fits w) (cs ++ c ∷ []) ≡ false
far-now w cs c h = list_all-append (fits w) cs (c ∷ []) ∙ and_right (list_all (fits w) cs) (list_all (fits w) (c ∷ [])) (rw h refl)

-- a list with a number that does not fit ends in one that does not
pub front-short : (fields : List (List ℕ)) (i j : ℕ) → i ≤ j → list_all is_number (take i fields) ≡ false → list_all is_number (take j fields) ≡ false
front-short [] zero j h k = cc
front-short [] (suc i) j h k = cc
front-short (f ∷ fields) zero j h k = cc
front-short (f ∷ fields) (suc i) zero h k = absurd (omega arith)
front-short (f ∷ fields) (suc i) (suc j) h k =
    elim (is_number f) as (λ b. (b && list_all is_number (take i fields)) ≡ false → (b && list_all is_number (take j fields)) ≡ false) [
      | true ↦ λ e. front-short fields i j (omega arith) e
      | false ↦ λ e. refl
    ] k
