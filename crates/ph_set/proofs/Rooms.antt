-- How many rows a set operation keeps at most.
use Rattle.std.proofs.Common.{◌≡◌, ℕ, ◌+◌, ◌-◌, ◌≤◌, Bool, true, false, cond, inl, inr, List, [], ◌∷◌, ◌++◌, length, filter, refl, sym, ◌∙◌, ap, arith, length-append}
use Rattle.std.specs.Prelude.{Option, Some, None, is_some, is_none, nat_lt, if◌then◌else◌}
use Rattle.std.proofs.lemmas.Bool.{cases_lt, lt-ltb, le-ltb}
use Rattle.ph_specs.specs.Coordinate.{same_point}
use Rattle.ph_specs.specs.ZOrder.{before}
use Rattle.ph_specs.specs.Table.{Row, find, has}
use Rattle.ph_specs.proofs.laws.Order.{before_irrefl}
use Rattle.ph_specs.proofs.laws.Put.{either, same_from_test}
use Rattle.ph_model.specs.Combined.{chosen, earlier, later, combined}
use Rattle.ph_model.proofs.laws.Combined.{not-back}
use Rattle.ph_set.specs.Sinks.{left_behind}

-- a test that holds of some
filter-some : {X : Type 0} (p : X → Bool) (xs : List X) → length (filter p xs) ≤ length xs
filter-some p [] = omega arith
filter-some p (x ∷ xs) = by_test (p x) (filter-some p xs)
  where
    by_test : (t : Bool) → length (filter p xs) ≤ length xs → length (cond t (x ∷ filter p xs) (filter p xs)) ≤ length (x ∷ xs)
    by_test true ih = omega (arith, ih)
    by_test false ih = omega (arith, ih)

-- two tests of which no element meets both
filter-apart : {X : Type 0} (p q : X → Bool) (xs : List X) → ((x : X) → p x ≡ true → q x ≡ false) → length (filter p xs) + length (filter q xs) ≤ length xs
filter-apart p q [] h = omega arith
filter-apart p q (x ∷ xs) h = by_tests (p x) (q x) (h x) (filter-apart p q xs h)
  where
    by_tests : (t u : Bool) → (t ≡ true → u ≡ false) → length (filter p xs) + length (filter q xs) ≤ length xs →
        length (cond t (x ∷ filter p xs) (filter p xs)) + length (cond u (x ∷ filter q xs) (filter q xs)) ≤ length (x ∷ xs)
    by_tests true true k ih = absurd (let no : true ≡ false = k refl in cc)
    by_tests true false k ih = omega (arith, ih)
    by_tests false true k ih = omega (arith, ih)
    by_tests false false k ih = omega (arith, ih)

few-chosen : (keep : Bool) (rows : List Row) → length (chosen keep rows) ≤ length rows
few-chosen true rows = omega arith
few-chosen false rows = omega arith

-- at most the rows of both
pub few-combined : (w : ℕ) (left both right : Bool) (a b : List Row) → length (combined w left both right a b) ≤ length a + length b
few-combined w left both right [] b = omega (arith, few-chosen right b)
few-combined w left both right (x ∷ a) b =
    let it = chosen (if has b x.point then both else left) (x ∷ []) in
    let rest = combined w left both right a (later w x b) in
    let front = few-chosen right (earlier w x b) in
    let one : length it ≤ length (x ∷ []) = few-chosen (if has b x.point then both else left) (x ∷ []) in
    let ih : length rest ≤ length a + length (later w x b) = few-combined w left both right a (later w x b) in
    let apart = filter-apart (λ s. before w s.point x.point) (λ s. before w x.point s.point) b (λ s h. not-back w s.point x.point h) in
    omega (arith, front, one, ih, apart, length-append (chosen right (earlier w x b)) (it ++ rest), length-append it rest)

-- a row at a point is none of those behind it
without-found : (w : ℕ) (x : Row) (b : List Row) → has b x.point ≡ true → length (later w x b) + 1 ≤ length b
without-found w x [] h = absurd cc
without-found w x (y ∷ b) h =
    elim (either (same_point y.point x.point)) [
      | inl e ↦
          let none : before w x.point y.point ≡ false = ap (before w x.point) (same_from_test y.point x.point e) ∙ before_irrefl w x.point in
          let out : later w x (y ∷ b) ≡ later w x b = ap (λ t. cond t (y ∷ later w x b) (later w x b)) none in
          omega (arith, ap (λ t. length t) out, filter-some (λ s. before w x.point s.point) b)
      | inr e ↦
          let there : has b x.point ≡ true = sym (ap (λ t. is_some (if t then Some y.value else find b x.point)) e) ∙ h in
          by_test (before w x.point y.point) (without-found w x b there)
    ]
  where
    by_test : (t : Bool) → length (later w x b) + 1 ≤ length b → length (cond t (y ∷ later w x b) (later w x b)) + 1 ≤ length (y ∷ b)
    by_test true ih = omega (arith, ih)
    by_test false ih = omega (arith, ih)

-- at points of both, at most the rows of the second
pub few-common : (w : ℕ) (a b : List Row) → length (combined w false true false a b) ≤ length b
few-common w [] b = omega arith
few-common w (x ∷ a) b =
    let ih : length (combined w false true false a (later w x b)) ≤ length (later w x b) = few-common w a (later w x b) in
    elim (either (has b x.point)) [
      | inl h ↦ rw h (omega (arith, ih, without-found w x b h))
      | inr h ↦ rw h (omega (arith, ih, filter-some (λ s. before w x.point s.point) b))
    ]

-- ---- rows that are counted

-- whether more came than might
pub is-exceeded : (most n : ℕ) (o : Option ℕ) → o ≡ left_behind (Some most) n → is_none o ≡ nat_lt most n
is-exceeded most n o h =
    ap (λ t. is_none t) h ∙ elim (cases_lt most n) [
      | inl l ↦ ap (λ b. is_none (if b then None else Some (most - n))) (lt-ltb most n l) ∙ sym (lt-ltb most n l)
      | inr l ↦ ap (λ b. is_none (if b then None else Some (most - n))) (le-ltb most n l) ∙ sym (le-ltb most n l)
    ]
