-- Two tables in which the same is found are one table, and what is found after many puts.
use Rattle.std.proofs.Common.{◌≡◌, ℕ, ◌≤◌, Bool, true, false, cond, List, [], ◌∷◌, filter, refl, sym, ◌∙◌, ap, inl, inr}
use Rattle.std.specs.Prelude.{ℤ, Option, Some, None}
use Rattle.std.specs.List.{list_all, AllByRecursion as Each}
use Rattle.std.proofs.lemmas.Bool.{and_parts}
use Rattle.ph_specs.specs.Coordinate.{same_point, is_point}
use Rattle.ph_specs.specs.ZOrder.{before}
use Rattle.ph_specs.specs.Table.{Row, row, find, put, is_rising}
use Rattle.ph_specs.specs.Sets.{put_all}
use Rattle.ph_specs.proofs.laws.Order.{same_from_order}
use Rattle.ph_specs.proofs.laws.Put.{either, and, find-put, same_from_test, test_from_same, list_all_before}
use Rattle.ph_specs.proofs.laws.Del.{find-later}

-- ---- what is found after puts

-- the value of the last item that passes a test
abbrev pub pick : {X : Type 0} → (X → Bool) → (X → ℕ) → Option ℕ → List X → Option ℕ
pick t v o [] = o
pick t v o (x ∷ xs) = pick t v (cond (t x) (Some (v x)) o) xs

pub find-put_all : (w : ℕ) (table rows : List Row) (q : List ℤ) → find (put_all w table rows) q ≡ pick (λ r. same_point r.point q) (λ r. r.value) (find table q) rows
find-put_all w table [] q = refl
find-put_all w table (r ∷ rows) q =
    find-put_all w (put w table r.point r.value) rows q
    ∙ ap (λ o. pick (λ s. same_point s.point q) (λ s. s.value) o rows) (find-put w table r.point q r.value)

-- what fails the test may be left out
pub pick-filter : {X : Type 0} (s t : X → Bool) (v : X → ℕ) (o : Option ℕ) (xs : List X) →
    Each (λ x. t x ≡ true → s x ≡ true) xs → pick t v o xs ≡ pick t v o (filter s xs)
pick-filter s t v o [] h = refl
pick-filter {X} s t v o (x ∷ xs) h =
    elim (either (s x)) [
      | inl kept ↦ pick-filter s t v (cond (t x) (Some (v x)) o) xs h.1 ∙ sym (ap {B = Option ℕ} (λ b. pick t v o (cond b (x ∷ filter s xs) (filter s xs))) kept)
      | inr gone ↦
          let fails : t x ≡ false = elim (either (t x)) [ inl holds ↦ absurd (let clash : true ≡ false = sym (h.0 holds) ∙ gone in cc) | inr not_so ↦ not_so ] in
          ap (λ b. pick t v (cond b (Some (v x)) o) xs) fails ∙ pick-filter s t v o xs h.1 ∙
          sym (ap {B = Option ℕ} (λ b. pick t v o (cond b (x ∷ filter s xs) (filter s xs))) gone)
    ]

-- ---- tables in which the same is found

found-first : (r : Row) (rows : List Row) → find (r ∷ rows) r.point ≡ Some r.value
found-first r rows = ap (λ t. cond t (Some r.value) (find rows r.point)) (test_from_same r.point r.point refl)

some-none : (v : ℕ) → ◌≡◌ {A = Option ℕ} (Some v) None → ⊥
some-none v e = cc

some-same : (u v : ℕ) → ◌≡◌ {A = Option ℕ} (Some u) (Some v) → u ≡ v
some-same u v e = cc

-- a row that comes before all rows of a table is not found in it
apart : (w : ℕ) (r s : Row) (rows more : List Row) → before w r.point s.point ≡ true →
    list_all (λ t. before w s.point t.point) more ≡ true → ((q : List ℤ) → find (r ∷ rows) q ≡ find (s ∷ more) q) → ⊥
apart w r s rows more h k same =
    let none : find (s ∷ more) r.point ≡ None = find-later w (s ∷ more) r.point (and _ _ h (list_all_before w r.point s.point more h k)) in
    some-none r.value (sym (found-first r rows) ∙ same r.point ∙ none)

tail-same : (w : ℕ) (r : Row) (v : ℕ) (rows more : List Row) → list_all (λ t. before w r.point t.point) rows ≡ true →
    list_all (λ t. before w r.point t.point) more ≡ true →
    ((q : List ℤ) → cond (same_point r.point q) (Some r.value) (find rows q) ≡ cond (same_point r.point q) (Some v)
    (find more q)) → (q : List ℤ) → find rows q ≡ find more q
tail-same w r v rows more h k same q =
    elim (either (same_point r.point q)) [
      | inl here ↦
          let e : r.point ≡ q = same_from_test r.point q here in
          ap (find rows) (sym e) ∙ find-later w rows r.point h ∙ sym (find-later w more r.point k) ∙ ap (find more) e
      | inr other ↦ ap (λ b. cond b (Some r.value) (find rows q)) (sym other) ∙ same q ∙ ap (λ b. cond b (Some v) (find more q)) other
    ]

pub same-tables : (w d : ℕ) (a b : List Row) → 1 ≤ w → is_rising w a ≡ true → is_rising w b ≡ true →
    list_all (λ r. is_point w d r.point) a ≡ true → list_all (λ r. is_point w d r.point) b ≡ true →
    ((q : List ℤ) → find a q ≡ find b q) → a ≡ b
same-tables w d [] [] positive ra rb pa pb same = refl
same-tables w d [] (s ∷ b) positive ra rb pa pb same = absurd (some-none s.value (sym (found-first s b) ∙ sym (same s.point)))
same-tables w d (r ∷ a) [] positive ra rb pa pb same = absurd (some-none r.value (sym (found-first r a) ∙ same r.point))
same-tables w d (r ∷ a) (s ∷ b) positive ra rb pa pb same =
    elim (either (before w r.point s.point)) [
      | inl first ↦ absurd (apart w r s a b first (and_parts _ _ rb).0 same)
      | inr later ↦ elim (either (before w s.point r.point)) [
        | inl first ↦ absurd (apart w s r b a first (and_parts _ _ ra).0 (λ q. sym (same q)))
        | inr later2 ↦
            let p : r.point ≡ s.point = same_from_order w d r.point s.point positive (and_parts _ _ pa).0 (and_parts _ _ pb).0 later later2 in
            let v : r.value ≡ s.value = some-same r.value s.value (sym (found-first r a) ∙ same r.point ∙ ap (find (s ∷ b)) p ∙ found-first s b) in
            let behind : list_all (λ t. before w r.point t.point) b ≡ true = ap (λ x. list_all (λ t. before w x t.point) b) p ∙ (and_parts _ _ rb).0 in
            let tails : (q : List ℤ) → find a q ≡ find b q = tail-same w r s.value a b (and_parts _ _ ra).0 behind
            (λ q. same q ∙ ap (λ x. cond (same_point x q) (Some s.value) (find b q)) (sym p)) in
            let more : a ≡ b = same-tables w d a b positive (and_parts _ _ ra).1 (and_parts _ _ rb).1 (and_parts _ _ pa).1 (and_parts _ _ pb).1 tails in
            λ i. row (p i) (v i) ∷ more i
      ]
    ]
