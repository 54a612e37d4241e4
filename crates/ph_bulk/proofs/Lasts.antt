-- A row that comes before none of some rows is put behind them.
use Rattle.std.proofs.Common.{◌≡◌, ℕ, suc, ◌-◌, Bool, true, false, cond, List, [], ◌∷◌, ◌++◌, length, take, refl, sym, ◌∙◌, ap, arith, inl, inr}
use Rattle.std.specs.Prelude.{ℤ, not, Some, slice_get}
use Rattle.std.specs.List.{list_all}
use Rattle.std.proofs.lemmas.Bool.{and_parts}
use Rattle.ph_specs.specs.Coordinate.{same_point}
use Rattle.ph_specs.specs.ZOrder.{before}
use Rattle.ph_specs.specs.Table.{Row, row, put, is_rising}
use Rattle.ph_specs.proofs.laws.Put.{either, same_from_test}
use Rattle.ph_bulk.specs.Order.{is_last, without_last}

not-true : (b : Bool) → not b ≡ true → b ≡ false
not-true true h = cc
not-true false h = refl

pub put-behind : (w : ℕ) (rows : List Row) (p : List ℤ) (v : ℕ) → is_rising w rows ≡ true →
    list_all (λ r. not (before w p r.point)) rows ≡ true → without_last rows p ++ row p v ∷ [] ≡ put w rows p v
put-behind w [] p v h k = refl
put-behind w (r ∷ []) p v h k =
    let b : before w p r.point ≡ false = not-true (before w p r.point) (and_parts _ _ k).0 in
    elim (either (same_point r.point p)) [
      | inl same ↦ rw same refl
      | inr other ↦ rw (other, b) refl
    ]
put-behind w (r ∷ s ∷ rows) p v h k =
    let b : before w p r.point ≡ false = not-true (before w p r.point) (and_parts _ _ k).0 in
    let c : before w p s.point ≡ false = not-true (before w p s.point) (and_parts _ _ (and_parts (not (before w p r.point)) _ k).1).0 in
    let first : before w r.point s.point ≡ true = (and_parts _ _ (and_parts _ _ h).0).0 in
    let ih : without_last (s ∷ rows) p ++ row p v ∷ [] ≡ put w (s ∷ rows) p v =
    put-behind w (s ∷ rows) p v (and_parts (list_all (λ t. before w r.point t.point) (s ∷ rows)) _ h).1
    (and_parts (not (before w p r.point)) _ k).1 in
    elim (either (same_point r.point p)) [
      | inl same ↦ absurd (let clash : true ≡ false = sym first ∙ ap (λ q. before w q s.point) (same_from_test r.point p same) ∙ c in cc)
      | inr other ↦ ap {B = List Row} (λ t. r ∷ t) ih ∙
          sym (ap {B = List Row} (λ t. cond t (row p v ∷ s ∷ rows)
          (cond (before w p r.point) (row p v ∷ r ∷ s ∷ rows) (r ∷ put w (s ∷ rows) p v))) other ∙
          ap {B = List Row} (λ t. cond t (row p v ∷ r ∷ s ∷ rows) (r ∷ put w (s ∷ rows) p v)) b)
    ]

-- ---- the last row

idx : (r s : Row) (rows : List Row) → length (r ∷ s ∷ rows) - 1 ≡ suc (length (s ∷ rows) - 1)
idx r s rows = omega arith

pub last-at : (rows : List Row) (p : List ℤ) (r : Row) → Some r ≡ slice_get rows (length rows - 1) → same_point r.point p ≡ is_last rows p
last-at [] p r e = cc
last-at (s ∷ []) p r e = let same : r ≡ s = cc in ap (λ (t : Row). same_point t.point p) same
last-at (s ∷ t ∷ rows) p r e = last-at (t ∷ rows) p r (e ∙ ap (λ i. slice_get (s ∷ t ∷ rows) i) (idx s t rows))

pub last-gone : (rows : List Row) (p : List ℤ) → is_last rows p ≡ true → take (length rows - 1) rows ≡ without_last rows p
last-gone [] p h = cc
last-gone (r ∷ []) p h = sym (ap {B = List Row} (λ b. cond b [] (r ∷ [])) h)
last-gone (r ∷ s ∷ rows) p h =
    ap (λ i. take i (r ∷ s ∷ rows)) (idx r s rows) ∙ ap {B = List Row} (λ t. r ∷ t) (last-gone (s ∷ rows) p h)

pub last-stays : (rows : List Row) (p : List ℤ) → is_last rows p ≡ false → rows ≡ without_last rows p
last-stays [] p h = refl
last-stays (r ∷ []) p h = sym (ap {B = List Row} (λ b. cond b [] (r ∷ [])) h)
last-stays (r ∷ s ∷ rows) p h = ap {B = List Row} (λ t. r ∷ t) (last-stays (s ∷ rows) p h)
