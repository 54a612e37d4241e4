-- The shape of a table is lawful, and its rows are the table.
use Rattle.std.proofs.Common.{◌≡◌, ℕ, suc, ◌-◌, ◌^◌, ◌<◌, ◌≤◌, refl, sym, ◌∙◌, ap, arith, List, [], ◌∷◌, length, map}
use Rattle.std.proofs.Common.{replicate, true, false, Bool, ◌&&◌, pos, negsuc, ltb-true, ltb-false, leb-true, eqb-true}
use Rattle.std.specs.Prelude.{ℤ, nat_le, ◌==◌}
use Rattle.std.specs.List.{AllByRecursion as Each, list_all}
use Rattle.std.proofs.Math.Nat.{div-eq_of_lt}
use Rattle.std.proofs.lemmas.Nat.{pow_pos}
use Rattle.ph_specs.specs.Coordinate.{offset, coordinate, half, fits, is_point}
use Rattle.ph_specs.specs.ZOrder.{before}
use Rattle.ph_specs.specs.Table.{Row, is_rising, is_value, IsTable}
use Rattle.ph_specs.specs.Shape.{shape}
use Rattle.ph_specs.specs.TreeRows.{rows}
use Rattle.ph_model.specs.Lawful.{IsLawful}
use Rattle.ph_specs.proofs.laws.Order.{offset_small}
use Rattle.ph_model.proofs.lemmas.Joined.{offsets, from_place}
use Rattle.ph_model.proofs.lemmas.Grouped.{Rises}
use Rattle.ph_model.proofs.lemmas.Shaped.{IsRow, root-made}

both : (a b : Bool) → (a && b) ≡ true → (a ≡ true) × (b ≡ true)
both true true h = (refl, refl)
both true false h = cc
both false b h = cc

each : {X : Type 0} (p : X → Bool) (xs : List X) → list_all p xs ≡ true → Each (λ x. p x ≡ true) xs
each p [] h = tt
each p (x ∷ xs) h = let b : (p x ≡ true) × (list_all p xs ≡ true) = both (p x) (list_all p xs) h in (b.0, each p xs b.1)

-- a coordinate in range is given back by its offset
pub coordinate-offset : (w : ℕ) (c : ℤ) → fits w c ≡ true → coordinate w (offset w c) ≡ c
coordinate-offset w (pos n) h = grind (arith, ltb-true, ltb-false)
coordinate-offset w (negsuc n) h =
    let f : n ≤ half w - 1 = leb-true n (half w - 1) (both (nat_le n (half w - 1)) true h).0 in
    let p : 0 < half w = pow_pos (w - 1) in
    grind (arith, ltb-true, ltb-false)

is-row : (w dims : ℕ) (r : Row) → is_point w dims r.point ≡ true → is_value r.value ≡ true → IsRow w dims r
is-row w dims r h v =
    let b : ((length r.point == dims) ≡ true) × (list_all (fits w) r.point ≡ true) = both (length r.point == dims) (list_all (fits w) r.point) h in
    record { long = long r.point ∙ eqb-true (length r.point) dims b.0; back = back r.point (each (fits w) r.point b.1); small = ltb-true r.value (2 ^ 64) v }
  where
    long : (p : List ℤ) → length (offsets w p) ≡ length p
    long [] = refl
    long (c ∷ p) = ap suc (long p)

    back : (p : List ℤ) → Each (λ c. fits w c ≡ true) p → map (coordinate w) (offsets w p) ≡ p
    back [] k = refl
    back (c ∷ p) k =
        ap (λ t. t ∷ map (coordinate w) (offsets w p)) (coordinate-offset w c k.0) ∙ ap {B = List ℤ} (λ t. c ∷ t) (back p k.1)

none-above : (w dims : ℕ) (r : Row) → 1 ≤ w → is_point w dims r.point ≡ true → from_place w (offsets w r.point) ≡ replicate dims 0
none-above w dims r l h =
    let b : ((length r.point == dims) ≡ true) × (list_all (fits w) r.point ≡ true) = both (length r.point == dims) (list_all (fits w) r.point) h in
    zeros r.point (each (fits w) r.point b.1) ∙ ap (λ n. replicate n 0) (eqb-true (length r.point) dims b.0)
  where
    zeros : (p : List ℤ) → Each (λ c. fits w c ≡ true) p → from_place w (offsets w p) ≡ replicate (length p) 0
    zeros [] k = refl
    zeros (c ∷ p) k =
        ap (λ t. t ∷ from_place w (offsets w p)) (div-eq_of_lt (offset_small w c l k.0)) ∙ ap {B = List ℕ} (λ t. 0 ∷ t) (zeros p k.1)

rises : (w : ℕ) (rs : List Row) → is_rising w rs ≡ true → Rises w w rs
rises w [] h = tt
rises w (r ∷ rs) h =
    let b : (list_all (λ s. before w r.point s.point) rs ≡ true) × (is_rising w rs ≡ true) = both (list_all (λ s. before w r.point s.point) rs) (is_rising w rs) h in
    (each (λ s. before w r.point s.point) rs b.0, rises w rs b.1)

are-rows : (w dims : ℕ) (rs : List Row) → Each (λ r. is_point w dims r.point ≡ true) rs → Each (λ r. is_value r.value ≡ true) rs → Each (IsRow w dims) rs
are-rows w dims [] h k = tt
are-rows w dims (r ∷ rs) h k = (is-row w dims r h.0 k.0, are-rows w dims rs h.1 k.1)

Each-points : (w dims : ℕ) (P : Row → Type 0) → ((r : Row) → is_point w dims r.point ≡ true → P r) → (rs : List Row) →
    Each (λ r. is_point w dims r.point ≡ true) rs → Each P rs
Each-points w dims P f [] h = tt
Each-points w dims P f (r ∷ rs) h = (f r h.0, Each-points w dims P f rs h.1)

-- the shape of a table is lawful, and holds the table's rows
pub table-shape : (w dims : ℕ) (table : List Row) → 1 ≤ w → IsTable w dims table → IsLawful w dims (shape w table) × (rows w dims (shape w table) ≡ table)
table-shape w dims [] l h = (tt, refl)
table-shape w dims (r ∷ rs) l h =
    let b : (is_rising w (r ∷ rs) ≡ true) ×
    ((list_all (λ t. is_point w dims t.point) (r ∷ rs) && list_all (λ t. is_value t.value) (r ∷ rs)) ≡ true) =
    both (is_rising w (r ∷ rs)) (list_all (λ t. is_point w dims t.point) (r ∷ rs) &&
    list_all (λ t. is_value t.value) (r ∷ rs)) h in
    let c : (list_all (λ t. is_point w dims t.point) (r ∷ rs) ≡ true) ×
    (list_all (λ t. is_value t.value) (r ∷ rs) ≡ true) = both (list_all (λ t. is_point w dims t.point) (r ∷ rs))
    (list_all (λ t. is_value t.value) (r ∷ rs)) b.1 in
    let p : Each (λ t. is_point w dims t.point ≡ true) (r ∷ rs) = each (λ t. is_point w dims t.point) (r ∷ rs) c.0 in
    let q : Each (λ t. is_value t.value ≡ true) (r ∷ rs) = each (λ t. is_value t.value) (r ∷ rs) c.1 in
    root-made w dims r rs l
    (are-rows w dims (r ∷ rs) p q)
    (Each-points w dims (λ t. from_place w (offsets w t.point) ≡ replicate dims 0) (λ t. none-above w dims t l) (r ∷ rs) p)
    (rises w (r ∷ rs) b.0)

-- two tables of one shape are one table
pub table-from-shape : (w dims : ℕ) (s t : List Row) → 1 ≤ w → IsTable w dims s → IsTable w dims t → shape w s ≡ shape w t → s ≡ t
table-from-shape w dims s t l h k e =
    sym (table-shape w dims s l h).1 ∙ ap (rows w dims) e ∙ (table-shape w dims t l k).1
