-- The pairs of overlapping boxes of two tables, and the window that finds those of a row.
use Rattle.std.proofs.Common.{◌≡◌, ℕ, ◌/◌, ◌≤◌, suc, ◌*◌, ◌∙◌, Bool, true, false, List, [], ◌∷◌, ◌++◌}
use Rattle.std.proofs.Common.{length, take-append-drop, if◌then◌else◌, arith, sym, ap, subst}
use Rattle.std.specs.Prelude.{ℤ, filter}
use Rattle.std.specs.List.{AllByRecursion as Each}
use Rattle.std.proofs.Math.Nat.{suc-mul}
use Rattle.std.proofs.lemmas.List.{length-append, length-map}
use Rattle.ph_specs.specs.Boxes.{overlapping, overlaps, IsWindowFor, AreBoxes}
use Rattle.ph_specs.specs.Coordinate.{low_corner, high_corner, IsPoint, IsBox}
use Rattle.ph_specs.specs.Window.{window}
use Rattle.ph_specs.specs.Sets.{pairs, partners, paired}
use Rattle.ph_specs.specs.Table.{Row, IsTable}
use Rattle.ph_specs.proofs.laws.Points.{ArePoints, table-points}
use Rattle.ph_specs.proofs.laws.Boxes.{window_lists}

-- ---- no more than all rows of one with all of the other

few-filtered : {A : Type 0} (q : A → Bool) (xs : List A) → length (filter q xs) ≤ length xs
few-filtered q [] = omega arith
few-filtered q (x ∷ xs) =
    let more = few-filtered q xs in
    elim (q x) as (λ b. length (if b then x ∷ filter q xs else filter q xs) ≤ suc (length xs)) [ true ↦ omega (arith, more) | false ↦ omega (arith, more) ]

few-partners : (r : Row) (b : List Row) → length (partners r b) ≤ length b
few-partners r b =
    subst (λ n. n ≤ length b) (sym (length-map (overlapping r.point b) (λ s. (r, s)))) (few-filtered (λ s. overlaps r.point s.point) b)

pub few-pairs : (a b : List Row) → length (pairs a b) ≤ length a * length b
few-pairs [] b = omega arith
few-pairs (r ∷ a) b =
    let here = few-partners r b in
    let later = few-pairs a b in
    let sum = length-append (partners r b) (pairs a b) in
    let product = suc-mul (length a) (length b) in
    omega (arith, here, later, sum, product)

-- ---- the window of a box

-- rows of a table of boxes
pub both_are : (w d : ℕ) (rows : List Row) → ArePoints w d rows → AreBoxes rows → Each (λ r. IsPoint w d r.point × IsBox r.point) rows
both_are w d [] p b = tt
both_are w d (r ∷ rows) p b = ((p.0, b.0), both_are w d rows p.1 b.1)

corners-back : (p low high : List ℤ) → low ≡ low_corner p → high ≡ high_corner p → low ++ high ≡ p
corners-back p low high e f = (λ i. e i ++ f i) ∙ take-append-drop (length p / 2) p

pub partners-found : (w u d : ℕ) (r : Row) (p low high from to : List ℤ) (rows table : List Row) → w ≡ u →
    IsTable u d table → AreBoxes table → p ≡ r.point → low ≡ low_corner p → high ≡ high_corner p →
    IsWindowFor w d (overlaps (low ++ high)) from to → rows ≡ window from to table → paired r rows ≡ partners r table
partners-found w u d r p low high from to rows table e t b is l h f found =
    let boxes = both_are u d table (table-points u d table t) b in
    let asked : low ++ high ≡ r.point = corners-back p low high l h ∙ is in
    ap (λ rs. paired r rs) (found ∙ window_lists u d (overlaps (low ++ high)) from to table
    (subst (λ n. IsWindowFor n d (overlaps (low ++ high)) from to) e f) boxes ∙ ap (λ q. overlapping q table) asked)
