-- Rows that are written into arrays one by one.
use Rattle.std.proofs.Common.{◌≡◌, ℕ, zero, suc, ◌+◌, ◌*◌, ◌≤◌, List, [], ◌∷◌, ◌++◌, length, take, drop, refl, ap, ◌∙◌, add-one, arith, length-append}
use Rattle.std.specs.Prelude.{ℤ, Some, None, slice_get}
use Rattle.std.proofs.Math.Seq.{drop-append-add, take-append_seam}
use Rattle.std.proofs.lemmas.Grind.{common_steps, flat_map-append}
use Rattle.std.proofs.lemmas.List.{map-append, drop-drop}
use Rattle.ph_specs.specs.Table.{Row}
use Rattle.ph_c.specs.Pages.{points_of, values_of, overlaid}
use Rattle.ph_c.specs.Windows.{some_left}

-- numbers that are written behind those in front
pub overlaid-more : {X : Type 0} (front new array : List X)
    → take (length front) (overlaid front array) ++ new ++ drop (length front + length new) (overlaid front array) ≡ overlaid (front ++ new) array
overlaid-more front new array =
    rw (take-append_seam front (drop (length front) array), drop-append-add front (drop (length front) array) (length new), drop-drop (length new) (length front) array, length-append front new) refl

pub laid-more : {X : Type 0} (front new array now : List X) (n m : ℕ) → now ≡ overlaid front array → length front ≡ n → length new ≡ m
    → take n now ++ new ++ drop (n + m) now ≡ overlaid (front ++ new) array
laid-more front new array now n m is fn fm = rw (is, ← fn, ← fm) (overlaid-more front new array)

-- one row more
pub take-more : {X : Type 0} (xs : List X) (i : ℕ) (x : X) → slice_get (drop i xs) 0 ≡ Some x → take (suc i) xs ≡ take i xs ++ (x ∷ [])
take-more [] zero x is = grind (arith, common_steps)
take-more [] (suc i) x is = grind (arith, common_steps)
take-more (y ∷ xs) zero x is = grind (arith, common_steps)
take-more (y ∷ xs) (suc i) x is = ap (λ (l : List _). y ∷ l) (take-more xs i x is)

-- where no row is left
pub none-left : {X : Type 0} (xs : List X) → slice_get xs 0 ≡ None → xs ≡ []
none-left [] is = refl
none-left (x ∷ xs) is = grind (arith, common_steps)

pub take-end : {X : Type 0} (xs : List X) (i n : ℕ) → drop i xs ≡ [] → i ≤ n → take n xs ≡ take i xs
take-end [] i n ends within = grind (arith, common_steps)
take-end (x ∷ xs) zero n ends within = grind (arith, common_steps)
take-end (x ∷ xs) (suc i) zero ends within = let no : ⊥ = omega arith in absurd no
take-end (x ∷ xs) (suc i) (suc n) ends within = ap (λ (l : List _). x ∷ l) (take-end xs i n ends (omega arith))

pub drop-end : {X : Type 0} (xs : List X) (i n : ℕ) → drop i xs ≡ [] → i ≤ n → drop n xs ≡ []
drop-end [] i n ends within = grind (arith, common_steps)
drop-end (x ∷ xs) zero n ends within = grind (arith, common_steps)
drop-end (x ∷ xs) (suc i) zero ends within = let no : ⊥ = omega arith in absurd no
drop-end (x ∷ xs) (suc i) (suc n) ends within = drop-end xs i n ends (omega arith)

-- the first i rows stand in both arrays
pub record Filling (dims : ℕ) (all : List Row) (values₀ : List ℕ) (points₀ : List ℤ) (i : ℕ) (rows : List Row) (values : List ℕ) (points : List ℤ) : Type 0 where
  pub given : length (take i all) ≡ i
  pub sized : length (points_of (take i all)) ≡ i * dims
  pub rest : rows ≡ drop i all
  pub values_are : values ≡ overlaid (values_of (take i all)) values₀
  pub points_are : points ≡ overlaid (points_of (take i all)) points₀

points-more : (rows : List Row) (r : Row) → points_of (rows ++ (r ∷ [])) ≡ points_of rows ++ r.point
points-more rows r = grind (arith, common_steps, flat_map-append)

values-more : (rows : List Row) (r : Row) → values_of (rows ++ (r ∷ [])) ≡ values_of rows ++ (r.value ∷ [])
values-more rows r = map-append (λ (s : Row). s.value) rows (r ∷ [])

values-size : (rows : List Row) → length (values_of rows) ≡ length rows
values-size rows = grind (arith, common_steps)

pub filling-more : (dims : ℕ) (all : List Row) (values₀ : List ℕ) (points₀ : List ℤ) (i : ℕ) (rows : List Row) (values : List ℕ) (points : List ℤ) (r : Row)
    → Filling dims all values₀ points₀ i rows values points → slice_get rows 0 ≡ Some r → length r.point ≡ dims
    → Filling dims all values₀ points₀ (i + 1) (drop 1 rows) (take i values ++ (r.value ∷ []) ++ drop (i + 1) values)
    (take (i * dims) points ++ r.point ++ drop (i * dims + length r.point) points)
filling-more dims all values₀ points₀ i rows values points r f is size =
    let first : slice_get (drop i all) 0 ≡ Some r = rw (← f.rest) is in
    let more : take (i + 1) all ≡ take i all ++ (r ∷ []) = rw (add-one i) (take-more all i r first) in
    let count : length (values_of (take i all)) ≡ i = values-size (take i all) ∙ f.given in
    record {
      given = rw (more, length-append (take i all) (r ∷ []), f.given) refl;
      sized = rw (more, points-more (take i all) r, length-append (points_of (take i all)) r.point, f.sized, size) (omega arith);
      rest = rw (f.rest, drop-drop 1 i all) refl;
      values_are = rw (more, values-more (take i all) r) (laid-more (values_of (take i all)) (r.value ∷ []) values₀ values i 1 f.values_are count refl);
      points_are = rw (more, points-more (take i all) r) (laid-more (points_of (take i all)) r.point points₀ points (i * dims) (length r.point) f.points_are f.sized refl);
    }

-- whether rows are left
pub one-left : (rows : List Row) (r : Row) → slice_get rows 0 ≡ Some r → some_left rows ≡ 1
one-left [] r is = grind (arith, common_steps)
one-left (s ∷ rows) r is = refl

pub none-left-over : (rows : List Row) → slice_get rows 0 ≡ None → some_left rows ≡ 0
none-left-over [] is = refl
none-left-over (s ∷ rows) is = grind (arith, common_steps)
