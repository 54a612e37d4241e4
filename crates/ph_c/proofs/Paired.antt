-- Rows of points, whose coordinates stand one behind the other, and of values.
use Rattle.std.proofs.Common.{◌≡◌, ℕ, zero, suc, ◌+◌, ◌*◌, ◌<◌, Bool, true, List, [], ◌∷◌, ◌++◌, length, take, drop, get_or, refl, sym, ap, ◌∙◌, arith, add-one, eq-eqb}
use Rattle.std.specs.Prelude.{ℤ, ◌==◌}
use Rattle.std.specs.List.{AllByRecursion as Each, list_all}
use Rattle.std.proofs.Math.Seq.{take-length}
use Rattle.std.proofs.lemmas.Bool.{and_parts}
use Rattle.std.proofs.lemmas.Grind.{common_steps}
use Rattle.std.proofs.lemmas.List.{drop-drop}
use Rattle.ph_specs.specs.Coordinate.{fits, IsPoint}
use Rattle.ph_specs.specs.Table.{Row, row}
use Rattle.ph_specs.proofs.lemmas.Tests.{and-made}
use Rattle.ph_c.specs.Builds.{rows_of}

rows-size : (d : ℕ) (points : List ℤ) (values : List ℕ) → length (rows_of d points values) ≡ length values
rows-size d points [] = refl
rows-size d points (v ∷ values) = ap suc (rows-size d (drop d points) values)

-- one row more
pub rows-more : (d : ℕ) (points : List ℤ) (values : List ℕ) (i : ℕ) → i < length values →
    take (i + 1) (rows_of d points values) ≡ take i (rows_of d points values) ++ (row (take d (drop (i * d) points)) (get_or values i 0) ∷ [])
rows-more d points values i h = rw (add-one i) (more d points values i h)
  where
    more : (d : ℕ) (points : List ℤ) (values : List ℕ) (i : ℕ) → i < length values →
        take (suc i) (rows_of d points values) ≡ take i (rows_of d points values) ++ (row (take d (drop (i * d) points)) (get_or values i 0) ∷ [])
    more d points [] i h = absurd (omega (arith, h))
    more d points (v ∷ values) zero h = let e : 0 * d ≡ 0 = omega arith in ap (λ k. row (take d (drop k points)) v ∷ []) (sym e)
    more d points (v ∷ values) (suc i) h =
        let e : d + i * d ≡ suc i * d = omega arith in
        let next = more d (drop d points) values i (omega (arith, h)) in
        let place : drop (i * d) (drop d points) ≡ drop (suc i * d) points = drop-drop (i * d) d points ∙ ap (λ k. drop k points) e in
        ap (λ (l : List Row). row (take d points) v ∷ l)
        (next ∙ ap (λ (p : List ℤ). take i (rows_of d (drop d points) values) ++ (row (take d p) (get_or values i 0) ∷ [])) place)

pub rows-all : (d : ℕ) (points : List ℤ) (values : List ℕ) → take (length values) (rows_of d points values) ≡ rows_of d points values
rows-all d points values = ap (λ n. take n (rows_of d points values)) (sym (rows-size d points values)) ∙ take-length (rows_of d points values)

list_all-parts : (p : ℤ → Bool) (n : ℕ) (xs : List ℤ) → list_all p xs ≡ true → (list_all p (take n xs) ≡ true) × (list_all p (drop n xs) ≡ true)
list_all-parts p zero xs h = (refl, h)
list_all-parts p (suc n) [] h = (refl, refl)
list_all-parts p (suc n) (x ∷ xs) h =
    let a = and_parts (p x) (list_all p xs) h in
    let b = list_all-parts p n xs a.1 in
    (and-made (p x) (list_all p (take n xs)) a.0 b.0, b.1)

-- each is at a point, where there are so many coordinates
pub rows-points : (w d : ℕ) (points : List ℤ) (values : List ℕ) → length points ≡ length values * d → list_all (fits w) points ≡ true →
    Each (λ r. IsPoint w d r.point) (rows_of d points values)
rows-points w d points [] n h = tt
rows-points w d points (v ∷ values) n h =
    let more : length points ≡ d + length values * d = n ∙ omega arith in
    let parts = list_all-parts (fits w) d points h in
    let long : length (take d points) ≡ d = grind (arith, common_steps) in
    let rest : length (drop d points) ≡ length values * d = grind (arith, common_steps) in (
      and-made (length (take d points) == d) (list_all (fits w) (take d points)) (eq-eqb (length (take d points)) d long) parts.0,
      rows-points w d (drop d points) values rest parts.1,
    )
