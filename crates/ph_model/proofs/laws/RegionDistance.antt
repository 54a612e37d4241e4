-- The least distance of a region is reached by a point of it, and no point of it is nearer.
use Rattle.std.proofs.Common.{◌≡◌, ℕ, suc, ◌+◌, ◌<◌, ◌≤◌, ◌↔◌, refl, sym, ◌∙◌, ap, subst, arith, List, []}
use Rattle.std.proofs.Common.{◌∷◌, length, Bool, true, false, eqb-true, eq-eqb, le-leb, leb-true}
use Rattle.std.specs.Prelude.{ℤ, int_le, nat_le, if◌then◌else◌, ◌==◌}
use Rattle.std.specs.List.{list_all}
use Rattle.std.proofs.lemmas.Int.{ints}
use Rattle.ph_specs.specs.Coordinate.{fits, IsPoint, at_most}
use Rattle.ph_specs.specs.Distance.{distance}
use Rattle.ph_specs.specs.Region.{Region, is_in, least_corner, greatest_corner, clamp, clamp_each, nearest_point, least_distance}
use Rattle.ph_model.proofs.lemmas.Joined.{offsets, from_place}
use Rattle.ph_model.proofs.lemmas.Bounds.{Below, at_most-below, below-at_most, fit, point-fit, in-same, same-in, lows, region-low, region-high, between-region}
use Rattle.ph_model.proofs.lemmas.Bounds.{low-high}
use Rattle.ph_model.proofs.laws.Regions.{least-fit, greatest-fit, least-offsets, greatest-offsets}
use Rattle.ph_specs.proofs.lemmas.Tests.{and-parts, and-made, test-each}
use Rattle.ph_model.proofs.laws.Bound.{least_distance-point}

-- ---- one dimension

clamp-from : (l g x : ℤ) → int_le l g ≡ true → int_le l (clamp l g x) ≡ true
clamp-from l g x h = by_tests (int_le x l) (int_le g x) refl refl
  where
    by_tests : (s t : Bool) → int_le x l ≡ s → int_le g x ≡ t → int_le l (if s then l else (if t then g else x)) ≡ true
    by_tests true t a b = grind (arith, ints)
    by_tests false true a b = h
    by_tests false false a b = grind (arith, ints)

clamp-to : (l g x : ℤ) → int_le l g ≡ true → int_le (clamp l g x) g ≡ true
clamp-to l g x h = by_tests (int_le x l) (int_le g x) refl refl
  where
    by_tests : (s t : Bool) → int_le x l ≡ s → int_le g x ≡ t → int_le (if s then l else (if t then g else x)) g ≡ true
    by_tests true t a b = h
    by_tests false true a b = grind (arith, ints)
    by_tests false false a b = grind (arith, ints)

clamp-fits : (w : ℕ) (l g x : ℤ) → fits w l ≡ true → fits w g ≡ true → fits w x ≡ true → fits w (clamp l g x) ≡ true
clamp-fits w l g x h k i = by_tests (int_le x l) (int_le g x)
  where
    by_tests : (s t : Bool) → fits w (if s then l else (if t then g else x)) ≡ true
    by_tests true t = h
    by_tests false true = k
    by_tests false false = i

-- ---- points

clamped-from : (ls gs xs : List ℤ) → length ls ≡ length xs → at_most ls gs ≡ true → at_most ls (clamp_each ls gs xs) ≡ true
clamped-from [] gs xs n h = refl
clamped-from (l ∷ ls) [] xs n h = absurd (let no : false ≡ true = h in cc)
clamped-from (l ∷ ls) (g ∷ gs) [] n h = absurd (omega (arith, n))
clamped-from (l ∷ ls) (g ∷ gs) (x ∷ xs) n h =
    let b : (int_le l g ≡ true) × (at_most ls gs ≡ true) = and-parts (int_le l g) (at_most ls gs) h in
    and-made (int_le l (clamp l g x)) (at_most ls (clamp_each ls gs xs)) (clamp-from l g x b.0) (clamped-from ls gs xs (omega (arith, n)) b.1)

clamped-to : (ls gs xs : List ℤ) → length ls ≡ length xs → at_most ls gs ≡ true → at_most (clamp_each ls gs xs) gs ≡ true
clamped-to [] [] xs n h = refl
clamped-to [] (g ∷ gs) xs n h = h
clamped-to (l ∷ ls) [] xs n h = absurd (let no : false ≡ true = h in cc)
clamped-to (l ∷ ls) (g ∷ gs) [] n h = absurd (omega (arith, n))
clamped-to (l ∷ ls) (g ∷ gs) (x ∷ xs) n h =
    let b : (int_le l g ≡ true) × (at_most ls gs ≡ true) = and-parts (int_le l g) (at_most ls gs) h in
    and-made (int_le (clamp l g x) g) (at_most (clamp_each ls gs xs) gs) (clamp-to l g x b.0) (clamped-to ls gs xs (omega (arith, n)) b.1)

clamped-fit : (w : ℕ) (ls gs xs : List ℤ) → fit w ls → fit w gs → fit w xs → fit w (clamp_each ls gs xs)
clamped-fit w [] gs xs h k i = tt
clamped-fit w (l ∷ ls) [] xs h k i = tt
clamped-fit w (l ∷ ls) (g ∷ gs) [] h k i = tt
clamped-fit w (l ∷ ls) (g ∷ gs) (x ∷ xs) h k i = (clamp-fits w l g x h.0 k.0 i.0, clamped-fit w ls gs xs h.1 k.1 i.1)

clamped-long : (ls gs xs : List ℤ) → length ls ≡ length xs → at_most ls gs ≡ true → length (clamp_each ls gs xs) ≡ length xs
clamped-long [] gs [] n h = refl
clamped-long [] gs (x ∷ xs) n h = absurd (omega (arith, n))
clamped-long (l ∷ ls) [] xs n h = absurd (let no : false ≡ true = h in cc)
clamped-long (l ∷ ls) (g ∷ gs) [] n h = absurd (omega (arith, n))
clamped-long (l ∷ ls) (g ∷ gs) (x ∷ xs) n h = ap suc (clamped-long ls gs xs (omega (arith, n)) (and-parts (int_le l g) (at_most ls gs) h).1)

-- ---- regions

least-long : (w : ℕ) (r : Region) → length (least_corner w r) ≡ length r.corner
least-long w r = long r.corner
  where
    long : (cs : List ℤ) → length (least_corner w (record { corner = cs; level = r.level })) ≡ length cs
    long [] = refl
    long (c ∷ cs) = ap suc (long cs)

corners : (w d : ℕ) (r : Region) → r.level < w → IsPoint w d r.corner → at_most (least_corner w r) (greatest_corner w r) ≡ true
corners w d r l c =
    below-at_most w (least_corner w r) (greatest_corner w r) (least-fit w d r l c) (greatest-fit w d r l c)
    (subst (λ t. Below t (offsets w (greatest_corner w r))) (sym (least-offsets w r))
    (subst (Below (lows r.level (offsets w r.corner))) (sym (greatest-offsets w r)) (low-high r.level (offsets w r.corner))))

long-of : (w d : ℕ) (p : List ℤ) → IsPoint w d p → length p ≡ d
long-of w d p h = eqb-true (length p) d (and-parts (length p == d) (list_all (fits w) p) h).0

-- ---- the laws

-- a point of the width is in a region exactly where it is between the region's corners
pub in-corners : (w d : ℕ) (r : Region) (p : List ℤ) → r.level < w → IsPoint w d r.corner → IsPoint w d p →
    is_in w r p ≡ true ↔ ((at_most (least_corner w r) p ≡ true) × (at_most p (greatest_corner w r) ≡ true))
in-corners w d r p l c h = (there, back)
  where
    there : is_in w r p ≡ true → (at_most (least_corner w r) p ≡ true) × (at_most p (greatest_corner w r) ≡ true)
    there k =
        let e : from_place (r.level + 1) (offsets w r.corner) ≡ from_place (r.level + 1) (offsets w p) = in-same w r.level r.corner p k in (
          below-at_most w (least_corner w r) p (least-fit w d r l c) (point-fit w d p h)
              (subst (λ t. Below t (offsets w p)) (sym (least-offsets w r))
              (region-low r.level (offsets w r.corner) (offsets w p) e)),
          below-at_most w p (greatest_corner w r) (point-fit w d p h) (greatest-fit w d r l c)
              (subst (Below (offsets w p)) (sym (greatest-offsets w r))
              (region-high r.level (offsets w r.corner) (offsets w p) e)),
        )

    back : (at_most (least_corner w r) p ≡ true) × (at_most p (greatest_corner w r) ≡ true) → is_in w r p ≡ true
    back k =
        same-in w r.level r.corner p (between-region r.level (offsets w r.corner) (offsets w p)
        (subst (λ t. Below t (offsets w p)) (least-offsets w r)
        (at_most-below w (least_corner w r) p (least-fit w d r l c) (point-fit w d p h) k.0))
        (subst (Below (offsets w p)) (greatest-offsets w r)
        (at_most-below w p (greatest_corner w r) (point-fit w d p h) (greatest-fit w d r l c) k.1)))

-- the nearest point is a point of the region. It is at the least distance by the definition of this, and by `least_distance-point` no point of the region is nearer
pub nearest_point-in : (w d : ℕ) (r : Region) (q : List ℤ) → r.level < w → IsPoint w d r.corner → IsPoint w d q →
    IsPoint w d (nearest_point w r q) × (is_in w r (nearest_point w r q) ≡ true) ×
    (distance (nearest_point w r q) q ≡ least_distance w r q)
nearest_point-in w d r q l c h =
    let n : length (least_corner w r) ≡ length q = least-long w r ∙ long-of w d r.corner c ∙ sym (long-of w d q h) in
    let o : at_most (least_corner w r) (greatest_corner w r) ≡ true = corners w d r l c in
    let p : IsPoint w d (nearest_point w r q) = and-made (length (nearest_point w r q) == d)
    (list_all (fits w) (nearest_point w r q))
    (eq-eqb (length (nearest_point w r q)) d
    (clamped-long (least_corner w r) (greatest_corner w r) q n o ∙ long-of w d q h))
    (test-each (fits w) (nearest_point w r q)
    (clamped-fit w (least_corner w r) (greatest_corner w r) q (least-fit w d r l c) (greatest-fit w d r l c)
    (point-fit w d q h))) in (
      p,
      (in-corners w d r (nearest_point w r q) l c p).1 (
        clamped-from (least_corner w r) (greatest_corner w r) q n o,
        clamped-to (least_corner w r) (greatest_corner w r) q n o,
      ),
      refl,
    )

-- a region is within a distance exactly where a point of it is
pub least_distance-means : (w d : ℕ) (r : Region) (q : List ℤ) (n : ℕ) → r.level < w → IsPoint w d r.corner →
    IsPoint w d q → nat_le (least_distance w r q) n ≡
    true ↔ ((p : List ℤ) × IsPoint w d p × (is_in w r p ≡ true) × (distance p q ≤ n))
least_distance-means w d r q n l c h = (there, back)
  where
    there : nat_le (least_distance w r q) n ≡ true → (p : List ℤ) × IsPoint w d p × (is_in w r p ≡ true) × (distance p q ≤ n)
    there e =
        let i : IsPoint w d (nearest_point w r q) × (is_in w r (nearest_point w r q) ≡ true) ×
        (distance (nearest_point w r q) q ≡ least_distance w r q) = nearest_point-in w d r q l c h in
        (nearest_point w r q, i.0, i.1, leb-true (least_distance w r q) n e)

    back : (p : List ℤ) × IsPoint w d p × (is_in w r p ≡ true) × (distance p q ≤ n) → nat_le (least_distance w r q) n ≡ true
    back x = le-leb (least_distance w r q) n (chain (least_distance w r q) (distance x.0 q) (least_distance-point w d r x.0 q x.1 x.2) x.3)
      where
        chain : (a b : ℕ) → a ≤ b → b ≤ n → a ≤ n
        chain a b h k = omega arith
