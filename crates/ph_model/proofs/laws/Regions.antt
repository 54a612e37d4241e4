-- What the tests of regions mean: there is a point.
use Rattle.std.proofs.Common.{◌≡◌, ℕ, ◌+◌, ◌<◌, ◌≤◌, sym, ◌∙◌, ap, subst, arith, List, map, true, ◌&&◌}
use Rattle.std.specs.Prelude.{ℤ}
use Rattle.ph_specs.specs.Coordinate.{coordinate, IsPoint, at_most}
use Rattle.ph_specs.specs.Window.{is_between}
use Rattle.ph_specs.specs.Region.{Region, is_in, least_corner, greatest_corner, meets_window}
use Rattle.ph_model.specs.Regions.{InBoth}
use Rattle.ph_model.proofs.lemmas.Joined.{offsets, from_place, offsets-coordinate}
use Rattle.ph_model.proofs.lemmas.Bounds.{Below, at_most-below, below-at_most, fit, point-fit, point-long, small, fit-small, small-fit, small-point, in-same}
use Rattle.ph_model.proofs.lemmas.Bounds.{same-in, lows, highs, least-lows, greatest-highs, highs-small, lows-small, Below-trans, Below-small, Below-long}
use Rattle.ph_model.proofs.lemmas.Bounds.{region-low, region-high, between-region, maxes, maxes-left, maxes-right, maxes-least, low-high}
use Rattle.ph_specs.proofs.lemmas.Tests.{and-parts, and-made}

-- the corners fit their width, and are the bounds of offsets
pub least-fit : (w d : ℕ) (r : Region) → r.level < w → IsPoint w d r.corner → fit w (least_corner w r)
least-fit w d r l h =
    subst (fit w) (sym (least-lows w r.level r.corner))
    (small-fit w (lows r.level (offsets w r.corner)) (omega (arith, l))
    (lows-small w r.level (offsets w r.corner) (fit-small w r.corner (omega (arith, l)) (point-fit w d r.corner h))))

pub greatest-fit : (w d : ℕ) (r : Region) → r.level < w → IsPoint w d r.corner → fit w (greatest_corner w r)
greatest-fit w d r l h =
    subst (fit w) (sym (greatest-highs w r.level r.corner))
    (small-fit w (highs r.level (offsets w r.corner)) (omega (arith, l))
    (highs-small w r.level (offsets w r.corner) l (fit-small w r.corner (omega (arith, l)) (point-fit w d r.corner h))))

pub least-offsets : (w : ℕ) (r : Region) → offsets w (least_corner w r) ≡ lows r.level (offsets w r.corner)
least-offsets w r = ap (offsets w) (least-lows w r.level r.corner) ∙ offsets-coordinate w (lows r.level (offsets w r.corner))

pub greatest-offsets : (w : ℕ) (r : Region) → offsets w (greatest_corner w r) ≡ highs r.level (offsets w r.corner)
greatest-offsets w r = ap (offsets w) (greatest-highs w r.level r.corner) ∙ offsets-coordinate w (highs r.level (offsets w r.corner))

-- what the test for a window says of offsets
pub record Meets (w : ℕ) (r : Region) (lo hi : List ℤ) : Type 0 where
  pub ordered : Below (offsets w lo) (offsets w hi)
  pub starts : Below (offsets w lo) (highs r.level (offsets w r.corner))
  pub ends : Below (lows r.level (offsets w r.corner)) (offsets w hi)

pub meets-numbers : (w d : ℕ) (r : Region) (lo hi : List ℤ) → r.level < w → IsPoint w d r.corner → IsPoint w d lo →
    IsPoint w d hi → meets_window w r lo hi ≡ true → Meets w r lo hi
meets-numbers w d r lo hi l c a b h =
    let s : (at_most lo hi && at_most lo (greatest_corner w r) ≡ true) × (at_most (least_corner w r) hi ≡ true) =
    and-parts (at_most lo hi && at_most lo (greatest_corner w r)) (at_most (least_corner w r) hi) h in
    let t : (at_most lo hi ≡ true) × (at_most lo (greatest_corner w r) ≡ true) = and-parts (at_most lo hi) (at_most lo (greatest_corner w r)) s.0 in
    record {
      ordered = at_most-below w lo hi (point-fit w d lo a) (point-fit w d hi b) t.0;
      starts = subst (Below (offsets w lo)) (greatest-offsets w r) (at_most-below w lo (greatest_corner w r) (point-fit w d lo a) (greatest-fit w d r l c) t.1);
      ends = subst (λ x. Below x (offsets w hi)) (least-offsets w r) (at_most-below w (least_corner w r) hi (least-fit w d r l c) (point-fit w d hi b) s.1);
    }

pub numbers-meet : (w d : ℕ) (r : Region) (lo hi : List ℤ) → r.level < w → IsPoint w d r.corner → IsPoint w d lo →
    IsPoint w d hi → Meets w r lo hi → meets_window w r lo hi ≡ true
numbers-meet w d r lo hi l c a b m =
    and-made (at_most lo hi && at_most lo (greatest_corner w r)) (at_most (least_corner w r) hi)
    (and-made (at_most lo hi) (at_most lo (greatest_corner w r))
    (below-at_most w lo hi (point-fit w d lo a) (point-fit w d hi b) m.ordered)
    (below-at_most w lo (greatest_corner w r) (point-fit w d lo a) (greatest-fit w d r l c) (subst (Below (offsets w lo)) (sym (greatest-offsets w r)) m.starts)))
    (below-at_most w (least_corner w r) hi (least-fit w d r l c) (point-fit w d hi b) (subst (λ x. Below x (offsets w hi)) (sym (least-offsets w r)) m.ends))

-- numbers in a region and between two bounds are the offsets of such a point
pub numbers-point : (w d : ℕ) (r : Region) (lo hi : List ℤ) (ys : List ℕ) → 1 ≤ w → IsPoint w d r.corner →
    IsPoint w d lo → IsPoint w d hi → from_place (r.level + 1) (offsets w r.corner) ≡ from_place (r.level + 1) ys →
    Below (offsets w lo) ys → Below ys (offsets w hi) → InBoth w d r lo hi (map (coordinate w) ys)
numbers-point w d r lo hi ys l c a b e h k =
    let o : offsets w (map (coordinate w) ys) ≡ ys = offsets-coordinate w ys in
    let s : small w ys = Below-small w ys (offsets w hi) k (fit-small w hi l (point-fit w d hi b)) in
    let f : fit w (map (coordinate w) ys) = small-fit w ys l s in (
      small-point w d ys l (Below-long ys (offsets w hi) k ∙ point-long w d hi b) s,
      same-in w r.level r.corner (map (coordinate w) ys) (e ∙ ap (from_place (r.level + 1)) (sym o)),
      and-made (at_most lo (map (coordinate w) ys)) (at_most (map (coordinate w) ys) hi)
          (below-at_most w lo (map (coordinate w) ys) (point-fit w d lo a) f (subst (Below (offsets w lo)) (sym o) h))
          (below-at_most w (map (coordinate w) ys) hi f (point-fit w d hi b) (subst (λ x. Below x (offsets w hi)) (sym o) k)),
    )

pub point-between : (w d : ℕ) (lo hi p : List ℤ) → IsPoint w d lo → IsPoint w d hi → IsPoint w d p →
    is_between lo hi p ≡ true → Below (offsets w lo) (offsets w p) × Below (offsets w p) (offsets w hi)
point-between w d lo hi p a b q h =
    let s : (at_most lo p ≡ true) × (at_most p hi ≡ true) = and-parts (at_most lo p) (at_most p hi) h in
    (at_most-below w lo p (point-fit w d lo a) (point-fit w d p q) s.0, at_most-below w p hi (point-fit w d p q) (point-fit w d hi b) s.1)

pub in-numbers : (w : ℕ) (r : Region) (p : List ℤ) → is_in w r p ≡ true → from_place (r.level + 1) (offsets w r.corner) ≡ from_place (r.level + 1) (offsets w p)
in-numbers w r p h = in-same w r.level r.corner p h

-- ---- the law

-- where the test says that a window meets a region, a point is in both
pub meets-point : (w d : ℕ) (r : Region) (lo hi : List ℤ) → r.level < w → IsPoint w d r.corner → IsPoint w d lo →
    IsPoint w d hi → meets_window w r lo hi ≡ true → (p : List ℤ) × InBoth w d r lo hi p
meets-point w d r lo hi l c a b h =
    let m : Meets w r lo hi = meets-numbers w d r lo hi l c a b h in
    let xs : List ℕ = lows r.level (offsets w r.corner) in
    let ys : List ℕ = maxes (offsets w lo) xs in
    let k : Below ys (offsets w hi) = maxes-least (offsets w lo) xs (offsets w hi) m.ordered m.ends in
    let e : from_place (r.level + 1) (offsets w r.corner) ≡ from_place (r.level + 1) ys =
    between-region r.level (offsets w r.corner) ys (maxes-right (offsets w lo) xs (offsets w hi) m.ordered m.ends)
    (maxes-least (offsets w lo) xs (highs r.level (offsets w r.corner)) m.starts (low-high r.level (offsets w r.corner))) in
    (map (coordinate w) ys, numbers-point w d r lo hi ys (omega (arith, l)) c a b e (maxes-left (offsets w lo) xs (offsets w hi) m.ordered m.ends) k)

-- where a point is in both, the test says so
pub point-meets : (w d : ℕ) (r : Region) (lo hi p : List ℤ) → r.level < w → IsPoint w d r.corner → IsPoint w d lo →
    IsPoint w d hi → InBoth w d r lo hi p → meets_window w r lo hi ≡ true
point-meets w d r lo hi p l c a b h =
    let s : Below (offsets w lo) (offsets w p) × Below (offsets w p) (offsets w hi) = point-between w d lo hi p a b h.0 h.2 in
    let e : from_place (r.level + 1) (offsets w r.corner) ≡ from_place (r.level + 1) (offsets w p) = in-numbers w r p h.1 in
    numbers-meet w d r lo hi l c a b (record {
      ordered = Below-trans (offsets w lo) (offsets w p) (offsets w hi) s.0 s.1;
      starts = Below-trans (offsets w lo) (offsets w p) (highs r.level (offsets w r.corner)) s.0 (region-high r.level (offsets w r.corner) (offsets w p) e);
      ends = Below-trans (lows r.level (offsets w r.corner)) (offsets w p) (offsets w hi) (region-low r.level (offsets w r.corner) (offsets w p) e) s.1;
    })
