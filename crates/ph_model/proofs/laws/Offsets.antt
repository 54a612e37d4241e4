-- Coordinates and their offsets: how far apart they are, and in which order.
use Rattle.std.proofs.Common.{◌≡◌, ℕ, ◌+◌, ◌-◌, ◌*◌, ◌^◌, ◌<◌, ◌≤◌, refl, ◌∙◌, ap, subst, arith, Bool, true, false, ltb-true, ltb-false, leb-true, leb-false}
use Rattle.std.specs.Prelude.{ℤ, ◌-ℤ◌, nat_abs, int_le, nat_le, if◌then◌else◌}
use Rattle.std.proofs.lemmas.Int.{ints}
use Rattle.std.proofs.lemmas.Bool.{lt-leb}
use Rattle.ph_specs.specs.Coordinate.{offset, coordinate, fits}
use Rattle.ph_specs.specs.Distance.{squared_gap}
use Rattle.ph_specs.specs.Region.{clamp, prefix}
use Rattle.ph_model.specs.Regions.{gap}
use Rattle.ph_model.proofs.lemmas.Gaps.{low_end, high_end, rising_coordinate}
use Rattle.ph_model.proofs.laws.TableShape.{coordinate-offset}

-- coordinates are as far from each other as their offsets
pub coordinate-apart : (w a b : ℕ) → nat_abs (coordinate w a -ℤ coordinate w b) ≡ (a - b) + (b - a)
coordinate-apart w a b = grind (arith, ints, ltb-true, ltb-false)

-- and in the same order
pub coordinate-le : (w a b : ℕ) → int_le (coordinate w a) (coordinate w b) ≡ nat_le a b
coordinate-le w a b = by_test (nat_le a b) refl
  where
    by_test : (t : Bool) → nat_le a b ≡ t → int_le (coordinate w a) (coordinate w b) ≡ t
    by_test true e = rising_coordinate w a b (leb-true a b e)
    by_test false e = let l : b < a = leb-false a b e in grind (arith, ints, ltb-true, ltb-false, lt-leb)

-- the nearest number of an interval, by offsets
pub clamp-apart : (w low high n : ℕ) → low ≤ high → nat_abs (clamp (coordinate w low) (coordinate w high) (coordinate w n) -ℤ coordinate w n) ≡ (low - n) + (n - high)
clamp-apart w low high n h =
    ap (λ t. nat_abs ((if t then coordinate w low else
    (if int_le (coordinate w high) (coordinate w n) then coordinate w high else coordinate w n)) -ℤ coordinate w
    n)) (coordinate-le w n low)
    ∙ ap (λ t. nat_abs ((if nat_le n low then coordinate w low else (if t then coordinate w high else coordinate w n)) -ℤ coordinate w n)) (coordinate-le w high n)
    ∙ by_tests (nat_le n low) (nat_le high n) refl refl
  where
    by_tests : (s t : Bool) → nat_le n low ≡ s → nat_le high n ≡ t →
        nat_abs ((if s then coordinate w low else (if t then coordinate w high else coordinate w n)) -ℤ coordinate w
        n) ≡ (low - n) + (n - high)
    by_tests true t e f = coordinate-apart w low n ∙ (let l : n ≤ low = leb-true n low e in omega (arith, l, h))
    by_tests false true e f = coordinate-apart w high n ∙ (let l : low < n = leb-false n low e in let m : high ≤ n = leb-true high n f in omega (arith, l, m))
    by_tests false false e f = coordinate-apart w n n ∙ (let l : low < n = leb-false n low e in let m : n < high = leb-false high n f in omega (arith, l, m))

-- the gap of one dimension
pub clamp-gap : (w l : ℕ) (c x : ℤ) → fits w x ≡ true → nat_abs (clamp (low_end w l c) (high_end w l c) x -ℤ x) ≡ gap l (offset w c) (offset w x)
clamp-gap w l c x f =
    subst (λ y. nat_abs (clamp (low_end w l c) (high_end w l c) y -ℤ y) ≡ gap l (offset w c) (offset w x)) (coordinate-offset w x f)
    (clamp-apart w (prefix w l c * 2 ^ (l + 1)) (prefix w l c * 2 ^ (l + 1) + (2 ^ (l + 1) - 1)) (offset w x) (omega arith))

pub square-gap : (w l : ℕ) (c x : ℤ) → fits w x ≡ true → squared_gap (clamp (low_end w l c) (high_end w l c) x) x ≡
    gap l (offset w c) (offset w x) * gap l (offset w c) (offset w x)
square-gap w l c x f = ap (λ n. n * n) (clamp-gap w l c x f)
