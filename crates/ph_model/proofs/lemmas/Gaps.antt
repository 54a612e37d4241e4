-- How far the nearest number of an interval is.
use Rattle.std.proofs.Common.{◌≡◌, ℕ, ◌+◌, ◌-◌, ◌*◌, ◌^◌, ◌<◌, ◌≤◌, sym, ap, subst, arith, true, ltb-true, ltb-false, le-leb, mul-le-mul_left}
use Rattle.std.specs.Prelude.{ℤ, ◌-ℤ◌, nat_abs, int_le}
use Rattle.std.proofs.Math.Nat.{div-mul-le_self, lt-div-mul-add, mul-le-mul_right}
use Rattle.std.proofs.lemmas.Nat.{pow_pos}
use Rattle.std.proofs.lemmas.Int.{ints}
use Rattle.ph_specs.specs.Coordinate.{offset, coordinate, fits}
use Rattle.ph_specs.specs.Region.{clamp, prefix}
use Rattle.ph_specs.specs.Distance.{squared_gap}
use Rattle.ph_model.proofs.laws.TableShape.{coordinate-offset}

pub rising_coordinate : (w m n : ℕ) → m ≤ n → int_le (coordinate w m) (coordinate w n) ≡ true
rising_coordinate w m n h = grind (arith, ints, ltb-true, ltb-false, le-leb)

-- the number of an interval that is nearest to x is as near as any number of it
gap-clamp : (l g d x : ℤ) → int_le l d ≡ true → int_le d g ≡ true → nat_abs (clamp l g x -ℤ x) ≤ nat_abs (d -ℤ x)
gap-clamp l g d x h k = grind (arith, ints)

squares : (a b : ℕ) → a ≤ b → a * a ≤ b * b
squares a b h = omega (arith, mul-le-mul_left a h, mul-le-mul_right b h)

pub squared_gap-clamp : (l g d x : ℤ) → int_le l d ≡ true → int_le d g ≡ true → squared_gap (clamp l g x) x ≤ squared_gap d x
squared_gap-clamp l g d x h k = squares (nat_abs (clamp l g x -ℤ x)) (nat_abs (d -ℤ x)) (gap-clamp l g d x h k)

-- ---- the interval of a prefix

abbrev pub low_end : ℕ → ℕ → ℤ → ℤ
low_end w l c = coordinate w (prefix w l c * 2 ^ (l + 1))

abbrev pub high_end : ℕ → ℕ → ℤ → ℤ
high_end w l c = coordinate w (prefix w l c * 2 ^ (l + 1) + (2 ^ (l + 1) - 1))

pub above-low_end : (w l : ℕ) (c d : ℤ) → fits w d ≡ true → prefix w l c ≡ prefix w l d → int_le (low_end w l c) d ≡ true
above-low_end w l c d f e =
    let s : prefix w l c * 2 ^ (l + 1) ≤ offset w d = subst (λ n. n * 2 ^ (l + 1) ≤ offset w d) (sym e) (div-mul-le_self (offset w d) (2 ^ (l + 1))) in
    subst (λ x. int_le (low_end w l c) x ≡ true) (coordinate-offset w d f) (rising_coordinate w (prefix w l c * 2 ^ (l + 1)) (offset w d) s)

pub below-high_end : (w l : ℕ) (c d : ℤ) → fits w d ≡ true → prefix w l c ≡ prefix w l d → int_le d (high_end w l c) ≡ true
below-high_end w l c d f e =
    let s : offset w d < prefix w l d * 2 ^ (l + 1) + 2 ^ (l + 1) = lt-div-mul-add (pow_pos (l + 1)) in
    let t : prefix w l c * 2 ^ (l + 1) ≡ prefix w l d * 2 ^ (l + 1) = ap (λ n. n * 2 ^ (l + 1)) e in
    let u : offset w d ≤ prefix w l c * 2 ^ (l + 1) + (2 ^ (l + 1) - 1) = omega (arith, s, t) in
    subst (λ x. int_le x (high_end w l c) ≡ true) (coordinate-offset w d f) (rising_coordinate w (offset w d) (prefix w l c * 2 ^ (l + 1) + (2 ^ (l + 1) - 1)) u)
