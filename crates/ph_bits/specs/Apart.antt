-- How far lists of numbers lie from one another.
use Rattle.std.specs.Prelude.{◌≡◌, ℕ, ◌+◌, ◌-◌, ◌*◌, ◌^◌, ◌<◌, ◌≤◌, List, ◌∷◌, Option, Some, None}
use Rattle.std.specs.Int.{abs_diff}

-- the sum of the squares of the differences of numbers
abbrev pub squares_apart : List ℕ → List ℕ → ℕ
squares_apart (a ∷ p) (b ∷ q) = abs_diff a b * abs_diff a b + squares_apart p q
squares_apart _ _ = 0

-- a distance that is at most a limit, or none
abbrev pub IsDistanceWithin : ℕ → List ℕ → List ℕ → Option ℕ → Type 0
IsDistanceWithin limit p q None = limit < squares_apart p q
IsDistanceWithin limit p q (Some n) = (n ≡ squares_apart p q) × (n ≤ limit)

-- the square of the greatest number of 62 binary digits
abbrev pub greatest_square : ℕ
greatest_square = (2 ^ 62 - 1) * (2 ^ 62 - 1)
