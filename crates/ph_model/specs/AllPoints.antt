-- The window that has every point.
use Rattle.std.specs.Prelude.{ℕ, List, ℤ, replicate}
use Rattle.ph_specs.specs.Coordinate.{least, greatest}

-- the corners of the window that has every point of a width
abbrev pub lowest : ℕ → ℕ → List ℤ
lowest width dims = replicate dims (least width)

abbrev pub highest : ℕ → ℕ → List ℤ
highest width dims = replicate dims (greatest width)
