-- The numbers of a row on a line.
use Rattle.std.specs.Prelude.{ℕ, List, [], ◌∷◌, ◌++◌, ℤ, flat_map, decimal}
use Rattle.std.specs.Fmt.{signed_decimal}
use Rattle.ph_specs.specs.Table.{Row}

-- a coordinate behind a space
abbrev pub spaced : ℤ → List ℕ
spaced c = 32 ∷ signed_decimal c

-- the coordinates and the value, each behind a space
abbrev pub row_numbers : Row → List ℕ
row_numbers r = flat_map spaced r.point ++ (32 ∷ decimal r.value)

-- the same and a line feed
abbrev pub numbers_line : Row → List ℕ
numbers_line r = row_numbers r ++ 10 ∷ []
