-- Rows in arrays of a caller.
use Rattle.std.specs.Prelude.{◌≡◌, ◌*◌, ◌<◌, ◌≤◌, ◌⊎◌, ℕ, suc, List, ◌++◌, ℤ, length, drop, map}
use Rattle.std.specs.List.{flat_map}
use Rattle.ph_specs.specs.Table.{Row}

-- the coordinates of the first row, then those of the second, and so on
abbrev pub points_of : List Row → List ℤ
points_of rows = flat_map (λ r. r.point) rows

abbrev pub values_of : List Row → List ℕ
values_of rows = map (λ r. r.value) rows

-- an array with these numbers in front in place of as many
abbrev pub overlaid : {X : Type 0} → List X → List X → List X
overlaid front array = front ++ drop (length front) array

-- the most rows of so many dimensions that fit into arrays of so many coordinates and so many values
pub record IsRoom (dims points values room : ℕ) : Type 0 where
  pub values_fit : room ≤ values
  pub points_fit : room * dims ≤ points
  pub most : (room ≡ values) ⊎ (points < suc room * dims)
