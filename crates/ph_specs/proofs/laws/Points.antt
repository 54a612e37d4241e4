-- The rows of a table stand at points.
use Rattle.std.proofs.Common.{◌≡◌, ℕ, true, List, [], ◌∷◌}
use Rattle.std.specs.List.{AllByRecursion as Each, list_all}
use Rattle.std.proofs.lemmas.Bool.{and_parts}
use Rattle.ph_specs.specs.Coordinate.{is_point}
use Rattle.ph_specs.specs.Table.{Row, is_rising, is_value, IsTable}

-- the points of the rows are points of the width
abbrev pub ArePoints : ℕ → ℕ → List Row → Type 0
ArePoints w dims rs = Each (λ s. is_point w dims s.point ≡ true) rs

pub table-points : (w dims : ℕ) (table : List Row) → IsTable w dims table → ArePoints w dims table
table-points w dims table h =
    each table (and_parts (list_all (λ t. is_point w dims t.point) table) (list_all (λ t. is_value t.value) table) (and_parts (is_rising w table) _ h).1).0
  where
    each : (xs : List Row) → list_all (λ t. is_point w dims t.point) xs ≡ true → ArePoints w dims xs
    each [] k = tt
    each (x ∷ xs) k = let c = and_parts (is_point w dims x.point) (list_all (λ t. is_point w dims t.point) xs) k in (c.0, each xs c.1)
