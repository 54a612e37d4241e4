-- A tree of many rows at once.
use Rattle.std.specs.Prelude.{◌≡◌, ◌↔◌, ◌*◌, ◌<◌, ◌≤◌, ℕ, List, [], ◌∷◌, ℤ, length, take, drop, IsTrue}
use Rattle.std.specs.List.{list_all}
use Rattle.ph_specs.specs.Coordinate.{fits}
use Rattle.ph_specs.specs.Sets.{table_of}
use Rattle.ph_specs.specs.Table.{Row, row}
use Rattle.ph_c.specs.Trees.{AnyTable, table_at}
use Rattle.ph_c.specs.Opens.{AreDimensions, IsWidth}
use Rattle.ph_c.specs.Answers.{IsOneOf}
use Rattle.ph_c.specs.Answers as code

-- the rows of points, whose coordinates stand one behind the other, and of values
abbrev pub rows_of : ℕ → List ℤ → List ℕ → List Row
rows_of dims points [] = []
rows_of dims points (v ∷ values) = row (take dims points) v ∷ rows_of dims (drop dims points) values

-- what is passed for rows: two arrays, for a tree of these sizes
pub record Rows : Type 0 where
  pub dims : ℕ
  pub width : ℕ
  pub most : ℕ
  pub points : List ℤ
  pub values : List ℕ

abbrev pub rows_for : ℕ → ℕ → ℕ → List ℤ → List ℕ → Rows
rows_for dims width most points values = record { dims = dims; width = width; most = most; points = points; values = values }

abbrev pub AreSizes : Rows → Type 0
AreSizes r = AreDimensions r.dims × IsWidth r.width

-- there are so many coordinates for each value
abbrev pub ArePaired : Rows → Type 0
ArePaired r = length r.points ≡ length r.values * r.dims

-- each number is a coordinate
abbrev pub AreCoordinates : Rows → Type 0
AreCoordinates r = IsTrue (list_all (fits r.width) r.points)

-- the table of the rows: of those at one point the last stays
abbrev pub built_table : Rows → List Row
built_table r = table_of r.width (rows_of r.dims r.points r.values)

-- the tree of the rows
pub record IsBuilt (r : Rows) (made : AnyTable) : Type 0 where
  pub sizes : AreSizes r
  pub paired : ArePaired r
  pub coordinates : AreCoordinates r
  pub fits : length (built_table r) ≤ r.most
  pub is : made ≡ table_at r.dims (record { table = built_table r; width = r.width; max = r.most })

-- why there is none
pub record NotBuilt (r : Rows) (answer : ℕ) : Type 0 where
  pub known : IsOneOf (code.no_dimensions ∷ code.no_width ∷ code.unlike ∷ code.no_point ∷ code.full ∷ code.no_memory ∷ []) answer
  pub no_dimensions : (answer ≡ code.no_dimensions) ↔ (AreDimensions r.dims → ⊥)
  pub no_width : (answer ≡ code.no_width) ↔ (AreDimensions r.dims × (IsWidth r.width → ⊥))
  pub unlike : (answer ≡ code.unlike) ↔ (AreSizes r × (ArePaired r → ⊥))
  pub no_point : (answer ≡ code.no_point) ↔ (AreSizes r × ArePaired r × (AreCoordinates r → ⊥))
  pub full : answer ≡ code.full → AreSizes r × ArePaired r × AreCoordinates r × (r.most < length (built_table r))
  pub no_memory : answer ≡ code.no_memory → AreSizes r × ArePaired r × AreCoordinates r
