-- A node on the way of a walk over a window, behind digits that are known above it.
use Rattle.std.specs.Prelude.{ℕ, Bool, List, map, ℤ}
use Rattle.ph_specs.specs.Coordinate.{coordinate}
use Rattle.ph_specs.specs.TreeRows.{put_together}
use Rattle.ph_specs.specs.Region.{Region}
use Rattle.ph_model.specs.Masks.{masks, fits_some}

-- the region of a node at a level, behind digits that are known above it
abbrev pub node_region : ℕ → ℕ → List ℕ → Region
node_region width level above = record { corner = map (coordinate width) above; level = level }

-- whether an address fits the masks of the node
abbrev pub is_open : ℕ → List ℤ → List ℤ → ℕ → List ℕ → ℕ → Bool
is_open width lo hi level above a = fits_some (masks width (node_region width level above) lo hi) a

-- the point of an entry
abbrev pub point_of : ℕ → ℕ → ℕ → List ℕ → List ℕ → List ℤ
point_of width level a above body = map (coordinate width) (put_together level a above body)
