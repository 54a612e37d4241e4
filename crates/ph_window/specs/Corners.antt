-- The points between two corners.
use Rattle.std.specs.Prelude.{◌≡◌, ℕ, List, ℤ, Some}
use Rattle.ph_model.specs.Lawful.{IsBody}
use Rattle.ph_model.specs.Masks.{masks}
use Rattle.ph_specs.specs.Region.{meets_window}
use Rattle.ph_specs.specs.Window.{is_between}
use Rattle.ph_model.specs.WindowWalk.{node_region}
use Rattle.ph_path.specs.Known.{AreSized, point_at}
use Rattle.ph_walk.specs.Area.{Area}
use Rattle.ph_walk.specs.declared.area.Masks.{Masks}

-- two corners, by offsets
pub record Corners : Type 0 where
  pub width : ℕ
  pub low : List ℕ
  pub high : List ℕ

abbrev pub corners_at : ℕ → List ℕ → List ℕ → Corners
corners_at w low high = record { width = w; low = low; high = high }

pub record AreCorners (d : ℕ) (c : Corners) : Type 0 where
  pub size : AreSized d c.width
  pub open size use *
  pub starts : IsBody d c.width c.low
  pub ends : IsBody d c.width c.high

abbrev pub window_of : ℕ → List ℤ → List ℤ → Area
window_of w lo hi = record { width = w; belongs = λ p. is_between lo hi p; touches = λ r. meets_window w r lo hi }

abbrev pub points_of : Corners → Area
points_of c = window_of c.width (point_at c.width c.low) (point_at c.width c.high)

-- the masks of the window in a node
abbrev pub HasMasks : Corners → ℕ → List ℕ → Masks → Type 0
HasMasks c level above m =
    masks c.width (node_region c.width level above) (point_at c.width c.low) (point_at c.width c.high) ≡ Some (m.lower, m.upper)
