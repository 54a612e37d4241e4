-- The points within a radius of a center.
use Rattle.std.specs.Prelude.{ℕ, ◌-◌, ◌<◌, List, ℤ, Bool, nat_le}
use Rattle.ph_model.specs.BestFirst.{item_distance}
use Rattle.ph_specs.specs.Distance.{distance}
use Rattle.ph_model.specs.Lawful.{IsBody}
use Rattle.ph_model.specs.EntryList.{What}
use Rattle.ph_specs.specs.Region.{least_distance}
use Rattle.ph_near.specs.Queue.{what_item}
use Rattle.ph_path.specs.Known.{AreSized, point_at}
use Rattle.ph_walk.specs.Area.{Area}

-- the center by offsets, and the square of the radius
pub record Sphere : Type 0 where
  pub width : ℕ
  pub center : List ℕ
  pub radius : ℕ

abbrev pub sphere_at : ℕ → List ℕ → ℕ → Sphere
sphere_at w center r = record { width = w; center = center; radius = r }

pub record IsSphere (d : ℕ) (s : Sphere) : Type 0 where
  pub size : AreSized d s.width
  pub open size use *
  pub center : IsBody d s.width s.center

-- the center as a point
abbrev pub center_of : Sphere → List ℤ
center_of s = point_at s.width s.center

-- the points within the radius of another one
abbrev pub within_of : ℕ → List ℤ → ℕ → Area
within_of w q r =
    record {
      width = w;
      belongs = λ p. nat_le (distance p q) r;
      touches = λ x. nat_le (least_distance w x q) r;
    }

abbrev pub points_of : Sphere → Area
points_of s = within_of s.width (center_of s) s.radius

-- whether the region of digits above a level has a point within the radius
abbrev pub reaches : Sphere → ℕ → List ℕ → Bool
reaches s level known =
    nat_le (least_distance s.width (record { corner = point_at s.width known; level = level }) (center_of s)) s.radius

-- an entry of a node at a level is outside of the ball, where its digits are joined
abbrev pub IsOut : Sphere → ℕ → List ℕ → What → Type 0
IsOut s level joined what = s.radius < item_distance s.width (center_of s) (what_item s.width (level - 1) joined what)
