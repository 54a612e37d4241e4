-- The parts of a region, and a point.
use Rattle.std.specs.Prelude.{ℕ, ◌≤◌}
use Rattle.ph_model.specs.Lawful.{IsBody}
use Rattle.ph_near.specs.declared.corners.Corners.{Corners}

pub record AreCorners {d : ℕ} (c : Corners d) : Type 0 where
  pub few : d ≤ 16
  pub level : c.level ≤ 61
  pub known : IsBody d 62 c.known
  pub center : IsBody d 62 c.center
