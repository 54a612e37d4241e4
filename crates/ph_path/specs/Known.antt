-- The digits that are known where a walk stands.
use Rattle.std.specs.Prelude.{ℕ, ◌≤◌, List, map, ℤ}
use Rattle.ph_specs.specs.Coordinate.{coordinate}
use Rattle.ph_model.specs.Lawful.{IsBody}

-- a point by its offsets
abbrev pub point_at : ℕ → List ℕ → List ℤ
point_at w os = map (coordinate w) os

-- offsets, of a width
pub record Known : Type 0 where
  pub width : ℕ
  pub digits : List ℕ

abbrev pub known_at : ℕ → List ℕ → Known
known_at w digits = record { width = w; digits = digits }

-- a number of dimensions and a width that there may be
pub record AreSized (d w : ℕ) : Type 0 where
  pub few : d ≤ 16
  pub wide : 1 ≤ w
  pub narrow : w ≤ 62

pub record AreKnown (d : ℕ) (k : Known) : Type 0 where
  pub some : 1 ≤ d
  pub size : AreSized d k.width
  pub open size use *
  pub digits : IsBody d k.width k.digits
