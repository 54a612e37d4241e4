-- A point as the bodies of nodes are cut from it.
use Rattle.std.specs.Prelude.{ℕ, ◌≤◌, List, take, map, ℤ}
use Rattle.ph_specs.specs.Coordinate.{coordinate}
use Rattle.ph_node.specs.Bodies.{IsBodyArray}

-- a width, and a point of it
pub record Key : Type 0 where
  pub width : ℕ
  pub point : List ℤ

-- the point whose coordinates lie so far above the least one
abbrev pub key : ℕ → ℕ → List ℕ → Key
key dims width offsets = record { width = width; point = map (coordinate width) (take dims offsets) }

pub record IsKey (dims width : ℕ) (offsets : List ℕ) : Type 0 where
  pub some : 1 ≤ dims
  pub few : dims ≤ 16
  pub wide : 1 ≤ width
  pub narrow : width ≤ 62
  pub body : IsBodyArray dims width offsets
