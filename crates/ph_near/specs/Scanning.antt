-- Which entries of an opened node may be near enough.
use Rattle.std.specs.Prelude.{◌≡◌, ℕ, ◌<◌, ◌≤◌, List}
use Rattle.ph_model.specs.EntryList.{Entry}
use Rattle.ph_node.specs.Merge.{addr_at}
use Rattle.ph_node.specs.Spots.{IsSpot}
use Rattle.ph_near.specs.declared.opening.Near.{Near}

-- from one place up to another all entries are farther than a limit by what is told of their addresses
abbrev pub AreBeyond : (ℕ → ℕ) → List Entry → ℕ → ℕ → ℕ → Type 0
AreBeyond told es limit from to = (j : ℕ) → from ≤ j → j < to → limit < told (addr_at es j)

-- an entry is the first from a place on that may not be
pub record IsNear (told : ℕ → ℕ) (es : List Entry) (limit place : ℕ) (near : Near) : Type 0 where
  pub spot : IsSpot es near.spot
  pub distance : near.distance ≡ told near.spot.addr
  pub behind : place ≤ near.spot.place
  pub beyond : AreBeyond told es limit place near.spot.place
