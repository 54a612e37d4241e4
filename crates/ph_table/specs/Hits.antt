-- Rows with their distances from a point.
use Rattle.std.specs.Prelude.{ℕ, ◌<◌, ◌≤◌, List, length, map, take, slice_get, IfSome, ℤ}
use Rattle.std.specs.List.{AllByRecursion}
use Rattle.ph_specs.specs.Table.{Row, row}
use Rattle.ph_specs.specs.Distance.{distance}

pub record TableHit : Type 0 where
  pub row : Row
  pub distance : ℕ

abbrev pub hit : List ℤ → ℕ → ℕ → TableHit
hit p v d = record { row = row p v; distance = d }

-- the rows, each with its distance from q
abbrev pub hits_of : List ℤ → List Row → List TableHit
hits_of q rows = map (λ r. record { row = r; distance = distance r.point q }) rows

-- the hits in front of a place are no farther than a distance, and the one at it is farther
pub record IsPlaceFor (hits : List TableHit) (distance place : ℕ) : Type 0 where
  pub within : place ≤ length hits
  pub nearer : AllByRecursion (λ h. h.distance ≤ distance) (take place hits)
  pub farther : IfSome (slice_get hits place) (λ h. distance < h.distance)
