-- The rows nearest to a point in arrays of a caller.
use Rattle.std.specs.Prelude.{◌≡◌, ◌≢◌, ◌↔◌, ◌*◌, ◌/◌, ◌%◌, ◌^◌, ◌<◌, ◌≤◌, ℕ, suc, List, [], ◌∷◌, ℤ, length, map}
use Rattle.std.specs.List.{flat_map}
use Rattle.ph_specs.specs.Distance.{near}
use Rattle.ph_table.specs.Hits.{TableHit, hits_of}
use Rattle.ph_c.specs.Trees.{AnyTable}
use Rattle.ph_c.specs.Edits.{IsPointIn}
use Rattle.ph_c.specs.Pages.{overlaid}
use Rattle.ph_c.specs.Answers.{IsOneOf}
use Rattle.ph_c.specs.Answers as code

-- the low and the high half of a number
abbrev pub halves : ℕ → List ℕ
halves n = (n % 2 ^ 64) ∷ (n / 2 ^ 64) ∷ []

abbrev pub hit_points : List TableHit → List ℤ
hit_points hits = flat_map (λ h. h.row.point) hits

abbrev pub hit_values : List TableHit → List ℕ
hit_values hits = map (λ h. h.row.value) hits

abbrev pub hit_distances : List TableHit → List ℕ
hit_distances hits = flat_map (λ h. halves h.distance) hits

-- so many hits fit into arrays of so many numbers
abbrev pub FitHits : ℕ → ℕ → ℕ → ℕ → ℕ → Type 0
FitHits dims points values distances n = (n ≤ values) × (n * dims ≤ points) × (n * 2 ≤ distances) × (n < 2 ^ 32)

-- the most hits that fit
pub record IsHitRoom (dims points values distances room : ℕ) : Type 0 where
  pub fits : FitHits dims points values distances room
  pub most : FitHits dims points values distances (suc room) → ⊥

-- what is lent for hits: three arrays, and the number that tells how many are in them
pub record LentHits : Type 0 where
  pub points : List ℤ
  pub values : List ℕ
  pub distances : List ℕ
  pub count : ℕ

abbrev pub lent_hits : List ℤ → List ℕ → List ℕ → ℕ → LentHits
lent_hits points values distances count = record { points = points; values = values; distances = distances; count = count }

-- the hits stand in what was lent
pub record AreTold (hits : List TableHit) (before after : LentHits) : Type 0 where
  pub points : after.points ≡ overlaid (hit_points hits) before.points
  pub values : after.values ≡ overlaid (hit_values hits) before.values
  pub distances : after.distances ≡ overlaid (hit_distances hits) before.distances
  pub count : after.count ≡ length hits

-- as many of the nearest rows as there is room for
pub record AreNearest (t : AnyTable) (q : List ℤ) (before after : LentHits) : Type 0 where
  pub room : ℕ
  pub fits : IsHitRoom t.dims (length before.points) (length before.values) (length before.distances) room
  pub told : AreTold (hits_of q (near q room t.tree.table)) before after

-- there is a row, and room for one
abbrev pub WantsMemory : AnyTable → LentHits → Type 0
WantsMemory t lent = (t.tree.table ≢ []) × FitHits t.dims (length lent.points) (length lent.values) (length lent.distances) 1

-- A question for the rows nearest to numbers.
pub record IsNear (t : AnyTable) (q : List ℤ) (before after : LentHits) (answer : ℕ) : Type 0 where
  pub known : IsOneOf (code.done ∷ code.no_point ∷ code.no_memory ∷ []) answer
  pub no_point : (answer ≡ code.no_point) ↔ (IsPointIn t q → ⊥)
  pub no_memory : answer ≡ code.no_memory → IsPointIn t q × WantsMemory t before
  pub listed : answer ≡ code.done → AreNearest t q before after
  pub kept : answer ≢ code.done → after ≡ before
