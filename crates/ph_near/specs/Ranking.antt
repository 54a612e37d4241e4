-- The best rows that were found.
use Rattle.std.specs.Prelude.{◌≡◌, ℕ, ◌^◌, ◌<◌, ◌≤◌, ◌⊎◌, List, [], ◌∷◌, ◌++◌, length, map}
use Rattle.std.specs.BinaryHeap.{heap_items, IsHeap, IsUpperBound, lt_by_cmp}
use Rattle.std.specs.List.{AllByRecursion as Each}
use Rattle.std.specs.List.Sorted.{IsPermutation, IsSortedBy}
use Rattle.ph_specs.specs.Coordinate.{coordinate}
use Rattle.ph_specs.proofs.lemmas.Members.{In}
use Rattle.ph_table.specs.Hits.{TableHit, hit}
use Rattle.ph_near.specs.declared.found.Found.{Found}
use Rattle.ph_near.specs.declared.ranking.Ranking.{Ranking}
use Rattle.ph_near.specs.Found.{found_cmp}

-- at most n rows, the last one on top
pub record IsRanked {d : ℕ} (r : Ranking d) : Type 0 where
  pub some : 1 ≤ r.n
  pub order : IsHeap found_cmp (heap_items r.rows)
  pub few : length (heap_items r.rows) ≤ r.n

-- n rows are nearer than t
pub record IsBeyond {d : ℕ} (n : ℕ) (rows : List (Found d)) (t : ℕ) : Type 0 where
  pub full : n ≤ length rows
  pub nearer : Each (λ f. f.distance < t) rows

-- fewer than n of the rows are nearer than t
abbrev pub IsWanted : {d : ℕ} → ℕ → List (Found d) → ℕ → Type 0
IsWanted {d} n rows t = (length rows < n) ⊎ ((f : Found d) × In f rows × (t ≤ f.distance))

-- what is farther is none of the n nearest
pub record IsLimit {d : ℕ} (n : ℕ) (rows : List (Found d)) (limit : ℕ) : Type 0 where
  pub beyond : (t : ℕ) → limit < t → t < 2 ^ 128 → IsBeyond n rows t
  pub wanted : (t : ℕ) → t ≤ limit → IsWanted n rows t

pub record IsRanking {d : ℕ} (r : Ranking d) : Type 0 where
  pub ranked : IsRanked r
  pub open ranked use *
  pub limit : IsLimit r.n (heap_items r.rows) r.limit

-- a row comes to others, of which the first n stay
pub record IsAdded {d : ℕ} (n : ℕ) (x : Found d) (old new : List (Found d)) : Type 0 where
  pub out : List (Found d)
  pub moved : IsPermutation (x ∷ old) (new ++ out)
  -- what goes out comes before none that stays
  pub last : Each (λ y. IsUpperBound found_cmp y new) out
  pub full : (out ≡ []) ⊎ (n ≤ length new)
  pub few : length new ≤ n
  pub grows : length old ≤ length new
  -- what n rows came before still comes behind n rows
  pub still_last : (y : Found d) → n ≤ length old → IsUpperBound found_cmp y old → IsUpperBound found_cmp y new
  pub still_beyond : (t : ℕ) → IsBeyond n old t → IsBeyond n new t

abbrev pub hit_of : {d : ℕ} → ℕ → Found d → TableHit
hit_of w f = hit (map (coordinate w) f.known) f.value f.distance

-- the rows in their order
pub record IsListed {d : ℕ} (w : ℕ) (rows : List (Found d)) (hits : List TableHit) : Type 0 where
  pub sorted : List (Found d)
  pub moved : IsPermutation rows sorted
  pub order : IsSortedBy (lt_by_cmp found_cmp) sorted
  pub listed : hits ≡ map (hit_of w) sorted
