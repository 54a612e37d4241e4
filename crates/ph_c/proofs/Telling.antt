-- Hits that are written into arrays one by one.
use Rattle.std.proofs.Common.{◌≡◌, ℕ, suc, ◌+◌, ◌*◌, ◌<◌, List, [], ◌∷◌, ◌++◌, length, get_or, take, drop, refl, sym, ap, ◌∙◌, add-one, arith, length-append}
use Rattle.std.specs.Prelude.{ℤ}
use Rattle.std.proofs.Math.Seq.{take-suc}
use Rattle.std.proofs.lemmas.Grind.{common_steps, flat_map-append}
use Rattle.std.proofs.lemmas.List.{map-append}
use Rattle.ph_table.specs.Hits.{TableHit}
use Rattle.ph_c.specs.Pages.{overlaid}
use Rattle.ph_c.specs.Nears.{hit_points, hit_values, hit_distances, halves}
use Rattle.ph_c.proofs.Filling.{laid-more}

-- the first i hits stand in the arrays
pub record Telling (dims : ℕ) (hits : List TableHit) (values₀ : List ℕ) (points₀ : List ℤ) (distances₀ : List ℕ) (i : ℕ)
    (values : List ℕ) (points : List ℤ) (distances : List ℕ) : Type 0 where
  pub values_sized : length (hit_values (take i hits)) ≡ i
  pub points_sized : length (hit_points (take i hits)) ≡ i * dims
  pub distances_sized : length (hit_distances (take i hits)) ≡ i * 2
  pub values_are : values ≡ overlaid (hit_values (take i hits)) values₀
  pub points_are : points ≡ overlaid (hit_points (take i hits)) points₀
  pub distances_are : distances ≡ overlaid (hit_distances (take i hits)) distances₀

points-more : (hits : List TableHit) (h : TableHit) → hit_points (hits ++ (h ∷ [])) ≡ hit_points hits ++ h.row.point
points-more hits h = grind (arith, common_steps, flat_map-append)

values-more : (hits : List TableHit) (h : TableHit) → hit_values (hits ++ (h ∷ [])) ≡ hit_values hits ++ (h.row.value ∷ [])
values-more hits h = map-append (λ (x : TableHit). x.row.value) hits (h ∷ [])

distances-more : (hits : List TableHit) (h : TableHit) → hit_distances (hits ++ (h ∷ [])) ≡ hit_distances hits ++ halves h.distance
distances-more hits h = grind (arith, common_steps, flat_map-append)

pub telling-more : (dims : ℕ) (hits : List TableHit) (values₀ : List ℕ) (points₀ : List ℤ) (distances₀ : List ℕ) (i : ℕ)
    (values : List ℕ) (points : List ℤ) (distances : List ℕ) (h : TableHit)
    → Telling dims hits values₀ points₀ distances₀ i values points distances → h ≡ get_or hits i h → i < length hits → length h.row.point ≡ dims
    → Telling dims hits values₀ points₀ distances₀ (i + 1) (take i values ++ (h.row.value ∷ []) ++ drop (i + 1) values)
    (take (i * dims) points ++ h.row.point ++ drop (i * dims + dims) points)
    (take (i * 2) distances ++ halves h.distance ++ drop (i * 2 + 2) distances)
telling-more dims hits values₀ points₀ distances₀ i values points distances h f is within size =
    let next : take (suc i) hits ≡ take i hits ++ (get_or hits i h ∷ []) = take-suc hits i h within in
    let more : take (i + 1) hits ≡ take i hits ++ (h ∷ []) = rw (add-one i) (next ∙ ap (λ (x : TableHit). take i hits ++ (x ∷ [])) (sym is)) in
    record {
      values_sized = rw (more, values-more (take i hits) h, length-append (hit_values (take i hits)) (h.row.value ∷ []), f.values_sized) refl;
      points_sized = rw (more, points-more (take i hits) h, length-append (hit_points (take i hits)) h.row.point, f.points_sized, size) (omega arith);
      distances_sized = rw (more, distances-more (take i hits) h, length-append (hit_distances (take i hits)) (halves h.distance), f.distances_sized) (omega arith);
      values_are = rw (more, values-more (take i hits) h) (laid-more (hit_values (take i hits)) (h.row.value ∷ []) values₀ values i 1 f.values_are f.values_sized refl);
      points_are = rw (more, points-more (take i hits) h) (laid-more (hit_points (take i hits)) h.row.point points₀ points (i * dims) dims f.points_are f.points_sized size);
      distances_are = rw (more, distances-more (take i hits) h) (laid-more (hit_distances (take i hits)) (halves h.distance) distances₀ distances (i * 2) 2 f.distances_are f.distances_sized refl);
    }
