-- A ball before its first step.
use Rattle.std.proofs.Common.{◌≡◌, ℕ, ◌+◌, ◌-◌, ◌*◌, ◌≤◌, List, [], ◌∷◌, length, take, map, replicate, sym, ◌∙◌, ap, arith, true, le-leb, leb-true}
use Rattle.std.specs.Prelude.{ℤ, Option, nat_abs, ◌-ℤ◌}
use Rattle.std.proofs.lemmas.Int.{ints}
use Rattle.ph_specs.specs.Coordinate.{offset, coordinate, IsPoint}
use Rattle.ph_specs.specs.Distance.{distance, within}
use Rattle.ph_specs.specs.TreeRows.{rows}
use Rattle.ph_specs.specs.Node.{PlainNode}
use Rattle.ph_model.specs.PutTree.{body_above}
use Rattle.ph_specs.specs.Region.{Region, is_in, least_distance}
use Rattle.ph_specs.specs.Shape.{shape}
use Rattle.ph_specs.specs.Table.{Row, IsTable}
use Rattle.ph_specs.specs.WorkSets.{placed, ball}
use Rattle.ph_model.proofs.laws.TableShape.{table-shape}
use Rattle.ph_model.proofs.lemmas.Bounds.{same-in}
use Rattle.ph_model.proofs.lemmas.Joined.{offsets, from_place, offsets-coordinate}
use Rattle.ph_model.proofs.lemmas.PointDigits.{point-whole}
use Rattle.ph_model.proofs.laws.Bound.{least_distance-point}
use Rattle.ph_model.proofs.laws.RegionDistance.{least_distance-means}
use Rattle.ph_zorder.proofs.Decided.{is_body-point}
use Rattle.ph_path.proofs.Knowns.{above-from, above-top, offsets-point}
use Rattle.ph_walk.specs.Area.{IsArea, kept, touched, TouchesRoot}
use Rattle.ph_near.specs.BallSphere.{Sphere, sphere_at, IsSphere, center_of, within_of, points_of}

-- the sphere as the code makes it
pub made-sphere : (d w r : ℕ) (q : List ℤ) (center : List ℕ) → IsPoint w d q →
    take (length q) center ≡ map (offset w) q → sphere_at w (take d center) r ≡ sphere_at w (offsets w q) r
made-sphere d w r q center h f = ap (λ t. sphere_at w t r) (offsets-point w d q center h f)

pub start-sphere : (d w r : ℕ) (q : List ℤ) → d ≤ 16 → 1 ≤ w → w ≤ 62 → IsPoint w d q → IsSphere d (sphere_at w (offsets w q) r)
start-sphere d w r q f l u h = record { size = record { few = f; wide = l; narrow = u }; center = is_body-point w d q l h }

-- its center is the point
pub center-is : (d w r : ℕ) (q : List ℤ) (s : Sphere) → IsPoint w d q → s ≡ sphere_at w (offsets w q) r → center_of s ≡ q
center-is d w r q s h e = ap center_of e ∙ (point-whole w d q h).back

-- a region has a point within the radius exactly where it is no farther
pub within-exact : (d w r : ℕ) (q : List ℤ) → IsPoint w d q → IsArea d (within_of w q r)
within-exact d w r q h x l c =
    let m = least_distance-means w d x q r l c h in
    ((λ t. let f = m.0 t in (f.0, f.1, f.2, le-leb (distance f.0 q) r f.3)), (λ f. m.1 (f.0, f.1, f.2, leb-true (distance f.0 q) r f.3)))

distance-self : (q : List ℤ) → distance q q ≡ 0
distance-self [] = omega arith
distance-self (c ∷ q) =
    let z : nat_abs (c -ℤ c) ≡ 0 = grind (arith, ints) in
    let y : nat_abs (c -ℤ c) * nat_abs (c -ℤ c) ≡ 0 * 0 = ap (λ n. n * n) z in
    omega (arith, y, distance-self q)

-- the region of the root is everything, and holds the center
pub root-within : (d w r : ℕ) (q : List ℤ) → 1 ≤ w → IsPoint w d q → TouchesRoot d (within_of w q r)
root-within d w r q l h =
    let whole : Region = record { corner = map (coordinate w) (replicate d 0); level = w - 1 } in
    let top : body_above (w - 1) (offsets w q) ≡ replicate d 0 = above-top d (w - 1) w (offsets w q) (omega (arith, l)) (is_body-point w d q l h) in
    let same : from_place (w - 1 + 1) (replicate d 0) ≡ from_place (w - 1 + 1) (offsets w q) = ap (from_place (w - 1 + 1)) (sym top) ∙ above-from (w - 1) (offsets w q) in
    let in_it : is_in w whole q ≡ true = same-in w (w - 1) (map (coordinate w) (replicate d 0)) q
    (ap (from_place (w - 1 + 1)) (offsets-coordinate w (replicate d 0)) ∙ same) in
    let near : least_distance w whole q ≤ distance q q = least_distance-point w d whole q q h in_it in
    le-leb (least_distance w whole q) r (omega (arith, near, distance-self q))

-- ---- of a table

-- the points of a sphere are those within its radius
pub sphere-points : (d w r : ℕ) (q : List ℤ) (s : Sphere) → IsPoint w d q → s ≡ sphere_at w (map (offset w) q) r → points_of s ≡ within_of w q r
sphere-points d w r q s h e = ap points_of e ∙ ap (λ p. within_of w p r) (point-whole w d q h).back

module _ (d w u r : ℕ) (o : Option PlainNode) (table : List Row) (q p : List ℤ) (s : Sphere) (l : 1 ≤ w) (e : w ≡ u)
    (h : IsTable u d table) (f : o ≡ shape u table) (a : p ≡ q) (is : points_of s ≡ within_of w p r) where
  pub table-rows : kept (points_of s) (rows w d o) ≡ within q r table
  table-rows =
      ap (λ t. kept t (rows w d o)) is ∙ (λ i. within (a i) r (rows (e i) d (f i))) ∙ ap (within q r) (table-shape u d table (omega (arith, l, e)) h).1

  pub table-nodes : length (touched (points_of s) (placed w d o)) ≡ length (ball u d table q r)
  table-nodes =
      ap (λ t. length (touched t (placed w d o))) is ∙ (λ i. length (touched (within_of (e i) (a i) r) (placed (e i) d (f i))))
