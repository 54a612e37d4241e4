-- No point of a region is nearer than the region's least distance, and a region inside another is no nearer.
use Rattle.std.proofs.Common.{◌≡◌, ℕ, ◌+◌, ◌≤◌, arith, ap, sym, ◌∙◌, true, List, [], ◌∷◌, length, map, get_or, drop}
use Rattle.std.specs.Prelude.{ℤ, ◌==◌}
use Rattle.std.specs.List.{AllByRecursion as Each, list_all}
use Rattle.std.proofs.lemmas.Bool.{and_parts}
use Rattle.ph_specs.specs.Coordinate.{coordinate, fits, is_point}
use Rattle.ph_specs.specs.Table.{Row}
use Rattle.ph_specs.specs.Node.{Entries}
use Rattle.ph_specs.specs.TreeRows.{rows_behind}
use Rattle.ph_model.specs.Lawful.{IsLawfulFrom, IsAbove}
use Rattle.ph_specs.specs.Distance.{distance, squared_gap}
use Rattle.ph_specs.specs.Region.{Region, prefix, is_in, clamp, least_distance}
use Rattle.ph_model.proofs.lemmas.Joined.{offsets, from_place, offsets-coordinate, same_from}
use Rattle.ph_model.proofs.lemmas.RowsBehind.{IsUnder, rows-under}
use Rattle.ph_model.proofs.lemmas.Gaps.{low_end, high_end, above-low_end, below-high_end, squared_gap-clamp}
use Rattle.ph_model.proofs.laws.Paths.{in-same}

-- the least distance of the region of a corner, at a level
abbrev pub bound : ℕ → ℕ → List ℤ → List ℤ → ℕ
bound w l cs q = least_distance w (record { corner = cs; level = l }) q

pub bound-point : (w l : ℕ) (cs p q : List ℤ) → list_all (fits w) p ≡ true →
    from_place (l + 1) (offsets w cs) ≡ from_place (l + 1) (offsets w p) → bound w l cs q ≤ distance p q
bound-point w l [] p q f e = omega arith
bound-point w l (c ∷ cs) [] q f e = cc
bound-point w l (c ∷ cs) (d ∷ p) [] f e = omega arith
bound-point w l (c ∷ cs) (d ∷ p) (x ∷ q) f e =
    let here : prefix w l c ≡ prefix w l d = ap (λ r. get_or r 0 0) e in
    let g = and_parts (fits w d) (list_all (fits w) p) f in
    let one : squared_gap (clamp (low_end w l c) (high_end w l c) x) x ≤ squared_gap d x =
    squared_gap-clamp (low_end w l c) (high_end w l c) d x (above-low_end w l c d g.0 here)
    (below-high_end w l c d g.0 here) in
    omega (arith, one, bound-point w l cs p q g.1 (ap (drop 1) e))

-- a point of the region is no nearer to q than the region
pub least_distance-point : (w dims : ℕ) (r : Region) (p q : List ℤ) → is_point w dims p ≡ true → is_in w r p ≡ true → least_distance w r q ≤ distance p q
least_distance-point w dims r p q f h =
    bound-point w r.level r.corner p q (and_parts (length p == dims) (list_all (fits w) p) f).1 (in-same w r.level r.corner p h)

-- ---- below a node

-- no row below a node is nearer than its region: a node at a level, whose region is of a level that is no lower
pub rows-bound : (w dims b least m : ℕ) (above : List ℕ) (e : Entries) (q : List ℤ) → b ≤ m → IsAbove dims b above →
    IsLawfulFrom dims b least e → Each (λ s. is_point w dims s.point ≡ true) (rows_behind w b above e) →
    Each (λ s. bound w m (map (coordinate w) above) q ≤ distance s.point q) (rows_behind w b above e)
rows-bound w dims b least m above e q l h k f = each (rows_behind w b above e) f (rows-under w dims b least above e h k)
  where
    each : (rs : List Row) → Each (λ s. is_point w dims s.point ≡ true) rs → Each (IsUnder w (b + 1) above) rs →
        Each (λ s. bound w m (map (coordinate w) above) q ≤ distance s.point q) rs
    each [] u v = tt
    each (r ∷ rs) u v = (
      bound-point w m (map (coordinate w) above) r.point q
          (and_parts (length r.point == dims) (list_all (fits w) r.point) u.0).1
          (ap (from_place (m + 1)) (offsets-coordinate w above) ∙
          sym (same_from (b + 1) (m + 1) (offsets w r.point) above (omega (arith, l)) v.0)),
      each rs u.1 v.1,
    )
