-- The window from the least corner to the greatest: it has all rows of a table, and its walk sees all nodes of the tree.
use Rattle.std.proofs.Common.{◌≡◌, ℕ, ◌+◌, ◌-◌, ◌<◌, ◌≤◌, refl, ◌∙◌, ap, subst, arith, cond, true, List, [], ◌∷◌, ◌++◌, length, map, replicate, eqb-true, eq-eqb}
use Rattle.std.specs.Prelude.{ℤ, Option, Some, None, filter, ◌==◌}
use Rattle.std.specs.List.{list_all}
use Rattle.std.proofs.lemmas.Bool.{and_parts}
use Rattle.std.proofs.lemmas.List.{length-replicate}
use Rattle.std.proofs.lemmas.List.Elements.{filter-append}
use Rattle.ph_specs.specs.Coordinate.{at_most, coordinate, fits, greatest, is_point, least, IsPoint}
use Rattle.ph_specs.specs.TreeRows.{put_together}
use Rattle.ph_model.specs.Lawful.{IsLawful, IsLawfulFrom}
use Rattle.ph_specs.specs.Node.{Entries, end, point, child, PlainNode}
use Rattle.ph_specs.specs.Region.{meets_window}
use Rattle.ph_specs.specs.Shape.{shape}
use Rattle.ph_specs.specs.Table.{Row, IsTable, is_rising, is_value}
use Rattle.ph_specs.specs.Window.{is_between, window}
use Rattle.ph_model.specs.AllPoints.{lowest, highest}
use Rattle.ph_model.specs.WindowWalk.{node_region}
use Rattle.ph_specs.specs.WorkSets.{Placed, placed, placed_below, all_nodes, meets}
use Rattle.ph_specs.proofs.laws.Boxes.{from-least, to-greatest, least_all, greatest_all}
use Rattle.ph_model.proofs.laws.Regions.{point-meets}
use Rattle.ph_model.proofs.laws.TableShape.{table-shape}
use Rattle.ph_model.proofs.laws.WindowWalk.{At, at-child, at-corner, at-root}
use Rattle.ph_model.proofs.lemmas.Bounds.{same-in}
use Rattle.ph_specs.proofs.lemmas.Tests.{and-made}

corner-point : (w d : ℕ) (c : ℤ) → list_all (fits w) (replicate d c) ≡ true → IsPoint w d (replicate d c)
corner-point w d c h = and-made (length (replicate d c) == d) (list_all (fits w) (replicate d c)) (eq-eqb (length (replicate d c)) d (length-replicate d c)) h

pub lowest-point : (w d : ℕ) → IsPoint w d (lowest w d)
lowest-point w d = corner-point w d (least w) (least_all w d)

pub highest-point : (w d : ℕ) → IsPoint w d (highest w d)
highest-point w d = corner-point w d (greatest w) (greatest_all w d)

-- each point is between them
between-corners : (w d : ℕ) (p : List ℤ) → IsPoint w d p → is_between (lowest w d) (highest w d) p ≡ true
between-corners w d p h =
    let parts = and_parts (length p == d) (list_all (fits w) p) h in
    let long : length p ≡ d = eqb-true (length p) d parts.0 in
    and-made (at_most (lowest w d) p) (at_most p (highest w d))
    (subst (λ k. at_most (replicate k (least w)) p ≡ true) long (from-least w p parts.1))
    (subst (λ k. at_most p (replicate k (greatest w)) ≡ true) long (to-greatest w p parts.1))

-- ---- rows

all-inside : (w d : ℕ) (rows : List Row) → list_all (λ r. is_point w d r.point) rows ≡ true → window (lowest w d) (highest w d) rows ≡ rows
all-inside w d [] h = refl
all-inside w d (r ∷ rows) h =
    let parts = and_parts (is_point w d r.point) (list_all (λ s. is_point w d s.point) rows) h in
    rw (between-corners w d r.point parts.0) (ap (λ rs. r ∷ rs) (all-inside w d rows parts.1))

pub whole-table : (w d : ℕ) (table : List Row) → IsTable w d table → window (lowest w d) (highest w d) table ≡ table
whole-table w d table h =
    let tests = and_parts (is_rising w table) _ h in
    all-inside w d table (and_parts (list_all (λ r. is_point w d r.point) table) (list_all (λ r. is_value r.value) table) tests.1).0

-- ---- nodes

abbrev met : ℕ → ℕ → List Placed → List Placed
met w d xs = filter (λ x. meets_window w x.region (lowest w d) (highest w d)) xs

region-met : (w d level : ℕ) (known : List ℕ) → level < w → IsPoint w d (map (coordinate w) known) →
    meets_window w (node_region w level known) (lowest w d) (highest w d) ≡ true
region-met w d level known l h =
    let corner = map (coordinate w) known in
    point-meets w d (node_region w level known) (lowest w d) (highest w d) corner l h (lowest-point w d)
    (highest-point w d) (h, same-in w level corner corner refl, between-corners w d corner h)

met-first : (w d : ℕ) (x : Placed) (xs : List Placed) → meets_window w x.region (lowest w d) (highest w d) ≡ true → met w d xs ≡ xs → met w d (x ∷ xs) ≡ x ∷ xs
met-first w d x xs m h = ap (λ t. cond t (x ∷ met w d xs) (met w d xs)) m ∙ ap (λ ys. x ∷ ys) h

met-both : (w d : ℕ) (xs ys : List Placed) → met w d xs ≡ xs → met w d ys ≡ ys → met w d (xs ++ ys) ≡ xs ++ ys
met-both w d xs ys h k = filter-append (λ x. meets_window w x.region (lowest w d) (highest w d)) xs ys ∙ ap (λ z. z ++ met w d ys) h ∙ ap (λ z. xs ++ z) k

below-met : (w d b first : ℕ) (above : List ℕ) (e : Entries) → At w d b above (lowest w d) (highest w d) →
    IsLawfulFrom d b first e → met w d (placed_below w b above e) ≡ placed_below w b above e
below-met w d b first above end t k = refl
below-met w d b first above (point a body v rest) t k = below-met w d b (a + 1) above rest t k.3
below-met w d b first above (child a body c chain rest) t k =
    let known = put_together b a above body in
    let under : At w d c known (lowest w d) (highest w d) = at-child w d b c a above body (lowest w d) (highest w d) chain rest first t k in
    met-first w d (record { node = record { level = c; chain = chain }; region = node_region w (b - 1) known })
    (placed_below w c known chain ++ placed_below w b above rest)
    (region-met w d (b - 1) known (omega (arith, t.within)) (at-corner w d c known (lowest w d) (highest w d) under))
    (met-both w d (placed_below w c known chain) (placed_below w b above rest) (below-met w d c 0 known chain under k.6) (below-met w d b (a + 1) above rest t k.7))

placed-met : (w d : ℕ) (root : Option PlainNode) → 1 ≤ w → IsLawful w d root → met w d (placed w d root) ≡ placed w d root
placed-met w d None l k = refl
placed-met w d (Some n) l k =
    let none : List ℕ = replicate d 0 in
    let at : At w d n.level (replicate d 0) (lowest w d) (highest w d) = at-root w d n (lowest w d) (highest w d) l k.0 (lowest-point w d) (highest-point w d) in
    met-first w d (record { node = n; region = node_region w (w - 1) none }) (placed_below w n.level none n.chain)
    (region-met w d (w - 1) none (omega (arith, l)) (at-corner w d n.level none (lowest w d) (highest w d) at))
    (below-met w d n.level 0 none n.chain at k.2)

pub whole-nodes : (w d : ℕ) (table : List Row) → 1 ≤ w → IsTable w d table → meets w d table (lowest w d) (highest w d) ≡ all_nodes w d table
whole-nodes w d table l h = placed-met w d (shape w table) l (table-shape w d table l h).0
