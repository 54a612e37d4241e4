-- A window before its first step.
use Rattle.std.proofs.Common.{◌≡◌, ℕ, ◌-◌, ◌≤◌, List, [], length, take, map, replicate, refl, sym, ◌∙◌, ap, subst, arith, Bool, true, false}
use Rattle.std.specs.Prelude.{ℤ, Option, Some, None, is_some, if◌then◌else◌}
use Rattle.ph_specs.specs.Coordinate.{offset, IsPoint}
use Rattle.ph_specs.specs.TreeRows.{rows}
use Rattle.ph_model.specs.Lawful.{IsLawful}
use Rattle.ph_model.specs.Masks.{masks, mask}
use Rattle.ph_specs.specs.Node.{PlainNode}
use Rattle.ph_model.specs.PutTree.{body_above}
use Rattle.ph_specs.specs.Region.{meets_window}
use Rattle.ph_specs.specs.Shape.{shape}
use Rattle.ph_specs.specs.Table.{Row, IsTable}
use Rattle.ph_specs.specs.Window.{window, rest}
use Rattle.ph_model.specs.AllPoints.{lowest, highest}
use Rattle.ph_model.specs.WindowWalk.{node_region}
use Rattle.ph_specs.specs.WorkSets.{placed, meets, all_nodes}
use Rattle.ph_model.proofs.laws.AllPoints.{whole-table, whole-nodes}
use Rattle.ph_model.proofs.laws.TableShape.{table-shape}
use Rattle.ph_model.proofs.lemmas.Joined.{offsets}
use Rattle.ph_model.proofs.lemmas.PointDigits.{point-whole}
use Rattle.ph_zorder.proofs.Decided.{is_body-point}
use Rattle.ph_path.specs.Known.{AreSized}
use Rattle.ph_path.proofs.Knowns.{above-top, offsets-point, zeros-body}
use Rattle.ph_path.proofs.Roots.{shape-lawful, same-point}
use Rattle.ph_walk.specs.Area.{IsArea, kept, touched}
use Rattle.ph_walk.proofs.Below.{none-in-tree}
use Rattle.ph_window.specs.Corners.{Corners, AreCorners, corners_at, window_of, points_of}
use Rattle.ph_window.specs.Window.{behind}
use Rattle.ph_window.proofs.Areas.{window-exact}

-- the corners as the code makes them
pub made-corners : (d w : ℕ) (lo hi : List ℤ) (low high : List ℕ) → IsPoint w d lo → IsPoint w d hi →
    take (length lo) low ≡ map (offset w) lo → take (length hi) high ≡ map (offset w) hi →
    corners_at w (take d low) (take d high) ≡ corners_at w (offsets w lo) (offsets w hi)
made-corners d w lo hi low high p q e g =
    λ i. corners_at w (offsets-point w d lo low p e i) (offsets-point w d hi high q g i)

pub start-corners : (d w : ℕ) (lo hi : List ℤ) → d ≤ 16 → 1 ≤ w → w ≤ 62 → IsPoint w d lo → IsPoint w d hi → AreCorners d (corners_at w (offsets w lo) (offsets w hi))
start-corners d w lo hi f l u p q = record { size = record { few = f; wide = l; narrow = u }; starts = is_body-point w d lo l p; ends = is_body-point w d hi l q }

-- the points between them
module _ (d w : ℕ) (lo hi : List ℤ) {c : Corners} (p : IsPoint w d lo) (q : IsPoint w d hi) (made : c ≡ corners_at w (offsets w lo) (offsets w hi)) where
  corner-points : points_of c ≡ window_of w lo hi
  corner-points =
      ap points_of made ∙ (λ i. window_of w ((point-whole w d lo p).back i) ((point-whole w d hi q).back i))

  corner-exact : IsArea d (points_of c)
  corner-exact = subst (IsArea d) (sym corner-points) (window-exact d w lo hi p q)

-- where the corners are given at another spelling of the width and as other lists
pub area-exact : (d : ℕ) {w u : ℕ} {lo hi p q : List ℤ} {c : Corners} → w ≡ u → p ≡ lo → q ≡ hi → IsPoint u d lo → IsPoint u d hi →
    c ≡ corners_at w (offsets w p) (offsets w q) → IsArea d (points_of c)
area-exact d {w} {u} {lo} {hi} {p} {q} same low high starts ends made =
    corner-exact d w p q (same-point w u d p lo same low starts) (same-point w u d q hi same high ends) made

-- whether there are any, by the masks of the root
some-met : (t : Bool) (m : ℕ × ℕ) → is_some (if t then Some m else None) ≡ t
some-met true m = refl
some-met false m = refl

pub met-root : (d w : ℕ) (lo hi : List ℤ) {b : ℕ} {ks : List ℕ} {m : Option (ℕ × ℕ)} → 1 ≤ w → b ≡ w →
    ks ≡ replicate d 0 → m ≡ masks w (node_region w (b - 1) (body_above (b - 1) ks)) lo hi →
    is_some m ≡ meets_window w (node_region w (w - 1) (replicate d 0)) lo hi
met-root d w lo hi l same none is =
    ap is_some (is ∙ (λ i. masks w (node_region w (same i - 1) (body_above (same i - 1) (none i))) lo hi))
    ∙ ap (λ t. is_some (masks w (node_region w (w - 1) t) lo hi)) (above-top d (w - 1) w (replicate d 0) (omega (arith, l)) (zeros-body d w))
    ∙ some-met (meets_window w (node_region w (w - 1) (replicate d 0)) lo hi)
    (mask w (node_region w (w - 1) (replicate d 0)) lo, mask w (node_region w (w - 1) (replicate d 0)) hi)

-- ---- of a tree

-- a tree and two corners as the code has them: the width that it read, the root, and the corners as lists and as offsets
pub record HasWindow (d w u : ℕ) (o : Option PlainNode) (table : List Row) (lo hi p q : List ℤ) (c : Corners) : Type 0 where
  pub some : 1 ≤ d
  pub size : AreSized d w
  pub open size use *
  pub same : w ≡ u
  pub sound : IsTable u d table
  pub root : o ≡ shape u table
  pub low : p ≡ lo
  pub high : q ≡ hi
  pub starts : IsPoint u d lo
  pub ends : IsPoint u d hi
  pub made : c ≡ corners_at w (offsets w p) (offsets w q)

pub has-window : {d w u b : ℕ} {o : Option PlainNode} {table : List Row} {lo hi p q : List ℤ} {c : Corners} → 1 ≤ d → d ≤ 16 → w ≡ u →
    b ≡ w → 1 ≤ b → b ≤ 62 → IsTable u d table → o ≡ shape u table → p ≡ lo → q ≡ hi → IsPoint u d lo → IsPoint u d hi →
    c ≡ corners_at w (offsets w p) (offsets w q) → HasWindow d w u o table lo hi p q c
has-window some few same bits least most sound root low high starts ends made = record {
  some = some;
  size = record { few = few; wide = omega (arith, bits, least); narrow = omega (arith, bits, most) };
  same = same;
  sound = sound;
  root = root;
  low = low;
  high = high;
  starts = starts;
  ends = ends;
  made = made;
}

module _ {d w u : ℕ} {o : Option PlainNode} {table : List Row} {lo hi p q : List ℤ} {c : Corners} (k : HasWindow d w u o table lo hi p q c) where
  pub low-point : IsPoint w d p
  low-point = same-point w u d p lo k.same k.low k.starts

  pub high-point : IsPoint w d q
  high-point = same-point w u d q hi k.same k.high k.ends

  points : points_of c ≡ window_of w p q
  points = corner-points d w p q low-point high-point k.made

  pub exact : IsArea d (points_of c)
  exact = area-exact d k.same k.low k.high k.starts k.ends k.made

  pub lawful-root : IsLawful w d o
  lawful-root = shape-lawful d w u o table k.wide k.same k.sound k.root

  table-is : rows u d (shape u table) ≡ table
  table-is = (table-shape u d table (omega (arith, k.wide, k.same)) k.sound).1

  pub table-rows : kept (points_of c) (rows w d o) ≡ window lo hi table
  table-rows =
      ap (λ t. kept t (rows w d o)) points ∙ (λ i. window (k.low i) (k.high i) (rows (k.same i) d (k.root i)))
      ∙ ap (window lo hi) table-is

  pub table-nodes : length (touched (points_of c) (placed w d o)) ≡ length (meets u d table lo hi)
  table-nodes =
      ap (λ t. length (touched t (placed w d o))) points ∙
      (λ i. length (touched (window_of (k.same i) (k.low i) (k.high i)) (placed (k.same i) d (k.root i))))

  -- what is left behind a point
  pub table-rest : (last r : List ℤ) → r ≡ last → rest w (behind p q r) (rows w d o) ≡ rest u (behind lo hi last) table
  table-rest last r e =
      (λ i. rest (k.same i) (behind (k.low i) (k.high i) (e i)) (rows (k.same i) d (k.root i))) ∙ ap (rest u (behind lo hi last)) table-is

  -- where no point lies between the corners there is nothing
  module _ (out : (points_of c).touches (node_region (points_of c).width ((points_of c).width - 1) (replicate d 0)) ≡ false) where
    nothing : (kept (points_of c) (rows w d o) ≡ []) × (length (touched (points_of c) (placed w d o)) ≡ 0)
    nothing =
        let n = none-in-tree d (window_of w p q) (window-exact d w p q low-point high-point) k.wide o lawful-root
        (subst (λ t. t.touches (node_region t.width (t.width - 1) (replicate d 0)) ≡ false) points out) in
        (ap (λ t. kept t (rows w d o)) points ∙ n.0, ap (λ t. length (touched t (placed w d o))) points ∙ n.1)

    pub empty-rows : [] ≡ window lo hi table
    empty-rows = sym nothing.0 ∙ table-rows

    pub empty-nodes : 0 ≡ length (meets u d table lo hi)
    empty-nodes = sym nothing.1 ∙ table-nodes

-- ---- from the least corner to the greatest

module _ (d : ℕ) (table : List Row) {w u : ℕ} {lo hi : List ℤ} (low : lo ≡ lowest w d) (high : hi ≡ highest w d) (same : w ≡ u)
    (h : IsTable u d table) where
  least : lo ≡ lowest u d
  least = low ∙ ap (λ x. lowest x d) same

  greatest : hi ≡ highest u d
  greatest = high ∙ ap (λ x. highest x d) same

  pub whole-rows : window lo hi table ≡ table
  whole-rows = (λ i. window (least i) (greatest i) table) ∙ whole-table u d table h

  pub whole-visits : 1 ≤ w → length (meets u d table lo hi) ≡ length (all_nodes u d table)
  whole-visits l =
      (λ i. length (meets u d table (least i) (greatest i))) ∙ ap (λ xs. length xs) (whole-nodes u d table (omega (arith, l, same)) h)
