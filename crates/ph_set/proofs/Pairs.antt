-- Two nodes at one level, of which some entries are left: what is listed at two of them, and how many nodes it opens there.
use Rattle.std.proofs.Common.{◌≡◌, ℕ, ◌+◌, ◌<◌, ◌≤◌, Bool, List, [], ◌++◌, length, sym, ◌∙◌, ap, subst, arith}
use Rattle.std.specs.Prelude.{not}
use Rattle.ph_model.specs.EntryEdits.{what_at}
use Rattle.ph_specs.specs.Table.{Row}
use Rattle.ph_specs.specs.Node.{PlainNode}
use Rattle.ph_model.specs.EntryList.{Entry, What, node, entries}
use Rattle.ph_specs.specs.WorkSets.{Placed}
use Rattle.ph_model.proofs.lemmas.Joined.{from_place}
use Rattle.ph_node.specs.Merge.{addr_at}
use Rattle.ph_node.specs.Places.{place_for}
use Rattle.ph_node.specs.Spots.{IsSpot, joined_digits}
use Rattle.ph_node.specs.declared.spots.Spot.{Spot}
use Rattle.ph_model.specs.Combined.{chosen, seen_nodes}
use Rattle.ph_set.specs.Meeting.{alone, kept, work, kept_by, kept_of, work_of}
use Rattle.ph_set.specs.Sides.{AreBeside, side_digits, side_node, side_entries, kept_from_by, work_from_by}
use Rattle.ph_set.specs.declared.plan.Plan.{Plan}
use Rattle.ph_set.specs.declared.side.SideOf.{SideOf}
use Rattle.ph_set.specs.Parts.{IsPart, openings, part_rows, part_nodes, rows_on, nodes_on, stretch_rows, stretch_nodes, behind}
use Rattle.ph_model.proofs.laws.Combined.{combined-split}
use Rattle.ph_set.proofs.Descending.{rising, next-behind, passed-rows, passed-first, passed-work, passed-other, both-rows, both-work, theirs-first}
use Rattle.ph_set.proofs.LeftOrRight.{passed-front}
use Rattle.ph_set.proofs.Walking.{entry_at, new-digits, new-held, IsNext, next-place}

-- two spots of nodes that are gone through side by side
pub record ArePaired (w d : ℕ) (a b : SideOf PlainNode) (i j : ℕ) (s t : Spot) : Type 0 where
  pub sides : AreBeside w d a b
  pub left-place : s.place ≡ i
  pub right-place : t.place ≡ j
  pub left : IsSpot (side_entries a) s
  pub right : IsSpot (side_entries b) t

pub paired : {w d : ℕ} {a b : SideOf PlainNode} {i j : ℕ} {s t : Spot} → AreBeside w d a b → s.place ≡ i → t.place ≡ j → IsSpot (side_entries a) s
    → IsSpot (side_entries b) t → ArePaired w d a b i j s t
paired sides left-place right-place left right =
    record { sides = sides; left-place = left-place; right-place = right-place; left = left; right = right }

-- entries of one node are passed that lie in front of an entry of the other: the one is of the left tree or of the right one
pub record IsPassed (p : Plan) (left : Bool) (d : ℕ) (a b : SideOf PlainNode) (i j q : ℕ) : Type 0 where
  pub within : q ≤ length (side_entries a)
  pub ahead : i < q
  pub rows : kept_from_by p left d a i b j ≡
      chosen (alone p left) (stretch_rows p.width (side_node a) (side_digits d a) i q) ++ kept_from_by p left d a q b j
  pub cost : seen_nodes p.width (alone p left) [] (stretch_nodes p.width (side_node a) (side_digits d a) i q) + work_from_by p left d a q b j ≡
      work_from_by p left d a i b j

module _ (p : Plan) (left : Bool) {d : ℕ} {a b : SideOf PlainNode} {i j q addr : ℕ} (sides : AreBeside p.width d a b) (li : i < length (side_entries a))
    (lj : j < length (side_entries b)) (less : addr_at (side_entries a) i < addr_at (side_entries b) j) (at : addr ≡ addr_at (side_entries b) j)
    (place : q ≡ place_for addr (side_entries a)) where
  abbrev mine : ℕ → List Row
  mine c = rows_on p.width (side_node a).level (side_digits d a) (side_entries a) c

  abbrev theirs : List Row
  theirs = rows_on p.width (side_node b).level (side_digits d b) (side_entries b) j

  next : IsNext (addr_at (side_entries b) j) q (side_entries a)
  next = subst (λ x. IsNext x q (side_entries a)) at (next-place addr q (side_entries a) place)

  ahead : i < q
  ahead =
      next-behind (addr_at (side_entries b) j) i q (side_entries a) (rising p.width d (side_digits d a) (side_node a) sides.left) li less next

  before : i ≤ q
  before = omega (arith, ahead)

  pub is-passed : IsPassed p left d a b i j q
  is-passed =
      let ds = side_digits d a in
      let dt = side_digits d b in
      let n = side_node a in
      let m = side_node b in
      let x = passed-work p.width d ds dt n m sides.left sides.right sides.level (sym sides.agree) i j q before lj next (alone p left) in
      let y = passed-other p.width d ds dt n m sides.left sides.right sides.level (sym sides.agree) i j q before lj next (alone p (not left)) in
      record {
        within = next.within;
        ahead = ahead;
        rows = ap (λ z. kept_by p left z theirs) (passed-rows p.width d ds dt n m sides.left sides.right sides.level (sym sides.agree) i j q before lj next)
            ∙ passed-front p left (stretch_rows p.width n ds i q) (mine q) theirs
            (passed-first p.width d ds dt n m sides.left sides.right sides.level (sym sides.agree) i j q before lj next);
        cost = omega (arith, x, y);
      }

module _ (p : Plan) {d : ℕ} {a b : SideOf PlainNode} {i j : ℕ} {s t : Spot} (pair : ArePaired p.width d a b i j s t) where
  abbrev ds : List ℕ
  ds = side_digits d a

  abbrev dt : List ℕ
  dt = side_digits d b

  abbrev n : PlainNode
  n = side_node a

  abbrev m : PlainNode
  m = side_node b

  h : IsPart p.width d ds (node n)
  h = pair.sides.left

  k : IsPart p.width d dt (node m)
  k = pair.sides.right

  same : m.level ≡ n.level
  same = pair.sides.level

  agree : from_place (n.level + 1) ds ≡ from_place (n.level + 1) dt
  agree = pair.sides.agree

  abbrev lefts : ℕ → List Row
  lefts c = rows_on p.width n.level ds (entries n) c

  abbrev rights : ℕ → List Row
  rights c = rows_on p.width m.level dt (entries m) c

  abbrev ns : ℕ → List Placed
  ns c = nodes_on p.width n.level ds (entries n) c

  abbrev ms : ℕ → List Placed
  ms c = nodes_on p.width m.level dt (entries m) c

  li : i < length (entries n)
  li = let l : s.place < length (entries n) = pair.left.within in omega (arith, l, pair.left-place)

  lj : j < length (entries m)
  lj = let l : t.place < length (entries m) = pair.right.within in omega (arith, l, pair.right-place)

  left-is : s.addr ≡ addr_at (entries n) i
  left-is = pair.left.address ∙ ap (addr_at (entries n)) pair.left-place

  right-is : t.addr ≡ addr_at (entries m) j
  right-is = pair.right.address ∙ ap (addr_at (entries m)) pair.right-place

  agreed : from_place (m.level + 1) ds ≡ from_place (m.level + 1) dt
  agreed = subst (λ c. from_place (c + 1) ds ≡ from_place (c + 1) dt) (sym same) agree

  -- two entries at one address
  module _ {new1 new2 : List ℕ} {o1 o2 : What} (level : s.addr ≡ t.addr) (made1 : new1 ≡ joined_digits n s ds) (held1 : o1 ≡ what_at (entries n) s.place)
      (made2 : new2 ≡ joined_digits m t dt) (held2 : o2 ≡ what_at (entries m) t.place) where
    abbrev one : Entry
    one = entry_at (entries n) i

    abbrev other : Entry
    other = entry_at (entries m) j

    at-one : addr_at (entries m) j ≡ addr_at (entries n) i
    at-one = sym right-is ∙ sym level ∙ left-is

    digits-one : new1 ≡ behind n.level ds one
    digits-one = new-digits p.width d ds n h s i pair.left-place pair.left new1 o1 made1 held1

    held-one : o1 ≡ one.what
    held-one = new-held p.width d ds n h s i pair.left-place pair.left new1 o1 made1 held1

    digits-other : new2 ≡ behind m.level dt other
    digits-other = new-digits p.width d dt m k t j pair.right-place pair.right new2 o2 made2 held2

    held-other : o2 ≡ other.what
    held-other = new-held p.width d dt m k t j pair.right-place pair.right new2 o2 made2 held2

    rows-one : part_rows p.width new1 o1 ≡ part_rows p.width (behind n.level ds one) one.what
    rows-one = ap (λ x. part_rows p.width x o1) digits-one ∙ ap (part_rows p.width (behind n.level ds one)) held-one

    rows-other : part_rows p.width new2 o2 ≡ part_rows p.width (behind m.level dt other) other.what
    rows-other = ap (λ x. part_rows p.width x o2) digits-other ∙ ap (part_rows p.width (behind m.level dt other)) held-other

    nodes-one : part_nodes p.width new1 o1 ≡ part_nodes p.width (behind n.level ds one) one.what
    nodes-one = ap (λ x. part_nodes p.width x o1) digits-one ∙ ap (part_nodes p.width (behind n.level ds one)) held-one

    nodes-other : part_nodes p.width new2 o2 ≡ part_nodes p.width (behind m.level dt other) other.what
    nodes-other = ap (λ x. part_nodes p.width x o2) digits-other ∙ ap (part_nodes p.width (behind m.level dt other)) held-other

    pub both-passed : kept p (lefts i) (rights j) ≡ kept_of p new1 o1 new2 o2 ++ kept p (lefts (i + 1)) (rights (j + 1))
    both-passed =
        let x = part_rows p.width (behind n.level ds one) one.what in
        let y = part_rows p.width (behind m.level dt other) other.what in
        ap (λ z. kept p z (rights j)) (both-rows p.width d dt ds m n k h (sym same) agreed j i lj li (sym at-one))
        ∙ ap (kept p (x ++ lefts (i + 1))) (both-rows p.width d ds dt n m h k same (sym agree) i j li lj at-one)
        ∙ combined-split p.width p.left p.both p.right x (lefts (i + 1)) y (rights (j + 1))
        (theirs-first p.width d dt ds m n k h (sym same) agreed j i lj li (sym at-one)) (theirs-first p.width d ds dt n m h k same (sym agree) i j li lj at-one)
        ∙ ap (λ z. kept p z y ++ kept p (lefts (i + 1)) (rights (j + 1))) (sym rows-one)
        ∙ ap (λ z. kept p (part_rows p.width new1 o1) z ++ kept p (lefts (i + 1)) (rights (j + 1))) (sym rows-other)

    pub both-cost : openings (what_at (entries n) s.place) + openings (what_at (entries m) t.place) + work_of p new1 o1 new2 o2
        + work p (lefts (i + 1)) (ns (i + 1)) (rights (j + 1)) (ms (j + 1))
        ≡ work p (lefts i) (ns i) (rights j) (ms j)
    both-cost =
        let x = part_rows p.width (behind n.level ds one) one.what in
        let y = part_rows p.width (behind m.level dt other) other.what in
        let a = both-work p.width d ds dt n m h k same (sym agree) i j li lj at-one p.left in
        let b = both-work p.width d dt ds m n k h (sym same) agreed j i lj li (sym at-one) p.right in
        let u : seen_nodes p.width p.left (part_rows p.width new2 o2) (part_nodes p.width new1 o1) ≡
        seen_nodes p.width p.left y (part_nodes p.width (behind n.level ds one) one.what) =
        ap (λ z. seen_nodes p.width p.left z (part_nodes p.width new1 o1)) rows-other ∙ ap (seen_nodes p.width p.left y) nodes-one in
        let v : seen_nodes p.width p.right (part_rows p.width new1 o1) (part_nodes p.width new2 o2) ≡
        seen_nodes p.width p.right x (part_nodes p.width (behind m.level dt other) other.what) =
        ap (λ z. seen_nodes p.width p.right z (part_nodes p.width new2 o2)) rows-one ∙ ap (seen_nodes p.width p.right x) nodes-other in
        let f : openings (what_at (entries n) s.place) ≡ openings one.what = ap (λ z. openings (what_at (entries n) z)) pair.left-place in
        let g : openings (what_at (entries m) t.place) ≡ openings other.what = ap (λ z. openings (what_at (entries m) z)) pair.right-place in
        omega (arith, a, b, u, v, f, g)
