-- A descent of two trees from their roots.
use Rattle.std.proofs.Common.{◌≡◌, ℕ, ◌+◌, ◌≤◌, Bool, true, ◌||◌, List, [], ◌∷◌, length, replicate, sym, ◌∙◌, ap, subst, arith}
use Rattle.std.specs.Prelude.{Option, Some}
use Rattle.std.specs.List.{list_any, AllByRecursion as Each}
use Rattle.ph_model.proofs.lemmas.RowsBehind.{IsUnder}
use Rattle.std.proofs.lemmas.List.{length-replicate}
use Rattle.ph_specs.specs.TreeRows.{rows}
use Rattle.ph_model.specs.Lawful.{IsLawful}
use Rattle.ph_specs.specs.Node.{PlainNode}
use Rattle.ph_model.specs.EntryList.{What, node}
use Rattle.ph_specs.specs.Region.{is_in}
use Rattle.ph_specs.specs.Shape.{shape}
use Rattle.ph_specs.specs.Table.{Row, IsTable}
use Rattle.ph_specs.specs.WorkSets.{Placed, placed, all_nodes, holds_some}
use Rattle.ph_model.proofs.lemmas.Joined.{offsets, from_place}
use Rattle.ph_model.proofs.laws.Paths.{placed_child, holding}
use Rattle.ph_model.proofs.laws.TableShape.{table-shape}
use Rattle.ph_model.proofs.laws.Unique.{zeros_known}
use Rattle.ph_path.proofs.Knowns.{zeros-body}
use Rattle.ph_model.specs.Combined.{seen_nodes}
use Rattle.ph_set.specs.Meeting.{kept, work, work_of}
use Rattle.ph_set.specs.Parts.{IsPart, part_rows, part_nodes}
use Rattle.ph_set.specs.declared.plan.Plan.{Plan}
use Rattle.ph_set.proofs.Parting.{part-under, part-some}
use Rattle.ph_set.proofs.Sights.{seen-first}

-- a root, of which no digit is known
pub root-part : (w d : ℕ) (n : PlainNode) → 1 ≤ w → IsLawful w d (Some n) → IsPart w d (replicate d 0) (node n)
root-part w d n l h =
    record {
      long = length-replicate d 0;
      small = (zeros-body d w).1;
      held = (omega (arith, l, h.0), zeros_known n.level d, h.2, h.1);
    }

pub part-is : (w d : ℕ) (n : PlainNode) (ds : List ℕ) (o : What) → 1 ≤ w → IsLawful w d (Some n) → ds ≡ replicate d 0 → o ≡ node n → IsPart w d ds o
part-is w d n ds o l h e f = subst (λ t. IsPart w d t o) (sym e) (subst (IsPart w d (replicate d 0)) (sym f) (root-part w d n l h))

-- the region of a root holds each row of a lawful tree
root-holds : (w d : ℕ) (n m : PlainNode) → 1 ≤ w → IsLawful w d (Some m) → holds_some w (rows w d (Some m)) (placed_child w w n.level (replicate d 0) n.chain) ≡ true
root-holds w d n m l h = by_rows (part_rows w (replicate d 0) (node m))
    (part-some w d (replicate d 0) (node m) (root-part w d m l h)) (part-under w d (replicate d 0) (node m) (root-part w d m l h))
  where
    by_rows : (rs : List Row) → 1 ≤ length rs → Each (IsUnder w (m.level + 1) (replicate d 0)) rs →
        holds_some w rs (placed_child w w n.level (replicate d 0) n.chain) ≡ true
    by_rows [] some u = absurd (omega (arith, some))
    by_rows (r ∷ rs) some u =
        let top : m.level + 1 ≡ w = omega (arith, l, h.0) in
        let same : from_place w (offsets w r.point) ≡ from_place w (replicate d 0) =
        subst (λ k. from_place k (offsets w r.point) ≡ from_place k (replicate d 0)) top u.0 in
        ap (λ t. t || list_any (λ s. is_in w (placed_child w w n.level (replicate d 0) n.chain).region s.point) rs)
        (holding w w n.level (replicate d 0) n.chain r.point l same)

pub root-seen : (w d : ℕ) (all : Bool) (n m : PlainNode) → 1 ≤ w → IsLawful w d (Some m) →
    seen_nodes w all (rows w d (Some m)) (placed w d (Some n)) ≡ 1 + seen_nodes w all (rows w d (Some m))
    (part_nodes w (replicate d 0) (node n))
root-seen w d all n m l h =
    seen-first w all (rows w d (Some m)) (placed_child w w n.level (replicate d 0) n.chain) (part_nodes w (replicate d 0) (node n)) (root-holds w d n m l h)

module _ (p : Plan) (d : ℕ) (n m : PlainNode) (l : 1 ≤ p.width) (h : IsLawful p.width d (Some n))
    (k : IsLawful p.width d (Some m)) (ds dt : List ℕ) (o q : What) (e1 : ds ≡ replicate d 0) (f1 : o ≡ node n)
    (e2 : dt ≡ replicate d 0) (f2 : q ≡ node m) where
  pub roots-work : 1 + (1 + work_of p ds o dt q) ≡ work p (rows p.width d (Some n)) (placed p.width d (Some n)) (rows p.width d (Some m)) (placed p.width d (Some m))
  roots-work =
      let a : work_of p ds o dt q ≡ work_of p (replicate d 0) (node n) (replicate d 0) (node m) =
      ap (λ t. work_of p t o dt q) e1 ∙ ap (λ t. work_of p (replicate d 0) t dt q) f1 ∙
      ap (λ t. work_of p (replicate d 0) (node n) t q) e2 ∙
      ap (λ t. work_of p (replicate d 0) (node n) (replicate d 0) t) f2 in
      let x = root-seen p.width d p.left n m l k in
      let y = root-seen p.width d p.right m n l h in
      omega (arith, a, x, y)

pub root-length : (w d : ℕ) (n : PlainNode) (ds : List ℕ) (o : What) → ds ≡ replicate d 0 → o ≡ node n → length (placed w d (Some n)) ≡ 1 + length (part_nodes w ds o)
root-length w d n ds o e f =
    let a : length (part_nodes w ds o) ≡ length (part_nodes w (replicate d 0) (node n)) =
    ap (λ t. length (part_nodes w t o)) e ∙ ap (λ t. length (part_nodes w (replicate d 0) t)) f in
    omega (arith, a)

pub root-rows : (w d : ℕ) (n : PlainNode) (ds : List ℕ) (o : What) → ds ≡ replicate d 0 → o ≡ node n → part_rows w ds o ≡ rows w d (Some n)
root-rows w d n ds o e f = ap (λ t. part_rows w t o) e ∙ ap (part_rows w (replicate d 0)) f

-- ---- trees that are shapes

pub tree-rows : (w u d : ℕ) (o : Option PlainNode) (table : List Row) → 1 ≤ w → w ≡ u → IsTable u d table → o ≡ shape u table → rows w d o ≡ table
tree-rows w u d o table l e h f =
    ap (λ k. rows k d o) e ∙ ap (rows u d) f ∙ (table-shape u d table (omega (arith, l, e)) h).1

pub tree-nodes : (w u d : ℕ) (o : Option PlainNode) (table : List Row) → w ≡ u → o ≡ shape u table → placed w d o ≡ all_nodes w d table
tree-nodes w u d o table e f = ap (placed w d) (f ∙ ap (λ k. shape k table) (sym e))

pub same-kept : (p : Plan) (xs ys us vs : List Row) → xs ≡ us → ys ≡ vs → kept p xs ys ≡ kept p us vs
same-kept p xs ys us vs e f = ap (λ t. kept p t ys) e ∙ ap (kept p us) f

pub same-work : (p : Plan) (xs ys us vs : List Row) (ns ms is js : List Placed) → xs ≡ us → ys ≡ vs → ns ≡ is → ms ≡ js → work p xs ns ys ms ≡ work p us is vs js
same-work p xs ys us vs ns ms is js a b c d =
    ap (λ t. work p t ns ys ms) a ∙ ap (λ t. work p us t ys ms) c ∙ ap (λ t. work p us is t ms) b ∙ ap (λ t. work p us is vs t) d
