-- A tree with a row less.
use Rattle.std.proofs.Common.{◌≡◌, ℕ, ◌+◌, ◌-◌, ◌≤◌, List, [], ◌∷◌, length, arith, ap, sym, ◌∙◌, subst, inl, inr}
use Rattle.std.specs.Prelude.{ℤ, Option, Some, None}
use Rattle.ph_specs.specs.Coordinate.{same_point}
use Rattle.ph_specs.specs.Table.{Row, find, del}
use Rattle.ph_specs.specs.Node.{PlainNode}
use Rattle.ph_specs.specs.TreeRows.{rows}
use Rattle.ph_model.specs.Lawful.{IsLawful}
use Rattle.ph_model.specs.PutTree.{find_tree}
use Rattle.ph_model.specs.DelTree.{del_tree}
use Rattle.ph_model.proofs.lemmas.Taken.{del-missing}
use Rattle.ph_specs.proofs.laws.Put.{either}
use Rattle.ph_model.proofs.laws.DelTree.{lawful-del_tree, rows-del_tree}
use Rattle.ph_tree.specs.Key.{Key}
use Rattle.ph_tree.specs.Tree.{TreeTable, tree_table, without_row, IsTree}
use Rattle.ph_tree.proofs.Trees.{tree_of, IsKeyed, at_width, found_before}

pub length-del : (rs : List Row) (p : List ℤ) (v : ℕ) → find rs p ≡ Some v → length (del rs p) + 1 ≡ length rs
length-del [] p v h = cc
length-del (r ∷ rs) p v h =
    elim (either (same_point r.point p)) [
      | inl same ↦ rw same (omega arith)
      | inr other ↦ let later : find rs p ≡ Some v = rw other at h in rw other (omega (arith, length-del rs p v later))
    ]

-- what a tree keeps without the row at a point, by what that row was
pub record IsFewer (dims w max len : ℕ) (u : Option PlainNode) (a : Option ℕ) : Type 0 where
  pub kept : a ≡ None → IsTree dims w u max len
  pub some_row : (v : ℕ) → a ≡ Some v → 1 ≤ len
  pub fewer : (v : ℕ) → a ≡ Some v → IsTree dims w u max (len - 1)

module _ {dims w max len : ℕ} {t : Option PlainNode} {s : TreeTable} {p : List ℤ} {key : Key}
    (k : IsKeyed dims w max len t s p key) {u : Option PlainNode} (made : u ≡ del_tree key.width dims t key.point) where
  made_at : u ≡ del_tree w dims t p
  made_at = made ∙ (λ i. del_tree (k.width i) dims t (k.point i))

  lawful_made : IsLawful w dims u
  lawful_made = subst (IsLawful w dims) (sym made_at) (lawful-del_tree w dims t p k.tree.lawful)

  rows_made : rows w dims u ≡ del (rows w dims t) p
  rows_made = ap (rows w dims) made_at ∙ rows-del_tree w dims t p k.tree.wide (at_width k) k.tree.lawful

  pub del_table : tree_table dims w u max ≡ without_row s p
  del_table =
      ap {B = TreeTable} (λ (r : List Row). record { table = r; width = w; max = max }) rows_made ∙ ap (λ z. without_row z p) k.seen

  module _ {a : Option ℕ} (found : a ≡ find_tree key.width dims t key.point) where
    -- a row that is found goes
    row_fewer : (v : ℕ) → a ≡ Some v → length (rows w dims u) + 1 ≡ length (rows w dims t)
    row_fewer v is =
        let e : length (rows w dims u) ≡ length (del (rows w dims t) p) = ap (λ (r : List Row). length r) rows_made in
        omega (arith, e, length-del (rows w dims t) p v (sym (found ∙ found_before k) ∙ is))

    -- where none is found, none goes
    none_fewer : a ≡ None → length (rows w dims u) ≡ length (rows w dims t)
    none_fewer none = ap (λ (r : List Row). length r) (rows_made ∙ del-missing (rows w dims t) p (sym (found ∙ found_before k) ∙ none))

    pub removal : IsFewer dims w max len u a
    removal = record {
      kept = λ none. tree_of k.tree lawful_made (omega (arith, none_fewer none, k.tree.counted)) k.tree.limit;
      some_row = λ v is. omega (arith, row_fewer v is, k.tree.counted);
      fewer = λ v is. tree_of k.tree lawful_made (omega (arith, row_fewer v is, k.tree.counted)) (omega (arith, k.tree.limit));
    }
