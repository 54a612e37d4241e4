-- The inverse of an edit leads back to the table from before it, and changes the table after it.
use Rattle.std.proofs.Common.{◌≡◌, ℕ, List, sym, ◌∙◌, ap, refl, cond, false, inl, inr}
use Rattle.std.specs.Prelude.{ℤ, Option, Some, None, is_some}
use Rattle.std.proofs.lemmas.Bool.{and_parts}
use Rattle.ph_specs.specs.Coordinate.{same_point, IsPoint}
use Rattle.ph_specs.specs.Table.{Row, find, put, del, move, move_value, IsTable}
use Rattle.ph_specs.proofs.laws.Del.{find-del}
use Rattle.ph_specs.proofs.laws.Edits.{del-put, put-put, put-del, move-move}
use Rattle.ph_specs.proofs.laws.Put.{either, find-put, same_from_test, test_from_same}
use Rattle.ph_table.specs.Rows.{put_answer}
use Rattle.ph_table.specs.declared.table.Put.{Put}
use Rattle.ph_table.specs.declared.table.Put.TheVariants.{New, Old}
use Rattle.ph_undo.specs.Inverses.{undone, IsInverse, IsChange, put_inverse}
use Rattle.ph_undo.specs.declared.inverse.Inverse.TheVariants.{Restore, Return}

found-here : (w : ℕ) (rows : List Row) (p : List ℤ) (v : ℕ) → find (put w rows p v) p ≡ Some v
found-here w rows p v = find-put w rows p p v ∙ ap (λ b. cond b (Some v) (find rows p)) (test_from_same p p refl)

module _ (D w : ℕ) (rows : List Row) (table : IsTable w D rows) where
  pub put-undone : (p : List ℤ) (v : ℕ) (a : Put) → a ≡ put_answer (find rows p) → undone {D = D} w (put w rows p v) (put_inverse p a) ≡ rows
  put-undone p v a e = ap (λ b. undone {D = D} w (put w rows p v) (put_inverse p b)) e ∙ by_found (find rows p) refl
    where
      by_found : (o : Option ℕ) → find rows p ≡ o → undone {D = D} w (put w rows p v) (put_inverse p (put_answer o)) ≡ rows
      by_found None f = del-put w rows p v f
      by_found (Some old) f = put-put w rows p v old (and_parts _ _ table).0 f

  pub del-undone : (p : List ℤ) (v : ℕ) → find rows p ≡ Some v → undone {D = D} w (del rows p) (Restore p v) ≡ rows
  del-undone p v f = put-del w rows p v (and_parts _ _ table).0 f

  pub move-undone : (p q : List ℤ) (v : ℕ) → find rows q ≡ None → find rows p ≡ Some v → undone {D = D} w (move w rows p q) (Return q p) ≡ rows
  move-undone p q v free there = move-move w rows p q v (and_parts _ _ table).0 free there

  pub move-changes : (p q : List ℤ) (v : ℕ) → find rows q ≡ None → find rows p ≡ Some v → IsChange {D = D} (move w rows p q) (Return q p)
  move-changes p q v free there = (
    ap (λ t. is_some (find t q)) moved ∙ ap is_some (found-here w (del rows p) q v),
    ap (λ t. find t p) moved
        ∙ find-put w (del rows p) q p v
        ∙ ap (λ b. cond b (Some v) (find (del rows p) p)) other
        ∙ find-del w rows p p (and_parts _ _ table).0
        ∙ ap (λ b. cond b None (find rows p)) (test_from_same p p refl),
  )
    where
      moved : move w rows p q ≡ put w (del rows p) q v
      moved = ap (λ o. cond (is_some o) rows (move_value w rows p q (find rows p))) free ∙ ap (move_value w rows p q) there

      clash : ◌≡◌ {A = Option ℕ} None (Some v) → ⊥
      clash e = cc

      other : same_point q p ≡ false
      other = elim (either (same_point q p)) [
        | inl same ↦ absurd (clash (sym free ∙ ap (find rows) (same_from_test q p same) ∙ there))
        | inr not_same ↦ not_same
      ]

pub put-changes : (D w : ℕ) (rows : List Row) (p : List ℤ) (v : ℕ) (a : Put) → IsChange {D = D} (put w rows p v) (put_inverse p a)
put-changes D w rows p v New = ap is_some (found-here w rows p v)
put-changes D w rows p v (Old u) = tt

pub put-point : (D w : ℕ) (p : List ℤ) (a : Put) → IsPoint w D p → IsInverse {D = D} w (put_inverse p a)
put-point D w p New h = h
put-point D w p (Old v) h = h
