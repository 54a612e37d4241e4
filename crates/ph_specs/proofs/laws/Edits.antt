-- Each edit of a table is taken back by another edit.
use Rattle.std.proofs.Common.{◌≡◌, ℕ, ◌+◌, arith, Bool, true, false, List, [], ◌∷◌, length, sym, ◌∙◌, ap, inl, inr, refl, cond}
use Rattle.std.specs.Prelude.{ℤ, Option, Some, None, is_some}
use Rattle.std.specs.List.{list_all}
use Rattle.std.proofs.lemmas.Bool.{and_parts}
use Rattle.ph_specs.specs.Coordinate.{same_point}
use Rattle.ph_specs.specs.ZOrder.{before}
use Rattle.ph_specs.specs.Table.{Row, row, find, put, del, move, move_value, is_rising}
use Rattle.ph_specs.proofs.laws.Put.{either, same_from_test, test_from_same, find-put, list_all_before, put-front}
use Rattle.ph_specs.proofs.laws.Del.{find-del, find-later}

-- ---- where a row stands

none_some : {v : ℕ} → None ≡ Some v → ⊥
none_some e = cc

same_self : (p : List ℤ) → same_point p p ≡ true
same_self p = test_from_same p p refl

-- a point that is found behind a row does not come before it
not_before : (w : ℕ) (r : Row) (rows : List Row) (p : List ℤ) (v : ℕ) → is_rising w (r ∷ rows) ≡ true → find rows p ≡ Some v → before w p r.point ≡ false
not_before w r rows p v rising f =
    elim (either (before w p r.point)) [
      | inl first ↦ absurd (none_some (sym (find-later w rows p (list_all_before w p r.point rows first (and_parts _ _ rising).0)) ∙ f))
      | inr late ↦ late
    ]

-- a row of which the point and the value are known
row_is : (r : Row) (p : List ℤ) (v : ℕ) → r.point ≡ p → r.value ≡ v → row p v ≡ r
row_is r p v at is = λ i. row (sym at i) (sym is i)

found_first : (r : Row) (rows : List Row) (p : List ℤ) (v : ℕ) → same_point r.point p ≡ true → find (r ∷ rows) p ≡ Some v → r.value ≡ v
found_first r rows p v same f =
    let e : Some r.value ≡ Some v = sym (ap (λ b. cond b (Some r.value) (find rows p)) same) ∙ f in cc

found_behind : (r : Row) (rows : List Row) (p : List ℤ) (o : Option ℕ) → same_point r.point p ≡ false → find (r ∷ rows) p ≡ o → find rows p ≡ o
found_behind r rows p o other f = sym (ap (λ b. cond b (Some r.value) (find rows p)) other) ∙ f

-- ---- a put

-- a new row goes again
pub del-put : (w : ℕ) (rows : List Row) (p : List ℤ) (v : ℕ) → find rows p ≡ None → del (put w rows p v) p ≡ rows
del-put w [] p v f = rw (same_self p) refl
del-put w (r ∷ rows) p v f =
    elim (either (same_point r.point p)) [
      | inl same ↦ absurd (none_some (sym f ∙ ap (λ b. cond b (Some r.value) (find rows p)) same))
      | inr other ↦ elim (either (before w p r.point)) [
        | inl first ↦ rw (other, first, same_self p) refl
        | inr late ↦ rw (other, late, other) (ap {B = List Row} (λ t. r ∷ t) (del-put w rows p v (found_behind r rows p None other f)))
      ]
    ]

-- the former value comes back
pub put-put : (w : ℕ) (rows : List Row) (p : List ℤ) (v old : ℕ) → is_rising w rows ≡ true → find rows p ≡ Some old → put w (put w rows p v) p old ≡ rows
put-put w [] p v old rising f = absurd (none_some f)
put-put w (r ∷ rows) p v old rising f =
    elim (either (same_point r.point p)) [
      | inl same ↦ rw (same, same_self p) (ap {B = List Row} (λ s. s ∷ rows) (row_is r p old (same_from_test r.point p same) (found_first r rows p old same f)))
      | inr other ↦
          let behind : find rows p ≡ Some old = found_behind r rows p (Some old) other f in
          let late : before w p r.point ≡ false = not_before w r rows p old rising behind in
          rw (other, late, other, late) (ap {B = List Row} (λ t. r ∷ t) (put-put w rows p v old (and_parts _ _ rising).1 behind))
    ]

-- ---- a removal

-- the row comes back
pub put-del : (w : ℕ) (rows : List Row) (p : List ℤ) (v : ℕ) → is_rising w rows ≡ true → find rows p ≡ Some v → put w (del rows p) p v ≡ rows
put-del w [] p v rising f = absurd (none_some f)
put-del w (r ∷ rows) p v rising f =
    elim (either (same_point r.point p)) [
      | inl same ↦
          let at : r.point ≡ p = same_from_test r.point p same in
          rw same
          (put-front w rows p v (sym (ap (λ q. list_all (λ s. before w q s.point) rows) at) ∙ (and_parts _ _ rising).0)
          ∙ ap {B = List Row} (λ s. s ∷ rows) (row_is r p v at (found_first r rows p v same f)))
      | inr other ↦
          let behind : find rows p ≡ Some v = found_behind r rows p (Some v) other f in
          let late : before w p r.point ≡ false = not_before w r rows p v rising behind in
          rw (other, other, late) (ap {B = List Row} (λ t. r ∷ t) (put-del w rows p v (and_parts _ _ rising).1 behind))
    ]

-- where no row is at the point, nothing goes
pub del-absent : (rows : List Row) (p : List ℤ) → find rows p ≡ None → del rows p ≡ rows
del-absent [] p f = refl
del-absent (r ∷ rows) p f =
    elim (either (same_point r.point p)) [
      | inl same ↦ absurd (none_some (sym f ∙ ap (λ b. cond b (Some r.value) (find rows p)) same))
      | inr other ↦ rw other (ap {B = List Row} (λ t. r ∷ t) (del-absent rows p (found_behind r rows p None other f)))
    ]

-- ---- a move

-- what a move that takes place leads to
moved_to : (w : ℕ) (rows : List Row) (p q : List ℤ) (v : ℕ) → find rows q ≡ None → find rows p ≡ Some v → move w rows p q ≡ put w (del rows p) q v
moved_to w rows p q v free there =
    ap (λ o. cond (is_some o) rows (move_value w rows p q (find rows p))) free ∙ ap (move_value w rows p q) there

-- the row goes back
pub move-move : (w : ℕ) (rows : List Row) (p q : List ℤ) (v : ℕ) → is_rising w rows ≡ true → find rows q ≡ None →
    find rows p ≡ Some v → move w (move w rows p q) q p ≡ rows
move-move w rows p q v rising free there =
    let gone : List Row = del rows p in
    let still_free : find gone q ≡ None = find-del w rows p q rising ∙ ap (cond (same_point p q) None) free ∙ either_none (same_point p q) in
    let now_free : find (put w gone q v) p ≡ None = find-put w gone q p v ∙ ap (λ b. cond b (Some v) (find gone p))
    other ∙ find-del w rows p p rising ∙ ap (λ b. cond b None (find rows p)) (same_self p) in
    let now_there : find (put w gone q v) q ≡ Some v = find-put w gone q q v ∙ ap (λ b. cond b (Some v) (find gone q)) (same_self q) in
    ap (λ t. move w t q p) (moved_to w rows p q v free there)
    ∙ moved_to w (put w gone q v) q p v now_free now_there
    ∙ ap (λ t. put w t p v) (del-put w gone q v still_free)
    ∙ put-del w rows p v rising there
  where
    either_none : (b : Bool) → ◌≡◌ {A = Option ℕ} (cond b None None) None
    either_none true = refl
    either_none false = refl

    other : same_point q p ≡ false
    other = elim (either (same_point q p)) [
      | inl same ↦ absurd (none_some (sym free ∙ ap (find rows) (same_from_test q p same) ∙ there))
      | inr not_same ↦ not_same
    ]

-- ---- how many rows there are

-- a row at a new point is one row more
pub length-put : (w : ℕ) (rows : List Row) (p : List ℤ) (v : ℕ) → find rows p ≡ None → length (put w rows p v) ≡ length rows + 1
length-put w [] p v f = refl
length-put w (r ∷ rows) p v f =
    elim (either (same_point r.point p)) [
      | inl same ↦ absurd (none_some (sym f ∙ ap (λ b. cond b (Some r.value) (find rows p)) same))
      | inr other ↦ elim (either (before w p r.point)) [
        | inl first ↦ rw (other, first) (omega arith)
        | inr late ↦ rw (other, late) (omega (arith, length-put w rows p v (found_behind r rows p None other f)))
      ]
    ]

-- a value in place of another is no row more
pub length-put_old : (w : ℕ) (rows : List Row) (p : List ℤ) (u v : ℕ) → is_rising w rows ≡ true → find rows p ≡ Some u → length (put w rows p v) ≡ length rows
length-put_old w [] p u v rising f = absurd (none_some f)
length-put_old w (r ∷ rows) p u v rising f =
    elim (either (same_point r.point p)) [
      | inl same ↦ rw same refl
      | inr other ↦
          let behind : find rows p ≡ Some u = found_behind r rows p (Some u) other f in
          let late : before w p r.point ≡ false = not_before w r rows p u rising behind in
          rw (other, late) (omega (arith, length-put_old w rows p u v (and_parts _ _ rising).1 behind))
    ]
