-- Which moves are edits.
use Rattle.std.proofs.Common.{◌≡◌, ℕ, Bool, true, false, List, ◌∷◌, take, ◌∙◌, sym, ap, refl, cond}
use Rattle.std.specs.Prelude.{ℤ, Option, Some, None, not, ◌&&◌, is_some}
use Rattle.ph_specs.specs.Coordinate.{same_point}
use Rattle.ph_specs.specs.Past.{Past, after_edit, move_kept}
use Rattle.ph_specs.specs.Table.{Row, find, move, move_value}
use Rattle.ph_specs.proofs.laws.Put.{same_from_test}
use Rattle.ph_tree.specs.Moves.{answer_for, move_answer}
use Rattle.ph_tree.specs.declared.moves.Moved.{Moved}
use Rattle.ph_tree.specs.declared.moves.Moved.TheVariants.{Done, Absent, Taken}
use Rattle.ph_undo.specs.Inverses.{is_move, with_move}
use Rattle.ph_undo.specs.declared.inverse.Inverse.{Inverse}
use Rattle.ph_undo.specs.declared.inverse.Inverse.TheVariants.{Return}

-- ---- by what is found at both points, and whether they are the same

abbrev answer_by : Option ℕ → Bool → Option ℕ → Moved
answer_by None b t = Absent
answer_by (Some v) b t = cond b Done (cond (is_some t) Taken Done)

answer-by : (rows : List Row) (p q : List ℤ) (o : Option ℕ) → answer_for rows p q o ≡ answer_by o (same_point p q) (find rows q)
answer-by rows p q None = refl
answer-by rows p q (Some v) = refl

-- whether a row moves
abbrev pub moves_by : Option ℕ → Option ℕ → Bool
moves_by o t = is_some o && not (is_some t)

abbrev is_move_by : Bool → Moved → Bool
is_move_by b Done = not b
is_move_by b Absent = false
is_move_by b Taken = false

is_move-by : (p q : List ℤ) (a : Moved) → is_move p q a ≡ is_move_by (same_point p q) a
is_move-by p q Done = refl
is_move-by p q Absent = refl
is_move-by p q Taken = refl

moves-by : (o : Option ℕ) (b : Bool) (t : Option ℕ) → (b ≡ true → t ≡ o) → is_move_by b (answer_by o b t) ≡ moves_by o t
moves-by None b t same = refl
moves-by (Some v) true t same = ap (λ u. moves_by (Some v) u) (sym (same refl))
moves-by (Some v) false None same = refl
moves-by (Some v) false (Some u) same = refl

-- the answer of a move tells whether a row moved
is_move-is : (rows : List Row) (p q : List ℤ) (a : Moved) → a ≡ move_answer rows p q → is_move p q a ≡ moves_by (find rows p) (find rows q)
is_move-is rows p q a answer =
    ap (is_move p q) answer
    ∙ is_move-by p q (move_answer rows p q)
    ∙ ap (is_move_by (same_point p q)) (answer-by rows p q (find rows p))
    ∙ moves-by (find rows p) (same_point p q) (find rows q) (λ same. ap (find rows) (sym (same_from_test p q same)))

pub record IsMoved (o t : Option ℕ) : Type 0 where
  pub value : ℕ
  pub there : o ≡ Some value
  pub free : t ≡ None

pub moved-is : (o t : Option ℕ) → moves_by o t ≡ true → IsMoved o t
moved-is None t e = absurd (no e)
  where
    no : false ≡ true → ⊥
    no e = cc
moved-is (Some v) None e = record { value = v; there = refl; free = refl }
moved-is (Some v) (Some u) e = absurd (no e)
  where
    no : false ≡ true → ⊥
    no e = cc

-- ---- what is kept

-- the inverses after a move, by whether a row moved
pub inverses-move : {D : ℕ} (room : ℕ) (rows : List Row) (p q : List ℤ) (a : Moved) (inverses now : List (Inverse D)) → a ≡ move_answer rows p q → now ≡ with_move room p q a inverses
    → (b : Bool) → moves_by (find rows p) (find rows q) ≡ b → now ≡ cond b (take room (Return q p ∷ inverses)) inverses
inverses-move room rows p q a inverses now answer e b moves =
    e ∙ ap (λ c. cond c (take room (Return q p ∷ inverses)) inverses) (is_move-is rows p q a answer ∙ moves)

pub move-edit : (k : Past) (p q : List ℤ) → moves_by (find k.table p) (find k.table q) ≡ true → after_edit k (move k.width k.table p q) ≡ move_kept k p q
move-edit k p q e = ap (λ b. cond b (after_edit k (move k.width k.table p q)) k) (sym e)

pub move-idle : (k : Past) (p q : List ℤ) → moves_by (find k.table p) (find k.table q) ≡ false → k ≡ move_kept k p q
move-idle k p q e = ap (λ b. cond b (after_edit k (move k.width k.table p q)) k) (sym e)

pub move-stays : (w : ℕ) (rows : List Row) (p q : List ℤ) → moves_by (find rows p) (find rows q) ≡ false → move w rows p q ≡ rows
move-stays w rows p q e = stays (find rows p) (find rows q) e
  where
    stays : (o t : Option ℕ) → moves_by o t ≡ false → cond (is_some t) rows (move_value w rows p q o) ≡ rows
    stays None None e = refl
    stays None (Some u) e = refl
    stays (Some v) None e = absurd (no e)
      where
        no : true ≡ false → ⊥
        no e = cc
    stays (Some v) (Some u) e = refl
