-- A tree with a row moved: it is put at its new point before it goes from the old one.
use Rattle.std.proofs.Common.{◌≡◌, ℕ, ◌+◌, ◌^◌, ◌≤◌, ltb-true, List, [], ◌∷◌, length, true, false, cond, refl, arith, ap, sym, ◌∙◌, subst, inl, inr}
use Rattle.std.specs.Prelude.{ℤ, Option, Some, None, Ok, IsSome, is_some}
use Rattle.std.proofs.lemmas.Bool.{and_parts}
use Rattle.ph_specs.specs.Coordinate.{same_point}
use Rattle.ph_specs.specs.Table.{Row, find, put, del, move, is_rising, is_value, IsTable}
use Rattle.ph_specs.specs.ZOrder.{before}
use Rattle.ph_specs.specs.Node.{PlainNode}
use Rattle.ph_specs.specs.TreeRows.{rows}
use Rattle.ph_model.specs.Lawful.{IsLawful}
use Rattle.ph_model.specs.PutTree.{find_tree, put_tree}
use Rattle.ph_model.specs.DelTree.{del_tree}
use Rattle.ph_specs.proofs.laws.Put.{either, same_from_test, test_from_same, find-put, list_all_before, put-front, not_same}
use Rattle.ph_specs.proofs.laws.Edits.{length-put}
use Rattle.ph_model.proofs.laws.PutTree.{lawful-put_tree, rows-put_tree}
use Rattle.ph_specs.proofs.laws.Del.{found-value}
use Rattle.ph_model.proofs.laws.DelTree.{lawful-del_tree, rows-del_tree, move-none, move-steps, move-taken}
use Rattle.ph_model.proofs.laws.LawfulRows.{rows-table}
use Rattle.ph_tree.specs.Opened.{opened_in}
use Rattle.ph_tree.specs.Key.{Key}
use Rattle.ph_tree.specs.Tree.{TreeTable, tree_table, IsTree}
use Rattle.ph_tree.specs.Moves.{IsMoved, answer_for, move_answer, with_moved}
use Rattle.ph_tree.specs.declared.moves.Moved.{Moved}
use Rattle.ph_tree.specs.declared.moves.Moved.TheVariants.{Done, Absent, Taken}
use Rattle.ph_tree.proofs.Trees.{tree_of, IsKeyed, at_width, found_is}
use Rattle.ph_tree.proofs.Fewer.{length-del}
use Rattle.ph_tree.proofs.PutWays.{opened-put, opened-some}

-- ---- rows

apart : true ≡ false → ⊥
apart e = cc

-- a row that goes, and another that joins before it goes
del-put : (w : ℕ) (rs : List Row) (p q : List ℤ) (v : ℕ) → is_rising w rs ≡ true → same_point p q ≡ false → del (put w rs p v) q ≡ put w (del rs q) p v
del-put w [] p q v h n = rw n refl
del-put w (r ∷ rs) p q v h n =
    elim (either (same_point r.point q)) [
      | inl gone ↦
          let at : r.point ≡ q = same_from_test r.point q gone in
          let other : same_point r.point p ≡ false = not_same r.point p (λ e. apart (sym (test_from_same p q (sym e ∙ at)) ∙ n)) in
          elim (either (before w p r.point)) [
            | inl first ↦ rw (other, first, n, gone) (sym (put-front w rs p v (list_all_before w p r.point rs first (and_parts _ _ h).0)))
            | inr late ↦ rw (other, late, gone) refl
          ]
      | inr stays ↦
          elim (either (same_point r.point p)) [
            | inl same ↦ rw (stays, same, n) refl
            | inr other ↦
                elim (either (before w p r.point)) [
                  | inl first ↦ rw (other, first, n, stays, other, first) refl
                  | inr late ↦
                      rw (other, late, stays, other, late) (ap {B = List Row} (λ t. r ∷ t) (del-put w rs p q v (and_parts _ _ h).1 n))
                ]
          ]
    ]

-- ---- trees

-- a tree whose row at one point is moved to another
pub record IsMove (dims w max len : ℕ) (s : TreeTable) (from to : List ℤ) (u : Option PlainNode) : Type 0 where
  pub tree : IsTree dims w u max len
  pub table : tree_table dims w u max ≡ with_moved s from to

module _ {dims w max len : ℕ} {t : Option PlainNode} {s : TreeTable} {from to : List ℤ} {old new : Key}
    (f : IsKeyed dims w max len t s from old) (k : IsKeyed dims w max len t s to new) {v : ℕ}
    (found : find s.table from ≡ Some v) where
  abbrev before_rows : List Row
  before_rows = rows w dims t

  is_table : IsTable w dims (rows w dims t)
  is_table = rows-table w dims t k.tree.wide k.tree.lawful

  found_here : find (rows w dims t) from ≡ Some v
  found_here = ap (λ u. find u.table from) k.seen ∙ found

  -- a value that is found is one
  small : is_value v ≡ true
  small = found-value (rows w dims t) from v (and_parts _ _ (and_parts _ _ is_table).1).1 found_here

  lawful_between : IsLawful w dims (put_tree w dims t to v)
  lawful_between = lawful-put_tree w dims t to v k.tree.wide (at_width k) small k.tree.lawful

  -- the way to the old point, once the value is at the new one
  pub opened_between : opened_in old.width (put_tree new.width dims t new.point v) old.point ≤ 1 + opened_in old.width t old.point
  opened_between =
      let made : opened_in old.width (put_tree new.width dims t new.point v) old.point ≡
      opened_in w (put_tree w dims t to v) from =
      λ i. opened_in (f.width i) (put_tree (k.width i) dims t (k.point i) v) (f.point i) in
      let was : opened_in old.width t old.point ≡ opened_in w t from = λ i. opened_in (f.width i) t (f.point i) in
      let there : find_tree old.width dims t old.point ≡ find_tree w dims t from = λ i. find_tree (f.width i) dims t (f.point i) in
      omega (
        arith,
        made,
        was,
        opened-put w dims t from to v v (at_width k) (ltb-true v (2 ^ 64) small) k.tree.lawful (sym there ∙ found_is f ∙ found),
      )

  -- a tree with a row has a root
  pub opened_root : 1 ≤ opened_in new.width t new.point
  opened_root = opened-some old.width dims v new.width t old.point new.point (found_is f ∙ found)

  module _ (other : same_point from to ≡ false) (free : find s.table to ≡ None) {u : Option PlainNode}
      (made : u ≡ del_tree old.width dims (put_tree new.width dims t new.point v) old.point) where
    made_at : u ≡ del_tree w dims (put_tree w dims t to v) from
    made_at = made ∙ (λ i. del_tree (f.width i) dims (put_tree (k.width i) dims t (k.point i) v) (f.point i))

    other_way : same_point to from ≡ false
    other_way = not_same to from (λ e. apart (sym (test_from_same from to (sym e)) ∙ other))

    free_here : find (rows w dims t) to ≡ None
    free_here = ap (λ u. find u.table to) k.seen ∙ free

    rows_moved : rows w dims u ≡ del (put w (rows w dims t) to v) from
    rows_moved =
        ap (rows w dims) made_at ∙ rows-del_tree w dims (put_tree w dims t to v) from f.tree.wide (at_width f) lawful_between
        ∙ ap (λ r. del r from) (rows-put_tree w dims t to v k.tree.wide (at_width k) k.tree.lawful)

    found_between : find (put w (rows w dims t) to v) from ≡ Some v
    found_between =
        find-put w before_rows to from v ∙ ap (λ b. cond b (Some v) (find before_rows from)) other_way ∙ found_here

    same_number : length (rows w dims u) ≡ length (rows w dims t)
    same_number =
        let e : length (rows w dims u) ≡ length (del (put w (rows w dims t) to v) from) = ap (λ (r : List Row). length r) rows_moved in
        omega (arith, e, length-del (put w before_rows to v) from v found_between, length-put w before_rows to v free_here)

    moved_rows : rows w dims u ≡ move w (rows w dims t) from to
    moved_rows =
        rows_moved
        ∙ del-put w before_rows to from v (and_parts _ _ is_table).0 other_way
        ∙ sym (move-steps w dims before_rows from to v k.tree.wide (at_width f) is_table free_here found_here).moved

    pub moved : IsMove dims w max len s from to u
    moved = record {
      tree = tree_of k.tree (subst (IsLawful w dims) (sym made_at)
          (lawful-del_tree w dims (put_tree w dims t to v) from lawful_between))
          (omega (arith, same_number, k.tree.counted)) k.tree.limit;
      table = ap {B = TreeTable} (λ (r : List Row). record { table = r; width = w; max = max }) moved_rows ∙ ap (λ z. with_moved z from to) k.seen;
    }

-- where a row is at the new point, nothing moves
taken_there : (s : TreeTable) (from to : List ℤ) → is_some (find s.table to) ≡ true → s ≡ with_moved s from to
taken_there s from to taken = ap {B = TreeTable} (λ (r : List Row). record s { table = r }) (sym (move-taken s.width s.table from to taken))

pub taken_moved : {dims w max len : ℕ} {t u : Option PlainNode} {s : TreeTable} {from to : List ℤ} →
    tree_table dims w t max ≡ s → IsTree dims w t max len → is_some (find s.table to) ≡ true → u ≡ t →
    IsMove dims w max len s from to u
taken_moved {dims = dims} {w = w} {max = max} {len = len} {s = s} {from = from} {to = to} seen tree taken same = record {
  tree = subst (λ z. IsTree dims w z max len) (sym same) tree;
  table = ap (λ z. tree_table dims w z max) same ∙ seen ∙ taken_there s from to taken;
}

-- a point that is moved to where it is
pub stays_there : (s : TreeTable) (from to : List ℤ) (v : ℕ) → Some v ≡ find s.table from → same_point from to ≡ true → s ≡ with_moved s from to
stays_there s from to v f e =
    let same : find s.table to ≡ Some v = sym (f ∙ ap (find s.table) (same_from_test from to e)) in
    taken_there s from to (ap (λ o. is_some o) same)

-- where no row is at the point, nothing moves
pub none_there : (s : TreeTable) (from to : List ℤ) → find s.table from ≡ None → s ≡ with_moved s from to
none_there s from to none = ap {B = TreeTable} (λ (r : List Row). record s { table = r }) (sym (move-none s.width s.table from to none))

-- ---- the answer of a move

pub answer_absent : (rs : List Row) (from to : List ℤ) → find rs from ≡ None → Absent ≡ move_answer rs from to
answer_absent rs from to none = sym (ap (answer_for rs from to) none)

module _ (rs : List Row) (from to : List ℤ) (v : ℕ) (found : find rs from ≡ Some v) where
  pub answer_same : same_point from to ≡ true → Done ≡ move_answer rs from to
  answer_same same = sym (ap (answer_for rs from to) found ∙ ap (λ b. cond b Done (cond (is_some (find rs to)) Taken Done)) same)

  answer_other : same_point from to ≡ false → move_answer rs from to ≡ cond (is_some (find rs to)) Taken Done
  answer_other other = ap (answer_for rs from to) found ∙ ap (λ b. cond b Done (cond (is_some (find rs to)) Taken Done)) other

  pub answer_taken : same_point from to ≡ false → is_some (find rs to) ≡ true → Taken ≡ move_answer rs from to
  answer_taken other taken = sym (answer_other other ∙ ap (λ b. cond b Taken Done) taken)

  pub answer_done : same_point from to ≡ false → find rs to ≡ None → Done ≡ move_answer rs from to
  answer_done other free = sym (answer_other other ∙ ap (λ o. cond (is_some o) Taken Done) free)

-- a move that changes nothing
pub unmoved : {T : Type 0} {table : List Row} {from to : List ℤ} {was after : T} {changes : ℕ} {answer : Moved} → was ≡ after → answer ≡ move_answer table from to →
    (IsSome (find table from) → find table to ≡ None → ⊥) → IsMoved table from to was after was changes changes (Ok answer)
unmoved same is never = record {
  moved = same;
  answer = is;
  err = tt;
  absent = λ _. refl;
  taken = λ _. refl;
  changes = omega arith;
  spared = tt;
  idle = λ _. refl;
  held = λ _. refl;
  kept = omega arith;
  made = λ some none. absurd (never some none);
}
