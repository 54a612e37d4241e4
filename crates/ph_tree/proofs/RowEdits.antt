-- A put in a tree and a removal from it, as they change the table of the tree.
use Rattle.std.proofs.Common.{◌≡◌, ℕ, ◌+◌, ◌-◌, ◌*◌, ◌^◌, ◌<◌, ◌≤◌, ltb, List, length, false, refl, ap, sym, ◌∙◌, subst}
use Rattle.std.specs.Prelude.{ℤ, Option, Result, Ok, Err, IfOk, IsErrOf, IsOk, IsSome, OnErr, OnOk}
use Rattle.std.specs.declared.alloc.AllocError.{AllocError}
use Rattle.ph_specs.specs.Table.{find}
use Rattle.ph_specs.specs.Node.{PlainNode}
use Rattle.ph_model.specs.PutTree.{find_tree, put_tree}
use Rattle.ph_model.specs.DelTree.{del_tree}
use Rattle.ph_specs.specs.WorkSets.{path}
use Rattle.ph_table.specs.Rows.{put_answer}
use Rattle.ph_table.specs.declared.table.Put.{Put}
use Rattle.ph_tree.specs.declared.error.PutError.{PutError}
use Rattle.ph_tree.specs.declared.error.PutError.TheVariants.{Full}
use Rattle.ph_tree.specs.Key.{Key}
use Rattle.ph_tree.specs.Opened.{opened_in}
use Rattle.ph_tree.specs.Puts.{IsPut, IsPutRow}
use Rattle.ph_tree.specs.Removals.{IsRemoval, IsRemovedRow}
use Rattle.ph_tree.specs.Rooms.{spare_wanted_in}
use Rattle.ph_tree.specs.Tree.{TreeTable, tree_table, with_row, without_row}
use Rattle.ph_tree.proofs.Walks.{on_ok, on_err, not_none}
use Rattle.ph_tree.proofs.Trees.{IsKeyed, found_is, wanted_is, full_when, put_table, opened_twice}
use Rattle.ph_tree.proofs.Fewer.{del_table}

-- what holds of each call that fails holds of one that fails so
failed : {T E P : Type 0} (r : Result T E) (e : E) → IsErrOf r e → OnErr r P → P
failed (Ok x) e is p = absurd cc
failed (Err y) e is p = p

-- a call succeeds where its failure would tell what does not hold
ok_unless : {T E P : Type 0} (r : Result T E) → (P → ⊥) → OnErr r P → IsOk r
ok_unless (Ok x) never p = refl
ok_unless (Err e) never p = absurd (never p)

-- what is made where a value goes is made where one was found
some_made : {E : Type 0} (P : Type 0) (r : Result (Option ℕ) E) (o : Option ℕ) → IfOk r (λ a. a ≡ o) → IfOk r (λ a. IsSome a → P) → IsSome o → OnOk r P
some_made P (Ok a) o is made some = made (subst IsSome (sym is) some)
some_made P (Err e) o is made some = tt

module _ {dims w max len : ℕ} {t : Option PlainNode} {s : TreeTable} {p : List ℤ} {key : Key} (k : IsKeyed dims w max len t s p key) where
  put_row : {v before later : ℕ} {u : Option PlainNode} {r : Result Put PutError} → v < 2 ^ 64 →
      IsPut false (ltb len max) (find_tree key.width dims t key.point) t (put_tree key.width dims t key.point v) u before later r →
      IsPutRow s.table s.max p s (with_row s p v) (tree_table dims w u max) before later r
  put_row {r = r} small put = record {
    put = on_ok r (λ made. put_table k small made) (put.put refl);
    answer = subst (λ o. IfOk r (λ a. a ≡ put_answer o)) (found_is k) put.answer;
    err = on_err r (λ same. ap (λ x. tree_table dims w x max) same ∙ k.seen) put.err;
    full = full_when k (λ is. failed r Full is put.absent) put.full put.refused;
    present = λ some. ok_unless r (λ none. not_none (find s.table p) (sym (found_is k) ∙ none) some) put.absent;
    changes = put.changes;
    spared = put.spared;
    kept = put.kept;
    made = put.made;
    replaced = λ some. put.replaced refl (subst IsSome (sym (found_is k)) some);
  }

  -- the same with what it visits
  pub put_told : {v before later : ℕ} {u : Option PlainNode} {r : Result Put PutError} → v < 2 ^ 64 →
      IsPut false (ltb len max) (find_tree key.width dims t key.point) t (put_tree key.width dims t key.point v) u before later r →
      (first seen : ℕ) → seen ≤ first + (2 * opened_in key.width t key.point - 1) →
      IsPutRow s.table s.max p s (with_row s p v) (tree_table dims w u max) before later r × ((seen ≤ first + (2 * length (path s.width dims s.table p) - 1))
      × (seen ≤ first + 2 * s.width))
  put_told small put first seen few = (put_row small put, opened_twice k first seen few)

  pub del_row : {before later : ℕ} {u : Option PlainNode} {r : Result (Option ℕ) AllocError} →
      IsRemoval (find_tree key.width dims t key.point) t (del_tree key.width dims t key.point) u before later r →
      (spare_wanted_in key.width dims t key.point ≡ 0 → IsOk r) →
      IsRemovedRow s.width dims s.table p s (without_row s p) (tree_table dims w u max) before later r
  del_row {r = r} gone lean =
      let answer : IfOk r (λ a. a ≡ find s.table p) = subst (λ o. IfOk r (λ a. a ≡ o)) (found_is k) gone.answer in
      record {
        del = on_ok r (λ made. del_table k made) gone.del;
        answer = answer;
        err = on_err r (λ same. ap (λ x. tree_table dims w x max) same ∙ k.seen) gone.err;
        absent = λ none. gone.absent (found_is k ∙ none);
        lean = λ none. lean (wanted_is k ∙ none);
        changes = gone.changes;
        idle = λ none. gone.idle (found_is k ∙ none);
        spared = gone.spared;
        kept = gone.kept;
        made = some_made _ r (find s.table p) answer gone.made;
      }
