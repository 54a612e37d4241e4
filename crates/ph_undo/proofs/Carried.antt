-- What an edit of a tree promises, carried over to the tree with its past: only the three states are others.
use Rattle.std.proofs.Common.{◌≡◌, ℕ, List, subst}
use Rattle.std.specs.Prelude.{ℤ, Option, Result, OnOk, OnErr}
use Rattle.std.specs.declared.alloc.AllocError.{AllocError}
use Rattle.ph_specs.specs.Past.{Past, put_kept, del_kept, move_kept}
use Rattle.ph_table.specs.declared.table.Put.{Put}
use Rattle.ph_tree.specs.Moves.{IsMoved}
use Rattle.ph_tree.specs.Puts.{IsPutRow}
use Rattle.ph_tree.specs.Removals.{IsRemovedRow}
use Rattle.ph_tree.specs.declared.error.PutError.{PutError}
use Rattle.ph_tree.specs.declared.moves.Moved.{Moved}

module _ {A : Type 0} {was after now : A} {kept seen : Past} {before later : ℕ} (see : kept ≡ seen) (left : Past) where
  pub put-carried : (p : List ℤ) (v : ℕ) (result : Result Put PutError) → IsPutRow kept.table kept.max p was after now before later result
      → OnOk result (left ≡ put_kept kept p v) → OnErr result (left ≡ kept) → IsPutRow seen.table seen.max p seen (put_kept seen p v) left before later result
  put-carried p v result h put err =
      let carried : IsPutRow kept.table kept.max p kept (put_kept kept p v) left before later result = record {
        put = put;
        answer = h.answer;
        err = err;
        full = h.full;
        present = h.present;
        changes = h.changes;
        spared = h.spared;
        kept = h.kept;
        made = h.made;
        replaced = h.replaced;
      } in
      subst (λ k. IsPutRow k.table k.max p k (put_kept k p v) left before later result) see carried

  pub del-carried : (dims : ℕ) (p : List ℤ) (result : Result (Option ℕ) AllocError) → IsRemovedRow kept.width dims kept.table p was after now before later result
      → OnOk result (left ≡ del_kept kept p) → OnErr result (left ≡ kept) → IsRemovedRow seen.width dims seen.table p seen (del_kept seen p) left before later result
  del-carried dims p result h del err =
      let carried : IsRemovedRow kept.width dims kept.table p kept (del_kept kept p) left before later result = record {
        del = del;
        answer = h.answer;
        err = err;
        absent = h.absent;
        lean = h.lean;
        changes = h.changes;
        idle = h.idle;
        spared = h.spared;
        kept = h.kept;
        made = h.made;
      } in
      subst (λ k. IsRemovedRow k.width dims k.table p k (del_kept k p) left before later result) see carried

  pub move-carried : (from to : List ℤ) (result : Result Moved AllocError) → IsMoved kept.table from to was after now before later result
      → OnOk result (left ≡ move_kept kept from to) → OnErr result (left ≡ kept)
      → IsMoved seen.table from to seen (move_kept seen from to) left before later result
  move-carried from to result h moved err =
      let carried : IsMoved kept.table from to kept (move_kept kept from to) left before later result = record {
        moved = moved;
        answer = h.answer;
        err = err;
        absent = h.absent;
        taken = h.taken;
        changes = h.changes;
        spared = h.spared;
        idle = h.idle;
        held = h.held;
        kept = h.kept;
        made = h.made;
      } in
      subst (λ k. IsMoved k.table from to k (move_kept k from to) left before later result) see carried
