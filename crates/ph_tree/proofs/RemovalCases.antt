-- A removal by other names, and as it is seen from the node above.
use Rattle.std.proofs.Common.{◌≡◌, ℕ, ◌∙◌, Option, Result, None, Ok, ap, sym, subst, refl, arith}
use Rattle.std.specs.declared.alloc.AllocError.{AllocError}
use Rattle.ph_tree.specs.Removals.{IsRemoval}
use Rattle.ph_tree.proofs.Walks.{on_ok, on_err}

module _ {T : Type 0} {was after now : T} {before later : ℕ} {result : Result (Option ℕ) AllocError} where
  -- the same by what else was found, and by another name of the tree without the point
  pub removal_as : {found same : Option ℕ} {other : T} → found ≡ same → after ≡ other →
      IsRemoval found was after now before later result → IsRemoval same was other now before later result
  removal_as {found = found} {other = other} e d r =
      subst (λ f. IsRemoval f was other now before later result) e (subst (λ a. IsRemoval found was a now before later result) d r)

  -- the removal below a node, as one of the node
  pub lifted : {U : Type 0} {below found : Option ℕ} {was_u after_u : U} (over : T → U) → below ≡ found →
      over was ≡ was_u → over after ≡ after_u → IsRemoval below was after now before later result →
      IsRemoval found was_u after_u (over now) before later result
  lifted {was_u = was_u} {after_u = after_u} over same back gone r = subst (λ f. IsRemoval f was_u after_u (over now) before later result) same (record {
    answer = r.answer;
    del = on_ok result (λ q. ap over q ∙ gone) r.del;
    err = on_err result (λ q. ap over q ∙ back) r.err;
    absent = r.absent;
    changes = r.changes;
    idle = r.idle;
    spared = r.spared;
    kept = r.kept;
    made = r.made;
  })

-- no point is found, and nothing changes
pub unfound : {T : Type 0} {was after : T} {found : Option ℕ} {changes : ℕ} → found ≡ None → was ≡ after →
    IsRemoval found was after was changes changes (Ok None)
unfound none same = record {
  answer = sym none;
  del = same;
  err = tt;
  absent = λ _. refl;
  changes = omega arith;
  idle = λ _. refl;
  spared = tt;
  kept = omega arith;
  made = λ some. absurd cc;
}
