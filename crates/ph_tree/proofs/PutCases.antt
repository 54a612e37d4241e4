-- A put of a new point, and a put as it is seen from the node above.
use Rattle.std.proofs.Common.{◌≡◌, ℕ, ◌+◌, ◌≤◌, ◌∙◌, Bool, true, false, Option, None, Result, Ok, refl, ap, sym, subst, arith}
use Rattle.ph_table.specs.declared.table.Put.{Put}
use Rattle.ph_table.specs.declared.table.Put.TheVariants.{New}
use Rattle.ph_tree.specs.declared.error.PutError.{PutError}
use Rattle.ph_tree.specs.Puts.{IsPut}
use Rattle.ph_tree.proofs.Walks.{on_ok, on_err}

module _ {T : Type 0} {was after now : T} {before later : ℕ} where
  -- a new point
  pub added : (fresh room : Bool) → room ≡ true → now ≡ after → before + 1 ≤ later → later ≤ before + 2 → IsPut fresh room None was after now before later (Ok New)
  added fresh room some_room same least most = record {
    answer = refl;
    put = λ _. same;
    joined = λ _. same;
    held = λ _ some. absurd cc;
    err = tt;
    full = λ h. absurd cc;
    absent = tt;
    refused = λ _ none. absurd (let clash : true ≡ false = sym some_room ∙ none in cc);
    changes = most;
    spared = tt;
    kept = omega (arith, least);
    made = λ _. least;
    replaced = λ _ some. absurd cc;
    idle = λ _ some. absurd cc;
  }

module _ {T : Type 0} {fresh room : Bool} {was after now : T} {before later : ℕ} {result : Result Put PutError} where
  -- the same by what else was found, and by another name of the tree with the value
  pub found_as : {found same : Option ℕ} → found ≡ same → IsPut fresh room found was after now before later result →
      IsPut fresh room same was after now before later result
  found_as e p = subst (λ f. IsPut fresh room f was after now before later result) e p

  pub put_as : {found : Option ℕ} {same : T} → after ≡ same →
      IsPut fresh room found was after now before later result → IsPut fresh room found was same now before later result
  put_as {found = found} e p = subst (λ a. IsPut fresh room found was a now before later result) e p

  -- the put below a node, as one of the node
  pub lifted : {U : Type 0} {below found : Option ℕ} {was_u after_u : U} (over : T → U) → below ≡ found →
      over was ≡ was_u → over after ≡ after_u → IsPut fresh room below was after now before later result →
      IsPut fresh room found was_u after_u (over now) before later result
  lifted {was_u = was_u} {after_u = after_u} over same back put p = subst (λ f. IsPut fresh room f was_u after_u (over now) before later result) same (record {
    answer = p.answer;
    put = λ h. on_ok result (λ q. ap over q ∙ put) (p.put h);
    joined = λ h. on_ok result (λ q. ap over q ∙ put) (p.joined h);
    held = λ h some. ap over (p.held h some) ∙ back;
    err = on_err result (λ q. ap over q ∙ back) p.err;
    full = p.full;
    absent = p.absent;
    refused = p.refused;
    changes = p.changes;
    spared = p.spared;
    kept = p.kept;
    made = p.made;
    replaced = p.replaced;
    idle = p.idle;
  })
