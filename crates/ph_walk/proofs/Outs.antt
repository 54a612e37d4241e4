-- Entries that hold nothing of a set, one stretch after the other.
use Rattle.std.proofs.Common.{◌≡◌, ℕ, ◌+◌, List, sym, ◌∙◌, subst, arith, inl, inr}
use Rattle.std.specs.Prelude.{Option, Some, slice_get}
use Rattle.std.proofs.lemmas.Bool.{cases_lt}
use Rattle.ph_specs.specs.TreeRows.{put_together}
use Rattle.ph_model.specs.EntryList.{Entry}
use Rattle.ph_walk.specs.Area.{Area, HoldsNone, AreOut}

-- the entry at a place
pub at-one : (es : List Entry) (i : ℕ) (x : Entry) → slice_get es i ≡ Some x → (P : Entry → Type 0) → P x → (y : Entry) → slice_get es i ≡ Some y → P y
at-one es i x at P h y g =
    let o : ◌≡◌ {A = Option Entry} (Some x) (Some y) = sym at ∙ g in
    let same : x ≡ y = cc in
    subst P same h

module _ (a : Area) (level : ℕ) (above : List ℕ) (es : List Entry) where
  pub out-then : (p q i : ℕ) → AreOut a level above es p q → AreOut a level above es q i → AreOut a level above es p i
  out-then p q i h k j x r s g = elim (cases_lt j q) [ inl y ↦ h j x r y g | inr y ↦ k j x y s g ]

  pub out-one : (i : ℕ) (x : Entry) → slice_get es i ≡ Some x → HoldsNone a level (put_together level x.addr above x.body) x.what → AreOut a level above es i (i + 1)
  out-one i x at h j y r s g =
      let e : j ≡ i = omega (arith, r, s) in
      at-one es i x at (λ y. HoldsNone a level (put_together level y.addr above y.body) y.what) h y (subst (λ j. slice_get es j ≡ Some y) e g)
