-- The place at which two lists of numbers are split is the greatest at which they differ.
use Rattle.std.proofs.Common.{◌≡◌, ℕ, ◌+◌, ◌<◌, ◌≤◌, sym, ◌∙◌, subst, arith, List, inl, inr}
use Rattle.std.proofs.lemmas.Bool.{cases_lt}
use Rattle.std.specs.Prelude.{ℤ}
use Rattle.ph_specs.specs.ZOrder.{address}
use Rattle.ph_specs.specs.Shape.{digits_below, digits_between}
use Rattle.ph_model.specs.Lawful.{HasZerosFrom}
use Rattle.ph_model.specs.PutTree.{digits_from, split_place, body_address, body_below}
use Rattle.ph_model.proofs.lemmas.Joined.{offsets, from_place, same_from}
use Rattle.ph_model.proofs.lemmas.Assembled.{between}
use Rattle.ph_model.proofs.lemmas.PointDigits.{address-is}
use Rattle.ph_model.proofs.lemmas.Splits.{Differ, split-differ, split-unique, below-offsets, body_address-is, below-below, from-between, zeros-same}
use Rattle.ph_model.proofs.lemmas.Shaped.{zeros-between, between-between}

-- a place above which two lists agree, and from which on they do not
pub split_place-is : (level place : ℕ) (xs ys : List ℕ) → place < level →
    digits_from (place + 1) xs ≡ digits_from (place + 1) ys → (digits_from place xs ≡ digits_from place ys → ⊥) →
    split_place level xs ys ≡ place
split_place-is level place xs ys l e n = split-unique level place xs ys (record { lower = l; agree = e; differ = n })

-- lists that agree from a level on and are not the same have such a place
pub split_place-has : (level : ℕ) (xs ys : List ℕ) → digits_from level xs ≡ digits_from level ys → (xs ≡ ys → ⊥) →
    (split_place level xs ys < level) ×
    (digits_from (split_place level xs ys + 1) xs ≡ digits_from (split_place level xs ys + 1) ys) ×
    (digits_from (split_place level xs ys) xs ≡ digits_from (split_place level xs ys) ys → ⊥)
split_place-has level xs ys e n =
    let d : Differ level (split_place level xs ys) xs ys = split-differ level xs ys e n in (d.lower, d.agree, d.differ)

-- the digits of a body that is below the level of a point: its address at a lower place, and what is below that place
pub address-of-body : (w level place : ℕ) (p : List ℤ) → place < level → body_address place (digits_below w level p) ≡ address w p place
address-of-body w level place p l =
    subst (λ t. body_address place t ≡ address w p place) (sym (below-offsets w level p)) (body_address-is 0 level place (offsets w p) l ∙ sym (address-is w place p))

pub below-of-body : (w level place : ℕ) (p : List ℤ) → place ≤ level → body_below place (digits_below w level p) ≡ digits_below w place p
below-of-body w level place p l =
    subst (λ t. body_below place t ≡ digits_below w place p) (sym (below-offsets w level p)) (below-below level place (offsets w p) l ∙ sym (below-offsets w place p))

-- a child's body can be compared with all digits of the point below the level
pub split_place-whole : (w level below : ℕ) (body : List ℕ) (p : List ℤ) → below < level → HasZerosFrom below body →
    digits_from level body ≡ digits_from level (digits_below w level p) →
    (body ≡ digits_between w level below p → ⊥) → split_place level body (digits_between w level below p) ≡
    split_place level body (digits_below w level p)
split_place-whole w level below body p l z e n =
    let k : ℕ = split_place level body (digits_between w level below p) in
    let d : Differ level (split_place level body (digits_between w level below p)) body
    (digits_between w level below p) = split-differ level body (digits_between w level below p)
    (e ∙ sym (same level (omega (arith, l)))) n in
    let g : below + 1 ≤ split_place level body (digits_between w level below p) = elim (cases_lt k (below + 1)) [
      | inl g ↦ absurd (n (zeros-same below body (digits_between w level below p) z
          (subst (HasZerosFrom below) (sym (between-between w level below p))
          (zeros-between level below (offsets w p)))
          (same_from (k + 1) (below + 1) body (digits_between w level below p) (omega (arith, g)) d.agree)))
      | inr g ↦ g
    ] in
    sym (split-unique level k body (digits_below w level p) (record {
      lower = d.lower;
      agree = d.agree ∙ same (k + 1) (omega (arith, g));
      differ = λ s. d.differ (s ∙ sym (same k g));
    }))
  where
    same : (j : ℕ) → below + 1 ≤ j → from_place j (digits_between w level below p) ≡ from_place j (digits_below w level p)
    same j l =
        subst (λ t. from_place j t ≡ from_place j (digits_below w level p)) (sym (between-between w level below p))
        (subst (λ t. from_place j (between level (below + 1) (offsets w p)) ≡ from_place j t)
        (sym (below-offsets w level p)) (from-between level (below + 1) j (offsets w p) l))
