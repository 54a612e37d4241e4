-- The two entries of a child that splits an entry rise.
use Rattle.std.proofs.Common.{◌≡◌, ◌≢◌, ℕ, ◌<◌, List, [], ◌∷◌, length, take, refl, ap, sym, ◌∙◌, subst, arith, true, false, lt-ltb, le-ltb, inl, inr}
use Rattle.std.specs.Prelude.{Option, Some, nat_lt, if◌then◌else◌}
use Rattle.ph_digits.proofs.Cuts.{is_body-below, address-below}
use Rattle.ph_model.specs.Layout.{AreRising}
use Rattle.ph_model.specs.PutTree.{body_address}
use Rattle.ph_linear.proofs.Entries.{split}
use Rattle.ph_node.specs.OneEdit.{held_by}
use Rattle.ph_node.specs.Pairs.{below_flat, in_order, pair_flats, flats_in_pair, written_flat}
use Rattle.ph_node.specs.declared.pairs.Written.{Written}
use Rattle.ph_node.specs.declared.olds.OldEntry.{OldEntry}

-- a pair in order, by its entries
at-dims : (n d place : ℕ) (w : Written) (body : List ℕ) (o : Option ℕ) → n ≡ d →
    written_flat n w ≡ below_flat place (take n body) o → written_flat d w ≡ below_flat place (take d body) o
at-dims n d place w body o e h = subst (λ m. written_flat m w ≡ below_flat place (take m body) o) e h

pub pair_is : (d n m place : ℕ) (first second a b : Written) (old : OldEntry) (body : List ℕ) (v : ℕ) → n ≡ d → m ≡ d
    → written_flat n a ≡ below_flat place (take n old.body) (held_by old) →
    written_flat m b ≡ below_flat place (take m body) (Some v) →
    flats_in_pair d first second ≡ in_order (written_flat d a) (written_flat d b)
    → flats_in_pair d first second ≡ pair_flats d place old body v
pair_is d n m place first second a b old body v e f g h q =
    q
    ∙ ap (λ x. in_order x (written_flat d b)) (at-dims n d place a old.body (held_by old) e g)
    ∙ ap (λ x. in_order (below_flat place (take d old.body) (held_by old)) x) (at-dims m d place b body (Some v) f h)

rising-pair : (d place : ℕ) (xs ys : List ℕ) (o u : Option ℕ) → length xs ≡ d → length ys ≡ d →
    body_address place xs < body_address place ys → AreRising d place 0 (below_flat place xs o ∷ below_flat place ys u ∷ [])
rising-pair d place xs ys o u l m h =
    (omega arith, address-below d place xs l, is_body-below d place xs l, (omega (arith, h), address-below d place ys m, is_body-below d place ys m, tt))

pub rising-order : (d place : ℕ) (xs ys : List ℕ) (o u : Option ℕ) → length xs ≡ d → length ys ≡ d →
    body_address place xs ≢ body_address place ys → AreRising d place 0 (in_order (below_flat place xs o) (below_flat place ys u))
rising-order d place xs ys o u l m n =
    elim (split (body_address place ys) (body_address place xs)) [
      | inl h ↦ subst (λ b. AreRising d place 0
          (if b then below_flat place ys u ∷ below_flat place xs o ∷ [] else below_flat place xs o ∷
          below_flat place ys u ∷ [])) (sym (lt-ltb _ _ h)) (rising-pair d place ys xs u o m l h)
      | inr h ↦ subst (λ b. AreRising d place 0
          (if b then below_flat place ys u ∷ below_flat place xs o ∷ [] else below_flat place xs o ∷
          below_flat place ys u ∷ [])) (sym (le-ltb _ _ h)) (rising-pair d place xs ys o u l m (omega (arith, h, n)))
    ]

pub length-order : (place : ℕ) (xs ys : List ℕ) (o u : Option ℕ) → length (in_order (below_flat place xs o) (below_flat place ys u)) ≡ 2
length-order place xs ys o u =
    elim (nat_lt (body_address place ys) (body_address place xs))
    as (λ b. length (if b then below_flat place ys u ∷ below_flat place xs o ∷ [] else below_flat place xs o ∷
    below_flat place ys u ∷ []) ≡ 2) [ true ↦ refl | false ↦ refl ]
