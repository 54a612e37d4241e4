-- What is known behind an entry.
use Rattle.std.proofs.Common.{◌≡◌, ℕ, zero, suc, ◌+◌, ◌^◌, ◌<◌, ◌≤◌, sym, ◌∙◌, ap, subst, arith, List, [], ◌∷◌, ◌++◌, length, take, true}
use Rattle.std.specs.List.{AllByRecursion as Each}
use Rattle.ph_specs.specs.TreeRows.{put_together}
use Rattle.ph_model.specs.Lawful.{IsBody, HasZerosFrom}
use Rattle.ph_specs.specs.Load.{has_zeros_from}
use Rattle.ph_model.specs.PutTree.{body_above}
use Rattle.ph_model.proofs.lemmas.Columns.{take-front}
use Rattle.std.specs.Prelude.{◌%◌, ◌==◌}
use Rattle.std.proofs.Common.{eqb-true}
use Rattle.ph_specs.proofs.lemmas.Tests.{and-parts}
use Rattle.ph_model.proofs.laws.WordDigits.{digits-below}
use Rattle.ph_bits.specs.Fields.{digits_row}
use Rattle.ph_digits.proofs.Cuts.{above-zeros}
use Rattle.ph_node.proofs.Merges.{body-joined}
use Rattle.ph_snap.specs.RecordPlaces.{IsJoined}
use Rattle.ph_snap.proofs.Fields.{length-row}

known-zeros : (level : ℕ) (digits : List ℕ) → has_zeros_from level digits ≡ true → HasZerosFrom level digits
known-zeros level [] h = tt
known-zeros level (x ∷ digits) h =
    let b : ((x % 2 ^ (level + 1) == 0) ≡ true) × (has_zeros_from level digits ≡ true) = and-parts (x % 2 ^ (level + 1) == 0) (has_zeros_from level digits) h in
    (eqb-true (x % 2 ^ (level + 1)) 0 b.0, known-zeros level digits b.1)

row-below : (words : List ℕ) (at w n : ℕ) → Each (λ x. x < 2 ^ w) (digits_row words at w n)
row-below words at w zero = tt
row-below words at w (suc n) = (digits-below words at w, row-below words (at + w) w n)

pub is_body-row : (words : List ℕ) (at w n : ℕ) → IsBody n w (digits_row words at w n)
is_body-row words at w n = (length-row words at w n, row-below words at w n)

pub joined-is : (dims level a at n : ℕ) (words above old new others : List ℕ) → level ≤ 61 → n ≡ dims → old ≡ above →
    IsBody dims 62 old → has_zeros_from level above ≡ true →
    new ≡ put_together level a (body_above level old) (digits_row words at level n) →
    IsJoined dims level a above (digits_row words at level dims) (new ++ others)
joined-is dims level a at n words above old new others l m e b c h =
    let row : List ℕ = digits_row words at level dims in
    let z : HasZerosFrom level above = known-zeros level above c in
    let k : IsBody dims 62 above = subst (IsBody dims 62) e b in
    let j : IsBody dims 62 (put_together level a above (digits_row words at level dims)) =
    body-joined dims 62 level a above row (omega arith) z k (is_body-row words at level dims) in
    let q : new ≡ put_together level a above (digits_row words at level dims) =
    h ∙ ap (λ t. put_together level a (body_above level t) (digits_row words at level n)) e ∙
    ap (λ t. put_together level a (body_above level above) (digits_row words at level t)) m ∙
    ap (λ t. put_together level a t row) (sym (above-zeros level above z)) in
    let t : take dims (new ++ others) ≡ put_together level a above (digits_row words at level dims) = take-front dims new others (ap length q ∙ j.0) ∙ q in
    record { known = t; body = subst (IsBody dims 62) (sym t) j }
