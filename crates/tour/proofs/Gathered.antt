-- Rows that are gathered one by one.
use Rattle.std.proofs.Common.{◌≡◌, List, [], ◌∷◌, ◌++◌, drop, refl, ap, sym, ◌∙◌, append_assoc}
use Rattle.std.specs.Prelude.{Some, None, slice_get}
use Rattle.std.proofs.lemmas.List.{append-nil}

-- nothing is left where there is no next one
pub none_left : {X : Type 0} (left : List X) → None ≡ slice_get left 0 → left ≡ []
none_left [] e = refl
none_left (y ∷ ys) e = cc

-- the next one, with what is left behind it
pub next_is : {X : Type 0} (left rest : List X) (x : X) → Some x ≡ slice_get left 0 → rest ≡ drop 1 left → left ≡ x ∷ rest
next_is [] rest x e r = absurd cc
next_is (y ∷ ys) rest x e r = let f : y ≡ x = cc in ap (λ z. z ∷ ys) f ∙ ap (λ zs. x ∷ zs) (sym r)

-- what was gathered and what is left stay the same rows where the next one is gathered
pub next_gathered : {X : Type 0} (gathered left rest : List X) (x : X) → Some x ≡ slice_get left 0 → rest ≡ drop 1 left → (gathered ++ x ∷ []) ++ rest ≡ gathered ++ left
next_gathered gathered left rest x e r =
    append_assoc gathered (x ∷ []) rest ∙ ap (λ zs. gathered ++ zs) (sym (next_is left rest x e r))

-- all rows are gathered where none is left
pub all_gathered : {X : Type 0} (gathered left : List X) → None ≡ slice_get left 0 → gathered ++ left ≡ gathered
all_gathered gathered left e = ap (λ zs. gathered ++ zs) (none_left left e) ∙ append-nil gathered
