-- Rows that are listed one after the other.
use Rattle.std.proofs.Common.{◌≡◌, List, [], ◌∷◌, ◌++◌, refl, ap, sym, ◌∙◌}
use Rattle.std.specs.Prelude.{Some, None, slice_get, drop}
use Rattle.std.proofs.lemmas.List.{append_assoc}

-- what is left behind the first
pub next-is : {X : Type 0} (xs new : List X) (x : X) → Some x ≡ slice_get xs 0 → new ≡ drop 1 xs → xs ≡ x ∷ new
next-is [] new x h e = absurd cc
next-is (y ∷ xs) new x h e = let f : y ≡ x = cc in ap (λ z. z ∷ xs) f ∙ ap (λ ys. x ∷ ys) (sym e)

-- nothing is left where there is no first
pub none-left : {X : Type 0} (xs : List X) → None ≡ slice_get xs 0 → xs ≡ []
none-left [] h = refl
none-left (x ∷ xs) h = cc

-- one more of all is listed
pub one-more : {X : Type 0} (all listed xs new : List X) (x : X) → listed ++ xs ≡ all → xs ≡ x ∷ new → (listed ++ x ∷ []) ++ new ≡ all
one-more all listed xs new x h e = append_assoc listed (x ∷ []) new ∙ ap (λ ys. listed ++ ys) (sym e) ∙ h
