-- Elements that are stacked, seen from the last one.
use Rattle.std.specs.Prelude.{◌≡◌, List, [], ◌∷◌, ◌++◌, Option, Some, None}

-- the elements of a list that grows at its end, the last one first
abbrev pub top_first : {X : Type 0} → List (Option X) → List X
top_first [] = []
top_first (None ∷ xs) = top_first xs
top_first (Some x ∷ xs) = top_first xs ++ x ∷ []

-- no place is empty
abbrev pub AllThere : {X : Type 0} → List (Option X) → Type 0
AllThere [] = Unit {0}
AllThere (None ∷ xs) = ⊥
AllThere (Some x ∷ xs) = AllThere xs

-- all elements, where the last one stands apart
abbrev pub last_first : {X : Type 0} → Option X → List (Option X) → List X
last_first None xs = top_first xs
last_first (Some x) xs = x ∷ top_first xs

-- without a last one there is none
abbrev pub AreStacked : {X : Type 0} → Option X → List (Option X) → Type 0
AreStacked None xs = xs ≡ []
AreStacked (Some x) xs = AllThere xs
