-- Images of lists with an element more in their midst.
use Rattle.std.proofs.Common.{◌≡◌, ℕ, List, ◌∷◌, map, take, drop, refl, ◌∙◌}
use Rattle.std.specs.List.{insert}
use Rattle.std.proofs.lemmas.List.{take-map, drop-map, map-append}

pub map-insert : {X Y : Type 0} (f : X → Y) (xs : List X) (i : ℕ) (x : X) → map f (insert xs i x) ≡ insert (map f xs) i (f x)
map-insert f xs i x = map-append f (take i xs) (x ∷ drop i xs) ∙ rw (take-map, drop-map) refl
