-- A coordinate that no width has, and the coordinates of a point.
use Rattle.std.proofs.Common.{◌≡◌, ◌∙◌, ℕ, zero, suc, ◌<◌, true, List, [], ◌∷◌, length, take, get_or, ap, arith}
use Rattle.std.specs.Array.{IsFirstChunk}
use Rattle.std.specs.List.{list_all}
use Rattle.std.proofs.lemmas.Bool.{and_parts}
use Rattle.ph_specs.proofs.laws.Ranked.{take-all}
use Rattle.ph_specs.specs.Coordinate.{fits}
use Rattle.ph_script.specs.declared.coords.Coord.{Coord}
use Rattle.ph_script.specs.Meaning.{number_of_coord, numbers_of}

-- each of the coordinates that are in a width
pub fits-at : (w : ℕ) (coords : List Coord) (i : ℕ) (d : Coord) → list_all (fits w) (numbers_of coords) ≡ true →
    i < length coords → fits w (number_of_coord (get_or coords i d)) ≡ true
fits-at w [] i d f h = absurd (omega arith)
fits-at w (c ∷ coords) zero d f h = (and_parts _ _ f).0
fits-at w (c ∷ coords) (suc i) d f h = fits-at w coords i d (and_parts _ _ f).1 (omega arith)

-- the first elements of a list that has no more
pub first-whole : {A : Type 0} (xs ys zs : List A) (n : ℕ) → IsFirstChunk xs ys n → xs ≡ zs → length zs ≡ n → ys ≡ zs
first-whole xs ys zs n first same long = first.same ∙ ap (λ l. take n l) same ∙ take-all n zs (omega (arith, long))
