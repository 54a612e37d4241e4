-- Coordinates by their offsets are a point.
use Rattle.std.proofs.Common.{◌≡◌, ℕ, ◌≤◌, ◌<◌, ◌^◌, List, [], ◌∷◌, length, map, refl, ap, ◌∙◌, eq-eqb, true, ◌&&◌}
use Rattle.std.specs.List.{list_all, AllByRecursion as Each}
use Rattle.std.proofs.lemmas.List.{length-map}
use Rattle.ph_specs.specs.Coordinate.{coordinate, fits, is_point}
use Rattle.ph_specs.proofs.laws.Coordinates.{coordinate-fits}

all-fit : (w : ℕ) (xs : List ℕ) → 1 ≤ w → Each (λ x. x < 2 ^ w) xs → list_all (fits w) (map (coordinate w) xs) ≡ true
all-fit w [] l h = refl
all-fit w (x ∷ xs) l h =
    ap (λ t. t && list_all (fits w) (map (coordinate w) xs)) (coordinate-fits w x l h.0) ∙ all-fit w xs l h.1

pub point-is : (w dims : ℕ) (xs : List ℕ) → 1 ≤ w → length xs ≡ dims → Each (λ x. x < 2 ^ w) xs → is_point w dims (map (coordinate w) xs) ≡ true
point-is w dims xs l e h =
    ap (λ t. t && list_all (fits w) (map (coordinate w) xs)) (eq-eqb (length (map (coordinate w) xs)) dims (length-map xs (coordinate w) ∙ e)) ∙ all-fit w xs l h
