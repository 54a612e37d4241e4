-- Distances of points by their offsets.
use Rattle.std.proofs.Common.{◌≡◌, ℕ, ◌+◌, ◌*◌, ◌-◌, ◌^◌, ◌<◌, ◌≤◌, List, [], ◌∷◌, length, map, refl, sym, ◌∙◌, ap, arith}
use Rattle.std.specs.Int.{abs_diff}
use Rattle.std.specs.List.{AllByRecursion as Each}
use Rattle.std.proofs.Math.Nat.{mul-le-mul}
use Rattle.ph_specs.specs.Coordinate.{coordinate}
use Rattle.ph_specs.specs.Distance.{squared_gap, distance}
use Rattle.ph_model.proofs.laws.Offsets.{coordinate-apart}
use Rattle.ph_node.specs.Apart.{squares_apart, greatest_square}

pub apart-distance : (w : ℕ) (xs ys : List ℕ) → squares_apart xs ys ≡ distance (map (coordinate w) xs) (map (coordinate w) ys)
apart-distance w [] ys = refl
apart-distance w (x ∷ xs) [] = refl
apart-distance w (x ∷ xs) (y ∷ ys) =
    ap (λ n. n * n + squares_apart xs ys) (sym (coordinate-apart w x y)) ∙ ap (λ n. squared_gap (coordinate w x) (coordinate w y) + n) (apart-distance w xs ys)

small-square : (x y : ℕ) → x < 2 ^ 62 → y < 2 ^ 62 → abs_diff x y * abs_diff x y ≤ greatest_square
small-square x y h k = let l : abs_diff x y ≤ 2 ^ 62 - 1 = omega (arith, h, k) in mul-le-mul l l

pub apart-small : (xs ys : List ℕ) → Each (λ x. x < 2 ^ 62) xs → Each (λ y. y < 2 ^ 62) ys → squares_apart xs ys ≤ length xs * greatest_square
apart-small [] ys h k = omega arith
apart-small (x ∷ xs) [] h k = omega arith
apart-small (x ∷ xs) (y ∷ ys) h k =
    let s : abs_diff x y * abs_diff x y ≤ greatest_square = small-square x y h.0 k.0 in
    let r : squares_apart xs ys ≤ length xs * greatest_square = apart-small xs ys h.1 k.1 in
    let m : length (x ∷ xs) * greatest_square ≡ greatest_square + length xs * greatest_square = omega arith in
    omega (arith, s, r, m)
