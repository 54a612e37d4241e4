-- Sums of squares, number by number.
use Rattle.std.proofs.Common.{◌≡◌, ℕ, suc, ◌+◌, ◌*◌, ◌<◌, ◌≤◌, sym, ◌∙◌, ap, arith, List, ◌∷◌, length, drop, get_or}
use Rattle.std.specs.Int.{abs_diff}
use Rattle.std.proofs.lemmas.List.{drop_more, drop_all}
use Rattle.ph_bits.specs.Apart.{squares_apart}

-- one number, and those behind it
pub apart-first : (i n s : ℕ) (xs ys : List ℕ) → i < length xs → i < length ys → n ≡ get_or xs i 0 → s ≡ abs_diff n (get_or ys i 0) * abs_diff n (get_or ys i 0)
    → squares_apart (drop i xs) (drop i ys) ≡ s + squares_apart (drop (i + 1) xs) (drop (i + 1) ys)
apart-first i n s xs ys l k e f =
    ap (λ ps. squares_apart ps (drop i ys)) (drop_more xs i 0 l)
    ∙ ap (λ qs. squares_apart (get_or xs i 0 ∷ drop (i + 1) xs) qs) (drop_more ys i 0 k)
    ∙ ap (λ x. abs_diff x (get_or ys i 0) * abs_diff x (get_or ys i 0) + squares_apart (drop (i + 1) xs) (drop (i + 1) ys)) (sym e)
    ∙ ap (λ t. t + squares_apart (drop (i + 1) xs) (drop (i + 1) ys)) (sym f)

-- a sum has room for so many squares more
pub room-on : (sum n k j m : ℕ) → k ≡ suc j → n ≤ m → sum + k * m ≤ 16 * m → sum + n + j * m ≤ 16 * m
room-on sum n k j m e l h =
    let p : k * m ≡ m + j * m = ap (λ x. x * m) e ∙ omega arith in
    omega (arith, h, p, l)

-- nothing is left to add
pub apart-done : (i sum n : ℕ) (xs ys : List ℕ) → length xs ≤ i → sum + squares_apart (drop i xs) (drop i ys) ≡ n → sum ≡ n
apart-done i sum n xs ys l e = let z : squares_apart (drop i xs) (drop i ys) ≡ 0 = ap (λ ps. squares_apart ps (drop i ys)) (drop_all i xs l) in omega (arith, e, z)
