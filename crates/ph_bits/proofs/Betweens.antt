-- Numbers between bounds, number by number.
use Rattle.std.proofs.Common.{◌≡◌, ℕ, ◌+◌, ◌<◌, sym, ◌∙◌, ap, Bool, ◌&&◌, List, ◌∷◌, length, drop, get_or}
use Rattle.std.specs.Prelude.{nat_le}
use Rattle.std.proofs.lemmas.List.{drop_more}
use Rattle.ph_bits.specs.Between.{each_between}

-- one number, and those behind it
pub between-first : (i n : ℕ) (los his xs : List ℕ) {t : Bool} → i < length los → i < length his → i < length xs →
    n ≡ get_or xs i 0 → t ≡ (nat_le (get_or los i 0) n && nat_le n (get_or his i 0))
    → each_between (drop i los) (drop i his) (drop i xs) ≡ (t && each_between (drop (i + 1) los) (drop (i + 1) his) (drop (i + 1) xs))
between-first i n los his xs l h k e f =
    ap (λ ys. each_between ys (drop i his) (drop i xs)) (drop_more los i 0 l)
    ∙ ap (λ ys. each_between (get_or los i 0 ∷ drop (i + 1) los) ys (drop i xs)) (drop_more his i 0 h)
    ∙ ap (λ ys. each_between (get_or los i 0 ∷ drop (i + 1) los) (get_or his i 0 ∷ drop (i + 1) his) ys) (drop_more xs i 0 k)
    ∙ ap (λ x. (nat_le (get_or los i 0) x && nat_le x (get_or his i 0)) && each_between (drop (i + 1) los) (drop (i + 1) his) (drop (i + 1) xs)) (sym e)
    ∙ ap (λ b. b && each_between (drop (i + 1) los) (drop (i + 1) his) (drop (i + 1) xs)) (sym f)
