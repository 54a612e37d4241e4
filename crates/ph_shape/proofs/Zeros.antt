-- Offsets and bodies in front of zeros.
use Rattle.std.proofs.Common.{◌≡◌, ℕ, zero, suc, ◌+◌, ◌-◌, ◌*◌, ◌/◌, ◌%◌, ◌^◌, List, ◌∷◌, ◌++◌, length, map, replicate, take, drop, refl, sym, ◌∙◌, ap, arith}
use Rattle.std.specs.Prelude.{ℤ}
use Rattle.std.proofs.lemmas.List.{length-map, map-append, take-append-drop}
use Rattle.std.proofs.lemmas.Nat.{pow_pos}
use Rattle.ph_specs.specs.Coordinate.{offset}
use Rattle.ph_model.specs.PutTree.{body_above, body_below}
use Rattle.ph_specs.specs.Shape.{digits_below, digits_between}
use Rattle.ph_model.proofs.lemmas.Splits.{below-offsets}
use Rattle.ph_shape.specs.Bodies.{filled}

map-zeros : (f : ℕ → ℕ) (k : ℕ) → f 0 ≡ 0 → map f (replicate k 0) ≡ replicate k 0
map-zeros f zero z = refl
map-zeros f (suc k) z = ap (λ n. n ∷ map f (replicate k 0)) z ∙ ap {B = List ℕ} (λ t. 0 ∷ t) (map-zeros f k z)

map-filled : (f : ℕ → ℕ) (xs : List ℕ) → f 0 ≡ 0 → map f (filled xs) ≡ filled (map f xs)
map-filled f xs z =
    map-append f xs (replicate (16 - length xs) 0)
    ∙ ap (λ t. map f xs ++ t) (map-zeros f (16 - length xs) z)
    ∙ ap (λ n. map f xs ++ replicate (16 - n) 0) (sym (length-map xs f))

below-filled : (place : ℕ) (xs : List ℕ) → body_below place (filled xs) ≡ filled (body_below place xs)
below-filled place xs = map-filled (λ x. x % 2 ^ place) xs (omega (arith, pow_pos place))

above-filled : (low : ℕ) (xs : List ℕ) → body_above low (filled xs) ≡ filled (body_above low xs)
above-filled low xs = map-filled (λ x. x / 2 ^ (low + 1) * 2 ^ (low + 1)) xs (omega (arith, pow_pos (low + 1)))

offsets-filled : (w : ℕ) (p : List ℤ) (os : List ℕ) → take (length p) os ≡ map (offset w) p →
    drop (length p) os ≡ replicate (16 - length p) 0 → os ≡ filled (map (offset w) p)
offsets-filled w p os e f =
    sym (take-append-drop (length p) os) ∙ (λ i. e i ++ f i)
    ∙ ap (λ n. map (offset w) p ++ replicate (16 - n) 0) (sym (length-map p (offset w)))

pub point-body : (w place : ℕ) (p : List ℤ) (os : List ℕ) → take (length p) os ≡ map (offset w) p →
    drop (length p) os ≡ replicate (16 - length p) 0 → body_below place os ≡ filled (digits_below w place p)
point-body w place p os e f =
    ap (body_below place) (offsets-filled w p os e f) ∙ below-filled place (map (offset w) p) ∙ ap filled (sym (below-offsets w place p))

pub child-body : (w place low : ℕ) (p : List ℤ) (body : List ℕ) → body ≡ filled (digits_below w place p) → body_above low body ≡ filled (digits_between w place low p)
child-body w place low p body e = ap (body_above low) e ∙ above-filled low (digits_below w place p)
