-- Arrays with zeros behind the fields of a body.
use Rattle.std.proofs.Common.{◌≡◌, ℕ, zero, suc, ◌+◌, ◌-◌, ◌*◌, ◌/◌, ◌%◌, ◌^◌, List, ◌∷◌, ◌++◌, length, take, drop, map, refl, arith, ap, sym, ◌∙◌, replicate}
use Rattle.std.specs.List.{take-map}
use Rattle.std.proofs.lemmas.List.{map-append, take-append-drop, drop-map, drop_at}
use Rattle.ph_model.specs.PutTree.{body_below, body_above}
use Rattle.ph_bits.specs.Packed.{IsPadded}
use Rattle.ph_node.specs.Bodies.{IsFilled}

-- ---- arrays

map-zeros : (f : ℕ → ℕ) (n : ℕ) → f 0 ≡ 0 → map f (replicate n 0) ≡ replicate n 0
map-zeros f zero z = refl
map-zeros f (suc n) z = ap (λ k. k ∷ map f (replicate n 0)) z ∙ ap {B = List ℕ} (λ u. 0 ∷ u) (map-zeros f n z)

filled-map : (f : ℕ → ℕ) (dims : ℕ) (body : List ℕ) → f 0 ≡ 0 → IsFilled dims body → IsFilled dims (map f body)
filled-map f dims body z h =
    ap {B = List ℕ} (λ u. map f u) h ∙ map-append f (take dims body) (replicate (16 - dims) 0)
    ∙ ap (λ u. map f (take dims body) ++ u) (map-zeros f (16 - dims) z)
    ∙ ap (λ u. u ++ replicate (16 - dims) 0) (sym (take-map f dims body))

no_digit-below : (place : ℕ) → 0 % 2 ^ place ≡ 0
no_digit-below place = grind arith

pub filled-below : (dims place : ℕ) (body : List ℕ) → IsFilled dims body → IsFilled dims (body_below place body)
filled-below dims place body h = filled-map (λ x. x % 2 ^ place) dims body (no_digit-below place) h

-- ---- zeros behind the fields

padded-map : (f : ℕ → ℕ) (dims : ℕ) (body : List ℕ) → f 0 ≡ 0 → IsPadded dims body → IsPadded dims (map f body)
padded-map f dims body z h = drop-map f dims body ∙ ap (λ u. map f u) h ∙ map-zeros f (16 - dims) z

pub padded-below : (dims place : ℕ) (body : List ℕ) → IsPadded dims body → IsPadded dims (body_below place body)
padded-below dims place body h = padded-map (λ x. x % 2 ^ place) dims body (no_digit-below place) h

no_digit-above : (place : ℕ) → 0 / 2 ^ (place + 1) * 2 ^ (place + 1) ≡ 0
no_digit-above place = grind arith

pub padded-above : (dims place : ℕ) (body : List ℕ) → IsPadded dims body → IsPadded dims (body_above place body)
padded-above dims place body h = padded-map (λ x. x / 2 ^ (place + 1) * 2 ^ (place + 1)) dims body (no_digit-above place) h

pub padded-filled : (dims : ℕ) (body : List ℕ) → length (take dims body) ≡ dims → IsFilled dims body → IsPadded dims body
padded-filled dims body many h = ap (λ u. drop dims u) h ∙ drop_at (take dims body) (replicate (16 - dims) 0) dims many

-- zeros behind, of a list that is cut there
pub filled-behind : (dims : ℕ) (body : List ℕ) → drop dims body ≡ replicate (16 - dims) 0 → IsFilled dims body
filled-behind dims body h = sym (take-append-drop dims body) ∙ ap (λ u. take dims body ++ u) h
