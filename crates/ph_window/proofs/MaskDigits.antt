-- The masks do not see the digits below a level.
use Rattle.std.proofs.Common.{◌≡◌, ℕ, ◌+◌, ◌-◌, ◌*◌, ◌/◌, ◌^◌, List, [], ◌∷◌, refl, ◌∙◌, ap, ◌&&◌}
use Rattle.std.specs.Prelude.{Option, Some, None, nat_le, if◌then◌else◌}
use Rattle.std.proofs.lemmas.Nat.{pow_pos}
use Rattle.ph_model.specs.PutTree.{body_above}
use Rattle.ph_zorder.specs.Sides.{start_of, meets_side, meets_sides, half_digit, side_mask, side_masks}
use Rattle.ph_path.proofs.Knowns.{block-whole}

start-above : (b x : ℕ) → start_of b (start_of b x) ≡ start_of b x
start-above b x = ap (λ q. q * 2 ^ (b + 1)) (block-whole (x / 2 ^ (b + 1)) (2 ^ (b + 1)) (pow_pos (b + 1)))

mask-above : (s b : ℕ) (xs bs : List ℕ) → side_mask s b (body_above b xs) bs ≡ side_mask s b xs bs
mask-above s b [] bs = refl
mask-above s b (x ∷ xs) [] = refl
mask-above s b (x ∷ xs) (y ∷ bs) =
    mask-above (s * 2 + half_digit b (start_of b x) y) b xs bs
    ∙ ap (λ t. side_mask (s * 2 + (if nat_le (t + 2 ^ b) y then 1 else 0)) b xs bs) (start-above b x)

meets-above : (b : ℕ) (xs los his : List ℕ) → meets_sides b (body_above b xs) los his ≡ meets_sides b xs los his
meets-above b [] los his = refl
meets-above b (x ∷ xs) [] his = refl
meets-above b (x ∷ xs) (a ∷ los) [] = refl
meets-above b (x ∷ xs) (a ∷ los) (c ∷ his) =
    ap (λ t. ((nat_le a c && nat_le a (t + (2 ^ (b + 1) - 1))) && nat_le t c) && meets_sides b (body_above b xs) los his) (start-above b x)
    ∙ ap (λ t. meets_side b x a c && t) (meets-above b xs los his)

pub masks-above : (b : ℕ) (xs los his : List ℕ) → side_masks b (body_above b xs) los his ≡ side_masks b xs los his
masks-above b xs los his =
    ap {B = Option (ℕ × ℕ)} (λ t. if t then Some (side_mask 0 b (body_above b xs) los, side_mask 0 b (body_above b xs) his) else None) (meets-above b xs los his)
    ∙ ap {B = Option (ℕ × ℕ)} (λ t. if meets_sides b xs los his then Some (t, side_mask 0 b (body_above b xs) his) else None) (mask-above 0 b xs los)
    ∙ ap {B = Option (ℕ × ℕ)} (λ t. if meets_sides b xs los his then Some (side_mask 0 b xs los, t) else None) (mask-above 0 b xs his)
