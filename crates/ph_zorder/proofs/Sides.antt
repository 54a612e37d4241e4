-- The masks by offsets are the masks of the definition.
use Rattle.std.proofs.Common.{◌≡◌, ℕ, ◌+◌, ◌-◌, ◌*◌, ◌^◌, ◌<◌, ◌≤◌, List, [], ◌∷◌, length, map, refl, sym, ◌∙◌, ap, arith, Bool, true, false, ◌&&◌, leb-true, le-leb}
use Rattle.std.specs.List.{AllByRecursion as Each}
use Rattle.std.proofs.Math.Pow.{pow_mono}
use Rattle.std.specs.Prelude.{ℤ, Option, Some, None, nat_le, if◌then◌else◌}
use Rattle.ph_specs.specs.Coordinate.{offset, coordinate, IsPoint}
use Rattle.ph_specs.specs.Region.{Region, meets_window}
use Rattle.ph_model.specs.Masks.{mask_from, mask, masks}
use Rattle.ph_model.specs.WindowWalk.{node_region}
use Rattle.ph_model.proofs.lemmas.Joined.{offsets, offsets-coordinate}
use Rattle.ph_model.proofs.lemmas.Bounds.{Below, lows, highs, point-long, small, small-point, fit-small, point-fit}
use Rattle.ph_specs.proofs.lemmas.Tests.{and-parts, and-made}
use Rattle.ph_model.proofs.laws.Regions.{Meets, meets-numbers, numbers-meet}
use Rattle.ph_zorder.specs.Sides.{start_of, meets_side, meets_sides, side_mask, side_masks}

mask-sides : (s w level : ℕ) (cs bs : List ℤ) → side_mask s level (offsets w cs) (offsets w bs) ≡ mask_from s w level cs bs
mask-sides s w level [] bs = refl
mask-sides s w level (c ∷ cs) [] = refl
mask-sides s w level (c ∷ cs) (b ∷ bs) =
    mask-sides (s * 2 + (if nat_le (start_of level (offset w c) + 2 ^ level) (offset w b) then 1 else 0)) w level cs bs

-- what the test says, dimension by dimension
record AreMet (level : ℕ) (xs los his : List ℕ) : Type 0 where
  ordered : Below los his
  starts : Below los (highs level xs)
  ends : Below (lows level xs) his

sides-met : (level : ℕ) (xs los his : List ℕ) → length los ≡ length xs → length his ≡ length xs → meets_sides level xs los his ≡ true → AreMet level xs los his
sides-met level [] [] [] e f h = record { ordered = tt; starts = tt; ends = tt }
sides-met level [] (a ∷ los) his e f h = absurd (omega (arith, e))
sides-met level [] [] (b ∷ his) e f h = absurd (omega (arith, f))
sides-met level (x ∷ xs) [] his e f h = absurd (omega (arith, e))
sides-met level (x ∷ xs) (a ∷ los) [] e f h = absurd (omega (arith, f))
sides-met level (x ∷ xs) (a ∷ los) (b ∷ his) e f h =
    let p = and-parts (meets_side level x a b) (meets_sides level xs los his) h in
    let q = and-parts (nat_le a b && nat_le a (start_of level x + (2 ^ (level + 1) - 1))) (nat_le (start_of level x) b) p.0 in
    let r = and-parts (nat_le a b) (nat_le a (start_of level x + (2 ^ (level + 1) - 1))) q.0 in
    let more : AreMet level xs los his = sides-met level xs los his (omega (arith, e)) (omega (arith, f)) p.1 in
    record {
      ordered = (leb-true a b r.0, more.ordered);
      starts = (leb-true a (start_of level x + (2 ^ (level + 1) - 1)) r.1, more.starts);
      ends = (leb-true (start_of level x) b q.1, more.ends);
    }

met-sides : (level : ℕ) (xs los his : List ℕ) → AreMet level xs los his → meets_sides level xs los his ≡ true
met-sides level [] los his h = refl
met-sides level (x ∷ xs) [] his h = refl
met-sides level (x ∷ xs) (a ∷ los) [] h = refl
met-sides level (x ∷ xs) (a ∷ los) (b ∷ his) h =
    and-made (meets_side level x a b) (meets_sides level xs los his)
    (and-made (nat_le a b && nat_le a (start_of level x + (2 ^ (level + 1) - 1))) (nat_le (start_of level x) b)
    (and-made (nat_le a b) (nat_le a (start_of level x + (2 ^ (level + 1) - 1))) (le-leb a b h.ordered.0)
    (le-leb a (start_of level x + (2 ^ (level + 1) - 1)) h.starts.0))
    (le-leb (start_of level x) b h.ends.0))
    (met-sides level xs los his (record { ordered = h.ordered.1; starts = h.starts.1; ends = h.ends.1 }))

same-tests : (s t : Bool) → (s ≡ true → t ≡ true) → (t ≡ true → s ≡ true) → s ≡ t
same-tests true t f g = sym (f refl)
same-tests false true f g = g refl
same-tests false false f g = refl

meets-sides : (w d : ℕ) (r : Region) (lo hi : List ℤ) → r.level < w → IsPoint w d r.corner → IsPoint w d lo →
    IsPoint w d hi → meets_sides r.level (offsets w r.corner) (offsets w lo) (offsets w hi) ≡ meets_window w r lo hi
meets-sides w d r lo hi l c a b =
    let n : length (offsets w r.corner) ≡ d = point-long w d r.corner c in
    same-tests (meets_sides r.level (offsets w r.corner) (offsets w lo) (offsets w hi)) (meets_window w r lo hi)
    (λ h. let m = sides-met r.level (offsets w r.corner) (offsets w lo) (offsets w hi) (point-long w d lo a ∙ sym n) (point-long w d hi b ∙ sym n) h in
    numbers-meet w d r lo hi l c a b (record { ordered = m.ordered; starts = m.starts; ends = m.ends }))
    (λ h. let m : Meets w r lo hi = meets-numbers w d r lo hi l c a b h in
    met-sides r.level (offsets w r.corner) (offsets w lo) (offsets w hi) (record { ordered = m.ordered; starts = m.starts; ends = m.ends }))

-- the masks by the offsets of points
masks-sides : (w d : ℕ) (r : Region) (lo hi : List ℤ) → r.level < w → IsPoint w d r.corner → IsPoint w d lo →
    IsPoint w d hi → side_masks r.level (offsets w r.corner) (offsets w lo) (offsets w hi) ≡ masks w r lo hi
masks-sides w d r lo hi l c a b =
    ap {B = Option (ℕ × ℕ)} (λ t. if t then
    Some (
      side_mask 0 r.level (offsets w r.corner) (offsets w lo),
      side_mask 0 r.level (offsets w r.corner) (offsets w hi),
    ) else None) (meets-sides w d r lo hi l c a b)
    ∙ ap {B = Option (ℕ × ℕ)} (λ x. if meets_window w r lo hi then
    Some (x, side_mask 0 r.level (offsets w r.corner) (offsets w hi)) else None) (mask-sides 0 w r.level r.corner lo)
    ∙ ap {B = Option (ℕ × ℕ)} (λ x. if meets_window w r lo hi then Some (mask w r lo, x) else None) (mask-sides 0 w r.level r.corner hi)

pub masks-by : (w d : ℕ) (r : Region) (lo hi : List ℤ) (xs los his : List ℕ) → r.level < w → IsPoint w d r.corner →
    IsPoint w d lo → IsPoint w d hi → xs ≡ offsets w r.corner → los ≡ offsets w lo → his ≡ offsets w hi →
    side_masks r.level xs los his ≡ masks w r lo hi
masks-by w d r lo hi xs los his l c a b e f g =
    (λ i. side_masks r.level (e i) (f i) (g i)) ∙ masks-sides w d r lo hi l c a b

-- the masks of a node, by the digits that are known above its level and the offsets of the corners
pub masks-node : (w d level : ℕ) (above los his : List ℕ) → level < w → length above ≡ d → length los ≡ d →
    length his ≡ d → small w above → small w los → small w his →
    side_masks level above los his ≡ masks w (node_region w level above) (map (coordinate w) los) (map (coordinate w) his)
masks-node w d level above los his l n a b s p q =
    ap (λ t. side_masks level t los his) (sym (offsets-coordinate w above))
    ∙ ap (λ t. side_masks level (offsets w (map (coordinate w) above)) t his) (sym (offsets-coordinate w los))
    ∙ ap (λ t. side_masks level (offsets w (map (coordinate w) above)) (offsets w (map (coordinate w) los)) t) (sym (offsets-coordinate w his))
    ∙ masks-sides w d (node_region w level above) (map (coordinate w) los) (map (coordinate w) his) l
    (small-point w d above (omega (arith, l)) n s) (small-point w d los (omega (arith, l)) a p)
    (small-point w d his (omega (arith, l)) b q)

-- ---- the offsets of a point

pub point-small : (w d : ℕ) (p : List ℤ) → 1 ≤ w → w ≤ 62 → IsPoint w d p → Each (λ x. x < 2 ^ 62) (offsets w p)
point-small w d p l u h = wider (offsets w p) (fit-small w p l (point-fit w d p h))
  where
    wider : (xs : List ℕ) → small w xs → Each (λ x. x < 2 ^ 62) xs
    wider [] s = tt
    wider (x ∷ xs) s = (omega (arith, s.0, pow_mono {i = w} {j = 62} u), wider xs s.1)
