-- The masks of a window say which parts of a region have a point in the window.
use Rattle.std.proofs.Common.{◌≡◌, ℕ, suc, ◌+◌, ◌-◌, ◌/◌, ◌%◌, ◌^◌, ◌<◌, ◌≤◌, ◌↔◌, refl, sym, ◌∙◌, ap, subst}
use Rattle.std.proofs.Common.{arith, List, [], ◌∷◌, length, map, Bool, true, false, get_or, drop}
use Rattle.std.specs.Prelude.{ℤ, Option, Some, None, if◌then◌else◌}
use Rattle.std.proofs.lemmas.Nat.{div-add-mod'}
use Rattle.ph_specs.specs.Coordinate.{coordinate, IsPoint}
use Rattle.ph_specs.specs.TreeRows.{put_together}
use Rattle.ph_model.specs.Lawful.{IsBody, IsAbove}
use Rattle.ph_specs.specs.Region.{Region, meets_window}
use Rattle.ph_model.specs.Regions.{InBoth}
use Rattle.ph_model.specs.WindowWalk.{node_region}
use Rattle.ph_model.specs.Masks.{mask, masks, fits_masks, fits_some, InPart}
use Rattle.ph_specs.proofs.lemmas.Places.{div-pow-add}
use Rattle.ph_model.proofs.lemmas.Joined.{offsets, from_place, offsets-coordinate, address_from-is, same_number, same_from, from_place-put_together}
use Rattle.ph_model.proofs.lemmas.Joined.{length-put_together}
use Rattle.ph_model.proofs.lemmas.RowsBehind.{address-put_together}
use Rattle.ph_model.proofs.lemmas.Bounds.{Below, point-long, small, small-point, in-same, same-in}
use Rattle.ph_model.proofs.lemmas.MaskDigits.{number_by, digits_at, digits_at-bits, number_at-by, address-by, digit_list, digit_list-long}
use Rattle.ph_model.proofs.lemmas.MaskDigits.{digit_list-bits, digits-number, same-digits, Fitting, fitting-fits, fits-fitting, marks}
use Rattle.ph_model.proofs.lemmas.MaskDigits.{mask-by, marks-bits, marks-long, digits-fit, chosen, AreChosen, chosen-are}
use Rattle.ph_model.proofs.laws.Regions.{Meets, meets-numbers, numbers-point, point-between, point-meets, meets-point, in-numbers}

digits_at-long : (l : ℕ) (ys : List ℕ) → length (digits_at l ys) ≡ length ys
digits_at-long l [] = refl
digits_at-long l (y ∷ ys) = ap suc (digits_at-long l ys)

fits-point : (w d : ℕ) (r : Region) (lo hi : List ℤ) (h : ℕ) → r.level < w → IsPoint w d r.corner → IsPoint w d lo →
    IsPoint w d hi → h < 2 ^ d → meets_window w r lo hi ≡ true → fits_masks h (mask w r lo) (mask w r hi) ≡ true →
    (p : List ℤ) × InPart w d r h lo hi p
fits-point w d r lo hi h l c a b s m f =
    let x : List ℕ = offsets w r.corner in
    let low : List ℕ = marks r.level x (offsets w lo) in
    let up : List ℕ = marks r.level x (offsets w hi) in
    let n : length (offsets w r.corner) ≡ d = point-long w d r.corner c in
    let na : length (offsets w lo) ≡ d = point-long w d lo a in
    let nb : length (offsets w hi) ≡ d = point-long w d hi b in
    let ml : length (marks r.level (offsets w r.corner) (offsets w lo)) ≡ length (offsets w r.corner) = marks-long r.level x (offsets w lo) (n ∙ sym na) in
    let mu : length (marks r.level (offsets w r.corner) (offsets w hi)) ≡ length (offsets w r.corner) = marks-long r.level x (offsets w hi) (n ∙ sym nb) in
    let g0 : fits_masks (number_by 0 (digit_list h d)) (mask w r lo) (mask w r hi) ≡ true =
    subst (λ t. fits_masks t (mask w r lo) (mask w r hi) ≡ true) (sym (digits-number h d s)) f in
    let g1 : fits_masks (number_by 0 (digit_list h d)) (number_by 0 low) (mask w r hi) ≡ true =
    subst (λ t. fits_masks (number_by 0 (digit_list h d)) t (mask w r hi) ≡ true) (mask-by 0 w r.level r.corner lo) g0 in
    let g2 : fits_masks (number_by 0 (digit_list h d)) (number_by 0 low) (number_by 0 up) ≡ true =
    subst (λ t. fits_masks (number_by 0 (digit_list h d)) (number_by 0 low) t ≡ true) (mask-by 0 w r.level r.corner hi) g1 in
    let e : Fitting (digit_list h d) low up = fits-fitting (digit_list h d) low up
    (digit_list-long h d ∙ sym (ml ∙ n)) (digit_list-long h d ∙ sym (mu ∙ n)) (digit_list-bits h d)
    (marks-bits r.level x (offsets w lo)) (marks-bits r.level x (offsets w hi)) g2 in
    let k : Meets w r lo hi = meets-numbers w d r lo hi l c a b m in
    let ys : List ℕ = chosen r.level (digit_list h d) x (offsets w lo) in
    let q : AreChosen r.level (digit_list h d) x (offsets w lo) (offsets w hi) ys =
    chosen-are r.level (digit_list h d) x (offsets w lo) (offsets w hi) (digit_list-bits h d) k.ordered k.starts k.ends e in (
      map (coordinate w) ys,
      (
        numbers-point w d r lo hi ys (omega (arith, l)) c a b q.block q.above q.below,
        address-by w r.level (map (coordinate w) ys) ∙ ap (λ t. number_by 0 (digits_at r.level t))
            (offsets-coordinate w ys) ∙ ap (number_by 0) q.digit ∙ digits-number h d s,
      ),
    )

point-fits : (w d : ℕ) (r : Region) (lo hi p : List ℤ) (h : ℕ) → IsPoint w d r.corner → IsPoint w d lo →
    IsPoint w d hi → InPart w d r h lo hi p → fits_masks h (mask w r lo) (mask w r hi) ≡ true
point-fits w d r lo hi p h c a b i =
    let x : List ℕ = offsets w r.corner in
    let low : List ℕ = marks r.level x (offsets w lo) in
    let up : List ℕ = marks r.level x (offsets w hi) in
    let ds : List ℕ = digits_at r.level (offsets w p) in
    let n : length (offsets w r.corner) ≡ d = point-long w d r.corner c in
    let np : length (offsets w p) ≡ d = point-long w d p i.0.0 in
    let ml : length (marks r.level (offsets w r.corner) (offsets w lo)) ≡ length (offsets w r.corner) =
    marks-long r.level x (offsets w lo) (n ∙ sym (point-long w d lo a)) in
    let mu : length (marks r.level (offsets w r.corner) (offsets w hi)) ≡ length (offsets w r.corner) =
    marks-long r.level x (offsets w hi) (n ∙ sym (point-long w d hi b)) in
    let nd : length (digits_at r.level (offsets w p)) ≡ d = digits_at-long r.level (offsets w p) ∙ np in
    let s : Below (offsets w lo) (offsets w p) × Below (offsets w p) (offsets w hi) = point-between w d lo hi p a b i.0.0 i.0.2 in
    let f : Fitting ds low up = digits-fit r.level x (offsets w lo) (offsets w hi) (offsets w p) (in-numbers w r p i.0.1) s.0 s.1 in
    let g2 : fits_masks (number_by 0 ds) (number_by 0 low) (number_by 0 up) ≡ true =
    fitting-fits ds low up (nd ∙ sym (ml ∙ n)) (nd ∙ sym (mu ∙ n)) (digits_at-bits r.level (offsets w p))
    (marks-bits r.level x (offsets w lo)) (marks-bits r.level x (offsets w hi)) f in
    let g1 : fits_masks (number_by 0 ds) (number_by 0 low) (mask w r hi) ≡ true =
    subst (λ t. fits_masks (number_by 0 ds) (number_by 0 low) t ≡ true) (sym (mask-by 0 w r.level r.corner hi)) g2 in
    let g0 : fits_masks (number_by 0 ds) (mask w r lo) (mask w r hi) ≡ true =
    subst (λ t. fits_masks (number_by 0 ds) t (mask w r hi) ≡ true) (sym (mask-by 0 w r.level r.corner lo)) g1 in
    subst (λ t. fits_masks t (mask w r lo) (mask w r hi) ≡ true) (sym (address-by w r.level p) ∙ i.1) g0

-- the masks by the test for the window
masks_if : (w : ℕ) (r : Region) (lo hi : List ℤ) (t : Bool) → meets_window w r lo hi ≡ t → masks w r lo hi ≡ (if t then Some (mask w r lo, mask w r hi) else None)
masks_if w r lo hi t e = ap {B = Option (ℕ × ℕ)} (λ b. if b then Some (mask w r lo, mask w r hi) else None) e

-- ---- the laws

-- an address fits the masks exactly where the part of the region with this address has a point in the window
pub masks-part : (w d : ℕ) (r : Region) (lo hi : List ℤ) (h : ℕ) → r.level < w → IsPoint w d r.corner →
    IsPoint w d lo → IsPoint w d hi → h < 2 ^ d → fits_some (masks w r lo hi) h ≡ true ↔ ((p : List ℤ) × InPart w d r h lo hi p)
masks-part w d r lo hi h l c a b s = (there (meets_window w r lo hi) refl, back)
  where
    there : (t : Bool) → meets_window w r lo hi ≡ t → fits_some (masks w r lo hi) h ≡ true → (p : List ℤ) × InPart w d r h lo hi p
    there true e f =
        fits-point w d r lo hi h l c a b s e (sym (ap (λ m. fits_some m h) (masks_if w r lo hi true e)) ∙ f)
    there false e f =
        absurd (let no : false ≡ true = sym (ap (λ m. fits_some m h) (masks_if w r lo hi false e)) ∙ f in cc)

    back : (p : List ℤ) × InPart w d r h lo hi p → fits_some (masks w r lo hi) h ≡ true
    back q =
        ap (λ m. fits_some m h) (masks_if w r lo hi true (point-meets w d r lo hi q.0 l c a b q.1.0)) ∙ point-fits w d r lo hi q.0 h c a b q.1

-- there are no masks exactly where no point of the region is in the window
pub masks-none : (w d : ℕ) (r : Region) (lo hi : List ℤ) → r.level < w → IsPoint w d r.corner → IsPoint w d lo →
    IsPoint w d hi → masks w r lo hi ≡ None ↔ ((p : List ℤ) → InBoth w d r lo hi p → ⊥)
masks-none w d r lo hi l c a b = (there, back (meets_window w r lo hi) refl)
  where
    there : masks w r lo hi ≡ None → (p : List ℤ) → InBoth w d r lo hi p → ⊥
    there e p i =
        let n : ◌≡◌ {A = Option (ℕ × ℕ)} (Some (mask w r lo, mask w r hi)) None = sym (masks_if w r lo hi true (point-meets w d r lo hi p l c a b i)) ∙ e in cc

    back : (t : Bool) → meets_window w r lo hi ≡ t → ((p : List ℤ) → InBoth w d r lo hi p → ⊥) → masks w r lo hi ≡ None
    back true e n = let q : (p : List ℤ) × InBoth w d r lo hi p = meets-point w d r lo hi l c a b e in absurd (n q.0 q.1)
    back false e n = masks_if w r lo hi false e

-- ---- the region of a child

same-place : (b : ℕ) (xs ys : List ℕ) → from_place (b + 1) xs ≡ from_place (b + 1) ys → digits_at b xs ≡ digits_at b ys → from_place b xs ≡ from_place b ys
same-place b [] [] e f = refl
same-place b [] (y ∷ ys) e f = absurd (let n : 0 ≡ suc (length (from_place (b + 1) ys)) = ap length e in omega (arith, n))
same-place b (x ∷ xs) [] e f = absurd (let n : suc (length (from_place (b + 1) xs)) ≡ 0 = ap length e in omega (arith, n))
same-place b (x ∷ xs) (y ∷ ys) e f =
    let q : x / 2 ^ (b + 1) ≡ y / 2 ^ (b + 1) = ap (λ r. get_or r 0 0) e in
    let qx : x / 2 ^ (b + 1) ≡ x / 2 ^ b / 2 = div-pow-add x b 1 in
    let qy : y / 2 ^ (b + 1) ≡ y / 2 ^ b / 2 = div-pow-add y b 1 in
    let d : x / 2 ^ b % 2 ≡ y / 2 ^ b % 2 = ap (λ r. get_or r 0 0) f in
    let i : x / 2 ^ b ≡ y / 2 ^ b = omega (arith, q, qx, qy, d, div-add-mod' (x / 2 ^ b) 2, div-add-mod' (y / 2 ^ b) 2) in
    ap (λ t. t ∷ from_place b xs) i ∙ ap {B = List ℕ} (λ t. y / 2 ^ b ∷ t) (same-place b xs ys (ap (drop 1) e) (ap (drop 1) f))

pub child-part : (w d b a : ℕ) (above body : List ℕ) (lo hi p : List ℤ) → 1 ≤ b → IsAbove d b above →
    IsBody d b body → a < 2 ^ d → InBoth w d (node_region w (b - 1) (put_together b a above body)) lo hi p →
    InPart w d (node_region w b above) a lo hi p
child-part w d b a above body lo hi p l h k s i =
    let n : b - 1 + 1 ≡ b = omega (arith, l) in
    let known : List ℕ = put_together b a above body in
    let e0 : from_place (b - 1 + 1) (offsets w (map (coordinate w) (put_together b a above body))) ≡
    from_place (b - 1 + 1) (offsets w p) = in-same w (b - 1) (map (coordinate w) known) p i.1 in
    let e : from_place b (put_together b a above body) ≡ from_place b (offsets w p) =
    sym (ap (from_place b) (offsets-coordinate w known)) ∙
    subst (λ t. from_place t (offsets w (map (coordinate w) known)) ≡ from_place t (offsets w p)) n e0 in
    let u : from_place (b + 1) (put_together b a above body) ≡ from_place (b + 1) above = from_place-put_together b a above body (h.long ∙ sym k.0) h.zeros k.1 in
    let f : from_place (b + 1) (put_together b a above body) ≡ from_place (b + 1) (offsets w p) = same_from b (b + 1) known (offsets w p) (omega arith) e in (
      (i.0, same-in w b (map (coordinate w) above) p (ap (from_place (b + 1)) (offsets-coordinate w above) ∙ sym u ∙ f), i.2),
      address_from-is w 0 b p ∙ sym (same_number 0 b b known (offsets w p) (omega arith) e) ∙ address-put_together d b a above body h k s,
    )

pub part-child : (w d b a : ℕ) (above body : List ℕ) (lo hi p : List ℤ) → 1 ≤ b → IsAbove d b above →
    IsBody d b body → a < 2 ^ d → InPart w d (node_region w b above) a lo hi p →
    InBoth w d (node_region w (b - 1) (put_together b a above body)) lo hi p
part-child w d b a above body lo hi p l h k s i =
    let n : b ≡ b - 1 + 1 = omega (arith, l) in
    let known : List ℕ = put_together b a above body in
    let u : from_place (b + 1) (put_together b a above body) ≡ from_place (b + 1) above = from_place-put_together b a above body (h.long ∙ sym k.0) h.zeros k.1 in
    let v : from_place (b + 1) (offsets w (map (coordinate w) above)) ≡ from_place (b + 1) (offsets w p) = in-same w b (map (coordinate w) above) p i.0.1 in
    let f : from_place (b + 1) (put_together b a above body) ≡ from_place (b + 1) (offsets w p) = u ∙ sym (ap (from_place (b + 1)) (offsets-coordinate w above)) ∙ v in
    let z : number_by 0 (digits_at b (put_together b a above body)) ≡ number_by 0 (digits_at b (offsets w p)) =
    sym (number_at-by 0 b known) ∙ address-put_together d b a above body h k s ∙ sym i.1 ∙ address-by w b p in
    let m : length (digits_at b (put_together b a above body)) ≡ length (digits_at b (offsets w p)) =
    digits_at-long b known ∙ length-put_together b a above body (h.long ∙ sym k.0) ∙ h.long ∙
    sym (point-long w d p i.0.0) ∙ sym (digits_at-long b (offsets w p)) in
    let e : from_place b (put_together b a above body) ≡ from_place b (offsets w p) = same-place b known (offsets w p)
    f (same-digits 0 0 (digits_at b known) (digits_at b (offsets w p)) m (digits_at-bits b known)
    (digits_at-bits b (offsets w p)) z).1 in (
      i.0.0,
      same-in w (b - 1) (map (coordinate w) known) p
          (subst (λ t. from_place t (offsets w (map (coordinate w) known)) ≡ from_place t (offsets w p)) n
          (ap (from_place b) (offsets-coordinate w known) ∙ e)),
      i.0.2,
    )

same-tests : (s t : Bool) → (s ≡ true → t ≡ true) → (t ≡ true → s ≡ true) → s ≡ t
same-tests true t f g = sym (f refl)
same-tests false true f g = g refl
same-tests false false f g = refl

-- the region of a child meets the window exactly where the child's address fits the masks of the node
pub masks-child : (w d b a : ℕ) (above body : List ℕ) (lo hi : List ℤ) → 1 ≤ b → b < w → IsAbove d b above →
    small w above → small w (put_together b a above body) → IsBody d b body → a < 2 ^ d → IsPoint w d lo →
    IsPoint w d hi → meets_window w (node_region w (b - 1) (put_together b a above body)) lo hi ≡
    fits_some (masks w (node_region w b above) lo hi) a
masks-child w d b a above body lo hi l m h s t k z p q =
    let u : IsPoint w d (map (coordinate w) above) = small-point w d above (omega (arith, m)) h.long s in
    let v : IsPoint w d (map (coordinate w) (put_together b a above body)) =
    small-point w d (put_together b a above body) (omega (arith, m))
    (length-put_together b a above body (h.long ∙ sym k.0) ∙ h.long) t in
    same-tests (meets_window w (node_region w (b - 1) (put_together b a above body)) lo hi) (fits_some (masks w (node_region w b above) lo hi) a)
    (λ e. let x : (y : List ℤ) × InBoth w d (node_region w (b - 1) (put_together b a above body)) lo hi y =
    meets-point w d (node_region w (b - 1) (put_together b a above body)) lo hi (omega (arith, m)) v p q e in
    (masks-part w d (node_region w b above) lo hi a m u p q z).1 (x.0, child-part w d b a above body lo hi x.0 l h k z x.1))
    (λ e. let x : (y : List ℤ) × InPart w d (node_region w b above) a lo hi y = (masks-part w d (node_region w b above) lo hi a m u p q z).0 e in
    point-meets w d (node_region w (b - 1) (put_together b a above body)) lo hi x.0 (omega (arith, m)) v p q (part-child w d b a above body lo hi x.0 l h k z x.1))
