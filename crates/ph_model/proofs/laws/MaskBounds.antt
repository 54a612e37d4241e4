-- The masks of a region are addresses that fit: the least and the greatest. The step to the next address does not overflow, in a word of any width.
use Rattle.std.proofs.Common.{◌≡◌, ℕ, zero, suc, ◌+◌, ◌*◌, ◌^◌, ◌<◌, ◌≤◌, refl, sym, ◌∙◌, ap, subst, arith}
use Rattle.std.proofs.Common.{List, [], ◌∷◌, length, Bool, true, false, bit_and, bit_or, eqb-true}
use Rattle.std.specs.Prelude.{ℤ, Option, Some, None, if◌then◌else◌, ◌==◌}
use Rattle.std.proofs.lemmas.Nat.{and_le_r, le_or_r}
use Rattle.ph_specs.specs.Coordinate.{IsPoint}
use Rattle.ph_specs.specs.Region.{Region, meets_window}
use Rattle.ph_model.specs.Regions.{InBoth}
use Rattle.ph_model.specs.Masks.{mask, masks, fits_masks}
use Rattle.ph_specs.proofs.lemmas.Places.{pow-next}
use Rattle.ph_model.proofs.lemmas.Bounds.{Below, point-long}
use Rattle.ph_model.proofs.lemmas.Joined.{offsets}
use Rattle.ph_model.proofs.lemmas.MaskDigits.{number_by, digits_at, IsBits, Fitting, fitting-all, fitting-fits, marks, mask-by, marks-bits, marks-long}
use Rattle.ph_model.proofs.lemmas.MaskDigits.{digits-fit}
use Rattle.ph_model.proofs.laws.Regions.{meets-point, point-between, in-numbers}
use Rattle.ph_specs.proofs.lemmas.Tests.{and-parts}

-- ---- addresses that fit are between the masks

pub fits-parts : (h l u : ℕ) → fits_masks h l u ≡ true → (bit_or h l ≡ h) × (bit_and h u ≡ h)
fits-parts h l u f =
    let b : ((bit_or h l == h) ≡ true) × ((bit_and h u == h) ≡ true) = and-parts (bit_or h l == h) (bit_and h u == h) f in
    (eqb-true (bit_or h l) h b.0, eqb-true (bit_and h u) h b.1)

pub fits-between : (h l u : ℕ) → fits_masks h l u ≡ true → (l ≤ h) × (h ≤ u)
fits-between h l u f =
    let p : (bit_or h l ≡ h) × (bit_and h u ≡ h) = fits-parts h l u f in
    (omega (arith, p.0, le_or_r h l), omega (arith, p.1, and_le_r h u))

-- ---- the step to the next address

-- ---- the masks of a region

fitting-ends : (ds ls us : List ℕ) → Fitting ds ls us → Fitting ls ls us × Fitting us ls us
fitting-ends =
    fitting-all (λ ds ls us. Fitting ls ls us × Fitting us ls us) (tt, tt)
    (λ d l u ds ls us low high f. ((omega arith, omega (arith, low, high), f.0), (omega (arith, low, high), omega arith, f.1)))

number_by-small : (s : ℕ) (ds : List ℕ) → IsBits ds → number_by s ds < (s + 1) * 2 ^ length ds
number_by-small s [] h = omega arith
number_by-small s (d ∷ ds) h =
    let p : 2 ^ suc (length ds) ≡ 2 * 2 ^ length ds = ap (λ n. 2 ^ n) (let c : suc (length ds) ≡ length ds + 1 = omega arith in c) ∙ pow-next (length ds) in
    let e : (s + 1) * 2 ^ suc (length ds) ≡ (s + 1) * (2 * 2 ^ length ds) = ap (λ t. (s + 1) * t) p in
    by_digit d h.0 (number_by-small (s * 2 + d) ds h.1) (2 ^ length ds) refl e
  where
    by_digit : (b : ℕ) → b < 2 → number_by (s * 2 + b) ds < (s * 2 + b + 1) * 2 ^ length ds → (m : ℕ) →
        2 ^ length ds ≡ m → (s + 1) * 2 ^ suc (length ds) ≡ (s + 1) * (2 * 2 ^ length ds) →
        number_by (s * 2 + b) ds < (s + 1) * 2 ^ suc (length ds)
    by_digit zero k ih m c e = omega (arith, ih, e)
    by_digit (suc zero) k ih m c e = omega (arith, ih, e)
    by_digit (suc (suc b)) k ih m c e = absurd (omega (arith, k))

mask-small : (w d : ℕ) (r : Region) (b : List ℤ) → IsPoint w d r.corner → IsPoint w d b → mask w r b < 2 ^ d
mask-small w d r b c p =
    let n : length (marks r.level (offsets w r.corner) (offsets w b)) ≡ d = marks-long r.level (offsets w r.corner)
    (offsets w b) (point-long w d r.corner c ∙ sym (point-long w d b p)) ∙ point-long w d r.corner c in
    let s : number_by 0 (marks r.level (offsets w r.corner) (offsets w b)) < (0 + 1) * 2 ^ length
    (marks r.level (offsets w r.corner) (offsets w b)) =
    number_by-small 0 (marks r.level (offsets w r.corner) (offsets w b))
    (marks-bits r.level (offsets w r.corner) (offsets w b)) in
    let e : mask w r b ≡ number_by 0 (marks r.level (offsets w r.corner) (offsets w b)) = mask-by 0 w r.level r.corner b in
    let f : 2 ^ length (marks r.level (offsets w r.corner) (offsets w b)) ≡ 2 ^ d = ap (λ t. 2 ^ t) n in
    omega (arith, s, e, f)

-- what the masks of a region are, where there are some
pub record AreMasks (w d : ℕ) (r : Region) (lo hi : List ℤ) (m : ℕ × ℕ) : Type 0 where
  pub lower : m.0 ≡ mask w r lo
  pub upper : m.1 ≡ mask w r hi
  pub lower_small : m.0 < 2 ^ d
  pub upper_small : m.1 < 2 ^ d
  pub lower_fits : fits_masks m.0 m.0 m.1 ≡ true
  pub upper_fits : fits_masks m.1 m.0 m.1 ≡ true

-- the lower mask is the first address that fits, and the upper mask the last
pub masks-fit : (w d : ℕ) (r : Region) (lo hi : List ℤ) (m : ℕ × ℕ) → r.level < w → IsPoint w d r.corner →
    IsPoint w d lo → IsPoint w d hi → masks w r lo hi ≡ Some m → AreMasks w d r lo hi m
masks-fit w d r lo hi m l c a b e = by_test (meets_window w r lo hi) refl
  where
    ends : (p : List ℤ) → InBoth w d r lo hi p → (fits_masks (mask w r lo) (mask w r lo) (mask w r hi) ≡ true) ×
        (fits_masks (mask w r hi) (mask w r lo) (mask w r hi) ≡ true)
    ends p i =
        let x : List ℕ = offsets w r.corner in
        let low : List ℕ = marks r.level x (offsets w lo) in
        let up : List ℕ = marks r.level x (offsets w hi) in
        let n : length (offsets w r.corner) ≡ d = point-long w d r.corner c in
        let ml : length (marks r.level (offsets w r.corner) (offsets w lo)) ≡ d = marks-long r.level x (offsets w lo) (n ∙ sym (point-long w d lo a)) ∙ n in
        let mu : length (marks r.level (offsets w r.corner) (offsets w hi)) ≡ d = marks-long r.level x (offsets w hi) (n ∙ sym (point-long w d hi b)) ∙ n in
        let s : Below (offsets w lo) (offsets w p) × Below (offsets w p) (offsets w hi) = point-between w d lo hi p a b i.0 i.2 in
        let f : Fitting (digits_at r.level (offsets w p)) low up = digits-fit r.level x (offsets w lo) (offsets w hi) (offsets w p) (in-numbers w r p i.1) s.0 s.1 in
        let g : Fitting low low up × Fitting up low up = fitting-ends (digits_at r.level (offsets w p)) low up f in
        let bl : IsBits low = marks-bits r.level x (offsets w lo) in
        let bu : IsBits up = marks-bits r.level x (offsets w hi) in
        let el : number_by 0 low ≡ mask w r lo = sym (mask-by 0 w r.level r.corner lo) in
        let eu : number_by 0 up ≡ mask w r hi = sym (mask-by 0 w r.level r.corner hi) in (
          subst (λ t. fits_masks t t (mask w r hi) ≡ true) el
              (subst (λ t. fits_masks (number_by 0 low) (number_by 0 low) t ≡ true) eu
              (fitting-fits low low up refl (ml ∙ sym mu) bl bl bu g.0)),
          subst (λ t. fits_masks t (mask w r lo) t ≡ true) eu
              (subst (λ t. fits_masks (number_by 0 up) t (number_by 0 up) ≡ true) el
              (fitting-fits up low up (mu ∙ sym ml) refl bu bl bu g.1)),
        )

    made : (x : ℕ × ℕ) → x ≡ m → AreMasks w d r lo hi x → AreMasks w d r lo hi m
    made x q k = subst (AreMasks w d r lo hi) q k

    by_test : (t : Bool) → meets_window w r lo hi ≡ t → AreMasks w d r lo hi m
    by_test true f =
        let p : (y : List ℤ) × InBoth w d r lo hi y = meets-point w d r lo hi l c a b f in
        let g : (fits_masks (mask w r lo) (mask w r lo) (mask w r hi) ≡ true) × (fits_masks (mask w r hi) (mask w r lo) (mask w r hi) ≡ true) = ends p.0 p.1 in
        let o : ◌≡◌ {A = Option (ℕ × ℕ)} (Some (mask w r lo, mask w r hi)) (Some m) =
        sym (ap {B = Option (ℕ × ℕ)} (λ t. if t then Some (mask w r lo, mask w r hi) else None) f) ∙ e in
        let q : ◌≡◌ {A = ℕ × ℕ} (mask w r lo, mask w r hi) m = cc in
        made (mask w r lo, mask w r hi) q (record {
          lower = refl;
          upper = refl;
          lower_small = mask-small w d r lo c a;
          upper_small = mask-small w d r hi c b;
          lower_fits = g.0;
          upper_fits = g.1;
        })
    by_test false f =
        let o : ◌≡◌ {A = Option (ℕ × ℕ)} None (Some m) = sym (ap {B = Option (ℕ × ℕ)} (λ t. if t then Some (mask w r lo, mask w r hi) else None) f) ∙ e in cc
