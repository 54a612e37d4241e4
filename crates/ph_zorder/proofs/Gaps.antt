-- Passes over two lists of coordinates, or of their offsets, that add up the squares of gaps.
use Rattle.std.proofs.Common.{◌≡◌, ℕ, suc, ◌+◌, ◌*◌, ◌^◌, ◌<◌, ◌≤◌, sym, ◌∙◌, ap, subst, arith, List, [], ◌∷◌, length, map, SFits, w64}
use Rattle.std.specs.Prelude.{ℤ}
use Rattle.std.specs.List.{AllByRecursion as Each}
use Rattle.std.specs.Int.{abs_diff}
use Rattle.std.proofs.Math.Pow.{pow_mono}
use mir.Val.{of_z, to_z}
use Rattle.ph_specs.specs.Coordinate.{coordinate, IsPoint}
use Rattle.ph_specs.specs.Distance.{distance, squared_gap}
use Rattle.ph_model.specs.Regions.{gap}
use Rattle.ph_model.proofs.laws.Bound.{bound}
use Rattle.ph_specs.proofs.laws.Coordinates.{offset-coordinate, coordinate-fits}
use Rattle.ph_model.proofs.laws.Offsets.{coordinate-apart, square-gap}
use Rattle.ph_model.proofs.lemmas.Joined.{offsets}
use Rattle.ph_model.proofs.lemmas.PointDigits.{point-whole}
use Rattle.ph_coord.proofs.Signed.{passed}
use Rattle.ph_zorder.proofs.Decided.{is_body-point}

-- ---- how far the sum can come

pub limit-on : {A : Type 0} (c : A) (cs ps : List A) (sum n m : ℕ) → ps ≡ c ∷ cs → n ≤ m → sum + length ps * m ≤ 16 * m → sum + n + length cs * m ≤ 16 * m
limit-on c cs ps sum n m e l h =
    let k : length ps ≡ suc (length cs) = ap length e in
    let p : length ps * m ≡ m + length cs * m = ap (λ x. x * m) k ∙ omega arith in
    omega (arith, h, p, l)

pub small-on : (w x : ℕ) (xs ps : List ℕ) → w ≤ 62 → ps ≡ x ∷ xs → Each (λ x. x < 2 ^ w) ps → (x < 2 ^ 62) × (x < 2 ^ w) × Each (λ x. x < 2 ^ w) xs
small-on w x xs ps l e h =
    let k : Each (λ x. x < 2 ^ w) (x ∷ xs) = subst (Each (λ x. x < 2 ^ w)) e h in
    (omega (arith, k.0, pow_mono {i = w} {j = 62} l), k.0, k.1)

-- ---- what is still to be added

pub distance-on : (c d : ℤ) (cs ds ps qs : List ℤ) (sum n r : ℕ) → ps ≡ c ∷ cs → qs ≡ d ∷ ds → n ≡ squared_gap c d →
    sum + distance ps qs ≡ r → sum + n + distance cs ds ≡ r
distance-on c d cs ds ps qs sum n r e f g h =
    let k : distance ps qs ≡ squared_gap c d + distance cs ds = ap (λ xs. distance xs qs) e ∙ ap (distance (c ∷ cs)) f in
    omega (arith, h, k, g)

pub offset-distance-on : (w x y : ℕ) (xs ys ps qs : List ℕ) (sum n m r : ℕ) → ps ≡ x ∷ xs → qs ≡ y ∷ ys →
    n ≡ abs_diff x y → m ≡ n * n → sum + distance (map (coordinate w) ps) (map (coordinate w) qs) ≡ r →
    sum + m + distance (map (coordinate w) xs) (map (coordinate w) ys) ≡ r
offset-distance-on w x y xs ys ps qs sum n m r e f g h i =
    distance-on (coordinate w x) (coordinate w y) (map (coordinate w) xs) (map (coordinate w) ys)
    (map (coordinate w) ps) (map (coordinate w) qs) sum m r (ap (map (coordinate w)) e)
    (ap (map (coordinate w)) f) (h ∙ ap (λ t. t * t) (g ∙ sym (coordinate-apart w x y))) i

-- the square of the gap of one dimension, by offsets
gap-squared : (w l x y : ℕ) → 1 ≤ w → y < 2 ^ w → bound w l (coordinate w x ∷ []) (coordinate w y ∷ []) ≡ gap l x y * gap l x y
gap-squared w l x y o s =
    omega (
      arith,
      square-gap w l (coordinate w x) (coordinate w y) (coordinate-fits w y o s) ∙
          (λ i. gap l (offset-coordinate w x i) (offset-coordinate w y i) * gap l (offset-coordinate w x i)
          (offset-coordinate w y i)),
    )

pub offset-bound-on : (w l x y : ℕ) (xs ys ps qs : List ℕ) (sum n m r : ℕ) → 1 ≤ w → y < 2 ^ w → ps ≡ x ∷ xs →
    qs ≡ y ∷ ys → n ≡ gap l x y → m ≡ n * n → sum + bound w l (map (coordinate w) ps) (map (coordinate w) qs) ≡ r →
    sum + m + bound w l (map (coordinate w) xs) (map (coordinate w) ys) ≡ r
offset-bound-on w l x y xs ys ps qs sum n m r o s e f g h i =
    let k : bound w l (map (coordinate w) ps) (map (coordinate w) qs) ≡
    bound w l (coordinate w x ∷ map (coordinate w) xs) (coordinate w y ∷ map (coordinate w) ys) =
    λ i. bound w l (map (coordinate w) (e i)) (map (coordinate w) (f i)) in
    let j : m ≡ gap l x y * gap l x y = h ∙ ap (λ t. t * t) g in
    omega (arith, i, k, j, gap-squared w l x y o s)

-- ---- signed numbers that were passed

pub passed-both : (f : ℤ → ℤ → ℕ) (x y : ℤ) (r : ℕ) → SFits w64 x → SFits w64 y → r ≡ f (to_z w64 (of_z w64 x)) (to_z w64 (of_z w64 y)) → r ≡ f x y
passed-both f x y r fx fy e = passed (λ z. f x z) y r fy (passed (λ z. f z (to_z w64 (of_z w64 y))) x r fx e)

-- ---- points by their offsets

pub point-offsets : (w d : ℕ) (p : List ℤ) (xs : List ℕ) → 1 ≤ w → IsPoint w d p → xs ≡ offsets w p → Each (λ x. x < 2 ^ w) xs × (map (coordinate w) xs ≡ p)
point-offsets w d p xs l h e =
    (subst (Each (λ x. x < 2 ^ w)) (sym e) (is_body-point w d p l h).1, ap (map (coordinate w)) e ∙ (point-whole w d p h).back)
