-- Points, bounds and regions by their offsets.
use Rattle.std.proofs.Common.{◌≡◌, ℕ, suc, ◌+◌, ◌-◌, ◌*◌, ◌/◌, ◌%◌, ◌^◌, ◌<◌, ◌≤◌, refl, sym, ◌∙◌, ap, arith, List, [], ◌∷◌, length, map, max, Bool, true}
use Rattle.std.proofs.Common.{false, pos, negsuc, ltb-true, ltb-false, leb-true, le-leb, eq-eqb, eqb-true, get_or, drop, mul-le-mul_left}
use Rattle.std.specs.Prelude.{ℤ, int_le, nat_le, nat_lt, ◌==◌}
use Rattle.std.specs.List.{AllByRecursion as Each, list_all}
use Rattle.std.specs.Cmp.Lexicographic.{pointwise}
use Rattle.std.proofs.lemmas.Nat.{pow_pos, pow-add, div-mul-add, div-add-mod'}
use Rattle.std.proofs.Math.Nat.{mod-lt}
use Rattle.ph_specs.specs.Coordinate.{offset, coordinate, half, fits, IsPoint, at_most}
use Rattle.ph_specs.specs.Region.{prefix, least_corner, greatest_corner}
use Rattle.ph_model.proofs.lemmas.Joined.{offsets, from_place}
use Rattle.ph_specs.proofs.laws.Order.{offset_small}
use Rattle.ph_specs.proofs.laws.Coordinates.{coordinate-fits}
use Rattle.ph_specs.proofs.lemmas.Tests.{and-parts, and-made, each-test, test-each}

-- each number of the first list is at most that of the second
abbrev pub Below : List ℕ → List ℕ → Type 0
Below [] [] = Unit {0}
Below (x ∷ xs) (y ∷ ys) = (x ≤ y) × Below xs ys
Below _ _ = ⊥

-- coordinates of a width are ordered as their offsets are
pub le-offset : (w : ℕ) (c d : ℤ) → fits w c ≡ true → fits w d ≡ true → int_le c d ≡ true → offset w c ≤ offset w d
le-offset w (pos m) (pos n) h k e = let l : m ≤ n = leb-true m n e in omega (arith, l)
le-offset w (pos m) (negsuc n) h k e = cc
le-offset w (negsuc m) (pos n) h k e = omega arith
le-offset w (negsuc m) (negsuc n) h k e = let l : n ≤ m = leb-true n m e in omega (arith, l)

small-neg : (w n : ℕ) → fits w (negsuc n) ≡ true → n + 1 ≤ half w
small-neg w n h =
    let f : n ≤ half w - 1 = leb-true n (half w - 1) (and-parts (nat_le n (half w - 1)) true h).0 in
    omega (arith, f, pow_pos (w - 1))

pub offset-le : (w : ℕ) (c d : ℤ) → fits w c ≡ true → fits w d ≡ true → offset w c ≤ offset w d → int_le c d ≡ true
offset-le w (pos m) (pos n) h k l = le-leb m n (omega (arith, l))
offset-le w (pos m) (negsuc n) h k l = absurd (omega (arith, l, small-neg w n k))
offset-le w (negsuc m) (pos n) h k l = refl
offset-le w (negsuc m) (negsuc n) h k l = le-leb n m (omega (arith, l, small-neg w n k, small-neg w m h))

abbrev pub fit : ℕ → List ℤ → Type 0
fit w p = Each (λ c. fits w c ≡ true) p

pub at_most-below : (w : ℕ) (p q : List ℤ) → fit w p → fit w q → at_most p q ≡ true → Below (offsets w p) (offsets w q)
at_most-below w [] [] h k e = tt
at_most-below w [] (d ∷ q) h k e = absurd (let no : false ≡ true = e in cc)
at_most-below w (c ∷ p) [] h k e = absurd (let no : false ≡ true = e in cc)
at_most-below w (c ∷ p) (d ∷ q) h k e =
    let b : (int_le c d ≡ true) × (at_most p q ≡ true) = and-parts (int_le c d) (at_most p q) e in
    (le-offset w c d h.0 k.0 b.0, at_most-below w p q h.1 k.1 b.1)

pub below-at_most : (w : ℕ) (p q : List ℤ) → fit w p → fit w q → Below (offsets w p) (offsets w q) → at_most p q ≡ true
below-at_most w [] [] h k e = refl
below-at_most w [] (d ∷ q) h k e = absurd e
below-at_most w (c ∷ p) [] h k e = absurd e
below-at_most w (c ∷ p) (d ∷ q) h k e = and-made (int_le c d) (at_most p q) (offset-le w c d h.0 k.0 e.0) (below-at_most w p q h.1 k.1 e.1)

-- ---- points

pub point-fit : (w d : ℕ) (p : List ℤ) → IsPoint w d p → fit w p
point-fit w d p h = each-test (fits w) p (and-parts (length p == d) (list_all (fits w) p) h).1

pub point-long : (w d : ℕ) (p : List ℤ) → IsPoint w d p → length (offsets w p) ≡ d
point-long w d p h = long p ∙ eqb-true (length p) d (and-parts (length p == d) (list_all (fits w) p) h).0
  where
    long : (p : List ℤ) → length (offsets w p) ≡ length p
    long [] = refl
    long (c ∷ p) = ap suc (long p)

-- each number has so many digits
abbrev pub small : ℕ → List ℕ → Type 0
small w xs = Each (λ x. x < 2 ^ w) xs

pub fit-small : (w : ℕ) (p : List ℤ) → 1 ≤ w → fit w p → small w (offsets w p)
fit-small w [] l h = tt
fit-small w (c ∷ p) l h = (offset_small w c l h.0, fit-small w p l h.1)

pub small-fit : (w : ℕ) (xs : List ℕ) → 1 ≤ w → small w xs → fit w (map (coordinate w) xs)
small-fit w [] l h = tt
small-fit w (x ∷ xs) l h = (coordinate-fits w x l h.0, small-fit w xs l h.1)

pub small-point : (w d : ℕ) (xs : List ℕ) → 1 ≤ w → length xs ≡ d → small w xs → IsPoint w d (map (coordinate w) xs)
small-point w d xs l e h =
    and-made (length (map (coordinate w) xs) == d) (list_all (fits w) (map (coordinate w) xs))
    (eq-eqb (length (map (coordinate w) xs)) d (long xs ∙ e))
    (test-each (fits w) (map (coordinate w) xs) (small-fit w xs l h))
  where
    long : (xs : List ℕ) → length (map (coordinate w) xs) ≡ length xs
    long [] = refl
    long (x ∷ xs) = ap suc (long xs)

-- ---- regions

abbrev pub in_region : ℕ → ℕ → List ℤ → List ℤ → Bool
in_region w l cs p = pointwise (λ c d. prefix w l c == prefix w l d) cs p

pub in-same : (w l : ℕ) (cs p : List ℤ) → in_region w l cs p ≡ true → from_place (l + 1) (offsets w cs) ≡ from_place (l + 1) (offsets w p)
in-same w l [] [] h = refl
in-same w l [] (d ∷ p) h = absurd (let no : false ≡ true = h in cc)
in-same w l (c ∷ cs) [] h = absurd (let no : false ≡ true = h in cc)
in-same w l (c ∷ cs) (d ∷ p) h =
    let b : ((prefix w l c == prefix w l d) ≡ true) × (in_region w l cs p ≡ true) = and-parts (prefix w l c == prefix w l d) (in_region w l cs p) h in
    ap (λ t. t ∷ from_place (l + 1) (offsets w cs)) (eqb-true (prefix w l c) (prefix w l d) b.0) ∙
    ap {B = List ℕ} (λ t. offset w d / 2 ^ (l + 1) ∷ t) (in-same w l cs p b.1)

pub same-in : (w l : ℕ) (cs p : List ℤ) → from_place (l + 1) (offsets w cs) ≡ from_place (l + 1) (offsets w p) → in_region w l cs p ≡ true
same-in w l [] [] h = refl
same-in w l [] (d ∷ p) h = cc
same-in w l (c ∷ cs) [] h = cc
same-in w l (c ∷ cs) (d ∷ p) h =
    and-made (prefix w l c == prefix w l d) (in_region w l cs p) (eq-eqb (prefix w l c) (prefix w l d) (ap (λ r. get_or r 0 0) h)) (same-in w l cs p (ap (drop 1) h))

-- the least and the greatest offsets of a region
abbrev pub lows : ℕ → List ℕ → List ℕ
lows l xs = map (λ x. x / 2 ^ (l + 1) * 2 ^ (l + 1)) xs

abbrev pub highs : ℕ → List ℕ → List ℕ
highs l xs = map (λ x. x / 2 ^ (l + 1) * 2 ^ (l + 1) + (2 ^ (l + 1) - 1)) xs

pub least-lows : (w l : ℕ) (p : List ℤ) → least_corner w (record { corner = p; level = l }) ≡ map (coordinate w) (lows l (offsets w p))
least-lows w l [] = refl
least-lows w l (c ∷ p) = ap {B = List ℤ} (λ t. coordinate w (offset w c / 2 ^ (l + 1) * 2 ^ (l + 1)) ∷ t) (least-lows w l p)

pub greatest-highs : (w l : ℕ) (p : List ℤ) → greatest_corner w (record { corner = p; level = l }) ≡ map (coordinate w) (highs l (offsets w p))
greatest-highs w l [] = refl
greatest-highs w l (c ∷ p) = ap {B = List ℤ} (λ t. coordinate w (offset w c / 2 ^ (l + 1) * 2 ^ (l + 1) + (2 ^ (l + 1) - 1)) ∷ t) (greatest-highs w l p)

-- the greatest offset of a region has no more digits than the others
pub high-small : (w l x : ℕ) → l < w → x < 2 ^ w → x / 2 ^ (l + 1) * 2 ^ (l + 1) + (2 ^ (l + 1) - 1) < 2 ^ w
high-small w l x h k =
    let m : w ≡ (l + 1) + (w - (l + 1)) = omega (arith, h) in
    let p : 2 ^ w ≡ 2 ^ (l + 1) * 2 ^ (w - (l + 1)) = ap (λ n. 2 ^ n) m ∙ pow-add 2 (l + 1) (w - (l + 1)) in
    by_parts (x / 2 ^ (l + 1)) (2 ^ (w - (l + 1))) (2 ^ (l + 1)) (2 ^ w) (x % 2 ^ (l + 1)) p (div-add-mod' x (2 ^ (l + 1))) k (pow_pos (l + 1))
  where
    by_parts : (q c m t r : ℕ) → t ≡ m * c → q * m + r ≡ x → x < t → 0 < m → q * m + (m - 1) < t
    by_parts q c m t r e f g k = by_less (nat_lt q c) refl
      where
        by_less : (d : Bool) → nat_lt q c ≡ d → q * m + (m - 1) < t
        by_less true j = let s : m * suc q ≤ m * c = mul-le-mul_left m (ltb-true q c j) in omega (arith, s, e, k)
        by_less false j = let s : m * c ≤ m * q = mul-le-mul_left m (ltb-false q c j) in absurd (omega (arith, s, e, f, g))

pub highs-small : (w l : ℕ) (xs : List ℕ) → l < w → small w xs → small w (highs l xs)
highs-small w l [] h k = tt
highs-small w l (x ∷ xs) h k = (high-small w l x h k.0, highs-small w l xs h k.1)

pub lows-small : (w l : ℕ) (xs : List ℕ) → small w xs → small w (lows l xs)
lows-small w l [] k = tt
lows-small w l (x ∷ xs) k =
    let e : x / 2 ^ (l + 1) * 2 ^ (l + 1) + x % 2 ^ (l + 1) ≡ x = div-add-mod' x (2 ^ (l + 1)) in
    (omega (arith, e, k.0), lows-small w l xs k.1)

-- ---- a window meets a region where a point is in both

pub Below-trans : (xs ys zs : List ℕ) → Below xs ys → Below ys zs → Below xs zs
Below-trans [] [] [] h k = tt
Below-trans [] [] (z ∷ zs) h k = k
Below-trans [] (y ∷ ys) zs h k = absurd h
Below-trans (x ∷ xs) [] zs h k = absurd h
Below-trans (x ∷ xs) (y ∷ ys) [] h k = absurd k
Below-trans (x ∷ xs) (y ∷ ys) (z ∷ zs) h k = (omega (arith, h.0, k.0), Below-trans xs ys zs h.1 k.1)

pub Below-small : (w : ℕ) (xs ys : List ℕ) → Below xs ys → small w ys → small w xs
Below-small w [] ys h k = tt
Below-small w (x ∷ xs) [] h k = absurd h
Below-small w (x ∷ xs) (y ∷ ys) h k = (omega (arith, h.0, k.0), Below-small w xs ys h.1 k.1)

pub Below-long : (xs ys : List ℕ) → Below xs ys → length xs ≡ length ys
Below-long [] [] h = refl
Below-long [] (y ∷ ys) h = absurd h
Below-long (x ∷ xs) [] h = absurd h
Below-long (x ∷ xs) (y ∷ ys) h = ap suc (Below-long xs ys h.1)

-- the quotient of a number in the block of one
pub div-block : (q m y : ℕ) → q * m ≤ y → y < q * m + m → y / m ≡ q
div-block q m y l h =
    let e : y ≡ q * m + (y - q * m) = omega (arith, l) in
    ap (λ t. t / m) e ∙ div-mul-add q m (y - q * m) (omega (arith, l, h))

-- points of a region lie between its corners
region-between : (l : ℕ) (xs ys : List ℕ) → from_place (l + 1) xs ≡ from_place (l + 1) ys → Below (lows l xs) ys × Below ys (highs l xs)
region-between l [] [] e = (tt, tt)
region-between l [] (y ∷ ys) e = absurd (let n : 0 ≡ suc (length (from_place (l + 1) ys)) = ap length e in omega (arith, n))
region-between l (x ∷ xs) [] e = absurd (let n : suc (length (from_place (l + 1) xs)) ≡ 0 = ap length e in omega (arith, n))
region-between l (x ∷ xs) (y ∷ ys) e =
    let q : x / 2 ^ (l + 1) ≡ y / 2 ^ (l + 1) = ap (λ r. get_or r 0 0) e in
    let f : x / 2 ^ (l + 1) * 2 ^ (l + 1) ≡ y / 2 ^ (l + 1) * 2 ^ (l + 1) = ap (λ t. t * 2 ^ (l + 1)) q in
    let g : y / 2 ^ (l + 1) * 2 ^ (l + 1) + y % 2 ^ (l + 1) ≡ y = div-add-mod' y (2 ^ (l + 1)) in
    let s : y % 2 ^ (l + 1) < 2 ^ (l + 1) = mod-lt y (pow_pos (l + 1)) in
    let r = region-between l xs ys (ap (drop 1) e) in
    ((omega (arith, f, g), r.0), (omega (arith, f, g, s), r.1))

pub region-low : (l : ℕ) (xs ys : List ℕ) → from_place (l + 1) xs ≡ from_place (l + 1) ys → Below (lows l xs) ys
region-low l xs ys e = (region-between l xs ys e).0

pub region-high : (l : ℕ) (xs ys : List ℕ) → from_place (l + 1) xs ≡ from_place (l + 1) ys → Below ys (highs l xs)
region-high l xs ys e = (region-between l xs ys e).1

-- the other way round
pub between-region : (l : ℕ) (xs ys : List ℕ) → Below (lows l xs) ys → Below ys (highs l xs) → from_place (l + 1) xs ≡ from_place (l + 1) ys
between-region l [] [] h k = refl
between-region l [] (y ∷ ys) h k = absurd h
between-region l (x ∷ xs) [] h k = absurd h
between-region l (x ∷ xs) (y ∷ ys) h k =
    let p : 0 < 2 ^ (l + 1) = pow_pos (l + 1) in
    let q : y / 2 ^ (l + 1) ≡ x / 2 ^ (l + 1) = div-block (x / 2 ^ (l + 1)) (2 ^ (l + 1)) y h.0 (omega (arith, k.0, p)) in
    ap (λ t. t ∷ from_place (l + 1) xs) (sym q) ∙ ap {B = List ℕ} (λ t. y / 2 ^ (l + 1) ∷ t) (between-region l xs ys h.1 k.1)

-- the greater ones of two lists
abbrev pub zipped : (ℕ → ℕ → ℕ) → List ℕ → List ℕ → List ℕ
zipped op (x ∷ xs) (y ∷ ys) = op x y ∷ zipped op xs ys
zipped op _ _ = []

abbrev pub maxes : List ℕ → List ℕ → List ℕ
maxes xs ys = zipped max xs ys

pub maxes-left : (xs ys zs : List ℕ) → Below xs zs → Below ys zs → Below xs (maxes xs ys)
maxes-left [] [] zs h k = tt
maxes-left [] (y ∷ ys) [] h k = absurd k
maxes-left [] (y ∷ ys) (z ∷ zs) h k = absurd h
maxes-left (x ∷ xs) [] [] h k = absurd h
maxes-left (x ∷ xs) [] (z ∷ zs) h k = absurd k
maxes-left (x ∷ xs) (y ∷ ys) [] h k = absurd h
maxes-left (x ∷ xs) (y ∷ ys) (z ∷ zs) h k = (omega arith, maxes-left xs ys zs h.1 k.1)

pub maxes-right : (xs ys zs : List ℕ) → Below xs zs → Below ys zs → Below ys (maxes xs ys)
maxes-right [] [] zs h k = tt
maxes-right [] (y ∷ ys) [] h k = absurd k
maxes-right [] (y ∷ ys) (z ∷ zs) h k = absurd h
maxes-right (x ∷ xs) [] [] h k = absurd h
maxes-right (x ∷ xs) [] (z ∷ zs) h k = tt
maxes-right (x ∷ xs) (y ∷ ys) [] h k = absurd h
maxes-right (x ∷ xs) (y ∷ ys) (z ∷ zs) h k = (omega arith, maxes-right xs ys zs h.1 k.1)

pub maxes-least : (xs ys zs : List ℕ) → Below xs zs → Below ys zs → Below (maxes xs ys) zs
maxes-least [] [] [] h k = tt
maxes-least [] [] (z ∷ zs) h k = h
maxes-least [] (y ∷ ys) [] h k = absurd k
maxes-least [] (y ∷ ys) (z ∷ zs) h k = absurd h
maxes-least (x ∷ xs) [] [] h k = absurd h
maxes-least (x ∷ xs) [] (z ∷ zs) h k = absurd k
maxes-least (x ∷ xs) (y ∷ ys) [] h k = absurd h
maxes-least (x ∷ xs) (y ∷ ys) (z ∷ zs) h k = (omega (arith, h.0, k.0), maxes-least xs ys zs h.1 k.1)

pub low-high : (l : ℕ) (xs : List ℕ) → Below (lows l xs) (highs l xs)
low-high l [] = tt
low-high l (x ∷ xs) = (omega arith, low-high l xs)
