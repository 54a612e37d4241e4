-- Boxes by their two halves, and the windows that answer questions about them.
use Rattle.std.proofs.Common.{◌≡◌, ℕ, zero, suc, ◌+◌, ◌-◌, ◌*◌, ◌/◌, ◌≤◌, refl, sym, ◌∙◌, ap, subst, arith, cond, Bool, true, false, List}
use Rattle.std.proofs.Common.{[], ◌∷◌, ◌++◌, length, take, drop, replicate, take-append-drop, length-append, eqb-true, le-leb}
use Rattle.std.specs.Prelude.{ℤ, int_le, ◌&&◌, ◌==◌, filter}
use Rattle.std.specs.List.{list_all, AllByRecursion as Each}
use Rattle.std.proofs.Math.Seq.{take-append_seam, drop-append_seam}
use Rattle.std.proofs.lemmas.Int.{ints}
use Rattle.std.proofs.lemmas.Bool.{and_parts}
use Rattle.std.proofs.lemmas.List.{length-replicate}
use Rattle.ph_specs.specs.Coordinate.{at_most, low_corner, high_corner, is_box, fits, least, greatest, IsPoint, IsBox}
use Rattle.ph_specs.specs.Table.{Row}
use Rattle.ph_specs.specs.Window.{is_between, window}
use Rattle.ph_specs.specs.Boxes.{overlaps, is_inside, covers, IsWindowFor, overlaps_low, overlaps_high, inside_low, inside_high, covers_low, covers_high}
use Rattle.ph_specs.proofs.lemmas.Tests.{and-made}

-- ---- lists

half-double : (k : ℕ) → (k + k) / 2 ≡ k
half-double k = omega arith

-- two halves of one length are the corners of what they make
pub corners-joined : (lo hi : List ℤ) → length lo ≡ length hi → (low_corner (lo ++ hi) ≡ lo) × (high_corner (lo ++ hi) ≡ hi)
corners-joined lo hi n =
    let e : length (lo ++ hi) / 2 ≡ length lo = ap (λ k. k / 2) (length-append lo hi ∙ ap (λ k. length lo + k) (sym n)) ∙ half-double (length lo) in
    (ap (λ k. take k (lo ++ hi)) e ∙ take-append_seam lo hi, ap (λ k. drop k (lo ++ hi)) e ∙ drop-append_seam lo hi)

and-same : (a b c : Bool) → (a && (b && c)) ≡ ((a && b) && c)
and-same true b c = refl
and-same false b c = refl

-- lists are compared half by half
pub at_most-joined : (xs us ys vs : List ℤ) → length xs ≡ length us → at_most (xs ++ ys) (us ++ vs) ≡ (at_most xs us && at_most ys vs)
at_most-joined [] [] ys vs n = refl
at_most-joined [] (u ∷ us) ys vs n = absurd (omega (arith, n))
at_most-joined (x ∷ xs) [] ys vs n = absurd (omega (arith, n))
at_most-joined (x ∷ xs) (u ∷ us) ys vs n =
    ap (λ t. int_le x u && t) (at_most-joined xs us ys vs (omega (arith, n))) ∙ and-same (int_le x u) (at_most xs us) (at_most ys vs)

-- ---- the widest bounds

pub from-least : (w : ℕ) (p : List ℤ) → list_all (fits w) p ≡ true → at_most (replicate (length p) (least w)) p ≡ true
from-least w [] h = refl
from-least w (c ∷ p) h =
    let a : (fits w c ≡ true) × (list_all (fits w) p ≡ true) = and_parts (fits w c) (list_all (fits w) p) h in
    and-made (int_le (least w) c) (at_most (replicate (length p) (least w)) p) (and_parts (int_le (least w) c) (int_le c (greatest w)) a.0).0 (from-least w p a.1)

pub to-greatest : (w : ℕ) (p : List ℤ) → list_all (fits w) p ≡ true → at_most p (replicate (length p) (greatest w)) ≡ true
to-greatest w [] h = refl
to-greatest w (c ∷ p) h =
    let a : (fits w c ≡ true) × (list_all (fits w) p ≡ true) = and_parts (fits w c) (list_all (fits w) p) h in
    and-made (int_le c (greatest w)) (at_most p (replicate (length p) (greatest w))) (and_parts (int_le (least w) c) (int_le c (greatest w)) a.0).1 (to-greatest w p a.1)

pub at_most-trans : (xs ys zs : List ℤ) → at_most xs ys ≡ true → at_most ys zs ≡ true → at_most xs zs ≡ true
at_most-trans [] [] [] h k = refl
at_most-trans [] [] (z ∷ zs) h k = k
at_most-trans [] (y ∷ ys) zs h k = absurd (let no : false ≡ true = h in cc)
at_most-trans (x ∷ xs) [] zs h k = absurd (let no : false ≡ true = h in cc)
at_most-trans (x ∷ xs) (y ∷ ys) [] h k = absurd (let no : false ≡ true = k in cc)
at_most-trans (x ∷ xs) (y ∷ ys) (z ∷ zs) h k =
    let a = and_parts (int_le x y) (at_most xs ys) h in
    let b = and_parts (int_le y z) (at_most ys zs) k in
    and-made (int_le x z) (at_most xs zs) (le-trans x y z a.0 b.0) (at_most-trans xs ys zs a.1 b.1)
  where
    le-trans : (x y z : ℤ) → int_le x y ≡ true → int_le y z ≡ true → int_le x z ≡ true
    le-trans x y z h k = grind (arith, ints)

-- ---- a box in two halves

-- a point of the width, in two halves of so many coordinates
pub record Halved (w k : ℕ) (box : List ℤ) : Type 0 where
  pub low : List ℤ
  pub high : List ℤ
  pub joined : box ≡ low ++ high
  pub low_long : length low ≡ k
  pub high_long : length high ≡ k
  pub low_fits : list_all (fits w) low ≡ true
  pub high_fits : list_all (fits w) high ≡ true

list_all-parts : (p : ℤ → Bool) (xs ys : List ℤ) → list_all p (xs ++ ys) ≡ true → (list_all p xs ≡ true) × (list_all p ys ≡ true)
list_all-parts p [] ys h = (refl, h)
list_all-parts p (x ∷ xs) ys h =
    let a = and_parts (p x) (list_all p (xs ++ ys)) h in
    let b = list_all-parts p xs ys a.1 in
    (and-made (p x) (list_all p xs) a.0 b.0, b.1)

take-long : (k : ℕ) (xs : List ℤ) → k ≤ length xs → length (take k xs) ≡ k
take-long zero xs h = refl
take-long (suc k) [] h = absurd (omega (arith, h))
take-long (suc k) (x ∷ xs) h = ap suc (take-long k xs (omega (arith, h)))

drop-long : (k : ℕ) (xs : List ℤ) → length (drop k xs) ≡ length xs - k
drop-long zero xs = omega arith
drop-long (suc k) [] = omega arith
drop-long (suc k) (x ∷ xs) = let ih : length (drop k xs) ≡ length xs - k = drop-long k xs in omega (arith, ih)

pub halved : (w k d : ℕ) (box : List ℤ) → k * 2 ≡ d → IsPoint w d box → Halved w k box
halved w k d box e h =
    let a : ((length box == d) ≡ true) × (list_all (fits w) box ≡ true) = and_parts (length box == d) (list_all (fits w) box) h in
    let n : length box ≡ d = eqb-true (length box) d a.0 in
    let j : take k box ++ drop k box ≡ box = take-append-drop k box in
    let f : (list_all (fits w) (take k box) ≡ true) × (list_all (fits w) (drop k box) ≡ true) =
    list_all-parts (fits w) (take k box) (drop k box) (subst (λ b. list_all (fits w) b ≡ true) (sym j) a.1) in
    record {
      low = take k box;
      high = drop k box;
      joined = sym j;
      low_long = take-long k box (omega (arith, n, e));
      high_long = drop-long k box ∙ omega (arith, n, e);
      low_fits = f.0;
      high_fits = f.1;
    }

-- ---- the windows

true-left : (a b : Bool) → a ≡ true → (a && b) ≡ b
true-left a b e = ap (λ t. t && b) e

true-right : (a b : Bool) → b ≡ true → (a && b) ≡ a
true-right true b e = e
true-right false b e = refl

flip : (a b : Bool) → (a && b) ≡ (b && a)
flip true true = refl
flip true false = refl
flip false true = refl
flip false false = refl

module _ (w k d : ℕ) (lo hi : List ℤ) (e : k * 2 ≡ d) (low : length lo ≡ k) (high : length hi ≡ k) where
  -- a box in a window that is open below its low corner and above its high one
  between-open : (x y l g : List ℤ) → length x ≡ k → length y ≡ k → length l ≡ k → length g ≡ k →
      list_all (fits w) l ≡ true → list_all (fits w) g ≡ true →
      is_between (replicate (length x) (least w) ++ x) (y ++ replicate (length y) (greatest w)) (l ++ g) ≡ (at_most l y && at_most x g)
  between-open x y l g p q m n f h =
      let a : at_most (replicate (length x) (least w)) l ≡ true = subst (λ j. at_most (replicate j (least w)) l ≡ true) (m ∙ sym p) (from-least w l f) in
      let b : at_most g (replicate (length y) (greatest w)) ≡ true = subst (λ j. at_most g (replicate j (greatest w)) ≡ true) (n ∙ sym q) (to-greatest w g h) in
      ap (λ t. t && at_most (l ++ g) (y ++ replicate (length y) (greatest w)))
      (at_most-joined (replicate (length x) (least w)) l x g
      (length-replicate (length x) (least w) ∙ p ∙ sym m) ∙
      true-left (at_most (replicate (length x) (least w)) l) (at_most x g) a)
      ∙ ap (λ t. at_most x g && t) (at_most-joined l y g (replicate (length y) (greatest w)) (m ∙ sym q) ∙
      true-right (at_most l y) (at_most g (replicate (length y) (greatest w))) b)
      ∙ flip (at_most x g) (at_most l y)

  -- such a window answers a question about the low corner and about the high one
  open-window : (x y : List ℤ) (asks : List ℤ → Bool) → length x ≡ k → length y ≡ k →
      ((l g : List ℤ) → length l ≡ k → length g ≡ k → asks (l ++ g) ≡ (at_most l y && at_most x g)) →
      IsWindowFor w d asks (replicate (length x) (least w) ++ x) (y ++ replicate (length y) (greatest w))
  open-window x y asks p q f box at b =
      let z : Halved w k box = halved w k d box e at in
      subst (λ t. is_between (replicate (length x) (least w) ++ x) (y ++ replicate (length y) (greatest w)) t ≡ asks t) (sym z.joined)
      (between-open x y z.low z.high p q z.low_long z.high_long z.low_fits z.high_fits ∙ sym (f z.low z.high z.low_long z.high_long))

  pub overlaps-window : IsWindowFor w d (overlaps (lo ++ hi)) (overlaps_low w lo hi) (overlaps_high w lo hi)
  overlaps-window =
      let c = corners-joined lo hi (low ∙ sym high) in
      open-window lo hi (overlaps (lo ++ hi)) low high
      (λ l g m n. let o = corners-joined l g (m ∙ sym n) in (λ i. at_most (o.0 i) (c.1 i) && at_most (c.0 i) (o.1 i)))

  pub covers-window : IsWindowFor w d (covers (lo ++ hi)) (covers_low w lo hi) (covers_high w lo hi)
  covers-window =
      let c = corners-joined lo hi (low ∙ sym high) in
      open-window hi lo (covers (lo ++ hi)) high low
      (λ l g m n. let o = corners-joined l g (m ∙ sym n) in (λ i. at_most (o.0 i) (c.0 i) && at_most (c.1 i) (o.1 i)))

  -- of a box, the other bounds follow
  pub inside-window : IsWindowFor w d (is_inside (lo ++ hi)) (inside_low w lo hi) (inside_high w lo hi)
  inside-window box p b =
      let x : Halved w k box = halved w k d box e p in
      by_box x.low x.high x.low_long x.high_long x.joined
    where
      drop-both : (r s t u : Bool) → (r ≡ true → s ≡ true) → (u ≡ true → t ≡ true) → ((r && s) && (t && u)) ≡ (r && u)
      drop-both true s t true f g = (λ i. f refl i && (g refl i && true))
      drop-both true s t false f g = by_s s t
        where
          by_s : (s t : Bool) → (s && (t && false)) ≡ false
          by_s true true = refl
          by_s true false = refl
          by_s false t = refl
      drop-both false s t u f g = refl

      by_box : (l g : List ℤ) → length l ≡ k → length g ≡ k → box ≡ l ++ g → is_between (inside_low w lo hi) (inside_high w lo hi) box ≡ is_inside (lo ++ hi) box
      by_box l g m n j =
          let c = corners-joined lo hi (low ∙ sym high) in
          let o = corners-joined l g (m ∙ sym n) in
          let q : at_most (low_corner (l ++ g)) (high_corner (l ++ g)) ≡ true = subst (λ z. is_box z ≡ true) j b in
          let ordered : at_most l g ≡ true = sym (λ i. at_most (o.0 i) (o.1 i)) ∙ q in
          subst (λ z. is_between (inside_low w lo hi) (inside_high w lo hi) z ≡ is_inside (lo ++ hi) z) (sym j)
          (ap (λ t. t && at_most (l ++ g) (hi ++ hi)) (at_most-joined lo l lo g (low ∙ sym m))
          ∙ ap (λ t. (at_most lo l && at_most lo g) && t) (at_most-joined l hi g hi (m ∙ sym high))
          ∙ drop-both (at_most lo l) (at_most lo g) (at_most l hi) (at_most g hi) (λ h. at_most-trans lo l g h ordered) (λ h. at_most-trans l g hi ordered h)
          ∙ sym (λ i. at_most (c.0 i) (o.0 i) && at_most (o.1 i) (c.1 i)))

-- ---- the ends of a width

least_fits : (w : ℕ) → fits w (least w) ≡ true
least_fits w = grind (arith, ints, le-leb)

greatest_fits : (w : ℕ) → fits w (greatest w) ≡ true
greatest_fits w = grind (arith, ints, le-leb)

all-fit : (w k : ℕ) (z : ℤ) → fits w z ≡ true → list_all (fits w) (replicate k z) ≡ true
all-fit w zero z h = refl
all-fit w (suc k) z h = and-made (fits w z) (list_all (fits w) (replicate k z)) h (all-fit w k z h)

pub least_all : (w k : ℕ) → list_all (fits w) (replicate k (least w)) ≡ true
least_all w k = all-fit w k (least w) (least_fits w)

pub greatest_all : (w k : ℕ) → list_all (fits w) (replicate k (greatest w)) ≡ true
greatest_all w k = all-fit w k (greatest w) (greatest_fits w)

-- ---- tables of boxes

-- on boxes of the width the window lists what the question lists
pub window_lists : (w d : ℕ) (asks : List ℤ → Bool) (low high : List ℤ) (table : List Row) →
    IsWindowFor w d asks low high → Each (λ r. IsPoint w d r.point × IsBox r.point) table →
    window low high table ≡ filter (λ r. asks r.point) table
window_lists w d asks low high [] f h = refl
window_lists w d asks low high (r ∷ table) f h =
    ap (λ t. cond t (r ∷ window low high table) (window low high table)) (f r.point h.0.0 h.0.1)
    ∙ ap (λ rs. cond (asks r.point) (r ∷ rs) rs) (window_lists w d asks low high table f h.1)
