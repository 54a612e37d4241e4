-- The rules on columns, field by field.
use Rattle.std.proofs.Common.{◌≡◌, ℕ, zero, suc, ◌+◌, ◌-◌, ◌*◌, ◌/◌, ◌%◌, ◌^◌, ◌<◌, ◌≤◌, refl, sym, ◌∙◌, ap}
use Rattle.std.proofs.Common.{arith, List, [], ◌∷◌, ◌++◌, length, map, take, drop, Bool, true, false}
use Rattle.std.specs.Prelude.{count_by, nat_le, ◌&&◌, ◌==◌}
use Rattle.std.specs.List.{list_all, AllByRecursion as Each}
use Rattle.std.proofs.Common.{cond}
use mir.Val.{bool_byte}
use Rattle.std.proofs.Math.Nat.{pow-le-pow_right, mod-eq_of_lt}
use Rattle.std.proofs.lemmas.List.Sums.{sum_by-append, sum_by-cons}
use Rattle.std.specs.Int.RustNames.{count_ones}
use Rattle.std.proofs.lemmas.Nat.{ones_cat}
use Rattle.std.proofs.lemmas.Bool.{le-leb}
use Rattle.std.proofs.lemmas.List.{take-append-drop}
use Rattle.ph_specs.specs.Digits.{field, number_of, words_for}
use Rattle.ph_model.specs.Digits.{digits_at}
use Rattle.ph_specs.specs.Record.{rises_from, absent_are_zero, padding}
use Rattle.ph_model.proofs.laws.TableFields.{each-drop}
use Rattle.std.proofs.lemmas.List.{length-take}
use Rattle.ph_model.proofs.laws.WordDigits.{digits-parts, digits-below, digits-behind, digits-front}
use Rattle.ph_bits.specs.Fields.{digits_row, ones_in}
use Rattle.ph_snap.specs.Columns.{body_rows, kinds_fit, place_fits}
use Rattle.ph_model.specs.Layout.{tables_as, digits_as}
use Rattle.ph_specs.specs.Pack.{linear_digits}
use Rattle.ph_specs.specs.Record.{first_in, table_digits, table_number}
use Rattle.ph_snap.proofs.Fields.{row-split, row-next, body-next, linear-tables, cube-tables}

-- ---- addresses

pub rises-on : (words : List ℕ) (at w n i least a : ℕ) → i < n → a ≡ digits_at words (at + i * w) w → least ≤ a →
    rises_from (a + 1) (digits_row words (at + (i + 1) * w) w (n - (i + 1))) ≡
    rises_from least (digits_row words (at + i * w) w (n - i))
rises-on words at w n i least a l e h =
    let rest : List ℕ = digits_row words (at + (i + 1) * w) w (n - (i + 1)) in
    ap (λ t. t && rises_from (a + 1) rest) (sym (le-leb least a h))
    ∙ ap (λ t. nat_le least t && rises_from (t + 1) rest) e
    ∙ ap (rises_from least) (sym (row-next words at w n i l))

-- ---- ones

one-digit : (k : ℕ) → k < 2 ^ 1 → count_ones k ≡ cond (k == 1) 1 0
unfolding count_ones
one-digit zero l = refl
one-digit (suc zero) l = refl
one-digit (suc (suc k)) l = absurd (omega arith)

count-append : (p : ℕ → Bool) (xs ys : List ℕ) → count_by p (xs ++ ys) ≡ count_by p xs + count_by p ys
count-append p xs ys = sum_by-append (λ x. cond (p x) 1 0) xs ys

-- the ones among digits are the fields of one digit that are 1
pub ones-row : (words : List ℕ) (at n : ℕ) → at + n ≤ 64 * length words → ones_in words at n ≡ count_by (λ k. k == 1) (digits_row words at 1 n)
unfolding count_ones
ones-row words at zero l = ap count_ones (none (digits_at words at 0) (digits-below words at 0))
  where
    none : (k : ℕ) → k < 2 ^ 0 → k ≡ 0
    none k l = omega arith
ones-row words at (suc n) l =
    let a : suc n ≡ n + 1 = omega arith in
    let b : at + n * 1 ≡ at + n = omega arith in
    let d : ℕ = digits_at words (at + n) 1 in
    ap (ones_in words at) a
    ∙ ap count_ones (digits-parts words at n 1 (omega (arith, l)))
    ∙ ones_cat 1 (digits_at words at n) d (digits-below words (at + n) 1)
    ∙ ap (λ t. t + count_ones d) (ones-row words at n (omega (arith, l)))
    ∙ ap (λ t. count_by (λ k. k == 1) (digits_row words at 1 n) + t) (one-digit d (digits-below words (at + n) 1) ∙ front (cond (d == 1) 1 0))
    ∙ sym (count-append (λ k. k == 1) (digits_row words at 1 n) (d ∷ []))
    ∙ ap (λ t. count_by (λ k. k == 1) (digits_row words at 1 n ++ (digits_at words t 1 ∷ []))) (sym b)
    ∙ ap (count_by (λ k. k == 1)) (sym (row-split words at 1 n 1))
    ∙ ap (λ t. count_by (λ k. k == 1) (digits_row words at 1 t)) (sym a)
  where
    front : (x : ℕ) → x ≡ 0 + x
    front x = omega arith

-- ---- padding

pub padding-digits : (words : List ℕ) (digits : ℕ) → 1 + words_for digits ≤ length words →
    Each (λ x. x < 2 ^ 64) words → number_of (map (field 64) (take (words_for digits) (drop 1 words))) % 2 ^ padding
    digits ≡ digits_at words (64 + digits) (padding digits)
padding-digits [] digits l h = absurd (omega arith)
padding-digits (w ∷ ws) digits l h =
    let k : ℕ = words_for digits in
    let pad : ℕ = padding digits in
    let ts : List ℕ = take k ws in
    let vs : List ℕ = drop k ws in
    let long : length (take (words_for digits) ws) ≡ words_for digits = omega (arith, length-take k ws) in
    let none : 64 * length (take (words_for digits) ws) - digits - padding digits ≡ 0 = omega (arith, long) in
    let inside : digits + padding digits ≤ 64 * length (take (words_for digits) ws) = omega (arith, long) in
    let whole : digits + padding digits ≤ 64 * length ws = omega (arith, inside, long) in
    sym
    (digits-behind w ws digits pad whole
    ∙ ap (λ t. digits_at t digits pad) (sym (take-append-drop k ws))
    ∙ digits-front ts vs digits pad inside (each-drop k ws h.1)
    ∙ ap (λ t. number_of (map (field 64) ts) / 2 ^ t % 2 ^ pad) none
    ∙ ap (λ t. t % 2 ^ pad) (one (number_of (map (field 64) ts))))
  where
    one : (x : ℕ) → x / 2 ^ 0 ≡ x
    one x = omega arith

-- ---- kinds

-- one more kind
pub known-next : (words : List ℕ) (at n i k : ℕ) → i < n → k ≡ digits_at words (at + i * 2) 2 →
    list_all (λ x. nat_le x 2) (digits_row words (at + i * 2) 2 (n - i)) ≡
    (nat_le k 2 && list_all (λ x. nat_le x 2) (digits_row words (at + (i + 1) * 2) 2 (n - (i + 1))))
known-next words at n i k l e =
    ap (list_all (λ x. nat_le x 2)) (row-next words at 2 n i l)
    ∙ ap (λ t. nat_le t 2 && list_all (λ x. nat_le x 2) (digits_row words (at + (i + 1) * 2) 2 (n - (i + 1)))) (sym e)

-- ---- bodies

pub absent-next : (words : List ℕ) (from at level dims n i k : ℕ) → i < n → k ≡ digits_at words (from + i * 2) 2
    → absent_are_zero (digits_row words (from + i * 2) 2 (n - i)) (body_rows words (at + i * (dims * level)) level dims (n - i))
    ≡ (place_fits k (digits_row words (at + i * (dims * level)) level dims) &&
    absent_are_zero (digits_row words (from + (i + 1) * 2) 2 (n - (i + 1)))
    (body_rows words (at + (i + 1) * (dims * level)) level dims (n - (i + 1))))
absent-next words from at level dims n i k l e =
    let ks : List ℕ = digits_row words (from + (i + 1) * 2) 2 (n - (i + 1)) in
    let b : List ℕ = digits_row words (at + i * (dims * level)) level dims in
    let bs : List (List ℕ) = body_rows words (at + (i + 1) * (dims * level)) level dims (n - (i + 1)) in
    ap (λ t. absent_are_zero t (body_rows words (at + i * (dims * level)) level dims (n - i))) (row-next words from 2 n i l)
    ∙ ap (absent_are_zero (digits_at words (from + i * 2) 2 ∷ ks)) (body-next words at level dims n i l)
    ∙ ap (λ t. place_fits t b && absent_are_zero ks bs) (sym e)

-- one more kind that is counted, or is not
pub counted-next : (p : ℕ → Bool) (words : List ℕ) (at n i k : ℕ) → i < n → k ≡ digits_at words (at + i * 2) 2 →
    count_by p (digits_row words (at + i * 2) 2 (n - i)) ≡
    cond (p k) 1 0 + count_by p (digits_row words (at + (i + 1) * 2) 2 (n - (i + 1)))
counted-next p words at n i k l e =
    let rest : List ℕ = digits_row words (at + (i + 1) * 2) 2 (n - (i + 1)) in
    ap (count_by p) (row-next words at 2 n i l)
    ∙ sum_by-cons (λ x. cond (p x) 1 0) (digits_at words (at + i * 2) 2) rest
    ∙ ap (λ t. cond (p t) 1 0 + count_by p rest) (sym e)

pub known-on : (words : List ℕ) (at n i k : ℕ) → i < n → k ≡ digits_at words (at + i * 2) 2 → k ≤ 2 →
    list_all (λ x. nat_le x 2) (digits_row words (at + (i + 1) * 2) 2 (n - (i + 1))) ≡
    list_all (λ x. nat_le x 2) (digits_row words (at + i * 2) 2 (n - i))
known-on words at n i k l e h =
    sym (known-next words at n i k l e ∙ ap (λ t. t && list_all (λ x. nat_le x 2) (digits_row words (at + (i + 1) * 2) 2 (n - (i + 1)))) (le-leb k 2 h))

-- ---- the tables

pub linear-is : (dims : ℕ) (words : List ℕ) (n kids ones : ℕ) (rise : Bool) →
    1 + words_for (digits_as false dims (first_in words)) ≤ length words → Each (λ x. x < 2 ^ 64) words →
    n ≡ (first_in words).entries → kids ≡ (first_in words).children → ones ≡ ones_in words 64 n →
    rise ≡ rises_from 0 (digits_row words (64 + n) dims n) → ((ones == kids) && rise) ≡ (tables_as false dims words).is_lawful
linear-is dims words n kids ones rise l h e f g k =
    let m : ones ≡ count_by (λ k. k == 1) (digits_row words 64 1 (first_in words).entries) = g ∙
    ap (ones_in words 64) e ∙ ones-row words 64 (first_in words).entries
    (inside (first_in words).entries dims (first_in words).level (length words) l) in
    ap (λ t. (t == kids) && rise) m
    ∙ ap (λ t. (count_by (λ k. k == 1) (digits_row words 64 1 (first_in words).entries) == t) && rise) f
    ∙ ap (λ t. (count_by (λ k. k == 1) (digits_row words 64 1 (first_in words).entries) == (first_in words).children)
    && t) (k ∙ ap (λ t. rises_from 0 (digits_row words (64 + t) dims t)) e)
    ∙ sym (linear-tables dims words l h)
  where
    inside : (n d b len : ℕ) → 1 + words_for (linear_digits d b n) ≤ len → 64 + n ≤ 64 * len
    inside n d b len m = omega (arith, m)

pub padding-is : (dims : ℕ) (words : List ℕ) (digits v : ℕ) →
    1 + words_for (table_digits dims (first_in words)) ≤ length words → Each (λ x. x < 2 ^ 64) words →
    digits ≡ table_digits dims (first_in words) → v ≡ digits_at words (64 + digits) ((64 - digits % 64) % 64) →
    (v == 0) ≡ (table_number dims (first_in words) words % 2 ^ padding (table_digits dims (first_in words)) == 0)
padding-is dims words digits v l h e f =
    let d : ℕ = table_digits dims (first_in words) in
    ap (λ t. t == 0) (f ∙ ap (λ t. digits_at words (64 + t) ((64 - t % 64) % 64)) e ∙ ap (digits_at words (64 + d)) (left d) ∙ sym (padding-digits words d l h))
  where
    left : (d : ℕ) → (64 - d % 64) % 64 ≡ padding d
    left d = omega arith

module _ (words : List ℕ) (level dims m i k s : ℕ) (e : s ≡ level) (l : i < m) (f : k ≡ digits_at words (64 + i * 2) 2) where
  abbrev behind : Bool
  behind = absent_are_zero (digits_row words (64 + (i + 1) * 2) 2 (m - (i + 1))) (body_rows words (64 + m * 2 + (i + 1) * (dims * level)) level dims (m - (i + 1)))

  placed : place_fits k (digits_row words (64 + m * 2 + i * (dims * s)) level dims) ≡ place_fits k (digits_row words (64 + m * 2 + i * (dims * level)) level dims)
  placed = ap (λ t. place_fits k (digits_row words (64 + m * 2 + i * (dims * t)) level dims)) e

  pub absent-off : (n : ℕ) → m ≡ n → false ≡ place_fits k (digits_row words (64 + m * 2 + i * (dims * s)) level dims)
      → absent_are_zero (digits_row words (64 + i * 2) 2 (m - i))
      (body_rows words (64 + m * 2 + i * (dims * level)) level dims (m - i)) ≡
      absent_are_zero (digits_row words 64 2 m) (body_rows words (64 + m * 2) level dims m)
      → false ≡ absent_are_zero (digits_row words 64 2 n) (body_rows words (64 + n * 2) level dims n)
  absent-off n g h v =
      ap (λ t. t && behind) (h ∙ placed) ∙ sym (absent-next words 64 (64 + m * 2) level dims m i k l f) ∙ v
      ∙ ap (λ t. absent_are_zero (digits_row words 64 2 t) (body_rows words (64 + t * 2) level dims t)) g

  pub absent-on : true ≡ place_fits k (digits_row words (64 + m * 2 + i * (dims * s)) level dims)
      → absent_are_zero (digits_row words (64 + i * 2) 2 (m - i))
      (body_rows words (64 + m * 2 + i * (dims * level)) level dims (m - i)) ≡
      absent_are_zero (digits_row words 64 2 m) (body_rows words (64 + m * 2) level dims m)
      → absent_are_zero (digits_row words (64 + (i + 1) * 2) 2 (m - (i + 1)))
      (body_rows words (64 + m * 2 + (i + 1) * (dims * level)) level dims (m - (i + 1))) ≡
      absent_are_zero (digits_row words 64 2 m) (body_rows words (64 + m * 2) level dims m)
  absent-on h v =
      ap (λ t. t && behind) (h ∙ placed) ∙ sym (absent-next words 64 (64 + m * 2) level dims m i k l f) ∙ v

pub cube-is : (dims : ℕ) (words : List ℕ) (m entries kids level : ℕ) (known absent : Bool) →
    1 + words_for (digits_as true dims (first_in words)) ≤ length words → Each (λ x. x < 2 ^ 64) words →
    m ≡ 2 ^ dims → entries ≡ (first_in words).entries → kids ≡ (first_in words).children →
    level ≡ (first_in words).level → known ≡ kinds_fit (digits_row words 64 2 m) entries kids →
    absent ≡ absent_are_zero (digits_row words 64 2 (2 ^ dims))
    (body_rows words (64 + 2 ^ dims * 2) level dims (2 ^ dims)) → (known && absent) ≡ (tables_as true dims words).is_lawful
cube-is dims words m entries kids level known absent l h a b c d f g =
    let ks : List ℕ = digits_row words 64 2 (2 ^ dims) in
    let k : known ≡ kinds_fit (digits_row words 64 2 (2 ^ dims)) (first_in words).entries (first_in words).children =
    f ∙ ap (λ t. kinds_fit (digits_row words 64 2 t) entries kids) a ∙ ap (λ t. kinds_fit ks t kids) b ∙
    ap (kinds_fit ks (first_in words).entries) c in
    let z : absent ≡ absent_are_zero (digits_row words 64 2 (2 ^ dims))
    (body_rows words (64 + 2 ^ dims * 2) (first_in words).level dims (2 ^ dims)) = g ∙
    ap (λ t. absent_are_zero ks (body_rows words (64 + 2 ^ dims * 2) t dims (2 ^ dims))) d in
    ap (λ t. t && absent) k ∙ ap (λ t. kinds_fit ks (first_in words).entries (first_in words).children && t) z ∙ sym (cube-tables dims words l h)

pub shifted : (dims : ℕ) → dims ≤ 16 → 1 * 2 ^ dims % 2 ^ 64 ≡ 2 ^ dims
shifted dims l =
    let o : 0 < 2 = omega arith in
    let p : 2 ^ dims ≤ 2 ^ 16 = pow-le-pow_right o l in
    mod-eq_of_lt (omega (arith, p)) ∙ omega arith

pub mark-small : (b : Bool) → cond b 1 0 ≤ 1
mark-small true = omega arith
mark-small false = omega arith

pub byte-is : (b : Bool) → bool_byte b ≡ cond b 1 0
byte-is true = refl
byte-is false = refl
