-- A field of the tables of a record is digits of its words.
use Rattle.std.proofs.Common.{◌≡◌, ℕ, zero, suc, ◌+◌, ◌-◌, ◌*◌, ◌/◌, ◌%◌, ◌^◌, ◌<◌, ◌≤◌, refl, sym, ◌∙◌, ap, subst, arith, List}
use Rattle.std.proofs.Common.{[], ◌∷◌, ◌++◌, length, map, take, drop, replicate, slice_index_or, get_or, Bool}
use Rattle.std.specs.List.{AllByRecursion as Each}
use Rattle.std.proofs.lemmas.List.{take-append-drop, length-take-le, drop-drop}
use Rattle.std.proofs.lemmas.Nat.{shr-shr}
use Rattle.ph_specs.specs.Digits.{field, number_of, words_for, read_fields}
use Rattle.ph_model.specs.Digits.{digits_at}
use Rattle.ph_specs.specs.Record.{first_in, widths, padding, Read, read_point, read_child, parts}
use Rattle.ph_model.specs.NodeSize.{children_in, points_in}
use Rattle.ph_model.specs.Layout.{digits_as, number_as, fields_as, IsRecord}
use Rattle.ph_model.proofs.lemmas.ReadColumns.{length-read_fields}
use Rattle.ph_specs.proofs.laws.ReadBack.{total}
use Rattle.ph_model.proofs.laws.WordDigits.{digits-front, digits-behind}

pub each-drop : (n : ℕ) (xs : List ℕ) → Each (λ x. x < 2 ^ 64) xs → Each (λ x. x < 2 ^ 64) (drop n xs)
each-drop zero xs h = h
each-drop (suc n) [] h = h
each-drop (suc n) (x ∷ xs) h = each-drop n xs h.1

-- field i of those that are read, where the fields before it take `total (take i ws)` digits
pub read_fields-at : (left : ℕ) (ws : List ℕ) (x i : ℕ) → i < length ws
    → slice_index_or (read_fields left ws x) i 0 ≡ x / 2 ^ (left - total (take i ws) - slice_index_or ws i 0) % 2 ^ slice_index_or ws i 0
read_fields-at left [] x i l = elim l [ ]
read_fields-at left (w ∷ ws) x zero l = let a : left - w ≡ left - 0 - w = omega arith in ap (λ t. x / 2 ^ t % 2 ^ w) a
read_fields-at left (w ∷ ws) x (suc i) l =
    let a : left - w - total (take i ws) - slice_index_or ws i 0 ≡ left - (w + total (take i ws)) - slice_index_or ws i 0 = omega arith in
    read_fields-at (left - w) ws x i (omega (arith, l)) ∙ ap (λ t. x / 2 ^ t % 2 ^ slice_index_or ws i 0) a

-- digits of the tables behind the first word
pub tables-digits : (words : List ℕ) (digits p w : ℕ) → 1 + words_for digits ≤ length words → p + w ≤ digits → Each (λ x. x < 2 ^ 64) words
    → number_of (map (field 64) (take (words_for digits) (drop 1 words))) / 2 ^ padding digits / 2 ^ (digits - p - w) % 2 ^ w ≡ digits_at words (64 + p) w
tables-digits [] digits p w l m h = absurd (omega (arith, l))
tables-digits (x ∷ ws) digits p w l m h =
    let t : ℕ = words_for digits in
    let xs : List ℕ = take t ws in
    let ys : List ℕ = drop t ws in
    let n : length (take (words_for digits) ws) ≡ words_for digits = length-take-le (words_for digits) ws (omega (arith, l)) in
    let a : padding digits + (digits - p - w) ≡ 64 * length (take (words_for digits) ws) - p - w = pad digits p w m ∙ ap (λ k. 64 * k - p - w) (sym n) in
    let f : p + w ≤ 64 * length (take (words_for digits) ws) = subst (λ k. p + w ≤ 64 * k) (sym n) (enough digits p w m) in
    let g : p + w ≤ 64 * length ws = within p w (words_for digits) (length ws) (enough digits p w m) (omega (arith, l)) in
    ap (λ k. k % 2 ^ w) (shr-shr (number_of (map (field 64) xs)) (padding digits) (digits - p - w) ∙ ap (λ k. number_of (map (field 64) xs) / 2 ^ k) a)
    ∙ sym (digits-front xs ys p w f (each-drop t ws h.1))
    ∙ ap (λ k. digits_at k p w) (take-append-drop t ws)
    ∙ sym (digits-behind x ws p w g)
  where
    enough : (digits p w : ℕ) → p + w ≤ digits → p + w ≤ 64 * words_for digits
    enough digits p w m = omega (arith, m)

    pad : (digits p w : ℕ) → p + w ≤ digits → padding digits + (digits - p - w) ≡ 64 * words_for digits - p - w
    pad digits p w m = omega (arith, m)

    within : (p w t n : ℕ) → p + w ≤ 64 * t → t ≤ n → p + w ≤ 64 * n
    within p w t n a b = omega (arith, a, b)

-- field j of the tables, where it has w digits and the fields before it have p
pub field-digits : (cube : Bool) (dims : ℕ) (words : List ℕ) (j w p : ℕ) → IsRecord cube dims words →
    Each (λ x. x < 2 ^ 64) words → j < length (widths cube dims (first_in words))
    → slice_index_or (widths cube dims (first_in words)) j 0 ≡ w → total (take j (widths cube dims (first_in words))) ≡ p → p + w ≤ digits_as cube dims (first_in words)
    → slice_index_or (fields_as cube dims words) j 0 ≡ digits_at words (64 + p) w
field-digits cube dims words j w p r h k at before m =
    let digits : ℕ = digits_as cube dims (first_in words) in
    let ws : List ℕ = widths cube dims (first_in words) in
    let x : ℕ = number_as cube dims words / 2 ^ padding digits in
    read_fields-at digits ws x j k
    ∙ ap (λ t. x / 2 ^ (digits - total (take j ws) - t) % 2 ^ t) at
    ∙ ap (λ t. x / 2 ^ (digits - t - w) % 2 ^ w) before
    ∙ tables-digits words digits p w (omega (arith, r.long)) m h

-- ---- widths that repeat

pub total-replicate : (n k : ℕ) (xs : List ℕ) (i : ℕ) → i ≤ n → total (take i (replicate n k ++ xs)) ≡ i * k
total-replicate n k xs zero l = omega arith
total-replicate zero k xs (suc i) l = elim l [ ]
total-replicate (suc n) k xs (suc i) l = omega (arith, total-replicate n k xs i (omega (arith, l)))

pub total-behind : (n k : ℕ) (xs : List ℕ) (i : ℕ) → total (take (n + i) (replicate n k ++ xs)) ≡ n * k + total (take i xs)
total-behind zero k xs i = let a : 0 + i ≡ i = omega arith in ap (λ t. total (take t xs)) a ∙ omega arith
total-behind (suc n) k xs i =
    let a : suc n + i ≡ suc (n + i) = omega arith in
    ap (λ t. total (take t (k ∷ (replicate n k ++ xs)))) a ∙ omega (arith, total-behind n k xs i)

pub total-all : (n k i : ℕ) → i ≤ n → total (take i (replicate n k)) ≡ i * k
total-all n k zero l = omega arith
total-all zero k (suc i) l = elim l [ ]
total-all (suc n) k (suc i) l = omega (arith, total-all n k i (omega (arith, l)))

pub at-replicate : (n k : ℕ) (xs : List ℕ) (i : ℕ) → i < n → slice_index_or (replicate n k ++ xs) i 0 ≡ k
at-replicate zero k xs i l = elim l [ ]
at-replicate (suc n) k xs zero l = refl
at-replicate (suc n) k xs (suc i) l = at-replicate n k xs i (omega (arith, l))

pub at-behind : (n k : ℕ) (xs : List ℕ) (i : ℕ) → slice_index_or (replicate n k ++ xs) (n + i) 0 ≡ slice_index_or xs i 0
at-behind zero k xs i = let a : 0 + i ≡ i = omega arith in ap (λ t. slice_index_or xs t 0) a
at-behind (suc n) k xs i = let a : suc n + i ≡ suc (n + i) = omega arith in ap (λ t. slice_index_or (k ∷ (replicate n k ++ xs)) t 0) a ∙ at-behind n k xs i

pub long : (n k : ℕ) (xs : List ℕ) → n ≤ length (replicate n k ++ xs)
long zero k xs = omega arith
long (suc n) k xs = omega (arith, long n k xs)

pub long-behind : (n k : ℕ) (xs : List ℕ) (i : ℕ) → i < length xs → n + i < length (replicate n k ++ xs)
long-behind zero k xs i l = omega (arith, l)
long-behind (suc n) k xs i l = omega (arith, long-behind n k xs i l)

-- there are as many numbers as widths
pub length-fields : (cube : Bool) (dims : ℕ) (words : List ℕ) → length (fields_as cube dims words) ≡ length (widths cube dims (first_in words))
length-fields cube dims words = length-read_fields (digits_as cube dims (first_in words)) (widths cube dims (first_in words)) _

-- ---- parts and entries

pub parts-at : (n d : ℕ) (ys : List ℕ) (i : ℕ) → i < n → get_or (parts n d ys) i [] ≡ take d (drop (i * d) ys)
parts-at zero d ys i l = elim l [ ]
parts-at (suc n) d ys zero l = let e : 0 * d ≡ 0 = omega arith in ap (λ t. take d (drop t ys)) (sym e)
parts-at (suc n) d ys (suc i) l =
    let e : suc i * d ≡ d + i * d = omega arith in
    parts-at n d (drop d ys) i (omega (arith, l)) ∙ ap (take d) (drop-drop (i * d) d ys ∙ ap (λ t. drop t ys) (sym e))

-- each entry is a child or a point
pub both-counts : (rs : List Read) (i : ℕ) → i ≤ length rs → children_in (take i rs) + points_in (take i rs) ≡ i
both-counts rs zero l = refl
both-counts [] (suc i) l = elim l [ ]
both-counts (read_point a body ∷ rs) (suc i) l = omega (arith, both-counts rs i (omega (arith, l)))
both-counts (read_child a body ∷ rs) (suc i) l = omega (arith, both-counts rs i (omega (arith, l)))
