-- The columns of tables as rows of digits of the words.
use Rattle.std.proofs.Common.{◌≡◌, ℕ, zero, suc, ◌+◌, ◌-◌, ◌*◌, ◌/◌, ◌%◌, ◌^◌, ◌<◌, ◌≤◌, refl, ◌∙◌, ap, arith, List, []}
use Rattle.std.proofs.Common.{◌∷◌, ◌++◌, length, map, take, drop, replicate, append_assoc, true, false}
use Rattle.std.specs.Prelude.{count_by, ◌&&◌, ◌==◌}
use Rattle.std.specs.List.{AllByRecursion as Each}
use Rattle.ph_specs.specs.Digits.{field, number_of, words_for, read_fields}
use Rattle.ph_model.specs.Digits.{digits_at}
use Rattle.ph_model.specs.Layout.{fields_as, tables_as, digits_as}
use Rattle.ph_specs.specs.Record.{First, first_in, padding, parts, rises_from, absent_are_zero}
use Rattle.ph_specs.proofs.laws.ReadBack.{total}
use Rattle.ph_model.proofs.laws.TableFields.{tables-digits}
use Rattle.ph_model.proofs.lemmas.Columns.{take-front, drop-front}
use Rattle.ph_bits.specs.Fields.{digits_row}
use Rattle.ph_snap.specs.Columns.{body_rows, kinds_fit}

pub length-row : (words : List ℕ) (at w n : ℕ) → length (digits_row words at w n) ≡ n
length-row words at w zero = refl
length-row words at w (suc n) = ap suc (length-row words (at + w) w n)

pub row-split : (words : List ℕ) (at w n m : ℕ) → digits_row words at w (n + m) ≡ digits_row words at w n ++ digits_row words (at + n * w) w m
row-split words at w zero m =
    let a : 0 + m ≡ m = omega arith in
    let b : at ≡ at + 0 * w = omega arith in
    ap (digits_row words at w) a ∙ ap (λ t. digits_row words t w m) b
row-split words at w (suc n) m =
    let a : suc n + m ≡ suc (n + m) = omega arith in
    let b : at + w + n * w ≡ at + suc n * w = omega arith in
    ap (digits_row words at w) a
    ∙ ap {B = List ℕ} (λ t. digits_at words at w ∷ t) (row-split words (at + w) w n m ∙ ap (λ t. digits_row words (at + w) w n ++ digits_row words t w m) b)

-- bodies are parts of the row of all their fields
pub parts-rows : (words : List ℕ) (at level dims n : ℕ) → parts n dims (digits_row words at level (n * dims)) ≡ body_rows words at level dims n
parts-rows words at level dims zero = refl
parts-rows words at level dims (suc n) =
    let a : suc n * dims ≡ dims + n * dims = omega arith in
    let front : List ℕ = digits_row words at level dims in
    let back : List ℕ = digits_row words (at + dims * level) level (n * dims) in
    let whole : digits_row words at level (suc n * dims) ≡ digits_row words at level dims ++
    digits_row words (at + dims * level) level (n * dims) = ap (digits_row words at level) a ∙
    row-split words at level dims (n * dims) in
    ap (λ t. take dims t ∷ parts n dims (drop dims t)) whole
    ∙ ap {B = List (List ℕ)} (λ t. t ∷ parts n dims (drop dims (front ++ back))) (take-front dims front back (length-row words at level dims))
    ∙ ap {B = List (List ℕ)} (λ t. front ∷ parts n dims t) (drop-front dims front back (length-row words at level dims))
    ∙ ap {B = List (List ℕ)} (λ t. front ∷ t) (parts-rows words (at + dims * level) level dims n)

-- ---- fields that are read

read-append : (left : ℕ) (ws vs : List ℕ) (x : ℕ) → read_fields left (ws ++ vs) x ≡ read_fields left ws x ++ read_fields (left - total ws) vs x
read-append left [] vs x = let a : left ≡ left - 0 = omega arith in ap (λ t. read_fields t vs x) a
read-append left (w ∷ ws) vs x =
    let a : left - w - total ws ≡ left - (w + total ws) = omega arith in
    ap {B = List ℕ} (λ t. (x / 2 ^ (left - w)) % 2 ^ w ∷ t) (read-append (left - w) ws vs x ∙ ap (λ t. read_fields (left - w) ws x ++ read_fields t vs x) a)

total-replicate : (n w : ℕ) → total (replicate n w) ≡ n * w
total-replicate zero w = omega arith
total-replicate (suc n) w = omega (arith, total-replicate n w)

module _ (words : List ℕ) (digits : ℕ) (long : 1 + words_for digits ≤ length words) (small : Each (λ x. x < 2 ^ 64) words) where
  abbrev number : ℕ
  number = number_of (map (field 64) (take (words_for digits) (drop 1 words))) / 2 ^ padding digits

  read-row : (p w n : ℕ) → p + n * w ≤ digits → read_fields (digits - p) (replicate n w) number ≡ digits_row words (64 + p) w n
  read-row p w zero h = refl
  read-row p w (suc n) h =
      let a : digits - p - w ≡ digits - (p + w) = omega arith in
      let b : 64 + (p + w) ≡ 64 + p + w = omega arith in
      ap {B = List ℕ} (λ t. t ∷ read_fields (digits - p - w) (replicate n w) number) (tables-digits words digits p w long (omega (arith, h)) small)
      ∙ ap {B = List ℕ} (λ t. digits_at words (64 + p) w ∷ t)
      (ap (λ t. read_fields t (replicate n w) number) a ∙ read-row (p + w) w n (omega (arith, h)) ∙
      ap (λ t. digits_row words t w n) b)

  -- two columns
  pub two-rows : (n w m v : ℕ) → n * w + m * v ≤ digits → read_fields digits (replicate n w ++ replicate m v) number ≡
      digits_row words 64 w n ++ digits_row words (64 + n * w) v m
  two-rows n w m v h =
      let a : digits ≡ digits - 0 = omega arith in
      let b : digits - total (replicate n w) ≡ digits - n * w = omega (arith, total-replicate n w) in
      read-append digits (replicate n w) (replicate m v) number
      ∙ ap (λ t. t ++ read_fields (digits - total (replicate n w)) (replicate m v) number)
      (ap (λ t. read_fields t (replicate n w) number) a ∙ read-row 0 w n (omega (arith, h)))
      ∙ ap (λ t. digits_row words 64 w n ++ t) (ap (λ t. read_fields t (replicate m v) number) b ∙ read-row (n * w) v m h)

  -- three columns
  pub three-rows : (n w m v k u : ℕ) → n * w + (m * v + k * u) ≤ digits →
      read_fields digits (replicate n w ++ replicate m v ++ replicate k u) number ≡ digits_row words 64 w n ++
      digits_row words (64 + n * w) v m ++ digits_row words (64 + (n * w + m * v)) u k
  three-rows n w m v k u h =
      let ws : List ℕ = replicate n w ++ replicate m v in
      read-append digits (replicate n w ++ replicate m v) (replicate k u) number
      ∙ ap (λ t. t ++ read_fields (digits - total ws) (replicate k u) number) (two-rows n w m v (omega (arith, h)))
      ∙ ap (λ t. digits_row words 64 w n ++ digits_row words (64 + n * w) v m ++ t)
      (ap (λ t. read_fields (digits - t) (replicate k u) number) (both n w m v) ∙
      read-row (n * w + m * v) u k (omega (arith, h)))
    where
      both : (n w m v : ℕ) → total (replicate n w ++ replicate m v) ≡ n * w + m * v
      both zero w m v = omega (arith, total-replicate m v)
      both (suc n) w m v = omega (arith, both n w m v)

-- ---- the rules on columns

-- kinds, addresses and bodies
pub linear-tables : (dims : ℕ) (words : List ℕ) → 1 + words_for (digits_as false dims (first_in words)) ≤ length words → Each (λ x. x < 2 ^ 64) words
    → (tables_as false dims words).is_lawful ≡
    ((count_by (λ k. k == 1) (digits_row words 64 1 (first_in words).entries) == (first_in words).children) &&
    rises_from 0 (digits_row words (64 + (first_in words).entries) dims (first_in words).entries))
linear-tables dims words l h =
    let f : First = first_in words in
    let n : ℕ = f.entries in
    let xs : List ℕ = fields_as false dims words in
    let ks : List ℕ = digits_row words 64 1 n in
    let ads : List ℕ = digits_row words (64 + n * 1) dims n in
    let bs : List ℕ = digits_row words (64 + (n * 1 + n * dims)) f.level (n * dims) in
    let e : xs ≡ ks ++ (ads ++ bs) = three-rows words (digits_as false dims f) l h n 1 n dims (n * dims) f.level (fits n dims f.level) ∙ append_assoc ks ads bs in
    let a : 64 + n * 1 ≡ 64 + n = omega arith in
    let k : take n xs ≡ ks = ap (take n) e ∙ take-front n ks (ads ++ bs) (length-row words 64 1 n) in
    let d : take n (drop n xs) ≡ digits_row words (64 + n) dims n = ap (λ t. take n (drop n t)) e ∙
    ap (take n) (drop-front n ks (ads ++ bs) (length-row words 64 1 n)) ∙
    take-front n ads bs (length-row words (64 + n * 1) dims n) ∙ ap (λ t. digits_row words t dims n) a in
    ap (λ t. (count_by (λ k. k == 1) t == f.children) && rises_from 0 (take n (drop n xs))) k
    ∙ ap (λ t. (count_by (λ k. k == 1) ks == f.children) && rises_from 0 t) d
  where
    fits : (n d b : ℕ) → n * 1 + (n * d + n * d * b) ≤ n * (1 + d + d * b)
    fits n d b = omega arith

pub cube-tables : (dims : ℕ) (words : List ℕ) → 1 + words_for (digits_as true dims (first_in words)) ≤ length words → Each (λ x. x < 2 ^ 64) words
    → (tables_as true dims words).is_lawful ≡
    (kinds_fit (digits_row words 64 2 (2 ^ dims)) (first_in words).entries (first_in words).children &&
    absent_are_zero (digits_row words 64 2 (2 ^ dims))
    (body_rows words (64 + 2 ^ dims * 2) (first_in words).level dims (2 ^ dims)))
cube-tables dims words l h =
    let f : First = first_in words in
    let n : ℕ = 2 ^ dims in
    let xs : List ℕ = fields_as true dims words in
    let ks : List ℕ = digits_row words 64 2 n in
    let bs : List ℕ = digits_row words (64 + n * 2) f.level (n * dims) in
    let e : xs ≡ ks ++ bs = two-rows words (digits_as true dims f) l h n 2 (n * dims) f.level (fits n dims f.level) in
    let k : take n xs ≡ ks = ap (take n) e ∙ take-front n ks bs (length-row words 64 2 n) in
    let d : parts n dims (drop n xs) ≡ body_rows words (64 + n * 2) f.level dims n = ap (λ t. parts n dims (drop n t))
    e ∙ ap (parts n dims) (drop-front n ks bs (length-row words 64 2 n)) ∙ parts-rows words (64 + n * 2) f.level dims n in
    ap (λ t. kinds_fit t f.entries f.children && absent_are_zero t (parts n dims (drop n xs))) k
    ∙ ap (λ t. kinds_fit ks f.entries f.children && absent_are_zero ks t) d
  where
    fits : (n d b : ℕ) → n * 2 + n * d * b ≤ n * (2 + d * b)
    fits n d b = omega arith

-- one more field of a row
pub row-next : (words : List ℕ) (at w n i : ℕ) → i < n →
    digits_row words (at + i * w) w (n - i) ≡ digits_at words (at + i * w) w ∷ digits_row words (at + (i + 1) * w) w (n - (i + 1))
row-next words at w n i l =
    let a : n - i ≡ suc (n - (i + 1)) = omega arith in
    let b : at + i * w + w ≡ at + (i + 1) * w = omega arith in
    ap (digits_row words (at + i * w) w) a ∙ ap {B = List ℕ} (λ t. digits_at words (at + i * w) w ∷ digits_row words t w (n - (i + 1))) b

pub body-next : (words : List ℕ) (at level dims n i : ℕ) → i < n →
    body_rows words (at + i * (dims * level)) level dims (n - i) ≡ digits_row words (at + i * (dims * level)) level
    dims ∷ body_rows words (at + (i + 1) * (dims * level)) level dims (n - (i + 1))
body-next words at level dims n i l =
    let a : n - i ≡ suc (n - (i + 1)) = omega arith in
    let b : at + i * (dims * level) + dims * level ≡ at + (i + 1) * (dims * level) = omega arith in
    ap (body_rows words (at + i * (dims * level)) level dims) a ∙
    ap {B = List (List ℕ)} (λ t. digits_row words (at + i * (dims * level)) level dims ∷
    body_rows words t level dims (n - (i + 1))) b
