-- The columns of a cube record as digits of its words.
use Rattle.std.proofs.Common.{◌≡◌, ℕ, zero, suc, ◌+◌, ◌*◌, ◌^◌, ◌<◌, ◌≤◌, refl, sym, ◌∙◌, ap, subst, arith, List, ◌∷◌, ◌++◌, length}
use Rattle.std.proofs.Common.{length-append, length-take, length-drop, min, take, drop, replicate, slice_index_or, true}
use Rattle.std.specs.List.{AllByRecursion as Each}
use Rattle.std.proofs.lemmas.List.{get_or-take, get_or-drop, length-replicate, get_or-replicate}
use Rattle.std.proofs.Math.Nat.{mul-le-mul_left}
use Rattle.ph_model.specs.Digits.{digits_at}
use Rattle.ph_specs.specs.Record.{first_in}
use Rattle.ph_model.specs.Layout.{fields_as, IsRecord}
use Rattle.ph_bits.specs.Fields.{digits_row}
use Rattle.ph_model.proofs.laws.TableFields.{field-digits, length-fields, total-replicate, total-behind, total-all, at-replicate, at-behind, long, long-behind}
use Rattle.ph_linear.proofs.Columns.{drop_one}
use Rattle.ph_cube.specs.Cube.{kinds}

below : (i n k : ℕ) → i < n → n ≤ k → i < k
below i n k a b = omega (arith, a, b)

pub length-all : (dims : ℕ) (words : List ℕ) → length (fields_as true dims words) ≡ 2 ^ dims + 2 ^ dims * dims
length-all dims words =
    let n : ℕ = 2 ^ dims in
    let bs : List ℕ = replicate (n * dims) (first_in words).level in
    length-fields true dims words
    ∙ length-append (replicate {A = ℕ} n 2) bs
    ∙ count n (n * dims) _ _ (length-replicate n 2) (length-replicate (n * dims) (first_in words).level)
  where
    count : (n m a c : ℕ) → a ≡ n → c ≡ m → a + c ≡ n + m
    count n m a c e g = omega (arith, e, g)

pub length-kinds : (dims : ℕ) (words : List ℕ) → length (kinds dims words) ≡ 2 ^ dims
length-kinds dims words =
    length-take (2 ^ dims) (fields_as true dims words) ∙ least _ _ _ (length-all dims words)
  where
    least : (n k m : ℕ) → k ≡ n + m → min n k ≡ n
    least n k m e = omega (arith, e)

pub kind-digits : (dims : ℕ) (words : List ℕ) (a : ℕ) → IsRecord true dims words → Each (λ x. x < 2 ^ 64) words → a < 2 ^ dims
    → slice_index_or (kinds dims words) a 0 ≡ digits_at words (64 + a * 2) 2
kind-digits dims words a r h l =
    let n : ℕ = 2 ^ dims in
    let b : ℕ = (first_in words).level in
    let rest : List ℕ = replicate (n * dims) b in
    let k : a < length (replicate n 2 ++ rest) = below a n (length (replicate n 2 ++ rest)) l (long n 2 rest) in
    get_or-take n (fields_as true dims words) a 0 l
    ∙ field-digits true dims words a 2 (a * 2) r h k (at-replicate n 2 rest a l)
    (total-replicate n 2 rest a (omega (arith, l))) (fits n a dims b l)
  where
    fits : (n i d b : ℕ) → i < n → i * 2 + 2 ≤ n * (2 + d * b)
    fits n i d b l = grind (arith, l)

-- number t of all bodies
pub body-digits : (dims : ℕ) (words : List ℕ) (t : ℕ) → IsRecord true dims words → Each (λ x. x < 2 ^ 64) words → t < 2 ^ dims * dims
    → slice_index_or (drop (2 ^ dims) (fields_as true dims words)) t 0
    ≡ digits_at words (64 + 2 ^ dims * 2 + t * (first_in words).level) (first_in words).level
body-digits dims words t r h l =
    let n : ℕ = 2 ^ dims in
    let b : ℕ = (first_in words).level in
    let rest : List ℕ = replicate (n * dims) b in
    let k : n + t < length (replicate n 2 ++ rest) = long-behind n 2 rest t (subst (λ s. t < s) (sym (length-replicate (n * dims) b)) l) in
    let q : 64 + (2 ^ dims * 2 + t * (first_in words).level) ≡ 64 + 2 ^ dims * 2 + t * (first_in words).level = omega arith in
    get_or-drop n (fields_as true dims words) t 0
    ∙ field-digits true dims words (n + t) b (n * 2 + t * b) r h k
    (at-behind n 2 rest t ∙ get_or-replicate (n * dims) t b 0 l)
    (total-behind n 2 rest t ∙ ap (λ s. n * 2 + s) (total-all (n * dims) b t (omega (arith, l)))) (fits n dims t b l)
    ∙ ap (λ s. digits_at words s b) q
  where
    fits : (n d t b : ℕ) → t < n * d → n * 2 + t * b + b ≤ n * (2 + d * b)
    fits n d t b l = let m : b * suc t ≤ b * (n * d) = mul-le-mul_left b l in omega (arith, m)

-- a body, as a row of digits
pub body-row : (dims : ℕ) (words : List ℕ) (t k : ℕ) → IsRecord true dims words → Each (λ x. x < 2 ^ 64) words → t + k ≤ 2 ^ dims * dims
    → take k (drop t (drop (2 ^ dims) (fields_as true dims words))) ≡ digits_row words (64 + 2 ^ dims * 2 + t * (first_in words).level) (first_in words).level k
body-row dims words t zero r h l = refl
body-row dims words t (suc k) r h l =
    let n : ℕ = 2 ^ dims in
    let b : ℕ = (first_in words).level in
    let at : ℕ = 64 + n * 2 in
    let ys : List ℕ = drop n (fields_as true dims words) in
    let m : t < length ys = omega (arith, l, length-drop n (fields_as true dims words), length-all dims words) in
    let e : 64 + 2 ^ dims * 2 + suc t * (first_in words).level ≡ 64 + 2 ^ dims * 2 + t * (first_in words).level + (first_in words).level = omega arith in
    ap (take (suc k)) (drop_one ys t m)
    ∙ ap {B = List ℕ} (λ s. s ∷ take k (drop (suc t) ys)) (body-digits dims words t r h (omega (arith, l)))
    ∙ ap {B = List ℕ} (λ s. digits_at words (at + t * b) b ∷ s) (body-row dims words (suc t) k r h (omega (arith, l)) ∙ ap (λ s. digits_row words s b k) e)
