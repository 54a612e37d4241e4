-- The columns of a linear record as digits of its words.
use Rattle.std.proofs.Common.{◌≡◌, ℕ, zero, suc, ◌+◌, ◌-◌, ◌*◌, ◌^◌, ◌<◌, ◌≤◌, refl, sym, ◌∙◌, ap, subst, arith, List, [], ◌∷◌, ◌++◌}
use Rattle.std.proofs.Common.{length, length-append, length-take, length-drop, min, take, drop, replicate, slice_index_or, false}
use Rattle.std.specs.List.{AllByRecursion as Each}
use Rattle.std.proofs.lemmas.List.{get_or-take, get_or-drop, length-replicate, get_or-replicate, append_assoc}
use Rattle.std.proofs.Math.Nat.{mul-le-mul_left}
use Rattle.ph_specs.specs.Digits.{words_for}
use Rattle.ph_model.specs.Digits.{digits_at}
use Rattle.ph_specs.specs.Pack.{linear_digits}
use Rattle.ph_specs.specs.Record.{first_in, widths}
use Rattle.ph_specs.proofs.laws.ReadBack.{total}
use Rattle.ph_model.specs.Layout.{fields_as, IsRecord}
use Rattle.ph_bits.specs.Fields.{digits_row}
use Rattle.ph_model.proofs.laws.TableFields.{field-digits, length-fields, total-replicate, total-behind, total-all, at-replicate, at-behind, long, long-behind}
use Rattle.ph_linear.specs.Linear.{kinds, addresses}

below : (i n k : ℕ) → i < n → n ≤ k → i < k
below i n k a b = omega (arith, a, b)

order : (dims : ℕ) (words : List ℕ) → widths false dims (first_in words) ≡ replicate (first_in words).entries 1 ++
    (replicate (first_in words).entries dims ++ replicate ((first_in words).entries * dims) (first_in words).level)
order dims words = append_assoc (replicate (first_in words).entries 1) (replicate (first_in words).entries dims)
    (replicate ((first_in words).entries * dims) (first_in words).level)

pub length-all : (dims : ℕ) (words : List ℕ) →
    length (fields_as false dims words) ≡ (first_in words).entries + ((first_in words).entries + (first_in words).entries * dims)
length-all dims words =
    let n : ℕ = (first_in words).entries in
    let bs : List ℕ = replicate (n * dims) (first_in words).level in
    length-fields false dims words ∙ ap length (order dims words)
    ∙ length-append (replicate {A = ℕ} n 1) (replicate n dims ++ bs) ∙ ap (λ t. length (replicate {A = ℕ} n 1) + t) (length-append (replicate n dims) bs)
    ∙ count n (n * dims) _ _ _ (length-replicate n 1) (length-replicate n dims) (length-replicate (n * dims) (first_in words).level)
  where
    count : (n m a b c : ℕ) → a ≡ n → b ≡ n → c ≡ m → a + (b + c) ≡ n + (n + m)
    count n m a b c e f g = omega (arith, e, f, g)

pub length-kinds : (dims : ℕ) (words : List ℕ) → length (kinds dims words) ≡ (first_in words).entries
length-kinds dims words =
    length-take (first_in words).entries (fields_as false dims words) ∙ least _ _ _ (length-all dims words)
  where
    least : (n k m : ℕ) → k ≡ n + m → min n k ≡ n
    least n k m e = omega (arith, e)

pub length-addresses : (dims : ℕ) (words : List ℕ) → length (addresses dims words) ≡ (first_in words).entries
length-addresses dims words =
    let n : ℕ = (first_in words).entries in
    length-take n (drop n (fields_as false dims words)) ∙ least n (length (fields_as false dims words))
    (length (drop n (fields_as false dims words))) (n * dims) (length-drop n (fields_as false dims words))
    (length-all dims words)
  where
    least : (n k j m : ℕ) → j ≡ k - n → k ≡ n + (n + m) → min n j ≡ n
    least n k j m e f = omega (arith, e, f)

pub kind-digits : (dims : ℕ) (words : List ℕ) (i : ℕ) → IsRecord false dims words → Each (λ x. x < 2 ^ 64) words → i < (first_in words).entries
    → slice_index_or (kinds dims words) i 0 ≡ digits_at words (64 + i) 1
kind-digits dims words i r h l =
    let n : ℕ = (first_in words).entries in
    let b : ℕ = (first_in words).level in
    let rest : List ℕ = replicate n dims ++ replicate (n * dims) b in
    let k : i < length (replicate n 1 ++ rest) = below i n (length (replicate n 1 ++ rest)) l (long n 1 rest) in
    get_or-take n (fields_as false dims words) i 0 l
    ∙ field-digits false dims words i 1 i r h (subst (λ t. i < length t) (sym (order dims words)) k)
    (ap (λ t. slice_index_or t i 0) (order dims words) ∙ at-replicate n 1 rest i l)
    (ap (λ t. total (take i t)) (order dims words) ∙ total-replicate n 1 rest i (omega (arith, l)) ∙ omega arith) (fits n i dims b l)
  where
    fits : (n i d b : ℕ) → i < n → i + 1 ≤ n * (1 + d + d * b)
    fits n i d b l = omega (arith, l)

pub address-digits : (dims : ℕ) (words : List ℕ) (i : ℕ) → IsRecord false dims words → Each (λ x. x < 2 ^ 64) words → i < (first_in words).entries
    → slice_index_or (addresses dims words) i 0 ≡ digits_at words (64 + (first_in words).entries + i * dims) dims
address-digits dims words i r h l =
    let n : ℕ = (first_in words).entries in
    let b : ℕ = (first_in words).level in
    let bs : List ℕ = replicate (n * dims) b in
    let k : n + i < length (replicate n 1 ++ (replicate n dims ++ bs)) = long-behind n 1 (replicate n dims ++ bs) i
    (below i n (length (replicate n dims ++ bs)) l (long n dims bs)) in
    let q : 64 + (n + i * dims) ≡ 64 + n + i * dims = omega arith in
    get_or-take n (drop n (fields_as false dims words)) i 0 l
    ∙ get_or-drop n (fields_as false dims words) i 0
    ∙ field-digits false dims words (n + i) dims (n + i * dims) r h (subst (λ t. n + i < length t) (sym (order dims words)) k)
    (ap (λ t. slice_index_or t (n + i) 0) (order dims words) ∙ at-behind n 1 (replicate n dims ++ bs) i ∙ at-replicate n dims bs i l)
    (ap (λ t. total (take (n + i) t)) (order dims words) ∙ total-behind n 1 (replicate n dims ++ bs) i ∙ sum n i dims _ (total-replicate n dims bs i (omega (arith, l))))
    (within n i dims b l)
    ∙ ap (λ t. digits_at words t dims) q
  where
    sum : (n i d t : ℕ) → t ≡ i * d → n * 1 + t ≡ n + i * d
    sum n i d t e = omega (arith, e)

    within : (n i d b : ℕ) → i < n → n + i * d + d ≤ n * (1 + d + d * b)
    within n i d b l = grind (arith, l)

-- a record has a word behind its head
pub two_words : (dims : ℕ) (words : List ℕ) → IsRecord false dims words → 1 < length words
two_words dims words r = long-enough (first_in words).entries dims (first_in words).level (length words) r.least (omega (arith, r.long))
  where
    long-enough : (n d b len : ℕ) → 1 ≤ n → 1 + words_for (linear_digits d b n) ≤ len → 1 < len
    long-enough n d b len l m = omega (arith, l, m)

-- number t of all bodies
pub body-digits : (dims : ℕ) (words : List ℕ) (t : ℕ) → IsRecord false dims words → Each (λ x. x < 2 ^ 64) words → t < (first_in words).entries * dims
    → slice_index_or (drop ((first_in words).entries + (first_in words).entries) (fields_as false dims words)) t 0
    ≡ digits_at words (64 + ((first_in words).entries + (first_in words).entries * dims) + t * (first_in words).level) (first_in words).level
body-digits dims words t r h l =
    let n : ℕ = (first_in words).entries in
    let b : ℕ = (first_in words).level in
    let bs : List ℕ = replicate (n * dims) b in
    let rest : List ℕ = replicate n dims ++ bs in
    let k : n + (n + t) < length (replicate n 1 ++ rest) =
    long-behind n 1 rest (n + t) (long-behind n dims bs t (subst (λ s. t < s) (sym (length-replicate (n * dims) b)) l)) in
    let before : total (take (n + (n + t)) (replicate n 1 ++ rest)) ≡ n * 1 + (n * dims + t * b) =
    total-behind n 1 rest (n + t) ∙ ap (λ s. n * 1 + s) (total-behind n dims bs t ∙ ap (λ s. n * dims + s) (total-all (n * dims) b t (omega (arith, l)))) in
    let a : n + n + t ≡ n + (n + t) = omega arith in
    let q : 64 + (n * 1 + (n * dims + t * b)) ≡ 64 + (n + n * dims) + t * b = omega arith in
    get_or-drop (n + n) (fields_as false dims words) t 0
    ∙ ap (λ s. slice_index_or (fields_as false dims words) s 0) a
    ∙ field-digits false dims words (n + (n + t)) b (n * 1 + (n * dims + t * b)) r h (subst (λ s. n + (n + t) < length s) (sym (order dims words)) k)
    (ap (λ s. slice_index_or s (n + (n + t)) 0) (order dims words) ∙ at-behind n 1 rest (n + t) ∙ at-behind n dims bs t ∙ get_or-replicate (n * dims) t b 0 l)
    (ap (λ s. total (take (n + (n + t)) s)) (order dims words) ∙ before) (fits n dims t b l)
    ∙ ap (λ s. digits_at words s b) q
  where
    fits : (n d t b : ℕ) → t < n * d → n * 1 + (n * d + t * b) + b ≤ n * (1 + d + d * b)
    fits n d t b l = let m : b * suc t ≤ b * (n * d) = mul-le-mul_left b l in omega (arith, m)

pub drop_one : (ys : List ℕ) (t : ℕ) → t < length ys → drop t ys ≡ slice_index_or ys t 0 ∷ drop (suc t) ys
drop_one [] t l = absurd (omega (arith, l))
drop_one (y ∷ ys) zero l = refl
drop_one (y ∷ ys) (suc t) l = drop_one ys t (omega (arith, l))

-- a body, as a row of digits
pub body-row : (dims : ℕ) (words : List ℕ) (t k : ℕ) → IsRecord false dims words → Each (λ x. x < 2 ^ 64) words → t + k ≤ (first_in words).entries * dims
    → take k (drop t (drop ((first_in words).entries + (first_in words).entries) (fields_as false dims words)))
    ≡ digits_row words (64 + ((first_in words).entries + (first_in words).entries * dims) + t * (first_in words).level) (first_in words).level k
body-row dims words t zero r h l = refl
body-row dims words t (suc k) r h l =
    let n : ℕ = (first_in words).entries in
    let b : ℕ = (first_in words).level in
    let at : ℕ = 64 + (n + n * dims) in
    let ys : List ℕ = drop (n + n) (fields_as false dims words) in
    let m : t < length ys = omega (arith, l, length-drop (n + n) (fields_as false dims words), length-all dims words) in
    let e : 64 + (n + n * dims) + suc t * b ≡ 64 + (n + n * dims) + t * b + b = omega arith in
    ap (take (suc k)) (drop_one ys t m)
    ∙ ap {B = List ℕ} (λ s. s ∷ take k (drop (suc t) ys)) (body-digits dims words t r h (omega (arith, l)))
    ∙ ap {B = List ℕ} (λ s. digits_at words (at + t * b) b ∷ s) (body-row dims words (suc t) k r h (omega (arith, l)) ∙ ap (λ s. digits_row words s b k) e)
