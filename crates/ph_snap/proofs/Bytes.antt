-- Words by their bytes, one after the other.
use Rattle.std.proofs.Common.{◌≡◌, ℕ, zero, suc, ◌+◌, ◌*◌, ◌^◌, ◌<◌, refl, ◌∙◌, ap, arith, List, [], ◌∷◌, ◌++◌, length, map, take, drop, get_or, ◌%◌, ◌≤◌, Fits, w8}
use Rattle.std.proofs.lemmas.Nat.{pow-add}
use Rattle.std.proofs.Math.Nat.{pow-le-pow_right, mod-eq_of_lt}
use Rattle.std.proofs.lemmas.List.{drop-drop, take_more, map-append, get_or-drop, length-drop}
use Rattle.ph_specs.specs.Digits.{field, number_of}
use Rattle.ph_specs.specs.Load.{words_in}
use Rattle.ph_model.proofs.lemmas.Columns.{number_after-append}

pub words-more : (n : ℕ) (bytes : List ℕ) → words_in (n + 1) bytes ≡ words_in n bytes ++ number_of (map (field 8) (take 8 (drop (8 * n) bytes))) ∷ []
words-more zero bytes = refl
words-more (suc n) bytes =
    let a : suc n + 1 ≡ suc (n + 1) = omega arith in
    let b : 8 + 8 * n ≡ 8 * suc n = omega arith in
    let w : ℕ = number_of (map (field 8) (take 8 bytes)) in
    ap (λ t. words_in t bytes) a
    ∙ ap {B = List ℕ} (λ t. w ∷ t)
    (words-more n (drop 8 bytes) ∙
    ap (λ t. words_in n (drop 8 bytes) ++ number_of (map (field 8) (take 8 t)) ∷ [])
    (drop-drop (8 * n) 8 bytes ∙ ap (λ t. drop t bytes) b))

pub byte-more : (bytes : List ℕ) (at i : ℕ) → at + i < length bytes →
    number_of (map (field 8) (take (i + 1) (drop at bytes))) ≡ number_of (map (field 8) (take i (drop at bytes))) *
    2 ^ 8 + get_or bytes (at + i) 0
byte-more bytes at i l =
    let xs : List ℕ = drop at bytes in
    let m : i < length (drop at bytes) = omega (arith, l, length-drop at bytes) in
    let x : ℕ = get_or xs i 0 in
    ap (λ t. number_of (map (field 8) t)) (take_more xs i 0 m)
    ∙ ap number_of (map-append (field 8) (take i xs) (x ∷ []))
    ∙ number_after-append 0 (map (field 8) (take i xs)) (field 8 x ∷ [])
    ∙ ap (λ t. number_of (map (field 8) (take i xs)) * 2 ^ 8 + t) (get_or-drop at bytes i 0)

-- one more byte of a word
pub word-next : (bytes : List ℕ) (at i word b : ℕ) → i < 8 → at + i < length bytes →
    ((k : ℕ) → Fits w8 (get_or bytes k 0)) → b ≡ get_or bytes (at + i) 0 →
    word ≡ number_of (map (field 8) (take i (drop at bytes))) → word < 2 ^ (8 * i)
    → (word * 256 % 2 ^ 64 + b ≡ number_of (map (field 8) (take (i + 1) (drop at bytes)))) × (word * 256 % 2 ^ 64 + b < 2 ^ (8 * (i + 1)))
word-next bytes at i word b l m f e v s =
    let o : 0 < 2 = omega arith in
    let few : 8 * i ≤ 56 = omega arith in
    let p : 2 ^ (8 * i) ≤ 2 ^ 56 = pow-le-pow_right o few in
    let n : 8 * (i + 1) ≡ 8 * i + 8 = omega arith in
    let q : 2 ^ (8 * (i + 1)) ≡ 2 ^ (8 * i) * 2 ^ 8 = ap (λ t. 2 ^ t) n ∙ pow-add 2 (8 * i) 8 in
    let r : word * 256 % 2 ^ 64 ≡ word * 256 = mod-eq_of_lt (omega (arith, p, s)) in
    let g : Fits w8 (get_or bytes (at + i) 0) = f (at + i) in
    (omega (arith, r, e, byte-more bytes at i m, v), omega (arith, r, e, g, q, s))
