-- Words are read back from their bytes.
use Rattle.std.proofs.Common.{◌≡◌, ℕ, zero, suc, ◌+◌, ◌*◌, ◌^◌, ◌<◌, ◌≤◌, refl, sym, ◌∙◌, ap, subst, arith, List, [], ◌∷◌, ◌++◌, length, map, take, drop}
use Rattle.std.specs.List.{AllByRecursion as Each}
use Rattle.std.proofs.lemmas.List.{append_assoc, length-append, length-drop, length-take-le, take-append-drop, drop-drop}
use Rattle.ph_specs.specs.Digits.{field, number_of, digits_of, pieces, word_bytes, bytes_of}
use Rattle.ph_specs.specs.Record.{first_of, first_in, record_words}
use Rattle.ph_specs.specs.Load.{words_in, next_first, next_record}
use Rattle.ph_specs.proofs.lemmas.Numbers.{length-pieces, number_of-small}
use Rattle.ph_model.specs.Digits.{IsBytes}
use Rattle.ph_model.proofs.lemmas.Grouped.{Each-front, Each-back}
use Rattle.ph_specs.proofs.laws.ReadBack.{digits-words, fit-words, pieces-number}
use Rattle.ph_model.proofs.lemmas.Columns.{take-front, drop-front}
use Rattle.ph_model.proofs.laws.OneToOne.{word-again}

pub bytes-append : (ws vs : List ℕ) → bytes_of (ws ++ vs) ≡ bytes_of ws ++ bytes_of vs
bytes-append [] vs = refl
bytes-append (w ∷ ws) vs =
    ap (λ t. word_bytes w ++ t) (bytes-append ws vs) ∙ sym (append_assoc (word_bytes w) (bytes_of ws) (bytes_of vs))

pub length-bytes : (ws : List ℕ) → length (bytes_of ws) ≡ 8 * length ws
length-bytes [] = refl
length-bytes (w ∷ ws) =
    omega (arith, length-append (word_bytes w) (bytes_of ws), length-pieces 8 8 w, length-bytes ws)

pub drop-bytes : (ws vs : List ℕ) → drop (8 * length ws) (bytes_of (ws ++ vs)) ≡ bytes_of vs
drop-bytes ws vs =
    ap (drop (8 * length ws)) (bytes-append ws vs) ∙ drop-front (8 * length ws) (bytes_of ws) (bytes_of vs) (length-bytes ws)

-- the words that bytes begin with
pub words-bytes : (ws vs : List ℕ) → Each (λ w. w < 2 ^ 64) ws → words_in (length ws) (bytes_of (ws ++ vs)) ≡ ws
words-bytes [] vs h = refl
words-bytes (w ∷ ws) vs h =
    let b : List ℕ = bytes_of (ws ++ vs) in
    let t : take 8 (word_bytes w ++ bytes_of (ws ++ vs)) ≡ word_bytes w = take-front 8 (word_bytes w) b (length-pieces 8 8 w) in
    let d : drop 8 (word_bytes w ++ bytes_of (ws ++ vs)) ≡ bytes_of (ws ++ vs) = drop-front 8 (word_bytes w) b (length-pieces 8 8 w) in
    ap {B = List ℕ} (λ t. number_of (map (field 8) t) ∷ words_in (length ws) (drop 8 (word_bytes w ++ bytes_of (ws ++ vs)))) t
    ∙ ap {B = List ℕ} (λ t. number_of (map (field 8) (word_bytes w)) ∷ words_in (length ws) t) d
    ∙ ap {B = List ℕ} (λ t. t ∷ words_in (length ws) b) (word-again w h.0)
    ∙ ap {B = List ℕ} (λ t. w ∷ t) (words-bytes ws vs h.1)

pub first-bytes : (w : ℕ) (ws vs : List ℕ) → w < 2 ^ 64 → next_first (bytes_of ((w ∷ ws) ++ vs)) ≡ first_of w
first-bytes w ws vs h = ap first_in (words-bytes (w ∷ []) (ws ++ vs) (h, tt))

pub record-bytes : (dims w : ℕ) (ws vs : List ℕ) → Each (λ x. x < 2 ^ 64) (w ∷ ws) →
    length (w ∷ ws) ≡ record_words dims (first_of w) → next_record dims (bytes_of ((w ∷ ws) ++ vs)) ≡ w ∷ ws
record-bytes dims w ws vs h l =
    ap (λ f. words_in (record_words dims f) (bytes_of ((w ∷ ws) ++ vs))) (first-bytes w ws vs h.0)
    ∙ ap (λ n. words_in n (bytes_of ((w ∷ ws) ++ vs))) (sym l)
    ∙ words-bytes (w ∷ ws) vs h

-- what the bytes behind the record are
pub behind-bytes : (dims w : ℕ) (ws vs : List ℕ) → w < 2 ^ 64 → length (w ∷ ws) ≡ record_words dims (first_of w) →
    drop (8 * record_words dims (next_first (bytes_of ((w ∷ ws) ++ vs)))) (bytes_of ((w ∷ ws) ++ vs)) ≡ bytes_of vs
behind-bytes dims w ws vs h l =
    ap (λ f. drop (8 * record_words dims f) (bytes_of ((w ∷ ws) ++ vs))) (first-bytes w ws vs h)
    ∙ ap (λ n. drop (8 * n) (bytes_of ((w ∷ ws) ++ vs))) (sym l)
    ∙ drop-bytes (w ∷ ws) vs

-- ---- bytes are read back from their words

pub length-words_in : (n : ℕ) (bytes : List ℕ) → length (words_in n bytes) ≡ n
length-words_in zero bytes = refl
length-words_in (suc n) bytes = ap suc (length-words_in n (drop 8 bytes))

front-bytes : (bytes : List ℕ) → IsBytes bytes → IsBytes (take 8 bytes) × IsBytes (drop 8 bytes)
front-bytes bytes h =
    let k : IsBytes (take 8 bytes ++ drop 8 bytes) = subst IsBytes (sym (take-append-drop 8 bytes)) h in
    (Each-front (λ b. b < 2 ^ 8) (take 8 bytes) (drop 8 bytes) k, Each-back (λ b. b < 2 ^ 8) (take 8 bytes) (drop 8 bytes) k)

pub words-small : (n : ℕ) (bytes : List ℕ) → IsBytes bytes → 8 * n ≤ length bytes → Each (λ w. w < 2 ^ 64) (words_in n bytes)
words-small zero bytes h l = tt
words-small (suc n) bytes h l =
    let k : IsBytes (take 8 bytes) × IsBytes (drop 8 bytes) = front-bytes bytes h in
    let t : length (take 8 bytes) ≡ 8 = length-take-le 8 bytes (omega (arith, l)) in
    let d : digits_of (map (field 8) (take 8 bytes)) ≡ 64 = digits-words 8 (take 8 bytes) ∙ ap (λ m. 8 * m) t in (
      subst (λ m. number_of (map (field 8) (take 8 bytes)) < 2 ^ m) d
          (number_of-small (map (field 8) (take 8 bytes)) (fit-words 8 (take 8 bytes) k.0)),
      words-small n (drop 8 bytes) k.1 (omega (arith, l, length-drop 8 bytes)),
    )

pub bytes-again : (n : ℕ) (bytes : List ℕ) → IsBytes bytes → 8 * n ≤ length bytes → bytes_of (words_in n bytes) ++ drop (8 * n) bytes ≡ bytes
bytes-again zero [] h l = refl
bytes-again zero (b ∷ bytes) h l = refl
bytes-again (suc n) bytes h l =
    let k : IsBytes (take 8 bytes) × IsBytes (drop 8 bytes) = front-bytes bytes h in
    let t : length (take 8 bytes) ≡ 8 = length-take-le 8 bytes (omega (arith, l)) in
    let x : ℕ = number_of (map (field 8) (take 8 bytes)) in
    let w : word_bytes (number_of (map (field 8) (take 8 bytes))) ≡ take 8 bytes = ap (λ m. pieces 8 m x) (sym t) ∙ pieces-number 8 (take 8 bytes) k.0 in
    let e : 8 * suc n ≡ 8 + 8 * n = omega arith in
    let d : drop (8 * suc n) bytes ≡ drop (8 * n) (drop 8 bytes) = ap (λ m. drop m bytes) e ∙ sym (drop-drop (8 * n) 8 bytes) in
    ap (λ m. (m ++ bytes_of (words_in n (drop 8 bytes))) ++ drop (8 * suc n) bytes) w
    ∙ ap (λ m. (take 8 bytes ++ bytes_of (words_in n (drop 8 bytes))) ++ m) d
    ∙ append_assoc (take 8 bytes) (bytes_of (words_in n (drop 8 bytes))) (drop (8 * n) (drop 8 bytes))
    ∙ ap (λ m. take 8 bytes ++ m) (bytes-again n (drop 8 bytes) k.1 (omega (arith, l, length-drop 8 bytes)))
    ∙ take-append-drop 8 bytes
