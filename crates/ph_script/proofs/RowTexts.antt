-- The line of a row, number by number.
use Rattle.std.proofs.Common.{◌≡◌, ℕ, List, [], ◌∷◌, ◌++◌, map, flat_map, sym, ap, ◌∙◌, append_assoc}
use Rattle.std.specs.Prelude.{ℤ, decimal}
use Rattle.std.specs.Fmt.{signed_decimal}
use Rattle.std.specs.List.{join_with_byte}
use Rattle.std.proofs.lemmas.List.{append-nil}
use Rattle.std.proofs.lemmas.Grind.{flat_map-append}
use Rattle.ph_specs.specs.Table.{Row}
use Rattle.ph_specs.specs.Reply.{row_words, line_of}
use Rattle.ph_script.specs.RowNumbers.{spaced, row_numbers, numbers_line}

joined : (word : List ℕ) (ws : List (List ℕ)) → join_with_byte 32 (word ∷ ws) ≡ word ++ flat_map (λ w. 32 ∷ w) ws
joined word [] = sym (append-nil word)
joined word (w ∷ ws) = ap (λ bytes. word ++ (32 ∷ bytes)) (joined w ws)

numbers-spaced : (p : List ℤ) (last : List ℕ) → flat_map (λ w. 32 ∷ w) (map signed_decimal p ++ last ∷ []) ≡ flat_map spaced p ++ (32 ∷ last)
numbers-spaced [] last = append-nil (32 ∷ last)
numbers-spaced (c ∷ p) last = ap (λ bytes. spaced c ++ bytes) (numbers-spaced p last) ∙ sym (append_assoc (spaced c) (flat_map spaced p) (32 ∷ last))

-- behind what stands on the line already
pub row-behind : (front : List ℕ) (r : Row) → (front ++ flat_map spaced r.point) ++ (32 ∷ decimal r.value) ≡ front ++ row_numbers r
row-behind front r = append_assoc front (flat_map spaced r.point) (32 ∷ decimal r.value)

-- behind a word
pub row-line : (word : List ℕ) (r : Row) → word ++ numbers_line r ≡ line_of (word ∷ row_words r)
row-line word r =
    sym (append_assoc word (flat_map spaced r.point ++ (32 ∷ decimal r.value)) (10 ∷ []))
    ∙ ap (λ bytes. bytes ++ 10 ∷ []) (ap (λ bytes. word ++ bytes) (sym (numbers-spaced r.point (decimal r.value))) ∙ sym (joined word (row_words r)))

-- behind a word and a number
pub hit-line : (word number : List ℕ) (r : Row) → (word ++ (32 ∷ number)) ++ numbers_line r ≡ line_of (word ∷ number ∷ row_words r)
hit-line word number r = append_assoc word (32 ∷ number) (numbers_line r) ∙ ap (λ bytes. word ++ (32 ∷ bytes))
    (row-line number r) ∙ sym (append_assoc word (32 ∷ join_with_byte 32 (number ∷ row_words r)) (10 ∷ []))

-- two rows behind a word
spaced-append : (xs ys : List (List ℕ)) → flat_map (λ w. 32 ∷ w) (xs ++ ys) ≡ flat_map (λ w. 32 ∷ w) xs ++ flat_map (λ w. 32 ∷ w) ys
spaced-append xs ys = flat_map-append (λ w. 32 ∷ w) xs ys

pub pair-line : (word : List ℕ) (r s : Row) → ((word ++ row_numbers r) ++ row_numbers s) ++ 10 ∷ [] ≡ line_of (word ∷ row_words r ++ row_words s)
pair-line word r s =
    ap (λ bytes. bytes ++ 10 ∷ [])
    (append_assoc word (row_numbers r) (row_numbers s)
    ∙ ap (λ bytes. word ++ bytes) ((λ i. sym (numbers-spaced r.point (decimal r.value)) i ++
    sym (numbers-spaced s.point (decimal s.value)) i) ∙ sym (spaced-append (row_words r) (row_words s)))
    ∙ sym (joined word (row_words r ++ row_words s)))
