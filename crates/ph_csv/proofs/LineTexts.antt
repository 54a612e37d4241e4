-- The line of a row, coordinate by coordinate.
use Rattle.std.proofs.Common.{◌≡◌, ℕ, zero, suc, ◌<◌, List, [], ◌∷◌, ◌++◌, length, get_or, map, take, ℤ, refl, ap, sym, ◌∙◌, append_assoc, arith}
use Rattle.std.specs.List.{join_with_byte}
use Rattle.std.specs.Fmt.{signed_decimal}
use Rattle.ph_csv.specs.LineText.{coords_text}

text-more : (cs : List ℤ) (i : ℕ) (d : ℤ) → i < length cs → coords_text (take (suc i) cs) ≡ coords_text (take i cs) ++ (signed_decimal (get_or cs i d) ++ 44 ∷ [])
text-more [] i d h = absurd (omega arith)
text-more (c ∷ cs) zero d h = refl
text-more (c ∷ cs) (suc i) d h =
    ap (λ t. signed_decimal c ++ 44 ∷ t) (text-more cs i d (omega arith))
    ∙ sym (append_assoc (signed_decimal c) (44 ∷ coords_text (take i cs)) (signed_decimal (get_or cs i d) ++ 44 ∷ []))

-- a coordinate and its comma behind a line that has those in front of it
pub line-more : (front : List ℕ) (cs : List ℤ) (i : ℕ) (d : ℤ) → i < length cs → (line coord more next : List ℕ) →
    line ≡ front ++ coords_text (take i cs) → coord ≡ signed_decimal (get_or cs i d) → more ≡ line ++ coord →
    next ≡ more ++ 44 ∷ [] → next ≡ front ++ coords_text (take (suc i) cs)
line-more front cs i d h line coord more next e k m n =
    let x = signed_decimal (get_or cs i d) in
    n ∙ ap (λ t. t ++ 44 ∷ []) (m ∙ ap (λ t. t ++ coord) e ∙ ap (λ t. (front ++ coords_text (take i cs)) ++ t) k)
    ∙ append_assoc (front ++ coords_text (take i cs)) x (44 ∷ []) ∙ append_assoc front (coords_text (take i cs))
    (x ++ 44 ∷ []) ∙ ap (λ t. front ++ t) (sym (text-more cs i d h))

-- a value behind the coordinates
pub joined : (cs : List ℤ) (v : List ℕ) → join_with_byte 44 (map signed_decimal cs ++ v ∷ []) ≡ coords_text cs ++ v
joined [] v = refl
joined (c ∷ []) v = sym (append_assoc (signed_decimal c) (44 ∷ []) v)
joined (c ∷ d ∷ cs) v =
    ap (λ t. signed_decimal c ++ 44 ∷ t) (joined (d ∷ cs) v) ∙ sym (append_assoc (signed_decimal c) (44 ∷ coords_text (d ∷ cs)) v)
