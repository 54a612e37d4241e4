-- How bytes are cut into lines.
use Rattle.std.proofs.Common.{◌≡◌, ℕ, zero, suc, ◌≤◌, Bool, true, false, not, cond, List, [], ◌∷◌, ◌++◌, length, take, refl, ap, sym, ◌∙◌}
use Rattle.std.proofs.Common.{append_assoc, arith}
use Rattle.std.specs.Prelude.{◌==◌}
use Rattle.std.specs.List.{list_all, slice_split, onto_first}
use Rattle.std.proofs.lemmas.Bool.{and_parts}
use Rattle.std.proofs.lemmas.Bool.Decides.{nat_tests}
use Rattle.ph_specs.specs.Lines.{LF, lines_among, ended_among, lines, whole_lines}
use Rattle.ph_specs.proofs.laws.Put.{and}
use Rattle.ph_engine.specs.Cutting.{ended, is_unbroken, are_unbroken}

-- the parts that line feeds separate
abbrev pub cut : List ℕ → List (List ℕ)
cut bytes = slice_split (λ b. b == LF) bytes

other : (b : Bool) → not b ≡ true → b ≡ false
other true h = cc
other false h = refl

-- a line that a line feed ends
cut-line : (line more : List ℕ) → is_unbroken line ≡ true → cut (line ++ LF ∷ more) ≡ line ∷ cut more
cut-line [] more u = refl
cut-line (b ∷ bs) more u =
    let n : (b == LF) ≡ false = other (b == LF) (and_parts _ _ u).0 in
    let r : cut (bs ++ LF ∷ more) ≡ bs ∷ cut more = cut-line bs more (and_parts _ _ u).1 in
    rw (n, r) refl

-- lines that line feeds end
cut-ended : (done : List (List ℕ)) (more : List ℕ) → are_unbroken done ≡ true → cut (ended done ++ more) ≡ done ++ cut more
cut-ended [] more u = refl
cut-ended (line ∷ done) more u =
    let r : cut (ended done ++ more) ≡ done ++ cut more = cut-ended done more (and_parts _ _ u).1 in
    let l : cut (line ++ LF ∷ (ended done ++ more)) ≡ line ∷ cut (ended done ++ more) = cut-line line (ended done ++ more) (and_parts _ _ u).0 in
    rw (append_assoc line (LF ∷ ended done) more, l, r) refl

-- a line that nothing ends
cut-unbroken : (rest : List ℕ) → is_unbroken rest ≡ true → cut rest ≡ rest ∷ []
cut-unbroken [] u = refl
cut-unbroken (b ∷ bs) u =
    let n : (b == LF) ≡ false = other (b == LF) (and_parts _ _ u).0 in
    let r : cut bs ≡ bs ∷ [] = cut-unbroken bs (and_parts _ _ u).1 in
    rw (n, r) refl

onto-some : (b : ℕ) (parts : List (List ℕ)) → onto_first b parts ≡ [] → ⊥
onto-some b [] = λ e. cc
onto-some b (p ∷ ps) = λ e. cc

cut-some : (bytes : List ℕ) → cut bytes ≡ [] → ⊥
cut-some [] = λ e. cc
cut-some (b ∷ bs) =
    elim (b == LF) as (λ t. cond t ([] ∷ cut bs) (onto_first b (cut bs)) ≡ [] → ⊥) [ true ↦ λ e. cc | false ↦ onto-some b (cut bs) ]

-- parts behind lines
among-lines : (done parts : List (List ℕ)) → (parts ≡ [] → ⊥) → lines_among (done ++ parts) ≡ done ++ lines_among parts
among-lines [] parts some = refl
among-lines (line ∷ []) [] some = absurd (some refl)
among-lines (line ∷ []) (p ∷ ps) some = refl
among-lines (line ∷ next ∷ done) parts some = ap (λ t. line ∷ t) (among-lines (next ∷ done) parts some)

among-whole : (done parts : List (List ℕ)) → (parts ≡ [] → ⊥) → ended_among (done ++ parts) ≡ done ++ ended_among parts
among-whole [] parts some = refl
among-whole (line ∷ []) [] some = absurd (some refl)
among-whole (line ∷ []) (p ∷ ps) some = refl
among-whole (line ∷ next ∷ done) parts some = ap (λ t. line ∷ t) (among-whole (next ∷ done) parts some)

-- lines that line feeds end, and whatever is behind them
pub lines-ended : (done : List (List ℕ)) (more : List ℕ) → are_unbroken done ≡ true → lines (ended done ++ more) ≡ done ++ lines more
lines-ended done more u = ap lines_among (cut-ended done more u) ∙ among-lines done (cut more) (cut-some more)

pub whole-ended : (done : List (List ℕ)) (more : List ℕ) → are_unbroken done ≡ true → whole_lines (ended done ++ more) ≡ done ++ whole_lines more
whole-ended done more u = ap ended_among (cut-ended done more u) ∙ among-whole done (cut more) (cut-some more)

-- a line that nothing ends, if it has a byte
pub lines-unbroken : (rest : List ℕ) → is_unbroken rest ≡ true → (rest ≡ [] → ⊥) → lines rest ≡ rest ∷ []
lines-unbroken [] u some = absurd (some refl)
lines-unbroken (b ∷ bs) u some =
    let e : (length (b ∷ bs) == 0) ≡ false = grind (arith, nat_tests) in
    ap lines_among (cut-unbroken (b ∷ bs) u) ∙ rw e refl

pub whole-unbroken : (rest : List ℕ) → is_unbroken rest ≡ true → whole_lines rest ≡ []
whole-unbroken rest u = ap ended_among (cut-unbroken rest u)

-- ---- lines and bytes behind others

pub ended-append : (xs ys : List (List ℕ)) → ended (xs ++ ys) ≡ ended xs ++ ended ys
ended-append [] ys = refl
ended-append (line ∷ xs) ys =
    ap (λ t. line ++ LF ∷ t) (ended-append xs ys) ∙ sym (append_assoc line (LF ∷ ended xs) (ended ys))

pub all-append : {X : Type 0} (test : X → Bool) (xs ys : List X) → list_all test xs ≡ true → list_all test ys ≡ true → list_all test (xs ++ ys) ≡ true
all-append test [] ys h k = k
all-append test (x ∷ xs) ys h k = and _ _ (and_parts _ _ h).0 (all-append test xs ys (and_parts _ _ h).1 k)

-- the front of a line hangs on its front
pub take-front : (n : ℕ) (xs ys : List ℕ) → take n (take n xs ++ ys) ≡ take n (xs ++ ys)
take-front zero xs ys = refl
take-front (suc n) [] ys = refl
take-front (suc n) (x ∷ xs) ys = ap (λ t. x ∷ t) (take-front n xs ys)

pub take-none : (n : ℕ) (xs : List ℕ) → 1 ≤ n → take n xs ≡ [] → xs ≡ []
take-none n [] l h = refl
take-none zero (x ∷ xs) l h = absurd (omega arith)
take-none (suc n) (x ∷ xs) l h = cc

pub take-empty : (n : ℕ) → take {A = ℕ} n [] ≡ []
take-empty zero = refl
take-empty (suc n) = refl
