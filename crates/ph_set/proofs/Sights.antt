-- How many nodes a set operation opens.
use Rattle.std.proofs.Common.{◌≡◌, ℕ, suc, ◌+◌, Bool, true, false, ◌||◌, List, [], ◌∷◌, ◌++◌, length, filter, refl, sym, ◌∙◌, ap, arith, cond, length-append}
use Rattle.std.specs.List.{AllByRecursion as Each}
use Rattle.std.proofs.lemmas.List.Elements.{filter-append}
use Rattle.std.proofs.lemmas.List.Folds.{list_any-append}
use Rattle.ph_specs.specs.Table.{Row}
use Rattle.ph_specs.specs.Region.{is_in}
use Rattle.ph_specs.specs.WorkSets.{Placed, holds_some}
use Rattle.ph_model.specs.Combined.{seen_nodes}
use Rattle.ph_model.proofs.laws.Paths.{holds, many}

pub seen-append : (w : ℕ) (all : Bool) (rows : List Row) (xs ys : List Placed) → seen_nodes w all rows (xs ++ ys) ≡ seen_nodes w all rows xs + seen_nodes w all rows ys
seen-append w all rows xs ys =
    ap length (filter-append (λ x. all || holds_some w rows x) xs ys) ∙
    length-append (filter (λ x. all || holds_some w rows x) xs) (filter (λ x. all || holds_some w rows x) ys)

-- all of them
pub seen-all : (w : ℕ) (rows : List Row) (xs : List Placed) → seen_nodes w true rows xs ≡ length xs
seen-all w rows [] = refl
seen-all w rows (x ∷ xs) = ap suc (seen-all w rows xs)

-- and none of them
pub seen-nothing : (w : ℕ) (xs : List Placed) → seen_nodes w false [] xs ≡ 0
seen-nothing w [] = refl
seen-nothing w (x ∷ xs) = seen-nothing w xs

-- a node in front of others
seen-cons : (w : ℕ) (all : Bool) (rows : List Row) (x : Placed) (xs : List Placed) →
    seen_nodes w all rows (x ∷ xs) ≡ cond (all || holds_some w rows x) 1 0 + seen_nodes w all rows xs
seen-cons w all rows x xs = by_test (all || holds_some w rows x)
  where
    rest : List Placed
    rest = filter (λ y. all || holds_some w rows y) xs

    by_test : (t : Bool) → length (cond t (x ∷ rest) rest) ≡ cond t 1 0 + length rest
    by_test true = omega arith
    by_test false = omega arith

-- a node whose region holds the point of a row
pub seen-first : (w : ℕ) (all : Bool) (rows : List Row) (x : Placed) (xs : List Placed) → holds_some w rows x ≡ true →
    seen_nodes w all rows (x ∷ xs) ≡ 1 + seen_nodes w all rows xs
seen-first w true rows x xs h = omega arith
seen-first w false rows x xs h = ap (λ t. length (cond t (x ∷ filter (λ y. holds_some w rows y) xs) (filter (λ y. holds_some w rows y) xs))) h ∙ omega arith

-- ---- rows whose points no region of some nodes holds

abbrev pub AreMissed : ℕ → List Placed → List Row → Type 0
AreMissed w xs rows = Each (λ r. many w r.point xs ≡ 0) rows

missed-first : (w : ℕ) (x : Placed) (xs : List Placed) (rows : List Row) → AreMissed w (x ∷ xs) rows →
    (holds_some w rows x ≡ false) × AreMissed w xs rows
missed-first w x xs [] m = (refl, tt)
missed-first w x xs (r ∷ rows) m =
    let one : (holds w r.point x ≡ false) × (many w r.point xs ≡ 0) = by_test (holds w r.point x) m.0 in
    let others : (holds_some w rows x ≡ false) × AreMissed w xs rows = missed-first w x xs rows m.1 in
    (ap (λ t. t || holds_some w rows x) one.0 ∙ others.0, (one.1, others.1))
  where
    by_test : (t : Bool) → length (cond t (x ∷ filter (holds w r.point) xs) (filter (holds w r.point) xs)) ≡ 0 → (t ≡ false) × (many w r.point xs ≡ 0)
    by_test true e = absurd (omega (arith, e))
    by_test false e = (refl, e)

or-false : (b : Bool) → (b || false) ≡ b
or-false true = refl
or-false false = refl

-- they do not matter behind others, nor in front of them, nor alone
pub seen-front : (w : ℕ) (all : Bool) (us vs : List Row) (xs : List Placed) → AreMissed w xs vs → seen_nodes w all (us ++ vs) xs ≡ seen_nodes w all us xs
seen-front w all us vs [] m = refl
seen-front w all us vs (x ∷ xs) m =
    let first : (holds_some w vs x ≡ false) × AreMissed w xs vs = missed-first w x xs vs m in
    let same : holds_some w (us ++ vs) x ≡ holds_some w us x = list_any-append (λ r. is_in w x.region r.point) us vs ∙
    ap (λ t. holds_some w us x || t) first.0 ∙ or-false (holds_some w us x) in
    seen-cons w all (us ++ vs) x xs ∙ ap (λ t. cond (all || t) 1 0 + seen_nodes w all (us ++ vs) xs) same
    ∙ ap (λ k. cond (all || holds_some w us x) 1 0 + k) (seen-front w all us vs xs first.1) ∙ sym (seen-cons w all us x xs)

pub seen-back : (w : ℕ) (all : Bool) (us vs : List Row) (xs : List Placed) → AreMissed w xs us → seen_nodes w all (us ++ vs) xs ≡ seen_nodes w all vs xs
seen-back w all us vs [] m = refl
seen-back w all us vs (x ∷ xs) m =
    let first : (holds_some w us x ≡ false) × AreMissed w xs us = missed-first w x xs us m in
    let same : holds_some w (us ++ vs) x ≡ holds_some w vs x = list_any-append (λ r. is_in w x.region r.point) us vs ∙
    ap (λ t. t || holds_some w vs x) first.0 in
    seen-cons w all (us ++ vs) x xs ∙ ap (λ t. cond (all || t) 1 0 + seen_nodes w all (us ++ vs) xs) same
    ∙ ap (λ k. cond (all || holds_some w vs x) 1 0 + k) (seen-back w all us vs xs first.1) ∙ sym (seen-cons w all vs x xs)

pub seen-none : (w : ℕ) (all : Bool) (rows : List Row) (xs : List Placed) → AreMissed w xs rows → seen_nodes w all rows xs ≡ seen_nodes w all [] xs
seen-none w all rows xs m = seen-front w all [] rows xs m
