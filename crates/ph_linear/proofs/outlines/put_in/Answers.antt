use Rattle.std.proofs.Common.{◌≡◌, ℕ, zero, suc, ◌+◌, ◌-◌, ◌<◌, ◌∷◌, ◌++◌, [], List, length, take, drop, slice_set, arith, ap, ◌∙◌}
use Rattle.std.proofs.lemmas.List.{append-nil, drop_all}
use Rattle.std.proofs.lemmas.Slice.{between_is}
use Rattle.ph_linear.proofs.outlines.put_in.Goals as goal

-- a word written over the first of those that were copied down
over : (at n v : ℕ) (xs : List ℕ) → at + n < length xs → slice_set ((take (suc at) xs ++ take n (drop at xs)) ++ []) at v ≡ take at xs ++ v ∷ take n (drop at xs)
over zero n v [] l = absurd (omega (arith, l))
over zero n v (x ∷ xs) l = ap {B = List ℕ} (λ t. v ∷ t) (append-nil (take n (x ∷ xs)))
over (suc at) n v [] l = absurd (omega (arith, l))
over (suc at) n v (x ∷ xs) l = ap {B = List ℕ} (λ t. x ∷ t) (over at n v xs (omega (arith, l)))

pub returns : goal.returns
returns c =
    let ws = c.args.words.now in
    let at = c.args.at in
    let v = c.args.word in
    let n : ℕ = length ws - 1 - at in
    let next : at + 1 ≡ suc at = omega arith in
    let none : drop (at + 1 + n) ws ≡ [] = drop_all (at + 1 + n) ws (omega (arith, c.requires)) in
    ap (λ t. slice_set t at v) (c.copy_within.ensures.after ∙ ap (λ t. (take (at + 1) ws ++ take n (drop at ws)) ++ t)
    none ∙ ap (λ t. (take t ws ++ take n (drop at ws)) ++ []) next)
    ∙ over at n v ws (omega (arith, c.requires))
    ∙ ap (λ t. take at ws ++ v ∷ t) (between_is ws at (length ws - 1))
