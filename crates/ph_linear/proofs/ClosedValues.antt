-- Values that are moved down behind shorter tables, without one of them.
use Rattle.std.proofs.Common.{◌≡◌, ℕ, ◌+◌, ◌-◌, ◌≤◌, refl, sym, ◌∙◌, ap, arith, List, [], ◌∷◌, ◌++◌, length, length-append, take, drop, slice_set}
use Rattle.std.specs.List.{copy_within}
use Rattle.std.proofs.Math.Seq.{take-set-lt}
use Rattle.std.proofs.lemmas.List.{take_all, drop-drop, length-drop, length-take-le, length-set}
use Rattle.std.proofs.lemmas.List.Edits.{take-paste, drop-paste, length-paste}

-- the words in front of a place and so many from another on, which follow them
front-copied : (ws : List ℕ) (v ov f : ℕ) → v ≤ ov → ov + f ≤ length ws → take (v + f) (copy_within ws ov (ov + f) v) ≡ take v ws ++ take f (drop ov ws)
front-copied ws v ov f l m =
    let n : ov + f - ov ≡ f = omega arith in
    ap (λ t. take (v + t) (copy_within ws ov (ov + f) v)) (sym n)
    ∙ take-paste ws v (drop ov ws) (ov + f - ov) (omega (arith, l, m)) (omega (arith, m, length-drop ov ws))
    ∙ ap (λ t. take v ws ++ take t (drop ov ws)) n

-- what lies behind them
back-copied : (ws : List ℕ) (v ov f b : ℕ) → v ≤ ov → ov + f ≤ b → ov + f ≤ length ws → drop b (copy_within ws ov (ov + f) v) ≡ drop b ws
back-copied ws v ov f b l m k =
    let n : ov + f - ov ≡ f = omega arith in
    let e : v + (ov + f - ov) + (b - (v + f)) ≡ b = omega (arith, l, m) in
    let xs = copy_within ws ov (ov + f) v in
    ap (λ t. drop t xs) (sym e)
    ∙ sym (drop-drop (b - (v + f)) (v + (ov + f - ov)) xs)
    ∙ ap (drop (b - (v + f))) (drop-paste ws v (drop ov ws) (ov + f - ov) (omega (arith, l, k)) (omega (arith, k, length-drop ov ws)))
    ∙ drop-drop (b - (v + f)) (v + (ov + f - ov)) ws
    ∙ ap (λ t. drop t ws) e

long-copied : (ws : List ℕ) (v ov f : ℕ) → v ≤ ov → ov + f ≤ length ws → length (copy_within ws ov (ov + f) v) ≡ length ws
long-copied ws v ov f l m = length-paste ws v (drop ov ws) (ov + f - ov) (omega (arith, l, m)) (omega (arith, m, length-drop ov ws))

-- the first words once those behind them are moved up to them
all-copied : (xs : List ℕ) (at b : ℕ) → at ≤ b → b ≤ length xs → take (at + (length xs - b)) (copy_within xs b (length xs) at) ≡ take at xs ++ drop b xs
all-copied xs at b l m =
    take-paste xs at (drop b xs) (length xs - b) (omega (arith, l, m)) (omega (arith, length-drop b xs))
    ∙ ap (λ t. take at xs ++ t) (take_all (length xs - b) (drop b xs) (omega (arith, length-drop b xs)))

pub closed-values : (ws : List ℕ) (v ov f u first : ℕ) → f ≤ u → 1 ≤ v → v ≤ ov → ov + u ≤ length ws
    → take (v + (f + (length ws - (ov + u)))) (slice_set (copy_within (copy_within ws ov (ov + f) v) (ov + u) (length (copy_within ws ov (ov + f) v)) (v + f)) 0 first)
    ≡ slice_set (take v ws ++ (take f (drop ov ws) ++ drop (ov + u) ws)) 0 first
closed-values ws v ov f u first o s l m =
    let xs = copy_within ws ov (ov + f) v in
    let long : length xs ≡ length ws = long-copied ws v ov f l (omega (arith, o, m)) in
    let e : v + (f + (length ws - (ov + u))) ≡ v + f + (length xs - (ov + u)) = omega (arith, long) in
    take-set-lt (v + (f + (length ws - (ov + u)))) (copy_within xs (ov + u) (length xs) (v + f)) 0 first (omega (arith, s))
    ∙ ap (λ t. slice_set t 0 first)
    (ap (λ t. take t (copy_within xs (ov + u) (length xs) (v + f))) e
    ∙ all-copied xs (v + f) (ov + u) (omega (arith, l, o)) (omega (arith, m, long))
    ∙ ap (λ t. t ++ drop (ov + u) xs) (front-copied ws v ov f l (omega (arith, o, m)))
    ∙ ap (λ t. (take v ws ++ take f (drop ov ws)) ++ t) (back-copied ws v ov f (ov + u) l (omega (arith, o)) (omega (arith, o, m)))
    ∙ append-three (take v ws) (take f (drop ov ws)) (drop (ov + u) ws))
  where
    append-three : (xs ys zs : List ℕ) → (xs ++ ys) ++ zs ≡ xs ++ (ys ++ zs)
    append-three [] ys zs = refl
    append-three (x ∷ xs) ys zs = ap {B = List ℕ} (λ t. x ∷ t) (append-three xs ys zs)

pub closed-length : (ws : List ℕ) (v ov f u first : ℕ) → f ≤ u → v ≤ ov → ov + u ≤ length ws
    → v + (f + (length ws - (ov + u))) ≡ length (slice_set (take v ws ++ (take f (drop ov ws) ++ drop (ov + u) ws)) 0 first)
closed-length ws v ov f u first o l m =
    sym
    (length-set (take v ws ++ (take f (drop ov ws) ++ drop (ov + u) ws)) 0 first
    ∙ omega (
      arith,
      length-append (take v ws) (take f (drop ov ws) ++ drop (ov + u) ws),
      length-append (take f (drop ov ws)) (drop (ov + u) ws),
      length-take-le v ws (omega (arith, l, m)),
      length-take-le f (drop ov ws) (omega (arith, o, m, length-drop ov ws)),
      length-drop (ov + u) ws,
    ))
