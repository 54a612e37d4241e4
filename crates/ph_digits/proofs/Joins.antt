-- Digits at a level.
use Rattle.std.proofs.Common.{◌≡◌, ℕ, zero, suc, ◌+◌, ◌-◌, ◌*◌, ◌/◌, ◌%◌, ◌^◌, ◌<◌, ◌≤◌, List, [], ◌∷◌, ◌++◌}
use Rattle.std.proofs.Common.{length, take, drop, arith, refl, ap, sym, ◌∙◌, get_or, slice_set, add-one}
use Rattle.std.specs.List.{AllByRecursion as Each}
use Rattle.std.proofs.Math.Nat.{mod-eq_of_lt, mod-lt}
use Rattle.std.proofs.Math.Pow.{pow_mono}
use Rattle.std.proofs.Math.Seq.{take-suc-set}
use Rattle.std.proofs.lemmas.Nat.{pow_pos}
use Rattle.std.proofs.lemmas.List.{take_more, drop-set-lt}
use Rattle.ph_specs.specs.TreeRows.{put_together}
use Rattle.ph_model.specs.Lawful.{IsBody}
use Rattle.ph_model.specs.PutTree.{body_above}
use Rattle.ph_model.proofs.lemmas.Joined.{length-put_together, get-put_together}

digit-small : (d level : ℕ) → d < 2 → level ≤ 61 → d * 2 ^ level ≤ 2 ^ 61
digit-small zero level h l = omega arith
digit-small (suc zero) level h l = omega (arith, pow_mono {i = level} {j = 61} l)
digit-small (suc (suc d)) level h l = absurd (omega (arith, h))

pub digit-limit : (n level : ℕ) → level ≤ 61 → n % 2 * 2 ^ level ≤ 2 ^ 61
digit-limit n level l = digit-small (n % 2) level (mod-lt n (omega arith)) l

pub digit-is : (n level : ℕ) → level ≤ 61 → (n % 2 * 2 ^ level) % 2 ^ 64 ≡ n % 2 * 2 ^ level
digit-is n level l = mod-eq_of_lt (omega (arith, digit-limit n level l))

pub small-at : (k n i : ℕ) (xs : List ℕ) → IsBody n k xs → get_or xs i 0 < 2 ^ k
small-at k n i xs h = each xs i h.1
  where
    each : (xs : List ℕ) (i : ℕ) → Each (λ x. x < 2 ^ k) xs → get_or xs i 0 < 2 ^ k
    each [] i h = pow_pos k
    each (x ∷ xs) zero h = h.0
    each (x ∷ xs) (suc i) h = each xs i h.1

pub above-long : (level : ℕ) (xs : List ℕ) → length (body_above level xs) ≡ length xs
above-long level [] = refl
above-long level (x ∷ xs) = ap suc (above-long level xs)

above-at : (level : ℕ) (xs : List ℕ) (i : ℕ) → get_or (body_above level xs) i 0 ≡ get_or xs i 0 / 2 ^ (level + 1) * 2 ^ (level + 1)
above-at level [] i = omega arith
above-at level (x ∷ xs) zero = refl
above-at level (x ∷ xs) (suc i) = above-at level xs i

-- a number where nothing has changed yet
pub kept-at : (i : ℕ) (xs ys : List ℕ) → drop i xs ≡ drop i ys → get_or xs i 0 ≡ get_or ys i 0
kept-at i xs ys e = first i xs ∙ ap (λ t. get_or t 0 0) e ∙ sym (first i ys)
  where
    first : (i : ℕ) (xs : List ℕ) → get_or xs i 0 ≡ get_or (drop i xs) 0 0
    first zero [] = refl
    first zero (x ∷ xs) = refl
    first (suc i) [] = refl
    first (suc i) (x ∷ xs) = first i xs

next-drop : {X : Type 0} (i : ℕ) (xs : List X) → drop (suc i) xs ≡ drop 1 (drop i xs)
next-drop zero [] = refl
next-drop zero (x ∷ xs) = refl
next-drop (suc i) [] = refl
next-drop (suc i) (x ∷ xs) = next-drop i xs

pub kept-more : (i v : ℕ) (xs ys : List ℕ) → drop i xs ≡ drop i ys → drop (i + 1) (slice_set xs i v) ≡ drop (i + 1) ys
kept-more i v xs ys e =
    drop-set-lt (i + 1) xs i v (omega arith)
    ∙ ap (λ n. drop n xs) (add-one i) ∙ next-drop i xs ∙ ap (drop 1) e ∙ sym (next-drop i ys) ∙ ap (λ n. drop n ys) (sym (add-one i))

-- a number more
pub made-more : (level a i v : ℕ) (known old body : List ℕ) → length body ≡ length old → length known ≡ length old →
    i < length old → drop i known ≡ drop i old →
    take i known ≡ take i (put_together level a (body_above level old) body) →
    v ≡ get_or known i 0 / 2 ^ (level + 1) * 2 ^ (level + 1) + a / 2 ^ (length old - 1 - i) % 2 * 2 ^ level + get_or
    body i 0 → take (i + 1) (slice_set known i v) ≡ take (i + 1) (put_together level a (body_above level old) body)
made-more level a i v known old body m k l d e f =
    let whole : List ℕ = put_together level a (body_above level old) body in
    let al : length (body_above level old) ≡ length old = above-long level old in
    let wl : length (put_together level a (body_above level old) body) ≡ length old = length-put_together level a (body_above level old) body (al ∙ sym m) ∙ al in
    let at : v ≡ get_or (put_together level a (body_above level old) body) i 0 =
    f
    ∙ ap (λ t. t / 2 ^ (level + 1) * 2 ^ (level + 1) + a / 2 ^ (length old - 1 - i) % 2 * 2 ^ level + get_or body i 0) (kept-at i known old d)
    ∙ ap (λ t. t + a / 2 ^ (length old - 1 - i) % 2 * 2 ^ level + get_or body i 0) (sym (above-at level old i))
    ∙ ap (λ t. get_or (body_above level old) i 0 + a / 2 ^ (t - 1 - i) % 2 * 2 ^ level + get_or body i 0) (sym al)
    ∙ sym (get-put_together level a i (body_above level old) body (al ∙ sym m) (omega (arith, al, l))) in
    ap (λ n. take n (slice_set known i v)) (add-one i) ∙ take-suc-set known i v (omega (arith, k, l))
    ∙ ap (λ u. u ++ v ∷ []) e
    ∙ ap (λ n. take i whole ++ n ∷ []) at
    ∙ sym (take_more whole i 0 (omega (arith, wl, l)))

-- the front of a list that is all of it
pub take-all : {A : Type 0} (i : ℕ) (xs : List A) → length xs ≤ i → take i xs ≡ xs
take-all zero [] l = refl
take-all zero (x ∷ xs) l = absurd (omega (arith, l))
take-all (suc i) [] l = refl
take-all (suc i) (x ∷ xs) l = ap {B = List _} (λ t. x ∷ t) (take-all i xs (omega (arith, l)))

pub joined-all : (level a i : ℕ) (known old body : List ℕ) → length body ≡ length old → length known ≡ length old →
    length old ≤ i → take i known ≡ take i (put_together level a (body_above level old) body) →
    known ≡ put_together level a (body_above level old) body
joined-all level a i known old body m k l e =
    let al : length (body_above level old) ≡ length old = above-long level old in
    let wl : length (put_together level a (body_above level old) body) ≡ length old = length-put_together level a (body_above level old) body (al ∙ sym m) ∙ al in
    sym (take-all i known (omega (arith, k, l))) ∙ e ∙ take-all i (put_together level a (body_above level old) body) (omega (arith, wl, l))
