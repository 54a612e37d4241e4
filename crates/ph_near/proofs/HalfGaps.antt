-- The least distance of an entry by its address.
use Rattle.std.proofs.Common.{◌≡◌, ℕ, zero, suc, ◌+◌, ◌*◌, ◌-◌, ◌/◌, ◌%◌, ◌^◌, ◌<◌, ◌≤◌, List, [], ◌∷◌, length, drop, get_or}
use Rattle.std.proofs.Common.{length-drop, set, below_more, get_or-set_other, get_or-set_same, refl, sym, ◌∙◌, ap, subst, arith}
use Rattle.std.specs.Int.{abs_diff}
use Rattle.std.specs.List.{AllByRecursion as Each}
use Rattle.std.proofs.Math.Nat.{mul-le-mul, mod-lt}
use Rattle.std.proofs.lemmas.List.{drop_more}
use Rattle.ph_specs.specs.TreeRows.{put_together}
use Rattle.ph_model.specs.PutTree.{body_above}
use Rattle.ph_model.specs.Regions.{gap}
use Rattle.ph_digits.proofs.Joins.{above-long}
use Rattle.ph_node.specs.Apart.{squares_apart}
use Rattle.ph_near.specs.Far.{corner_of, gap_above, gaps_above, gaps_squared}
use Rattle.ph_near.specs.Halves.{half_gap, half_of, halves_sum}
use Rattle.ph_near.proofs.FarRegions.{low-whole, gap-whole, gaps-corner}

-- ---- lists that are written

pub set-more : (P : ℕ → ℕ → Type 0) (xs : List ℕ) (i v : ℕ) → i < length xs →
    ((j : ℕ) → j < i → P j (get_or xs j 0)) → P i v → (j : ℕ) → j < i + 1 → P j (get_or (set xs i v) j 0)
set-more P xs i v l h p =
    below_more (λ j. P j (get_or (set xs i v) j 0)) i (λ j k. subst (P j) (sym (get_or-set_other xs i j v 0 (λ e. absurd (omega (arith, e, k))))) (h j k))
    (subst (P i) (sym (get_or-set_same xs i v 0 l)) p)

-- ---- by the halves

half-is : (level known digit x a b n : ℕ) → digit < 2 → a ≡ half_gap level known 0 x → b ≡ half_gap level known 1 x → half_of digit a b ≡ half_gap level known digit x
half-is level known zero x a b n l e f = e
half-is level known (suc zero) x a b n l e f = f
half-is level known (suc (suc digit)) x a b n l e f = absurd (omega (arith, l))

pub halves-gaps : (level addr : ℕ) (low high known center : List ℕ) → length low ≡ length known → length high ≡ length known → length center ≡ length known
    → ((i : ℕ) → i < length known → get_or low i 0 ≡ half_gap level (get_or known i 0) 0 (get_or center i 0))
    → ((i : ℕ) → i < length known → get_or high i 0 ≡ half_gap level (get_or known i 0) 1 (get_or center i 0))
    → halves_sum addr low high ≡ gaps_above level (corner_of level addr known) center
halves-gaps level addr [] high [] center l m n f g = refl
halves-gaps level addr [] high (x ∷ known) center l m n f g = absurd (omega (arith, l))
halves-gaps level addr (a ∷ low) high [] center l m n f g = absurd (omega (arith, l))
halves-gaps level addr (a ∷ low) [] (x ∷ known) center l m n f g = absurd (omega (arith, m))
halves-gaps level addr (a ∷ low) (b ∷ high) (x ∷ known) [] l m n f g = absurd (omega (arith, n))
halves-gaps level addr (a ∷ low) (b ∷ high) (x ∷ known) (c ∷ center) l m n f g =
    let rest = halves-gaps level addr low high known center (omega (arith, l)) (omega (arith, m)) (omega (arith, n))
    (λ i k. f (suc i) (omega (arith, k))) (λ i k. g (suc i) (omega (arith, k))) in
    let digit : ℕ = addr / 2 ^ length (body_above level known) % 2 in
    let long : length low ≡ length (body_above level known) = omega (arith, l, above-long level known) in
    let here : half_of (addr / 2 ^ length low % 2) a b ≡ half_gap level x (addr / 2 ^ length (body_above level known) % 2) c =
    ap (λ t. half_of (addr / 2 ^ t % 2) a b) long ∙ half-is level x (addr / 2 ^ length (body_above level known) % 2) c
    a b 0 (mod-lt (addr / 2 ^ length (body_above level known)) (omega arith)) (f 0 (omega arith)) (g 0 (omega arith))
    in
    let whole : half_gap level x (addr / 2 ^ length (body_above level known) % 2) c ≡
    gap_above level (x / 2 ^ (level + 1) * 2 ^ (level + 1) + addr / 2 ^ length (body_above level known) % 2 * 2 ^
    level + 0) c * gap_above level
    (x / 2 ^ (level + 1) * 2 ^ (level + 1) + addr / 2 ^ length (body_above level known) % 2 * 2 ^ level + 0) c =
    plain (x / 2 ^ (level + 1) * 2 ^ (level + 1) + addr / 2 ^ length (body_above level known) % 2 * 2 ^ level)
    in
    λ i. (here ∙ whole) i + rest i
  where
    plain : (p : ℕ) → gap_above level p c * gap_above level p c ≡ gap_above level (p + 0) c * gap_above level (p + 0) c
    plain p = ap (λ t. gap_above level t c * gap_above level t c) (let e : p ≡ p + 0 = omega arith in e)

-- the digit of one dimension decides
pub halves-first : (addr i n : ℕ) (low high : List ℕ) → length low ≡ n → length high ≡ n → i < n →
    halves_sum addr (drop i low) (drop i high) ≡ half_of (addr / 2 ^ (n - 1 - i) % 2) (get_or low i 0)
    (get_or high i 0) + halves_sum addr (drop (i + 1) low) (drop (i + 1) high)
halves-first addr i n low high l m k =
    let left : length (drop (i + 1) low) ≡ n - 1 - i = omega (arith, length-drop (i + 1) low, l) in
    ap (λ ys. halves_sum addr ys (drop i high)) (drop_more low i 0 (omega (arith, k, l)))
    ∙ ap (λ ys. halves_sum addr (get_or low i 0 ∷ drop (i + 1) low) ys) (drop_more high i 0 (omega (arith, k, m)))
    ∙ ap (λ t. half_of (addr / 2 ^ t % 2) (get_or low i 0) (get_or high i 0) + halves_sum addr (drop (i + 1) low) (drop (i + 1) high)) left

-- of one half
pub half-picked : (digit low high n : ℕ) → (digit ≡ 0 → n ≡ low) → (1 ≤ digit → n ≡ high) → n ≡ half_of digit low high
half-picked zero low high n f g = f refl
half-picked (suc digit) low high n f g = g (omega arith)

-- ---- a row

one-gap : (low y c t : ℕ) → y < t → (low + 0 - c) + (c - (low + 0 + (t - 1))) ≤ abs_diff (low + y) c
one-gap low y c t l = omega (arith, l)

-- it is no nearer than the part in which it lies
pub row-least : (level a : ℕ) (known body center : List ℕ) → length body ≡ length known →
    Each (λ y. y < 2 ^ level) body →
    gaps_above level (corner_of level a known) center ≤ squares_apart (put_together level a (body_above level known) body) center
row-least level a [] [] center e h = omega arith
row-least level a [] (y ∷ body) center e h = absurd (omega (arith, e))
row-least level a (x ∷ known) [] center e h = absurd (omega (arith, e))
row-least level a (x ∷ known) (y ∷ body) [] e h = omega arith
row-least level a (x ∷ known) (y ∷ body) (c ∷ center) e h =
    sum-le _ _ _ _
    (square (x / 2 ^ (level + 1) * 2 ^ (level + 1) + a / 2 ^ length (body_above level known) % 2 * 2 ^ level))
    (row-least level a known body center (omega (arith, e)) h.1)
  where
    square : (low : ℕ) → gap_above level (low + 0) c * gap_above level (low + 0) c ≤ abs_diff (low + y) c * abs_diff (low + y) c
    square low = let l = one-gap low y c (2 ^ level) h.0 in mul-le-mul l l

    sum-le : (p q r s : ℕ) → p ≤ q → r ≤ s → p + r ≤ q + s
    sum-le p q r s g k = omega (arith, g, k)

-- ---- a child

corner-gaps : (level a : ℕ) (known center : List ℕ) → 1 ≤ level → gaps_above level (corner_of level a known) center ≡
    gaps_squared (level - 1) (corner_of level a known) center
corner-gaps level a [] center l = refl
corner-gaps level a (x ∷ known) [] l = refl
corner-gaps level a (x ∷ known) (c ∷ center) l =
    let rest = corner-gaps level a known center l in
    λ i. (sym (same (a / 2 ^ length (body_above level known) % 2)) i) * (sym (same (a / 2 ^ length (body_above level known) % 2)) i) + rest i
  where
    same : (d : ℕ) → gap (level - 1) (x / 2 ^ (level + 1) * 2 ^ (level + 1) + d * 2 ^ level + 0) c ≡
        gap_above level (x / 2 ^ (level + 1) * 2 ^ (level + 1) + d * 2 ^ level + 0) c
    same d =
        let e : x / 2 ^ (level + 1) * 2 ^ (level + 1) + d * 2 ^ level ≡ x / 2 ^ (level + 1) * 2 ^ (level + 1) + d * 2 ^ level + 0 = omega arith in
        gap-whole level _ c l (subst (λ n. n / 2 ^ level * 2 ^ level ≡ n) e (low-whole level x d _ _ refl refl))

-- it is as far as its part
pub child-least : (level a : ℕ) (known body center : List ℕ) → 1 ≤ level → length body ≡ length known →
    Each (λ y. y < 2 ^ level) body → gaps_above level (corner_of level a known) center ≡
    gaps_squared (level - 1) (put_together level a (body_above level known) body) center
child-least level a known body center l e h =
    corner-gaps level a known center l ∙ gaps-corner level a known body center l e h
