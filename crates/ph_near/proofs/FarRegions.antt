-- Regions of children by what is known above them, number by number.
use Rattle.std.proofs.Common.{◌≡◌, ℕ, zero, suc, ◌+◌, ◌*◌, ◌-◌, ◌/◌, ◌%◌, ◌^◌, ◌<◌, ◌≤◌, List, [], ◌∷◌, length, map, drop, get_or, true, refl, sym, ◌∙◌, ap, subst, arith}
use Rattle.std.specs.List.{AllByRecursion as Each}
use Rattle.std.proofs.Math.Nat.{mul-le-mul, mul-le-mul_right, div-mul-le_self, mul-mod_left}
use Rattle.std.proofs.lemmas.List.{drop_more, get_or-map}
use Rattle.std.proofs.lemmas.Nat.{div-mul-add, pow-add, pow_pos}
use Rattle.ph_model.specs.BestFirst.{item_distance}
use Rattle.ph_specs.specs.Coordinate.{coordinate}
use Rattle.ph_specs.specs.TreeRows.{put_together}
use Rattle.ph_model.specs.EntryList.{What, value, node}
use Rattle.ph_model.specs.PutTree.{body_above}
use Rattle.ph_specs.specs.Region.{least_distance}
use Rattle.ph_model.specs.Regions.{gap}
use Rattle.ph_model.proofs.laws.LawfulRows.{put_together-small}
use Rattle.ph_model.proofs.lemmas.Joined.{length-put_together, get-put_together}
use Rattle.ph_digits.proofs.Joins.{above-long}
use Rattle.ph_zorder.proofs.Gaps.{offset-bound-on}
use Rattle.ph_node.specs.Apart.{greatest_square}
use Rattle.ph_node.specs.Kinds.{is_node}
use Rattle.ph_near.specs.Queue.{what_item}
use Rattle.ph_near.proofs.SquaredDistances.{apart-distance, apart-small}
use Rattle.ph_near.specs.Far.{zeros, corner_of, gap_above, gaps_above, gaps_squared, entry_gap}

-- ---- one number

-- behind what is known there is room for all digits below the level
pub corner-room : (level x d : ℕ) → level ≤ 61 → x < 2 ^ 62 → d < 2 → x / 2 ^ (level + 1) * 2 ^ (level + 1) + d * 2 ^ level + 2 ^ level ≤ 2 ^ 62
corner-room level x d l h k = by_digit d k
  where
    above : ℕ
    above = x / 2 ^ (level + 1) * 2 ^ (level + 1)

    by_small : (d : ℕ) → above + d / 2 ^ 0 % 2 * 2 ^ level + (2 ^ level - 1) < 2 ^ 62
    by_small d =
        (put_together-small 62 level d (above ∷ []) ((2 ^ level - 1) ∷ []) (omega (arith, l)) (mul-mod_left (x / 2 ^ (level + 1)) (2 ^ (level + 1)), tt)
        (omega (arith, h, div-mul-le_self x (2 ^ (level + 1))), tt) (omega (arith, pow_pos level), tt)).0

    by_digit : (d : ℕ) → d < 2 → above + d * 2 ^ level + 2 ^ level ≤ 2 ^ 62
    by_digit zero k = omega (arith, by_small 0, pow_pos level)
    by_digit (suc zero) k = omega (arith, by_small 1, pow_pos level)
    by_digit (suc (suc d)) k = absurd (omega (arith, k))

-- the digits from a level on
pub whole-from : (level x d y : ℕ) → y < 2 ^ level → (x / 2 ^ (level + 1) * 2 ^ (level + 1) + d * 2 ^ level + y) / 2 ^ level ≡ x / 2 ^ (level + 1) * 2 + d
whole-from level x d y l =
    ap (λ n. n / 2 ^ level) (regroup (x / 2 ^ (level + 1)) (2 ^ level) (2 ^ (level + 1)) (pow-add 2 level 1)) ∙ div-mul-add (x / 2 ^ (level + 1) * 2 + d) (2 ^ level) y l
  where
    regroup : (k m t : ℕ) → t ≡ m * 2 ^ 1 → k * t + d * m + y ≡ (k * 2 + d) * m + y
    regroup k m t e = ap (λ t. k * t + d * m + y) e ∙ grind arith

-- the least number of a region has zeros below the level
pub low-whole : (level x d p q : ℕ) → p ≡ x / 2 ^ (level + 1) * 2 ^ (level + 1) → q ≡ d * 2 ^ level → (p + q) / 2 ^ level * 2 ^ level ≡ p + q
low-whole level x d p q e f =
    let sum : p + q ≡ x / 2 ^ (level + 1) * 2 ^ (level + 1) + d * 2 ^ level + 0 = omega (arith, e, f) in
    let quotient : (p + q) / 2 ^ level ≡ x / 2 ^ (level + 1) * 2 + d = ap (λ n. n / 2 ^ level) sum ∙ whole-from level x d 0 (pow_pos level) in
    ap (λ n. n * 2 ^ level) quotient ∙ back (x / 2 ^ (level + 1)) (2 ^ level) (2 ^ (level + 1)) (pow-add 2 level 1) ∙ sym sum
  where
    back : (k m t : ℕ) → t ≡ m * 2 ^ 1 → (k * 2 + d) * m ≡ k * t + d * m + 0
    back k m t e = expand k m ∙ ap (λ t. k * t + d * m + 0) (sym e)
      where
        expand : (k m : ℕ) → (k * 2 + d) * m ≡ k * (m * 2 ^ 1) + d * m + 0
        expand k m = grind arith

gap-by : (level n m x : ℕ) → 1 ≤ level → n / 2 ^ level ≡ m / 2 ^ level → gap (level - 1) n x ≡ gap (level - 1) m x
gap-by level n m x l e =
    let s : level ≡ level - 1 + 1 = omega (arith, l) in
    ap (λ q. (q * 2 ^ (level - 1 + 1) - x) + (x - (q * 2 ^ (level - 1 + 1) + (2 ^ (level - 1 + 1) - 1)))) (subst (λ k. n / 2 ^ k ≡ m / 2 ^ k) s e)

pub gap-whole : (level low x : ℕ) → 1 ≤ level → low / 2 ^ level * 2 ^ level ≡ low → gap (level - 1) low x ≡ gap_above level low x
gap-whole level low x l e =
    let s : level - 1 + 1 ≡ level = omega (arith, l) in
    ap (λ k. (low / 2 ^ k * 2 ^ k - x) + (x - (low / 2 ^ k * 2 ^ k + (2 ^ k - 1)))) s ∙ ap (λ t. (t - x) + (x - (t + (2 ^ level - 1)))) e

zeros-long : (level : ℕ) (xs : List ℕ) → length (body_above level xs) ≡ length (zeros xs)
zeros-long level [] = refl
zeros-long level (x ∷ xs) = ap suc (zeros-long level xs)

-- the number of the corner as the code makes it
corner-at : (level a i p q : ℕ) (known : List ℕ) → i < length known →
    p ≡ get_or known i 0 / 2 ^ (level + 1) * 2 ^ (level + 1) → q ≡ a / 2 ^ (length known - 1 - i) % 2 * 2 ^ level →
    p + q ≡ get_or (corner_of level a known) i 0
corner-at level a i p q known l e f =
    let none : get_or (zeros known) i 0 ≡ 0 = get_or-map (λ x. 0) known i 0 0 l in
    let there : get_or (body_above level known) i 0 ≡ get_or known i 0 / 2 ^ (level + 1) * 2 ^ (level + 1) =
    get_or-map (λ x. x / 2 ^ (level + 1) * 2 ^ (level + 1)) known i 0 0 l in
    let digit : a / 2 ^ (length (body_above level known) - 1 - i) % 2 * 2 ^ level ≡ a / 2 ^ (length known - 1 - i) %
    2 * 2 ^ level = ap (λ t. a / 2 ^ (t - 1 - i) % 2 * 2 ^ level) (above-long level known) in
    let made : get_or (corner_of level a known) i 0 ≡ get_or (body_above level known) i 0 + a / 2 ^
    (length (body_above level known) - 1 - i) % 2 * 2 ^ level + get_or (zeros known) i 0 =
    get-put_together level a i (body_above level known) (zeros known) (zeros-long level known) (subst (λ t. i < t) (sym (above-long level known)) l) in
    omega (arith, e, f, none, there, digit, made)

pub corner-long : (level a : ℕ) (known : List ℕ) → length (corner_of level a known) ≡ length known
corner-long level a known = length-put_together level a (body_above level known) (zeros known) (zeros-long level known) ∙ above-long level known

-- ---- all numbers

gaps-first : (l i n s : ℕ) (xs ys : List ℕ) → i < length xs → i < length ys → n ≡ get_or xs i 0 → s ≡ gap l n (get_or ys i 0) * gap l n (get_or ys i 0)
    → gaps_squared l (drop i xs) (drop i ys) ≡ s + gaps_squared l (drop (i + 1) xs) (drop (i + 1) ys)
gaps-first l i n s xs ys h k e f =
    ap (λ ps. gaps_squared l ps (drop i ys)) (drop_more xs i 0 h)
    ∙ ap (λ qs. gaps_squared l (get_or xs i 0 ∷ drop (i + 1) xs) qs) (drop_more ys i 0 k)
    ∙ ap (λ x. gap l x (get_or ys i 0) * gap l x (get_or ys i 0) + gaps_squared l (drop (i + 1) xs) (drop (i + 1) ys)) (sym e)
    ∙ ap (λ t. t + gaps_squared l (drop (i + 1) xs) (drop (i + 1) ys)) (sym f)

-- the same of the corner as the code makes it
pub corner-gaps : (level a i p q s : ℕ) (known center : List ℕ) → i < length known → length center ≡ length known → 1 ≤ level →
    p ≡ get_or known i 0 / 2 ^ (level + 1) * 2 ^ (level + 1) → q ≡ a / 2 ^ (length known - 1 - i) % 2 * 2 ^ level →
    s ≡ gap_above level (p + q) (get_or center i 0) * gap_above level (p + q) (get_or center i 0) →
    gaps_squared (level - 1) (drop i (corner_of level a known)) (drop i center) ≡
    s + gaps_squared (level - 1) (drop (i + 1) (corner_of level a known)) (drop (i + 1) center)
corner-gaps level a i p q s known center l long some e f square =
    let whole = low-whole level (get_or known i 0) (a / 2 ^ (length known - 1 - i) % 2) p q e f in
    gaps-first (level - 1) i (p + q) s (corner_of level a known) center (omega (arith, l, corner-long level a known)) (omega (arith, l, long))
    (corner-at level a i p q known l e f) (square ∙ sym (ap (λ n. n * n) (gap-whole level (p + q) (get_or center i 0) some whole)))

above-first : (l i n s : ℕ) (xs ys : List ℕ) → i < length xs → i < length ys → n ≡ get_or xs i 0 → s ≡ gap_above l n (get_or ys i 0) * gap_above l n (get_or ys i 0)
    → gaps_above l (drop i xs) (drop i ys) ≡ s + gaps_above l (drop (i + 1) xs) (drop (i + 1) ys)
above-first l i n s xs ys h k e f =
    ap (λ ps. gaps_above l ps (drop i ys)) (drop_more xs i 0 h)
    ∙ ap (λ qs. gaps_above l (get_or xs i 0 ∷ drop (i + 1) xs) qs) (drop_more ys i 0 k)
    ∙ ap (λ x. gap_above l x (get_or ys i 0) * gap_above l x (get_or ys i 0) + gaps_above l (drop (i + 1) xs) (drop (i + 1) ys)) (sym e)
    ∙ ap (λ t. t + gaps_above l (drop (i + 1) xs) (drop (i + 1) ys)) (sym f)

-- the same above any level
pub corner-above : (level a i p q s : ℕ) (known center : List ℕ) → i < length known → length center ≡ length known →
    p ≡ get_or known i 0 / 2 ^ (level + 1) * 2 ^ (level + 1) → q ≡ a / 2 ^ (length known - 1 - i) % 2 * 2 ^ level →
    s ≡ gap_above level (p + q) (get_or center i 0) * gap_above level (p + q) (get_or center i 0) →
    gaps_above level (drop i (corner_of level a known)) (drop i center) ≡
    s + gaps_above level (drop (i + 1) (corner_of level a known)) (drop (i + 1) center)
corner-above level a i p q s known center l long e f square =
    above-first level i (p + q) s (corner_of level a known) center (omega (arith, l, corner-long level a known)) (omega (arith, l, long))
    (corner-at level a i p q known l e f) square

-- a sum has room for so many squares more
pub room-on : (sum n k j m : ℕ) → k ≡ suc j → n ≤ m → sum + k * m ≤ 16 * m → sum + n + j * m ≤ 16 * m
room-on sum n k j m e l h =
    let p : k * m ≡ m + j * m = ap (λ x. x * m) e ∙ omega arith in
    omega (arith, h, p, l)

-- the digits below the level do not count
pub gaps-corner : (level a : ℕ) (known body center : List ℕ) → 1 ≤ level → length body ≡ length known →
    Each (λ y. y < 2 ^ level) body → gaps_squared (level - 1) (corner_of level a known) center ≡
    gaps_squared (level - 1) (put_together level a (body_above level known) body) center
gaps-corner level a [] [] center l e h = refl
gaps-corner level a [] (y ∷ body) center l e h = absurd (omega (arith, e))
gaps-corner level a (x ∷ known) [] center l e h = absurd (omega (arith, e))
gaps-corner level a (x ∷ known) (y ∷ body) [] l e h = refl
gaps-corner level a (x ∷ known) (y ∷ body) (c ∷ center) l e h =
    let d : ℕ = a / 2 ^ length (body_above level known) % 2 in
    let same : gap (level - 1) (x / 2 ^ (level + 1) * 2 ^ (level + 1) + a / 2 ^ length (body_above level known) % 2 *
    2 ^ level + 0) c ≡ gap (level - 1)
    (x / 2 ^ (level + 1) * 2 ^ (level + 1) + a / 2 ^ length (body_above level known) % 2 * 2 ^ level + y) c =
    gap-by level _ _ c l (whole-from level x (a / 2 ^ length (body_above level known) % 2) 0 (pow_pos level) ∙
    sym (whole-from level x (a / 2 ^ length (body_above level known) % 2) y h.0)) in
    ap (λ t. t * t + gaps_squared (level - 1) (corner_of level a known) center) same
    ∙ ap (λ t. gap (level - 1) (x / 2 ^ (level + 1) * 2 ^ (level + 1) + a / 2 ^ length (body_above level known) % 2 *
    2 ^ level + y) c * gap (level - 1)
    (x / 2 ^ (level + 1) * 2 ^ (level + 1) + a / 2 ^ length (body_above level known) % 2 * 2 ^ level + y) c + t)
    (gaps-corner level a known body center l (omega (arith, e)) h.1)

-- they are the least distance of the region
pub gaps-distance : (w l : ℕ) (xs ys : List ℕ) → 1 ≤ w → Each (λ y. y < 2 ^ w) ys →
    gaps_squared l xs ys ≡ least_distance w (record { corner = map (coordinate w) xs; level = l }) (map (coordinate w) ys)
gaps-distance w l [] ys o h = refl
gaps-distance w l (x ∷ xs) [] o h = refl
gaps-distance w l (x ∷ xs) (y ∷ ys) o h =
    let one = offset-bound-on w l x y xs ys (x ∷ xs) (y ∷ ys) 0 (gap l x y) (gap l x y * gap l x y) _ o h.0 refl refl refl refl refl in
    let more = gaps-distance w l xs ys o h.1 in
    omega (arith, one, more)

pub gaps-small : (l : ℕ) (xs ys : List ℕ) → Each (λ x. x < 2 ^ 62) xs → Each (λ y. y < 2 ^ 62) ys → gaps_squared l xs ys ≤ length xs * greatest_square
gaps-small l [] ys h k = omega arith
gaps-small l (x ∷ xs) [] h k = omega arith
gaps-small l (x ∷ xs) (y ∷ ys) h k =
    let g : gap l x y ≤ 2 ^ 62 - 1 = omega (arith, div-mul-le_self x (2 ^ (l + 1)), h.0, k.0) in
    let s : gap l x y * gap l x y ≤ greatest_square = mul-le-mul g g in
    let r : gaps_squared l xs ys ≤ length xs * greatest_square = gaps-small l xs ys h.1 k.1 in
    let m : length (x ∷ xs) * greatest_square ≡ greatest_square + length xs * greatest_square = omega arith in
    omega (arith, s, r, m)

-- ---- an entry

pub child-gap : (limit level : ℕ) (joined center : List ℕ) (o : What) → is_node o ≡ true →
    limit < gaps_squared (level - 1) joined center → limit < entry_gap level joined center o
child-gap limit level joined center (value v) e h = absurd cc
child-gap limit level joined center (node n) e h = h

-- the gap of an entry is the distance of its item
pub entry-distance : (w level : ℕ) (joined center : List ℕ) (o : What) → 1 ≤ w → Each (λ y. y < 2 ^ w) center →
    entry_gap level joined center o ≡ item_distance w (map (coordinate w) center) (what_item w (level - 1) joined o)
entry-distance w level joined center (value v) o h = apart-distance w joined center
entry-distance w level joined center (node n) o h = gaps-distance w (level - 1) joined center o h

pub entry-small : (level : ℕ) (joined center : List ℕ) (o : What) → length joined ≤ 16 →
    Each (λ x. x < 2 ^ 62) joined → Each (λ y. y < 2 ^ 62) center → entry_gap level joined center o < 2 ^ 128
entry-small level joined center o few h k =
    let long : length joined * greatest_square ≤ 16 * greatest_square = mul-le-mul_right greatest_square few in
    by_kind o long
  where
    by_kind : (o : What) → length joined * greatest_square ≤ 16 * greatest_square → entry_gap level joined center o < 2 ^ 128
    by_kind (value v) long = omega (arith, apart-small joined center h k, long)
    by_kind (node n) long = omega (arith, gaps-small (level - 1) joined center h k, long)
