-- Rows in order, and their table.
use Rattle.std.proofs.Common.{◌≡◌, ℕ, zero, suc, ◌+◌, ◌<◌, ◌≤◌, Bool, true, false, ◌&&◌, cond, List, [], ◌∷◌, ◌++◌, length}
use Rattle.std.proofs.Common.{map, take, filter, get_or, refl, sym, ◌∙◌, ap, subst, arith}
use Rattle.std.specs.Prelude.{ℤ, pos, negsuc, ◌-◌, ◌*◌, ◌%◌, ◌^◌, not, None, ◌==◌}
use Rattle.std.specs.Ordering.{is_lt}
use Rattle.std.specs.declared.cmp.Ordering.TheVariants.{Equal}
use Rattle.std.specs.List.{list_all, AllByRecursion as Each}
use Rattle.std.specs.List.Sorted.{IsPermutation, IsSortedBy, IsStableBy, ties}
use Rattle.std.proofs.Math.Nat.{add-mul-mod_self_right, mod-eq_of_lt}
use Rattle.std.proofs.Math.Pow.{pow_mono}
use Rattle.std.proofs.lemmas.Bool.{and_parts, leb-true}
use Rattle.std.proofs.lemmas.Nat.{pow_pos, pow-add}
use Rattle.std.proofs.lemmas.List.{take_more}
use Rattle.std.proofs.lemmas.List.Sorted.{All-permutation, sorted_far}
use Rattle.std.proofs.lemmas.List.Elements.{All-from_recursion, recursion_from_All}
use Rattle.ph_specs.specs.Coordinate.{fits, half, offset, same_point, is_point, IsPoint}
use Rattle.ph_specs.specs.ZOrder.{before}
use Rattle.ph_specs.specs.Table.{Row, row, find, put, is_rising, is_value, IsTable}
use Rattle.ph_specs.specs.Sets.{put_all, table_of}
use Rattle.ph_model.proofs.laws.Combined.{not-back, not-same}
use Rattle.ph_specs.proofs.laws.Order.{offset_small}
use Rattle.ph_specs.proofs.laws.Put.{and, is_rising-put, list_all-put, same_from_test}
use Rattle.ph_specs.proofs.laws.SameTables.{pick, find-put_all, pick-filter, same-tables}
use Rattle.ph_specs.proofs.laws.Sets.{is_table-table_of}
use Rattle.ph_digits.specs.WordOrder.{words_cmp}
use Rattle.ph_digits.proofs.WordOrders.{words-same}
use Rattle.ph_zorder.proofs.Decided.{is_body-point}
use Rattle.ph_zorder.proofs.Ordered.{words-before}
use Rattle.ph_shape.proofs.Fronts.{each-at}
use Rattle.ph_bulk.specs.Order.{any_offset, row_before}
use Rattle.ph_bulk.proofs.Orders.{order}

-- ---- the order of rows is that of their points

-- the number that stands for a coordinate is its offset
any-fit : (w : ℕ) (c : ℤ) → 1 ≤ w → w ≤ 62 → fits w c ≡ true → any_offset w c ≡ offset w c
any-fit w (pos n) positive l h =
    let up : n + half w ≡ half w + n = omega arith in
    ap (λ k. k % 2 ^ w) up ∙ mod-eq_of_lt (offset_small w (pos n) positive h)
any-fit w (negsuc n) positive l h =
    let long : 64 ≡ (64 - w) + w = omega (arith, l) in
    let whole : 2 ^ 64 ≡ 2 ^ (64 - w) * 2 ^ w = ap (λ k. 2 ^ k) long ∙ pow-add 2 (64 - w) w in
    let low : n ≤ half w - 1 = leb-true n (half w - 1) (and_parts _ _ h).0 in
    let wide : half w ≤ 2 ^ 64 = pow_mono {i = w - 1} {j = 64} (omega (arith, l)) in
    let some : 0 < half w = pow_pos (w - 1) in
    let around : (2 ^ 64 - suc n) + half w ≡ offset w (negsuc n) + 2 ^ 64 = omega (arith, low, wide, some) in
    ap (λ k. k % 2 ^ w) (around ∙ ap (λ k. offset w (negsuc n) + k) whole)
    ∙ add-mul-mod_self_right (offset w (negsuc n)) (2 ^ (64 - w)) (2 ^ w)
    ∙ mod-eq_of_lt (offset_small w (negsuc n) positive h)

any-is : (w : ℕ) (p : List ℤ) → 1 ≤ w → w ≤ 62 → list_all (fits w) p ≡ true → map (any_offset w) p ≡ map (offset w) p
any-is w [] positive l h = refl
any-is w (c ∷ p) positive l h =
    let k = and_parts (fits w c) (list_all (fits w) p) h in
    λ i. any-fit w c positive l k.0 i ∷ any-is w p positive l k.1 i

row-order : (w d : ℕ) (a b : Row) → 1 ≤ w → w ≤ 62 → IsPoint w d a.point → IsPoint w d b.point → row_before w a b ≡ before w a.point b.point
row-order w d a b positive l h k =
    (λ i. is_lt (words_cmp (any-is w a.point positive l (and_parts (length a.point == d) _ h).1 i)
    (any-is w b.point positive l (and_parts (length b.point == d) _ k).1 i)))
    ∙ words-before w d a.point b.point (omega (arith, l)) (is_body-point w d a.point positive h) (is_body-point w d b.point positive k)

-- ---- the table of rows

abbrev ArePoints : ℕ → ℕ → List Row → Type 0
ArePoints w d rows = Each (λ r. IsPoint w d r.point) rows

pub points-moved : (w d : ℕ) (rows ys : List Row) → ArePoints w d rows → IsPermutation rows ys → ArePoints w d ys
points-moved w d rows ys h m =
    recursion_from_All (λ r. IsPoint w d r.point) ys (All-permutation (λ r. IsPoint w d r.point) rows ys m (All-from_recursion (λ r. IsPoint w d r.point) rows h))

-- rows in order, at points
pub record IsUp (w d : ℕ) (rows : List Row) : Type 0 where
  pub points : list_all (λ r. is_point w d r.point) rows ≡ true
  pub rise : is_rising w rows ≡ true

up-put_all : (w d : ℕ) (table rows : List Row) → 1 ≤ w → Each (λ r. IsPoint w d r.point) rows → IsUp w d table → IsUp w d (put_all w table rows)
up-put_all w d table [] positive h k = k
up-put_all w d table (r ∷ rows) positive h k =
    up-put_all w d (put w table r.point r.value) rows positive h.1 (record {
      points = list_all-put (λ s. is_point w d s.point) w table r.point r.value k.points h.0;
      rise = is_rising-put w d table r.point r.value positive h.0 k.points k.rise;
    })

up-rows : (w d : ℕ) (rows : List Row) → 1 ≤ w → ArePoints w d rows → IsUp w d (table_of w rows)
up-rows w d rows positive h = up-put_all w d [] rows positive h (record { points = refl; rise = refl })

-- a row that comes before all others stays in front of them
front-stays : (w : ℕ) (r : Row) (table rows : List Row) → list_all (λ s. before w r.point s.point) rows ≡ true → put_all w (r ∷ table) rows ≡ r ∷ put_all w table rows
front-stays w r table [] h = refl
front-stays w r table (s ∷ rows) h =
    let b : before w r.point s.point ≡ true = (and_parts _ _ h).0 in
    let placed : put w (r ∷ table) s.point s.value ≡ r ∷ put w table s.point s.value =
    ap {B = List Row} (λ t. cond t (s ∷ table)
    (cond (before w s.point r.point) (s ∷ r ∷ table) (r ∷ put w table s.point s.value)))
    (not-same w r.point s.point b) ∙
    ap {B = List Row} (λ t. cond t (s ∷ r ∷ table) (r ∷ put w table s.point s.value)) (not-back w r.point s.point b) in
    ap (λ t. put_all w t rows) placed ∙ front-stays w r (put w table s.point s.value) rows (and_parts _ _ h).1

-- rows that rise are their own table
pub rising-table : (w : ℕ) (rows : List Row) → is_rising w rows ≡ true → rows ≡ table_of w rows
rising-table w [] h = refl
rising-table w (r ∷ rows) h =
    ap {B = List Row} (λ t. r ∷ t)
    (rising-table w rows (and_parts (list_all (λ s. before w r.point s.point) rows) _ h).1) ∙
    sym (front-stays w r [] rows (and_parts _ _ h).0)

-- ---- one row more

each-front : {X : Type 0} (P : X → Type 0) (n : ℕ) (xs : List X) → Each P xs → Each P (take n xs)
each-front P zero xs h = tt
each-front P (suc n) [] h = tt
each-front P (suc n) (x ∷ xs) h = (h.0, each-front P n xs h.1)

each-by : {X : Type 0} (P : X → Type 0) (n : ℕ) (xs : List X) (d : X) → n ≤ length xs → ((j : ℕ) → j < n → P (get_or xs j d)) → Each P (take n xs)
each-by P zero xs d l h = tt
each-by P (suc n) [] d l h = absurd (let no : ⊥ = omega (arith, l) in no)
each-by P (suc n) (x ∷ xs) d l h = (h 0 (omega arith), each-by P n xs d (omega (arith, l)) (λ j m. h (suc j) (omega (arith, m))))

all-put_all : (test : Row → Bool) (w : ℕ) (table rows : List Row) → list_all test table ≡ true →
    Each (λ r. test r ≡ true) rows → list_all test (put_all w table rows) ≡ true
all-put_all test w table [] h k = h
all-put_all test w table (r ∷ rows) h k = all-put_all test w (put w table r.point r.value) rows (list_all-put test w table r.point r.value h k.0) k.1

not-before : (w d : ℕ) (r : Row) (rows : List Row) → 1 ≤ w → w ≤ 62 → IsPoint w d r.point → ArePoints w d rows →
    Each (λ s. row_before w r s ≡ false) rows → Each (λ s. not (before w r.point s.point) ≡ true) rows
not-before w d r [] positive l h hs b = tt
not-before w d r (s ∷ rows) positive l h hs b =
    (ap not (sym (row-order w d r s positive l h hs.0) ∙ b.0), not-before w d r rows positive l h hs.1 b.1)

-- the table of the rows so far, and the next row
pub record IsNext (w d : ℕ) (rows : List Row) (r : Row) : Type 0 where
  pub point : IsPoint w d r.point
  pub points : list_all (λ s. is_point w d s.point) rows ≡ true
  pub rise : is_rising w rows ≡ true
  pub behind : list_all (λ s. not (before w r.point s.point)) rows ≡ true

pub next-row : (w d : ℕ) (rows : List Row) (i : ℕ) (r : Row) → 1 ≤ w → w ≤ 62 → ArePoints w d rows →
    IsSortedBy (row_before w) rows → i < length rows → r ≡ get_or rows i r → IsNext w d (table_of w (take i rows)) r
next-row w d rows i r positive l h up m e =
    let p : IsPoint w d r.point = subst (λ (s : Row). IsPoint w d s.point) (sym e) (each-at (λ (s : Row). IsPoint w d s.point) rows i r h m) in
    let far : (j : ℕ) → j < i → row_before w r (get_or rows j r) ≡ false =
    λ j n. ap (λ x. row_before w x (get_or rows j r)) e ∙ sorted_far (row_before w) (order w) rows up j i r
    (omega (arith, n)) m in
    let hs : ArePoints w d (take i rows) = each-front (λ s. IsPoint w d s.point) i rows h in
    let u : IsUp w d (table_of w (take i rows)) = up-rows w d (take i rows) positive hs in
    record {
      point = p;
      points = u.points;
      rise = u.rise;
      behind = all-put_all (λ s. not (before w r.point s.point)) w [] (take i rows) refl
          (not-before w d r (take i rows) positive l p hs
          (each-by (λ s. row_before w r s ≡ false) i rows r (omega (arith, m)) far));
    }

put_all-more : (w : ℕ) (table rows : List Row) (r : Row) → put_all w table (rows ++ r ∷ []) ≡ put w (put_all w table rows) r.point r.value
put_all-more w table [] r = refl
put_all-more w table (s ∷ rows) r = put_all-more w (put w table s.point s.value) rows r

pub table-more : (w : ℕ) (rows : List Row) (i : ℕ) (r : Row) → i < length rows → r ≡ get_or rows i r →
    table_of w (take (i + 1) rows) ≡ put w (table_of w (take i rows)) r.point r.value
table-more w rows i r m e =
    ap (table_of w) (take_more rows i r m) ∙ put_all-more w [] (take i rows) (get_or rows i r)
    ∙ ap (λ (s : Row). put w (table_of w (take i rows)) s.point s.value) (sym e)

-- ---- sorted rows make the same table

tie : (w : ℕ) (a b : Row) → a.point ≡ b.point → ties (row_before w) a b ≡ true
tie w a b e = λ i. not (is_lt (sym (same a.point b.point e) i)) && not (is_lt (sym (same b.point a.point (sym e)) i))
  where
    same : (p q : List ℤ) → p ≡ q → Equal ≡ words_cmp (map (any_offset w) p) (map (any_offset w) q)
    same p q e = words-same (map (any_offset w) p) (map (any_offset w) q) (ap (map (any_offset w)) e)

all-tie : (w : ℕ) (q : List ℤ) (rows : List Row) → Each (λ r. same_point r.point q ≡ true → ties (row_before w) (row q 0) r ≡ true) rows
all-tie w q [] = tt
all-tie w q (r ∷ rows) = (λ same. tie w (row q 0) r (sym (same_from_test r.point q same)), all-tie w q rows)

found-rows : (w : ℕ) (q : List ℤ) (rows : List Row) →
    find (table_of w rows) q ≡ pick (λ r. same_point r.point q) (λ r. r.value) None (filter (ties (row_before w) (row q 0)) rows)
found-rows w q rows =
    find-put_all w [] rows q ∙ pick-filter (ties (row_before w) (row q 0)) (λ r. same_point r.point q) (λ r. r.value) None rows (all-tie w q rows)

pub sorted-table : (w d : ℕ) (rows ys : List Row) → 1 ≤ w → ArePoints w d rows → IsPermutation rows ys →
    IsStableBy (row_before w) rows ys → table_of w ys ≡ table_of w rows
sorted-table w d rows ys positive h m st =
    let a = up-rows w d ys positive (points-moved w d rows ys h m) in
    let b = up-rows w d rows positive h in
    same-tables w d (table_of w ys) (table_of w rows) positive a.rise b.rise a.points b.points
    (λ q. found-rows w q ys ∙ ap (λ (t : List Row). pick (λ r. same_point r.point q) (λ r. r.value) None t) (st (row q 0)) ∙ sym (found-rows w q rows))

-- ---- values

points-all : (w d : ℕ) (rows : List Row) → Each (λ r. IsPoint w d r.point) rows → list_all (λ r. is_point w d r.point) rows ≡ true
points-all w d [] h = refl
points-all w d (r ∷ rows) h = and _ _ h.0 (points-all w d rows h.1)

pub table-is : (w d : ℕ) (rows : List Row) → 1 ≤ w → Each (λ r. IsPoint w d r.point) rows → list_all (λ r. is_value r.value) rows ≡ true → IsTable w d (table_of w rows)
table-is w d rows positive h v = is_table-table_of w d rows positive (and _ _ (points-all w d rows h) v)

-- ---- the rows of the table that rows make

-- sorted rows that rise are those of the table that the rows make
pub risen-table : (w d : ℕ) (rows ys : List Row) → 1 ≤ w → ArePoints w d rows → IsPermutation rows ys →
    IsStableBy (row_before w) rows ys → is_rising w ys ≡ true → ys ≡ table_of w rows
risen-table w d rows ys positive h m st up = rising-table w ys up ∙ sorted-table w d rows ys positive h m st

-- they are a table
pub made-table : (w d : ℕ) (rows seen ys : List Row) → 1 ≤ w → ArePoints w d rows → seen ≡ rows → list_all (λ r. is_value r.value) seen ≡ true →
    ys ≡ table_of w rows → IsTable w d ys
made-table w d rows seen ys positive h same v made =
    subst (IsTable w d) (sym made) (table-is w d rows positive h (ap (λ (rs : List Row). list_all (λ r. is_value r.value) rs) (sym same) ∙ v))
