-- How many rows a table has after rows were put into it, and at which points.
use Rattle.std.proofs.Common.{◌≡◌, ℕ, zero, suc, ◌+◌, ◌-◌, ◌*◌, ◌<◌, ◌≤◌, Bool, true, false, cond, List, []}
use Rattle.std.proofs.Common.{◌∷◌, ◌++◌, length, take, drop, get_or, refl, sym, ◌∙◌, ap, arith, inl, inr}
use Rattle.std.specs.Prelude.{ℤ, Option, Some, None, is_some}
use Rattle.std.specs.List.{list_all, AllByRecursion as Each}
use Rattle.std.proofs.lemmas.Bool.{and_parts}
use Rattle.std.proofs.lemmas.List.{take_more, take-append-drop}
use Rattle.std.proofs.lemmas.List.Sums.{fold_more, fold_push, sum_by_more, sum_by-take-le}
use Rattle.ph_specs.specs.Coordinate.{same_point, is_point, IsPoint}
use Rattle.ph_specs.specs.ZOrder.{before}
use Rattle.ph_specs.specs.Table.{Row, find, has, put, is_rising, IsTable}
use Rattle.ph_specs.specs.Sets.{put_all}
use Rattle.ph_specs.specs.Past.{Past, put_kept, without_past}
use Rattle.ph_specs.specs.WorkSets.{path}
use Rattle.ph_import.specs.Imported.{with_some, puts_visits, looks_visits, IsPart}
use Rattle.ph_specs.proofs.laws.Order.{before_trans}
use Rattle.ph_specs.proofs.laws.Put.{either, find-put, is_rising-put, list_all-put, not_same, before-differs}

-- ---- one row

-- no row stands at a point that comes before all rows
find-behind : (w : ℕ) (rows : List Row) (p : List ℤ) → list_all (λ s. before w p s.point) rows ≡ true → find rows p ≡ None
find-behind w [] p h = refl
find-behind w (r ∷ rows) p h =
    let other : r.point ≡ p → ⊥ = λ e. before-differs w p r.point (and_parts _ _ h).0 (sym e) in
    rw (not_same r.point p other) (find-behind w rows p (and_parts _ _ h).1)

all-behind : (w : ℕ) (p q : List ℤ) (rows : List Row) → before w p q ≡ true →
    list_all (λ s. before w q s.point) rows ≡ true → list_all (λ s. before w p s.point) rows ≡ true
all-behind w p q [] h k = refl
all-behind w p q (s ∷ rows) h k =
    rw (before_trans w p q s.point h (and_parts _ _ k).0) (all-behind w p q rows h (and_parts _ _ k).1)

-- a row at a new point is one row more
pub length-put : (w : ℕ) (rows : List Row) (p : List ℤ) (v : ℕ) → is_rising w rows ≡ true → length (put w rows p v) ≡ length rows + cond (has rows p) 0 1
length-put w [] p v h = refl
length-put w (r ∷ rows) p v h =
    elim (either (same_point r.point p)) [
      | inl same ↦ rw same (omega arith)
      | inr other ↦ elim (either (before w p r.point)) [
        | inl first ↦
            let none : find rows p ≡ None = find-behind w rows p (all-behind w p r.point rows first (and_parts _ _ h).0) in
            rw (other, first, none) (omega arith)
        | inr later ↦
            let rising : is_rising w rows ≡ true = (and_parts (list_all (λ s. before w r.point s.point) rows) (is_rising w rows) h).1 in
            let more : length (put w rows p v) ≡ length rows + cond (has rows p) 0 1 = length-put w rows p v rising in
            rw (other, later, more) (omega arith)
      ]
    ]

-- a point has a row after a put where it had one before, or the new one
pub has-put : (w : ℕ) (rows : List Row) (p q : List ℤ) (v : ℕ) → has (put w rows p v) q ≡ cond (same_point p q) true (has rows q)
has-put w rows p q v = ap is_some (find-put w rows p q v) ∙ through (same_point p q) (find rows q)
  where
    through : (b : Bool) (o : Option ℕ) → is_some (cond b (Some v) o) ≡ cond b true (is_some o)
    through true o = refl
    through false o = refl

-- ---- many rows

-- rows in Z-order, at points of a width
pub record IsRisen (w d : ℕ) (rows : List Row) : Type 0 where
  pub points : list_all (λ r. is_point w d r.point) rows ≡ true
  pub rising : is_rising w rows ≡ true

pub risen : (w d : ℕ) (rows : List Row) → IsTable w d rows → IsRisen w d rows
risen w d rows h = record { points = (and_parts _ _ (and_parts _ _ h).1).0; rising = (and_parts _ _ h).0 }

risen-put : (w d : ℕ) (rows : List Row) (p : List ℤ) (v : ℕ) → 1 ≤ w → IsPoint w d p → IsRisen w d rows → IsRisen w d (put w rows p v)
risen-put w d rows p v positive point h =
    record { points = list_all-put (λ r. is_point w d r.point) w rows p v h.points point; rising = is_rising-put w d rows p v positive point h.points h.rising }

-- the same, of the first so many of some rows
pub risen-part : (w d : ℕ) (table rows : List Row) (i : ℕ) → 1 ≤ w → Each (λ r. IsPoint w d r.point) rows →
    IsRisen w d table → IsRisen w d (put_all w table (take i rows))
risen-part w d table rows zero positive h k = k
risen-part w d table [] (suc i) positive h k = k
risen-part w d table (r ∷ rows) (suc i) positive h k =
    risen-part w d (put w table r.point r.value) rows i positive h.1 (risen-put w d table r.point r.value positive h.0 k)

-- a row more, and at most one
grows : (n : ℕ) (b : Bool) → n ≤ n + cond b 0 1
grows n true = omega arith
grows n false = omega arith

most : (n : ℕ) (b : Bool) → n + cond b 0 1 ≤ n + 1
most n true = omega arith
most n false = omega arith

pub length-put_all : (w d : ℕ) (table rows : List Row) → 1 ≤ w → Each (λ r. IsPoint w d r.point) rows →
    IsRisen w d table → (length table ≤ length (put_all w table rows)) ×
    (length (put_all w table rows) ≤ length table + length rows)
length-put_all w d table [] positive h k = (omega arith, omega arith)
length-put_all w d table (r ∷ rows) positive h k =
    let one : length (put w table r.point r.value) ≡ length table + cond (has table r.point) 0 1 = length-put w table r.point r.value k.rising in
    let more : (length (put w table r.point r.value) ≤ length (put_all w (put w table r.point r.value) rows)) ×
    (length (put_all w (put w table r.point r.value) rows) ≤ length (put w table r.point r.value) + length rows) =
    length-put_all w d (put w table r.point r.value) rows positive h.1 (risen-put w d table r.point r.value positive h.0 k) in
    (omega (arith, one, more.0, grows (length table) (has table r.point)), omega (arith, one, more.1, most (length table) (has table r.point)))

-- the first so many rows make no more than all
pub length-part : (w d : ℕ) (table rows : List Row) (i : ℕ) → 1 ≤ w → Each (λ r. IsPoint w d r.point) rows →
    IsRisen w d table → length (put_all w table (take i rows)) ≤ length (put_all w table rows)
length-part w d table rows zero positive h k = (length-put_all w d table rows positive h k).0
length-part w d table [] (suc i) positive h k = omega arith
length-part w d table (r ∷ rows) (suc i) positive h k =
    length-part w d (put w table r.point r.value) rows i positive h.1 (risen-put w d table r.point r.value positive h.0 k)

-- one row more
pub put-next : (w : ℕ) (table rows : List Row) (i : ℕ) (d : Row) → i < length rows →
    put_all w table (take (i + 1) rows) ≡ put w (put_all w table (take i rows)) (get_or rows i d).point (get_or rows i d).value
put-next w table rows i d l = fold_more (λ t r. put w t r.point r.value) table rows i d l

-- where all rows fit, a row at a new point finds room
pub room-left : (w d max : ℕ) (table rows : List Row) (i : ℕ) (e : Row) → 1 ≤ w →
    Each (λ r. IsPoint w d r.point) rows → IsRisen w d table → i < length rows → length (put_all w table rows) ≤ max →
    find (put_all w table (take i rows)) (get_or rows i e).point ≡ None → length (put_all w table (take i rows)) ≡ max → ⊥
room-left w d max table rows i e positive h k l fits none full =
    let one : length (put w (put_all w table (take i rows)) (get_or rows i e).point (get_or rows i e).value) ≡
    length (put_all w table (take i rows)) + cond (has (put_all w table (take i rows)) (get_or rows i e).point) 0
    1 = length-put w (put_all w table (take i rows)) (get_or rows i e).point (get_or rows i e).value
    (risen-part w d table rows i positive h k).rising in
    let new : ◌≡◌ {A = ℕ} (cond (has (put_all w table (take i rows)) (get_or rows i e).point) 0 1) 1 = ap (λ o. cond (is_some o) 0 1) none in
    omega (arith, one, new, fits, full, ap (λ t. length t) (put-next w table rows i e l), length-part w d table rows (i + 1) positive h k)

-- a tree into which none of some rows was put
pub nothing-put : (k : Past) (rows : List Row) → 0 < length rows → IsPart k k rows
nothing-put k rows l = record { part = 0; few = l; state = refl }

-- ---- what is kept

pub some-table : (k : Past) (rows : List Row) → (with_some k rows).table ≡ put_all k.width k.table rows
some-table k [] = refl
some-table k (r ∷ rows) = refl

pub some-width : (k : Past) (rows : List Row) → (with_some k rows).width ≡ k.width
some-width k [] = refl
some-width k (r ∷ rows) = refl

pub some-max : (k : Past) (rows : List Row) → (with_some k rows).max ≡ k.max
some-max k [] = refl
some-max k (r ∷ rows) = refl

-- a row more, and no past
some-put : (k : Past) (rows : List Row) (r : Row) →
    without_past (put_kept (with_some k rows) r.point r.value) (put_kept (with_some k rows) r.point r.value).table ≡ with_some k (rows ++ r ∷ [])
some-put k [] r = refl
some-put k (s ∷ rows) r = ap (without_past k) (sym (fold_push (λ t q. put k.width t q.point q.value) k.table (s ∷ rows) r))

pub some-next : (k now put_now next : Past) (rows : List Row) (i : ℕ) (e r : Row) → i < length rows → now ≡ with_some k (take i rows) →
    put_now ≡ put_kept now r.point r.value → next ≡ without_past put_now put_now.table → r ≡ get_or rows i e → next ≡ with_some k (take (i + 1) rows)
some-next k now put_now next rows i e r l state done left at =
    left
    ∙ ap (λ u. without_past u u.table) (done ∙ (λ j. put_kept (state j) (at j).point (at j).value))
    ∙ some-put k (take i rows) (get_or rows i e)
    ∙ ap (with_some k) (sym (take_more rows i e l))

-- ---- visits

pub visits-next : (before now next w u i : ℕ) → now ≤ before + 2 * w * i → next ≤ now + 2 * u → u ≡ w → next ≤ before + 2 * w * (i + 1)
visits-next before now next w u i h k e =
    let more : 2 * w * (i + 1) ≡ 2 * w * i + 2 * w = omega arith in
    omega (arith, h, k, e, more)

pub visits-part : (before now next w u i n : ℕ) → now ≤ before + 2 * w * i → next ≤ now + 2 * u → u ≡ w → i < n → next ≤ before + 2 * w * n
visits-part before now next w u i n h k e l =
    let left : n ≡ i + 1 + (n - (i + 1)) = omega (arith, l) in
    let all : 2 * w * n ≡ 2 * w * i + 2 * w + 2 * w * (n - (i + 1)) = ap (λ x. 2 * w * x) left ∙ omega arith in
    omega (arith, h, k, e, all)

-- the visits of the puts of rows, and of more rows behind them
puts-append : (w d : ℕ) (table xs ys : List Row) → puts_visits w d table (xs ++ ys) ≡ puts_visits w d table xs + puts_visits w d (put_all w table xs) ys
puts-append w d table [] ys = omega arith
puts-append w d table (r ∷ xs) ys =
    let more : puts_visits w d (put w table r.point r.value) (xs ++ ys) ≡ puts_visits w d (put w table r.point r.value) xs +
    puts_visits w d (put_all w (put w table r.point r.value) xs) ys = puts-append w d (put w table r.point r.value) xs ys in
    omega (arith, more)

puts-next : (w d : ℕ) (table rows : List Row) (i : ℕ) (e : Row) → i < length rows →
    puts_visits w d table (take (i + 1) rows) ≡ puts_visits w d table (take i rows) +
    (2 * length (path w d (put_all w table (take i rows)) (get_or rows i e).point) - 1)
puts-next w d table rows i e l =
    let more : puts_visits w d table (take i rows ++ get_or rows i e ∷ []) ≡ puts_visits w d table (take i rows) +
    puts_visits w d (put_all w table (take i rows)) (get_or rows i e ∷ []) = puts-append w d table (take i rows) (get_or rows i e ∷ []) in
    ap (puts_visits w d table) (take_more rows i e l) ∙ more ∙ omega arith

-- the visits after a put more
pub puts-grown : (w d : ℕ) (table rows : List Row) (i : ℕ) (e : Row) (before now next : ℕ) (u : ℕ) (so_far : List Row) (p : List ℤ) →
    i < length rows → now ≤ before + puts_visits w d table (take i rows) → next ≤ now + (2 * length (path u d so_far p) - 1) →
    u ≡ w → so_far ≡ put_all w table (take i rows) → p ≡ (get_or rows i e).point → next ≤ before + puts_visits w d table (take (i + 1) rows)
puts-grown w d table rows i e before now next u so_far p l h k wide state at =
    let one : length (path u d so_far p) ≡ length (path w d (put_all w table (take i rows)) (get_or rows i e).point) =
    λ j. length (path (wide j) d (state j) (at j)) in
    omega (arith, h, k, one, puts-next w d table rows i e l)

-- the puts of the first so many rows have no more visits than those of all
pub puts-few : (w d : ℕ) (table rows : List Row) (i : ℕ) → puts_visits w d table (take i rows) ≤ puts_visits w d table rows
puts-few w d table rows i =
    let all : puts_visits w d table (take i rows ++ drop i rows) ≡ puts_visits w d table rows = ap (puts_visits w d table) (take-append-drop i rows) in
    omega (arith, all, puts-append w d table (take i rows) (drop i rows))

-- before a put that is the last
pub puts-part : (w d : ℕ) (table rows : List Row) (i : ℕ) (e : Row) (before now next : ℕ) (u : ℕ) (so_far : List Row) (p : List ℤ) →
    i < length rows → now ≤ before + puts_visits w d table (take i rows) → next ≤ now + (2 * length (path u d so_far p) - 1) →
    u ≡ w → so_far ≡ put_all w table (take i rows) → p ≡ (get_or rows i e).point → next ≤ before + puts_visits w d table rows
puts-part w d table rows i e before now next u so_far p l h k wide state at =
    omega (arith, puts-grown w d table rows i e before now next u so_far p l h k wide state at, puts-few w d table rows (i + 1))

-- the same of look-ups
pub looks-few : (w d : ℕ) (table rows : List Row) (i : ℕ) → looks_visits w d table (take i rows) ≤ looks_visits w d table rows
looks-few w d table rows i = sum_by-take-le (λ r. length (path w d table r.point)) rows i

pub looks-grown : (w d : ℕ) (table rows : List Row) (i : ℕ) (e : Row) (before now next : ℕ) (p : List ℤ) → i < length rows →
    now ≤ before + looks_visits w d table (take i rows) → next ≡ now + length (path w d table p) → p ≡ (get_or rows i e).point →
    next ≤ before + looks_visits w d table (take (i + 1) rows)
looks-grown w d table rows i e before now next p l h k at =
    let one : length (path w d table p) ≡ length (path w d table (get_or rows i e).point) = ap (λ q. length (path w d table q)) at in
    let more : looks_visits w d table (take (i + 1) rows) ≡ looks_visits w d table (take i rows) +
    length (path w d table (get_or rows i e).point) = sum_by_more (λ r. length (path w d table r.point)) rows i e l in
    omega (arith, h, k, one, more)

pub looks-part : (w d : ℕ) (table rows : List Row) (i : ℕ) (e : Row) (before now next : ℕ) (p : List ℤ) → i < length rows →
    now ≤ before + looks_visits w d table (take i rows) → next ≡ now + length (path w d table p) → p ≡ (get_or rows i e).point →
    next ≤ before + looks_visits w d table rows
looks-part w d table rows i e before now next p l h k at =
    omega (arith, looks-grown w d table rows i e before now next p l h k at, looks-few w d table rows (i + 1))
