-- Laws of pages: the rest behind a page is what the page left, and there is more exactly where that is not empty.
use Rattle.std.proofs.Common.{◌≡◌, ◌↔◌, ℕ, zero, suc, ◌<◌, List, [], ◌∷◌, ◌++◌, length, take, drop, refl, sym, ◌∙◌, ap, subst}
use Rattle.std.proofs.Common.{arith, cond, Bool, true, false, ◌&&◌, append_assoc, take-append-drop, lt-ltb, ltb-true}
use Rattle.std.specs.Prelude.{ℤ, Option, Some, None, filter}
use Rattle.std.specs.List.{AllByRecursion as Each, list_all}
use Rattle.ph_specs.specs.ZOrder.{before}
use Rattle.ph_specs.specs.Table.{Row, IsTable, is_rising, is_value}
use Rattle.ph_specs.specs.Coordinate.{is_point}
use Rattle.ph_specs.specs.Window.{Cursor, window, rest, has_more, is_after, is_between, last_listed, next_cursor}
use Rattle.ph_specs.proofs.laws.Order.{before_irrefl, before_trans}
use Rattle.ph_specs.proofs.laws.WindowRest.{Each-filter}
use Rattle.ph_specs.proofs.lemmas.Members.{Each-each}
use Rattle.ph_specs.proofs.laws.Put.{before-not}
use Rattle.ph_specs.proofs.lemmas.Tests.{and-parts, each-test}

-- ---- a window from its start

all-kept : (w : ℕ) (xs : List Row) → filter (λ r. is_after w None r.point) xs ≡ xs
all-kept w [] = refl
all-kept w (x ∷ xs) = ap {B = List Row} (λ t. x ∷ t) (all-kept w xs)

pub from-start : (w : ℕ) (c : Cursor) (lo hi : List ℤ) (last : Option (List ℤ)) (table : List Row) →
    record { lo = lo; hi = hi; last = last } ≡ c → last ≡ None → window lo hi table ≡ rest w c table
from-start w c lo hi last table e n =
    sym (all-kept w (window lo hi table)) ∙ ap (λ l. rest w (record { lo = lo; hi = hi; last = l }) table) (sym n) ∙ ap (λ c. rest w c table) e

-- ---- rows in Z-order

abbrev Rising : ℕ → List Row → Type 0
Rising w [] = Unit {0}
Rising w (r ∷ rs) = Each (λ s. before w r.point s.point ≡ true) rs × Rising w rs

rising-rows : (w : ℕ) (rs : List Row) → is_rising w rs ≡ true → Rising w rs
rising-rows w [] h = tt
rising-rows w (r ∷ rs) h =
    let p = and-parts (list_all (λ s. before w r.point s.point) rs) (is_rising w rs) h in
    (each-test (λ s. before w r.point s.point) rs p.0, rising-rows w rs p.1)

rising-filter : (w : ℕ) (p : Row → Bool) (rs : List Row) → Rising w rs → Rising w (filter p rs)
rising-filter w p [] h = tt
rising-filter w p (r ∷ rs) h = by_test (p r) (rising-filter w p rs h.1)
  where
    by_test : (t : Bool) → Rising w (filter p rs) → Rising w (cond t (r ∷ filter p rs) (filter p rs))
    by_test true k = (Each-filter (λ s. before w r.point s.point ≡ true) p rs h.0, k)
    by_test false k = k

-- where a test passes on all rows behind one on which it passes, the rows on which it passes are the last ones
abbrev Upward : ℕ → (Row → Bool) → Type 0
Upward w p = (r s : Row) → p r ≡ true → before w r.point s.point ≡ true → p s ≡ true

all-pass : (p : Row → Bool) (xs : List Row) → Each (λ x. p x ≡ true) xs → filter p xs ≡ xs
all-pass p [] h = refl
all-pass p (x ∷ xs) h = ap (λ t. cond t (x ∷ filter p xs) (filter p xs)) h.0 ∙ ap {B = List Row} (λ t. x ∷ t) (all-pass p xs h.1)

last-ones : (w : ℕ) (p : Row → Bool) (rs : List Row) → Upward w p → Rising w rs → (us : List Row) × (rs ≡ us ++ filter p rs)
last-ones w p [] u h = ([], refl)
last-ones w p (r ∷ rs) u h = by_test (p r) refl (last-ones w p rs u h.1)
  where
    by_test : (t : Bool) → p r ≡ t → (us : List Row) × (rs ≡ us ++ filter p rs) → (us : List Row) × (r ∷ rs ≡ us ++ cond t (r ∷ filter p rs) (filter p rs))
    by_test true e ih = ([], ap {B = List Row} (λ t. r ∷ t) (sym (all-pass p rs (Each-each rs (λ s b. u r s e b) h.0))))
    by_test false e ih = (r ∷ ih.0, ap {B = List Row} (λ t. r ∷ t) ih.1)

after-upward : (w : ℕ) (last : Option (List ℤ)) → Upward w (λ r. is_after w last r.point)
after-upward w None r s a b = refl
after-upward w (Some l) r s a b = before_trans w l r.point s.point a b

-- behind a row of rows in Z-order stand those that come after it
behind-row : (w : ℕ) (us : List Row) (r : Row) (vs : List Row) → Rising w (us ++ r ∷ vs) → filter (λ s. before w r.point s.point) (us ++ r ∷ vs) ≡ vs
behind-row w [] r vs h =
    ap (λ t. cond t (r ∷ filter (λ s. before w r.point s.point) vs) (filter (λ s. before w r.point s.point) vs))
    (before_irrefl w r.point) ∙ all-pass (λ s. before w r.point s.point) vs h.0
behind-row w (u ∷ us) r vs h =
    ap (λ t. cond t (u ∷ filter (λ s. before w r.point s.point) (us ++ r ∷ vs))
    (filter (λ s. before w r.point s.point) (us ++ r ∷ vs))) (before-not w u.point r.point (at-row us h.0)) ∙
    behind-row w us r vs h.1
  where
    at-row : (us : List Row) → Each (λ s. before w u.point s.point ≡ true) (us ++ r ∷ vs) → before w u.point r.point ≡ true
    at-row [] k = k.0
    at-row (x ∷ us) k = at-row us k.1

-- ---- pages

-- the last row of some rows
last-row : (o : Option (List ℤ)) (x : Row) (xs : List Row) → (us : List Row) × (r : Row) × (x ∷ xs ≡ us ++ r ∷ []) × (last_listed o (x ∷ xs) ≡ Some r.point)
last-row o x [] = ([], x, refl, refl)
last-row o x (y ∷ xs) = let ih = last-row (Some x.point) y xs in (x ∷ ih.0, ih.1, ap {B = List Row} (λ t. x ∷ t) ih.2, ih.3)

-- the rest behind a page is what the page left
pub rest-behind-page : (w d : ℕ) (cursor : Cursor) (n : ℕ) (table : List Row) → IsTable w d table →
    rest w (next_cursor w cursor n table) table ≡ drop n (rest w cursor table)
rest-behind-page w d cursor n table h = by_page (take n (rest w cursor table)) (drop n (rest w cursor table)) refl (take-append-drop n (rest w cursor table))
  where
    all : List Row
    all = window cursor.lo cursor.hi table

    rises : Rising w all
    rises = rising-filter w (λ r. is_between cursor.lo cursor.hi r.point) table
        (rising-rows w table (and-parts (is_rising w table)
        (list_all (λ r. is_point w d r.point) table && list_all (λ r. is_value r.value) table) h).0)

    front : (us : List Row) × (all ≡ us ++ rest w cursor table)
    front = last-ones w (λ r. is_after w cursor.last r.point) all (after-upward w cursor.last) rises

    by_page : (given left : List Row) → take n (rest w cursor table) ≡ given → given ++ left ≡ rest w cursor table →
        rest w (record cursor { last = last_listed cursor.last (take n (rest w cursor table)) }) table ≡ left
    by_page [] left e f = ap (λ t. rest w (record cursor { last = last_listed cursor.last t }) table) e ∙ sym f
    by_page (x ∷ xs) left e f =
        let z = last-row cursor.last x xs in
        let us : List Row = front.0 ++ z.0 in
        let parts : all ≡ (front.0 ++ z.0) ++ z.1 ∷ left = front.1 ∙
        ap (λ t. front.0 ++ t) (sym f ∙ ap (λ t. t ++ left) z.2 ∙ append_assoc z.0 (z.1 ∷ []) left) ∙
        sym (append_assoc front.0 z.0 (z.1 ∷ left)) in
        ap (λ t. rest w (record cursor { last = last_listed cursor.last t }) table) e
        ∙ ap (λ o. rest w (record cursor { last = o }) table) z.3
        ∙ ap (filter (λ s. before w z.1.point s.point)) parts
        ∙ behind-row w us z.1 left (subst (Rising w) parts rises)

-- there is more exactly where the page left something
pub more-left : (w : ℕ) (cursor : Cursor) (n : ℕ) (table : List Row) → (has_more w cursor n table ≡ true) ↔ (drop n (rest w cursor table) ≡ [] → ⊥)
more-left w cursor n table = (there, back)
  where
    long : (n : ℕ) (xs : List Row) → n < length xs → drop n xs ≡ [] → ⊥
    long n [] l e = omega (arith, l)
    long zero (x ∷ xs) l e = cc
    long (suc n) (x ∷ xs) l e = long n xs (omega (arith, l)) e

    left : (n : ℕ) (xs : List Row) → (drop n xs ≡ [] → ⊥) → n < length xs
    left zero [] f = absurd (f refl)
    left (suc n) [] f = absurd (f refl)
    left zero (x ∷ xs) f = omega arith
    left (suc n) (x ∷ xs) f = let l : n < length xs = left n xs f in omega (arith, l)

    there : has_more w cursor n table ≡ true → drop n (rest w cursor table) ≡ [] → ⊥
    there h = long n (rest w cursor table) (ltb-true n (length (rest w cursor table)) h)

    back : (drop n (rest w cursor table) ≡ [] → ⊥) → has_more w cursor n table ≡ true
    back f = lt-ltb n (length (rest w cursor table)) (left n (rest w cursor table) f)
