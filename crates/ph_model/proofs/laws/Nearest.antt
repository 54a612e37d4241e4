-- The ranked rows of a table are listed each before all later ones, and there is one such list.
use Rattle.std.proofs.Common.{◌≡◌, ℕ, zero, suc, ◌<◌, ◌≤◌, ◌⊎◌, inl, inr, refl, sym, ◌∙◌, ap, subst, arith, true, false, Bool}
use Rattle.std.proofs.Common.{List, [], ◌∷◌, ◌++◌, length, take, drop, lt-ltb, le-ltb, eq-eqb, leb-true}
use Rattle.std.specs.Prelude.{ℤ, nat_le, fold, if◌then◌else◌}
use Rattle.std.specs.List.{AllByRecursion as Each, list_all}
use Rattle.std.specs.List.Sorted.{IsPermutation}
use Rattle.std.proofs.lemmas.List.Sorted.{IsPermutation-sym}
use Rattle.std.proofs.lemmas.List.{append-nil, take-append-drop, length-take-le}
use Rattle.std.proofs.lemmas.Bool.{and_parts, cases_lt, leb-false}
use Rattle.ph_specs.specs.ZOrder.{before}
use Rattle.ph_specs.specs.Table.{Row, is_rising}
use Rattle.ph_specs.specs.Distance.{distance, insert_by_distance, ranked, near}
use Rattle.ph_model.specs.Nearness.{is_nearer, IsNearerThan, IsRanked, IsNearest}
use Rattle.ph_specs.proofs.laws.Order.{before_irrefl, before_trans, decided_cases}
use Rattle.ph_specs.proofs.lemmas.Members.{Each-each, Each-parts, SameMembers, front-of_strict, strict-one}
use Rattle.ph_specs.proofs.lemmas.Gathered.{members-permutation}
use Rattle.ph_specs.proofs.laws.Ranked.{Each-insert, ranked-permutation, take-all}

-- ---- the order

pub nearer-cases : (w : ℕ) (q : List ℤ) (r s : Row) → is_nearer w q r s ≡ true →
    (distance r.point q < distance s.point q) ⊎ ((distance r.point q ≡ distance s.point q) × (before w r.point s.point ≡ true))
nearer-cases w q r s h = decided_cases (distance r.point q) (distance s.point q) (before w r.point s.point) h

-- what is listed before is no farther
pub nearer-le : (w : ℕ) (q : List ℤ) (r s : Row) → is_nearer w q r s ≡ true → distance r.point q ≤ distance s.point q
nearer-le w q r s h = by_case (nearer-cases w q r s h)
  where
    by_case : (distance r.point q < distance s.point q) ⊎
        ((distance r.point q ≡ distance s.point q) × (before w r.point s.point ≡ true)) → distance r.point q ≤ distance s.point q
    by_case (inl l) = omega (arith, l)
    by_case (inr e) = omega (arith, e.0)

pub nearer-less : (w : ℕ) (q : List ℤ) (r s : Row) → distance r.point q < distance s.point q → is_nearer w q r s ≡ true
nearer-less w q r s h = rw (lt-ltb (distance r.point q) (distance s.point q) h)

pub nearer-same : (w : ℕ) (q : List ℤ) (r s : Row) → distance r.point q ≡ distance s.point q → before w r.point s.point ≡ true → is_nearer w q r s ≡ true
nearer-same w q r s e h = rw (le-ltb (distance r.point q) (distance s.point q) (omega (arith, e)), eq-eqb (distance r.point q) (distance s.point q) e) h

pub nearer-le_before : (w : ℕ) (q : List ℤ) (r s : Row) → distance r.point q ≤ distance s.point q → before w r.point s.point ≡ true → is_nearer w q r s ≡ true
nearer-le_before w q r s l h = by_case (cases_lt (distance r.point q) (distance s.point q))
  where
    by_case : (distance r.point q < distance s.point q) ⊎ (distance s.point q ≤ distance r.point q) → is_nearer w q r s ≡ true
    by_case (inl k) = nearer-less w q r s k
    by_case (inr k) = nearer-same w q r s (omega (arith, k, l)) h

pub nearer-irrefl : (w : ℕ) (q : List ℤ) (r : Row) → is_nearer w q r r ≡ false
nearer-irrefl w q r = rw (le-ltb (distance r.point q) (distance r.point q) (omega arith), eq-eqb (distance r.point q) (distance r.point q) refl) (before_irrefl w r.point)

pub nearer-trans : (w : ℕ) (q : List ℤ) (r s t : Row) → is_nearer w q r s ≡ true → is_nearer w q s t ≡ true → is_nearer w q r t ≡ true
nearer-trans w q r s t h k = by_case (nearer-cases w q r s h) (nearer-cases w q s t k)
  where
    by_case : (distance r.point q < distance s.point q) ⊎
        ((distance r.point q ≡ distance s.point q) × (before w r.point s.point ≡ true)) →
        (distance s.point q < distance t.point q) ⊎
        ((distance s.point q ≡ distance t.point q) × (before w s.point t.point ≡ true)) → is_nearer w q r t ≡ true
    by_case (inl a) (inl b) = nearer-less w q r t (omega (arith, a, b))
    by_case (inl a) (inr b) = nearer-less w q r t (omega (arith, a, b.0))
    by_case (inr a) (inl b) = nearer-less w q r t (omega (arith, a.0, b))
    by_case (inr a) (inr b) = nearer-same w q r t (a.0 ∙ b.0) (before_trans w r.point s.point t.point a.1 b.1)

-- ---- the ranked rows

-- ranked rows that come before a row in Z-order stay ranked with it
pub insert-ranked : (w : ℕ) (q : List ℤ) (rows : List Row) (r : Row) → IsRanked w q rows →
    Each (λ s. before w s.point r.point ≡ true) rows → IsRanked w q (insert_by_distance q rows r)
insert-ranked w q [] r h k = (tt, tt)
insert-ranked w q (s ∷ rows) r h k = by_test (nat_le (distance s.point q) (distance r.point q)) refl (insert-ranked w q rows r h.1 k.1)
  where
    by_test : (t : Bool) → nat_le (distance s.point q) (distance r.point q) ≡ t →
        IsRanked w q (insert_by_distance q rows r) → IsRanked w q (if t then s ∷ insert_by_distance q rows r else r ∷ s ∷ rows)
    by_test true e ih =
        let l : distance s.point q ≤ distance r.point q = leb-true (distance s.point q) (distance r.point q) e in
        (Each-insert (λ x. is_nearer w q s x ≡ true) q rows r (nearer-le_before w q s r l k.0) h.0, ih)
    by_test false e ih =
        let l : distance r.point q < distance s.point q = leb-false (distance s.point q) (distance r.point q) e in
        let n : is_nearer w q r s ≡ true = nearer-less w q r s l in
        ((n, Each-each rows (λ x u. nearer-trans w q r s x n u) h.0), h)

abbrev pub Rising : ℕ → List Row → Type 0
Rising w [] = Unit {0}
Rising w (r ∷ rs) = Each (λ s. before w r.point s.point ≡ true) rs × Rising w rs

pub rising-of : (w : ℕ) (rs : List Row) → is_rising w rs ≡ true → Rising w rs
rising-of w [] h = tt
rising-of w (r ∷ rs) h =
    let b = and_parts (list_all (λ s. before w r.point s.point) rs) (is_rising w rs) h in
    (each rs b.0, rising-of w rs b.1)
  where
    each : (xs : List Row) → list_all (λ s. before w r.point s.point) xs ≡ true → Each (λ s. before w r.point s.point ≡ true) xs
    each [] k = tt
    each (x ∷ xs) k = let c = and_parts (before w r.point x.point) (list_all (λ s. before w r.point s.point) xs) k in (c.0, each xs c.1)

fold-ranked : (w : ℕ) (q : List ℤ) (done rows : List Row) → IsRanked w q done →
    Each (λ r. Each (λ s. before w s.point r.point ≡ true) done) rows → Rising w rows →
    IsRanked w q (fold (insert_by_distance q) done rows)
fold-ranked w q done [] h k l = h
fold-ranked w q done (r ∷ rows) h k l =
    fold-ranked w q (insert_by_distance q done r) rows (insert-ranked w q done r h k.0) (more rows k.1 l.0) l.1
  where
    more : (xs : List Row) → Each (λ x. Each (λ s. before w s.point x.point ≡ true) done) xs →
        Each (λ x. before w r.point x.point ≡ true) xs →
        Each (λ x. Each (λ s. before w s.point x.point ≡ true) (insert_by_distance q done r)) xs
    more [] a b = tt
    more (x ∷ xs) a b = (Each-insert (λ s. before w s.point x.point ≡ true) q done r b.0 a.0, more xs a.1 b.1)

Each-nothing : {X Y : Type 0} (P : X → Y → Type 0) (xs : List X) → Each (λ x. Each (P x) []) xs
Each-nothing P [] = tt
Each-nothing P (x ∷ xs) = (tt, Each-nothing P xs)

-- each is listed before all later ones
pub ranked-ranked : (w : ℕ) (q : List ℤ) (table : List Row) → is_rising w table ≡ true → IsRanked w q (ranked q table)
ranked-ranked w q table h = fold-ranked w q [] table tt (Each-nothing (λ (r s : Row). before w s.point r.point ≡ true) table) (rising-of w table h)

-- ---- there is one such list

-- the front of the ranked rows, by what is listed and what is left
pub front-of_ranked : (w : ℕ) (q : List ℤ) (table hs rest : List Row) → is_rising w table ≡ true → IsRanked w q hs →
    Each (λ h. IsNearerThan w q h rest) hs → SameMembers (hs ++ rest) table → hs ≡ take (length hs) (ranked q table)
front-of_ranked w q table hs rest t h k m =
    let p : SameMembers table (ranked q table) = members-permutation table (ranked q table) (ranked-permutation q table) in
    front-of_strict (is_nearer w q) (nearer-irrefl w q) (nearer-trans w q) hs rest (ranked q table) h k
    (ranked-ranked w q table t) (λ x i. p.0 x (m.0 x i), λ x i. m.1 x (p.1 x i))

pub ranked-one : (w : ℕ) (q : List ℤ) (table hs : List Row) → is_rising w table ≡ true → IsRanked w q hs → SameMembers hs table → hs ≡ ranked q table
ranked-one w q table hs t h m =
    let p : SameMembers table (ranked q table) = members-permutation table (ranked q table) (ranked-permutation q table) in
    strict-one (is_nearer w q) (nearer-irrefl w q) (nearer-trans w q) hs (ranked q table) h (ranked-ranked w q table t) (λ x i. p.0 x (m.0 x i), λ x i. m.1 x (p.1 x i))

-- what is listed and what is left have the rows of the table: then it is the nearest rows
pub near-listed : (w : ℕ) (q : List ℤ) (n : ℕ) (table hs rest : List Row) → is_rising w table ≡ true →
    IsRanked w q hs → Each (λ h. IsNearerThan w q h rest) hs → SameMembers (hs ++ rest) table →
    (length hs ≡ n) ⊎ ((length hs ≤ n) × (rest ≡ [])) → hs ≡ near q n table
near-listed w q n table hs rest t h k m (inl e) =
    subst (λ j. hs ≡ take j (ranked q table)) e (front-of_ranked w q table hs rest t h k m)
near-listed w q n table hs rest t h k m (inr e) =
    let a : hs ++ rest ≡ hs = ap (λ ys. hs ++ ys) e.1 ∙ append-nil hs in
    let o : hs ≡ ranked q table = ranked-one w q table hs t h (subst (λ ys. SameMembers ys table) a m) in
    sym (take-all n hs e.0) ∙ ap (take n) o

-- the nearest rows are what a search has listed at its end, and nothing else is
pub nearest-near : (w : ℕ) (q : List ℤ) (n : ℕ) (table hs : List Row) → is_rising w table ≡ true → IsNearest w q n table hs → hs ≡ near q n table
nearest-near w q n table hs t h =
    near-listed w q n table hs h.rest t h.ranked h.nearer (members-permutation (hs ++ h.rest) table (IsPermutation-sym table (hs ++ h.rest) h.same_rows)) h.enough

pub ranked-front : (w : ℕ) (q : List ℤ) (xs ys : List Row) → IsRanked w q (xs ++ ys) → IsRanked w q xs × Each (λ r. IsNearerThan w q r ys) xs
ranked-front w q [] ys h = (tt, tt)
ranked-front w q (x ∷ xs) ys h =
    let ih : IsRanked w q xs × Each (λ r. IsNearerThan w q r ys) xs = ranked-front w q xs ys h.1 in
    let s : IsNearerThan w q x xs × IsNearerThan w q x ys = Each-parts (λ s. is_nearer w q x s ≡ true) xs ys h.0 in
    ((s.0, ih.0), (s.1, ih.1))

pub near-nearest : (w : ℕ) (q : List ℤ) (n : ℕ) (table : List Row) → is_rising w table ≡ true → IsNearest w q n table (near q n table)
near-nearest w q n table t =
    let rk : List Row = ranked q table in
    let e : take n (ranked q table) ++ drop n (ranked q table) ≡ ranked q table = take-append-drop n (ranked q table) in
    let f : IsRanked w q (near q n table) × Each (λ r. IsNearerThan w q r (drop n (ranked q table))) (near q n table) =
    ranked-front w q (take n rk) (drop n rk) (subst (IsRanked w q) (sym e) (ranked-ranked w q table t))
    in
    record {
      rest = drop n (ranked q table);
      same_rows = subst (IsPermutation table) (sym e) (ranked-permutation q table);
      ranked = f.0;
      nearer = f.1;
      enough = by_length (cases_lt n (length (ranked q table)));
    }
  where
    drop-all : (m : ℕ) (xs : List Row) → length xs ≤ m → drop m xs ≡ []
    drop-all zero [] h = refl
    drop-all zero (x ∷ xs) h = absurd (omega (arith, h))
    drop-all (suc m) [] h = refl
    drop-all (suc m) (x ∷ xs) h = drop-all m xs (omega (arith, h))

    by_length : (n < length (ranked q table)) ⊎ (length (ranked q table) ≤ n) →
        (length (near q n table) ≡ n) ⊎ ((length (near q n table) ≤ n) × (drop n (ranked q table) ≡ []))
    by_length (inl l) = inl (length-take-le n (ranked q table) (omega (arith, l)))
    by_length (inr l) = inr (omega (arith, l, ap length (take-all n (ranked q table) l)), drop-all n (ranked q table) l)
