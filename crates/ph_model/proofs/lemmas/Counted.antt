-- How many entries and children the kinds of tables count, against those that are read.
use Rattle.std.proofs.Common.{◌≡◌, ◌≢◌, ◌<◌, ℕ, suc, ◌+◌, refl, sym, ◌∙◌, ap, arith, List, [], ◌∷◌, length, cond, Bool, true, false, lt-ltb, le-ltb, eqb-true, ne_eqb}
use Rattle.std.proofs.lemmas.Bool.{eqb-false}
use Rattle.std.specs.Prelude.{nat_lt, ◌==◌, if◌then◌else◌, count_by}
use Rattle.std.proofs.lemmas.List.Recursion.{is_count_by}
use Rattle.ph_specs.specs.Node.{Entries, end, point, child, flat}
use Rattle.ph_specs.specs.Pack.{children}
use Rattle.ph_specs.specs.Record.{Read, read_point, read_child, read, read_linear, read_cube}
use Rattle.ph_model.proofs.lemmas.Columns.{reads}

-- the children among what is read
abbrev pub kids : List Read → ℕ
kids [] = 0
kids (read_point a body ∷ rs) = kids rs
kids (read_child a body ∷ rs) = suc (kids rs)

-- the points among what is read
abbrev pub spots : List Read → ℕ
spots [] = 0
spots (read_point a body ∷ rs) = suc (spots rs)
spots (read_child a body ∷ rs) = spots rs

pub spots-kids : (rs : List Read) → spots rs + kids rs ≡ length rs
spots-kids [] = refl
spots-kids (read_point a body ∷ rs) = omega (arith, spots-kids rs)
spots-kids (read_child a body ∷ rs) = omega (arith, spots-kids rs)

pub length-reads : (e : Entries) → length (reads e) ≡ length (flat e)
length-reads end = refl
length-reads (point a body v rest) = ap suc (length-reads rest)
length-reads (child a body c chain rest) = ap suc (length-reads rest)

pub kids-reads : (e : Entries) → kids (reads e) ≡ children (flat e)
kids-reads end = refl
kids-reads (point a body v rest) = omega (arith, kids-reads rest)
kids-reads (child a body c chain rest) = omega (arith, kids-reads rest)

-- ---- counts, one by one

abbrev pub ones : (ℕ → Bool) → List ℕ → ℕ
ones p [] = 0
ones p (k ∷ ks) = cond (p k) (1 + ones p ks) (ones p ks)

pub ones-count : (p : ℕ → Bool) (ks : List ℕ) → ones p ks ≡ count_by p ks
ones-count p ks = is_count_by (ones p) p refl (λ k ks. refl) ks

pub kids-linear : (ks addrs : List ℕ) (bs : List (List ℕ)) → length addrs ≡ length ks → length bs ≡ length ks →
    (length (read_linear ks addrs bs) ≡ length ks) × (kids (read_linear ks addrs bs) ≡ ones (λ k. k == 1) ks)
kids-linear [] addrs bs l m = (refl, refl)
kids-linear (k ∷ ks) [] bs l m = absurd (omega (arith, l))
kids-linear (k ∷ ks) (a ∷ addrs) [] l m = absurd (omega (arith, m))
kids-linear (k ∷ ks) (a ∷ addrs) (b ∷ bs) l m =
    let h : (length (read_linear ks addrs bs) ≡ length ks) ×
    (kids (read_linear ks addrs bs) ≡ ones (λ k. k == 1) ks) = kids-linear ks addrs bs (omega (arith, l))
    (omega (arith, m)) in
    (ap suc h.0, by_kind (k == 1) (read_linear ks addrs bs) h.1)
  where
    by_kind : (t : Bool) (rs : List Read) → kids rs ≡ ones (λ k. k == 1) ks → kids (read t a b ∷ rs) ≡ cond t (1 + ones (λ k. k == 1) ks) (ones (λ k. k == 1) ks)
    by_kind true rs e = omega (arith, e)
    by_kind false rs e = e

pub kids-cube : (a : ℕ) (ks : List ℕ) (bs : List (List ℕ)) → length bs ≡ length ks →
    (length (read_cube a ks bs) ≡ ones (λ k. nat_lt 0 k) ks) × (kids (read_cube a ks bs) ≡ ones (λ k. k == 2) ks)
kids-cube a [] bs m = (refl, refl)
kids-cube a (k ∷ ks) [] m = absurd (omega (arith, m))
kids-cube a (k ∷ ks) (b ∷ bs) m =
    by_zero (k == 0) refl (read_cube (a + 1) ks bs) (kids-cube (a + 1) ks bs (omega (arith, m)))
  where
    by_kind : (t : Bool) (rs : List Read) → kids rs ≡ ones (λ k. k == 2) ks → kids (read t a b ∷ rs) ≡ cond t (1 + ones (λ k. k == 2) ks) (ones (λ k. k == 2) ks)
    by_kind true rs e = omega (arith, e)
    by_kind false rs e = e

    by_zero : (z : Bool) → (k == 0) ≡ z → (rs : List Read) → (length rs ≡ ones (λ k. nat_lt 0 k) ks) ×
        (kids rs ≡ ones (λ k. k == 2) ks) →
        (length (if z then rs else read (k == 2) a b ∷ rs) ≡ cond (nat_lt 0 k) (1 + ones (λ k. nat_lt 0 k) ks)
        (ones (λ k. nat_lt 0 k) ks)) ×
        (kids (if z then rs else read (k == 2) a b ∷ rs) ≡ cond (k == 2) (1 + ones (λ k. k == 2) ks) (ones (λ k. k == 2) ks))
    by_zero true e rs h =
        let q : k ≡ 0 = eqb-true k 0 e in
        let n : k ≢ 2 = λ r. omega (arith, q, r) in (
          h.0 ∙ sym (ap (λ t. cond t (1 + ones (λ k. nat_lt 0 k) ks) (ones (λ k. nat_lt 0 k) ks)) (le-ltb 0 k (omega (arith, q)))),
          h.1 ∙ sym (ap (λ t. cond t (1 + ones (λ k. k == 2) ks) (ones (λ k. k == 2) ks)) (ne_eqb k 2 n)),
        )
    by_zero false e rs h =
        let q : k ≢ 0 = eqb-false k 0 e in
        let l : 0 < k = omega (arith, q) in
        let f : suc (length rs) ≡ 1 + ones (λ k. nat_lt 0 k) ks = omega (arith, h.0) in
        (f ∙ sym (ap (λ t. cond t (1 + ones (λ k. nat_lt 0 k) ks) (ones (λ k. nat_lt 0 k) ks)) (lt-ltb 0 k l)), by_kind (k == 2) rs h.1)
