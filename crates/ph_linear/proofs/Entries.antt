-- The entries of a linear record, by its columns.
use Rattle.std.proofs.Common.{◌≡◌, ℕ, zero, suc, ◌+◌, ◌<◌, ◌≤◌, refl, sym, ◌∙◌, ap, arith, List, [], ◌∷◌, length}
use Rattle.std.proofs.Common.{take, Bool, true, false, not, cond, get_or, slice_index_or, ◌⊎◌, inl, inr}
use Rattle.std.specs.Prelude.{position, ◌==◌, nat_le, if◌then◌else◌}
use Rattle.std.specs.List.{position_or_len}
use Rattle.std.proofs.lemmas.List.Sums.{position_or_len_is}
use Rattle.std.proofs.lemmas.Bool.{leb-true, lt-leb, le-leb, and_parts}
use Rattle.ph_specs.specs.Record.{Read, read, read_linear, rises_from}
use Rattle.ph_model.specs.Layout.{read_address, is_child}
use Rattle.ph_model.specs.NodeSize.{children_in}

-- ---- one entry

-- what stands for an entry that is not there
abbrev pub no_read : Read
no_read = read false 0 []

pub read-at : (ks ads : List ℕ) (bs : List (List ℕ)) (n i : ℕ) → length ks ≡ n → length ads ≡ n → length bs ≡ n → i < n
    → get_or (read_linear ks ads bs) i no_read ≡ read (slice_index_or ks i 0 == 1) (slice_index_or ads i 0) (get_or bs i [])
read-at [] ads bs n i e f g l = absurd (omega (arith, e, l))
read-at (k ∷ ks) [] bs n i e f g l = absurd (omega (arith, e, f))
read-at (k ∷ ks) (a ∷ ads) [] n i e f g l = absurd (omega (arith, e, g))
read-at (k ∷ ks) (a ∷ ads) (c ∷ bs) n zero e f g l = refl
read-at (k ∷ ks) (a ∷ ads) (c ∷ bs) n (suc i) e f g l = read-at ks ads bs (length ks) i refl (omega (arith, e, f)) (omega (arith, e, g)) (omega (arith, e, l))

pub length-read : (ks ads : List ℕ) (bs : List (List ℕ)) (n : ℕ) → length ks ≡ n → length ads ≡ n → length bs ≡ n → length (read_linear ks ads bs) ≡ n
length-read [] ads bs n e f g = e
length-read (k ∷ ks) [] bs n e f g = absurd (omega (arith, e, f))
length-read (k ∷ ks) (a ∷ ads) [] n e f g = absurd (omega (arith, e, g))
length-read (k ∷ ks) (a ∷ ads) (c ∷ bs) n e f g = omega (arith, e, length-read ks ads bs (length ks) refl (omega (arith, e, f)) (omega (arith, e, g)))

-- ---- places, by addresses

pub address-read : (t : Bool) (a : ℕ) (b : List ℕ) → read_address (read t a b) ≡ a
address-read true a b = refl
address-read false a b = refl

pub kind-read : (t : Bool) (a : ℕ) (b : List ℕ) → is_child (read t a b) ≡ t
kind-read true a b = refl
kind-read false a b = refl

pub place-read : (p : ℕ → Bool) (ks ads : List ℕ) (bs : List (List ℕ)) → length ads ≡ length ks →
    length bs ≡ length ks → position_or_len (λ r. p (read_address r)) (read_linear ks ads bs) ≡ position_or_len p ads
place-read p [] [] bs f g = refl
place-read p [] (a ∷ ads) bs f g = absurd (omega (arith, f))
place-read p (k ∷ ks) [] bs f g = absurd (omega (arith, f))
place-read p (k ∷ ks) (a ∷ ads) [] f g = absurd (omega (arith, g))
place-read p (k ∷ ks) (a ∷ ads) (c ∷ bs) f g =
    ap (λ t. cond (not (p t)) (1 + position_or_len (λ r. p (read_address r)) (read_linear ks ads bs)) 0) (address-read (k == 1) a c)
    ∙ ap (λ t. cond (not (p a)) (1 + t) 0) (place-read p ks ads bs (omega (arith, f)) (omega (arith, g)))

pub position-read : (p : ℕ → Bool) (ks ads : List ℕ) (bs : List (List ℕ)) → length ads ≡ length ks →
    length bs ≡ length ks → position (λ r. p (read_address r)) (read_linear ks ads bs) ≡ position p ads
position-read p ks ads bs f g =
    rw (place-read p ks ads bs f g, length-read ks ads bs (length ks) refl f g, f) refl

-- ---- addresses that rise

pub split : (i j : ℕ) → (i < j) ⊎ (j ≤ i)
split i zero = inr (omega arith)
split zero (suc j) = inl (omega arith)
split (suc i) (suc j) = elim (split i j) [ inl a ↦ inl (omega (arith, a)) | inr a ↦ inr (omega (arith, a)) ]

pub rises-least : (least : ℕ) (xs : List ℕ) (i : ℕ) → rises_from least xs ≡ true → i < length xs → least + i ≤ slice_index_or xs i 0
rises-least least [] i e l = elim l [ ]
rises-least least (x ∷ xs) zero e l =
    let f : least ≤ x = leb-true least x (and_parts (nat_le least x) (rises_from (x + 1) xs) e).0 in omega (arith, f)
rises-least least (x ∷ xs) (suc i) e l =
    let h : (nat_le least x ≡ true) × (rises_from (x + 1) xs ≡ true) = and_parts (nat_le least x) (rises_from (x + 1) xs) e in
    let f : least ≤ x = leb-true least x h.0 in
    let g : x + 1 + i ≤ slice_index_or xs i 0 = rises-least (x + 1) xs i h.1 (omega (arith, l)) in
    omega (arith, f, g)

pub rises-less : (least : ℕ) (xs : List ℕ) (i j : ℕ) → rises_from least xs ≡ true → i < j → j < length xs → slice_index_or xs i 0 < slice_index_or xs j 0
rises-less least [] i j e l m = elim m [ ]
rises-less least (x ∷ xs) i zero e l m = elim l [ ]
rises-less least (x ∷ xs) zero (suc j) e l m =
    let h : (nat_le least x ≡ true) × (rises_from (x + 1) xs ≡ true) = and_parts (nat_le least x) (rises_from (x + 1) xs) e in
    let g : x + 1 + j ≤ slice_index_or xs j 0 = rises-least (x + 1) xs j h.1 (omega (arith, m)) in
    omega (arith, g)
rises-less least (x ∷ xs) (suc i) (suc j) e l m =
    let h : (nat_le least x ≡ true) × (rises_from (x + 1) xs ≡ true) = and_parts (nat_le least x) (rises_from (x + 1) xs) e in
    rises-less (x + 1) xs i j h.1 (omega (arith, l)) (omega (arith, m))

pub rises-most : (xs : List ℕ) (i j : ℕ) → rises_from 0 xs ≡ true → i ≤ j → j < length xs → slice_index_or xs i 0 ≤ slice_index_or xs j 0
rises-most xs i j e l m =
    elim (split i j) [
      | inl b ↦ omega (arith, rises-less 0 xs i j e b m)
      | inr b ↦ let k : i ≡ j = omega (arith, l, b) in let q : slice_index_or xs i 0 ≡ slice_index_or xs j 0 = ap (λ t. slice_index_or xs t 0) k in omega (arith, q)
    ]

-- the place where addresses are no more below another
pub first-at : (xs : List ℕ) (a i : ℕ) → i ≤ length xs → ((k : ℕ) → k < i → slice_index_or xs k 0 < a) →
    (i < length xs → a ≤ slice_index_or xs i 0) → i ≡ position_or_len (λ x. nat_le a x) xs
first-at xs a i l f g =
    sym (position_or_len_is (λ x. nat_le a x) xs i 0 l (λ k b. not_le a (slice_index_or xs k 0) (f k b)) (λ b. is_le a (slice_index_or xs i 0) (g b)))
  where
    not_le : (a x : ℕ) → x < a → nat_le a x ≡ false
    not_le a x l = lt-leb a x l

    is_le : (a x : ℕ) → a ≤ x → nat_le a x ≡ true
    is_le a x l = le-leb a x l

-- ---- ranks

pub count-more : (ks ads : List ℕ) (bs : List (List ℕ)) (n i : ℕ) → length ks ≡ n → length ads ≡ n → length bs ≡ n → i < n
    → children_in (take (suc i) (read_linear ks ads bs)) ≡ children_in (take i (read_linear ks ads bs)) + (if slice_index_or ks i 0 == 1 then 1 else 0)
count-more [] ads bs n i e f g l = absurd (omega (arith, e, l))
count-more (k ∷ ks) [] bs n i e f g l = absurd (omega (arith, e, f))
count-more (k ∷ ks) (a ∷ ads) [] n i e f g l = absurd (omega (arith, e, g))
count-more (k ∷ ks) (a ∷ ads) (c ∷ bs) n zero e f g l = one (k == 1) a c
  where
    one : (t : Bool) (a : ℕ) (c : List ℕ) → children_in (read t a c ∷ []) ≡ 0 + (if t then 1 else 0)
    one true a c = refl
    one false a c = refl
count-more (k ∷ ks) (a ∷ ads) (c ∷ bs) n (suc i) e f g l =
    two (k == 1) a c (take (suc i) (read_linear ks ads bs)) (take i (read_linear ks ads bs)) _
    (count-more ks ads bs (length ks) i refl (omega (arith, e, f)) (omega (arith, e, g)) (omega (arith, e, l)))
  where
    two : (t : Bool) (a : ℕ) (c : List ℕ) (rs qs : List Read) (m : ℕ) → children_in rs ≡ children_in qs + m →
        children_in (read t a c ∷ rs) ≡ children_in (read t a c ∷ qs) + m
    two true a c rs qs m h = omega (arith, h)
    two false a c rs qs m h = h
