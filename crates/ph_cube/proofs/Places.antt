-- The entries of a cube record, by the kinds in front of them.
use Rattle.std.proofs.Common.{◌≡◌, ℕ, zero, suc, ◌+◌, ◌<◌, ◌≤◌, refl, sym, ◌∙◌, ap, arith, List, [], ◌∷◌, length, take}
use Rattle.std.proofs.Common.{Bool, true, false, not, cond, get_or, slice_index_or, ne_eqb, eq-eqb, eqb-true}
use Rattle.std.specs.Prelude.{◌==◌, nat_le, if◌then◌else◌}
use Rattle.std.specs.List.{position_or_len}
use Rattle.std.proofs.lemmas.Bool.{lt-leb, le-leb}
use Rattle.ph_specs.specs.Record.{Read, read, read_cube}
use Rattle.ph_model.specs.Layout.{read_address}
use Rattle.ph_model.specs.NodeSize.{children_in}
use Rattle.ph_linear.proofs.Entries.{no_read, address-read}

abbrev mark : Bool → ℕ
mark t = if t then 1 else 0

-- how many of the first kinds are entries, and how many are children
abbrev pub present : List ℕ → ℕ → ℕ
present ks zero = 0
present [] (suc j) = 0
present (k ∷ ks) (suc j) = (if k == 0 then 0 else 1) + present ks j

abbrev pub twos : List ℕ → ℕ → ℕ
twos ks zero = 0
twos [] (suc j) = 0
twos (k ∷ ks) (suc j) = (if k == 2 then 1 else 0) + twos ks j

pub present-more : (ks : List ℕ) (j : ℕ) → j < length ks → present ks (suc j) ≡ present ks j + (if slice_index_or ks j 0 == 0 then 0 else 1)
present-more [] j l = absurd (omega (arith, l))
present-more (k ∷ ks) zero l = omega arith
present-more (k ∷ ks) (suc j) l = omega (arith, present-more ks j (omega (arith, l)))

pub twos-more : (ks : List ℕ) (j : ℕ) → j < length ks → twos ks (suc j) ≡ twos ks j + (if slice_index_or ks j 0 == 2 then 1 else 0)
twos-more [] j l = absurd (omega (arith, l))
twos-more (k ∷ ks) zero l = omega arith
twos-more (k ∷ ks) (suc j) l = omega (arith, twos-more ks j (omega (arith, l)))

-- entry number `present ks j`
pub entry-at : (a : ℕ) (ks : List ℕ) (bs : List (List ℕ)) (j : ℕ) → length bs ≡ length ks → j < length ks → (slice_index_or ks j 0 == 0) ≡ false
    → (present ks j < length (read_cube a ks bs)) × (get_or (read_cube a ks bs) (present ks j) no_read ≡ read (slice_index_or ks j 0 == 2) (a + j) (get_or bs j []))
entry-at a [] bs j e l h = absurd (omega (arith, l))
entry-at a (k ∷ ks) [] j e l h = absurd (omega (arith, e))
entry-at a (k ∷ ks) (b ∷ bs) zero e l h =
    let z : a ≡ a + 0 = omega arith in
    here (k == 0) h z
  where
    here : (t : Bool) → t ≡ false → a ≡ a + 0 →
        (0 < length (if t then read_cube (a + 1) ks bs else read (k == 2) a b ∷ read_cube (a + 1) ks bs)) ×
        (get_or (if t then read_cube (a + 1) ks bs else read (k == 2) a b ∷ read_cube (a + 1) ks bs) 0 no_read ≡
        read (k == 2) (a + 0) b)
    here true q z = absurd (let f : mark true ≡ mark false = ap mark q in omega (arith, f))
    here false q z = (omega arith, ap (λ t. read (k == 2) t b) z)
entry-at a (k ∷ ks) (b ∷ bs) (suc j) e l h =
    let z : a + 1 + j ≡ a + suc j = omega arith in
    next (k == 0) a k b (read_cube (a + 1) ks bs) (present ks j) (slice_index_or ks j 0 == 2) (a + 1 + j) (a + suc j)
    (get_or bs j []) z (entry-at (a + 1) ks bs j (omega (arith, e)) (omega (arith, l)) h)
  where
    next : (t : Bool) (a k : ℕ) (b : List ℕ) (rs : List Read) (p : ℕ) (u : Bool) (x y : ℕ) (c : List ℕ) → x ≡ y → (p < length rs) × (get_or rs p no_read ≡ read u x c)
        → ((if t then 0 else 1) + p < length (if t then rs else read (k == 2) a b ∷ rs)) ×
        (get_or (if t then rs else read (k == 2) a b ∷ rs) ((if t then 0 else 1) + p) no_read ≡ read u y c)
    next true a k b rs p u x y c z h =
        let e : 0 + p ≡ p = omega arith in
        (omega (arith, h.0), ap (λ s. get_or rs s no_read) e ∙ h.1 ∙ ap (λ s. read u s c) z)
    next false a k b rs p u x y c z h =
        let e : 1 + p ≡ suc p = omega arith in
        (omega (arith, h.0), ap (λ s. get_or (read (k == 2) a b ∷ rs) s no_read) e ∙ h.1 ∙ ap (λ s. read u s c) z)

-- the children in front of it
pub children-at : (a : ℕ) (ks : List ℕ) (bs : List (List ℕ)) (j : ℕ) → length bs ≡ length ks → j ≤ length ks →
    children_in (take (present ks j) (read_cube a ks bs)) ≡ twos ks j
children-at a ks bs zero e l = refl
children-at a [] bs (suc j) e l = elim l [ ]
children-at a (k ∷ ks) [] (suc j) e l = absurd (omega (arith, e))
children-at a (k ∷ ks) (b ∷ bs) (suc j) e l =
    next (k == 0) (k == 2) a b (read_cube (a + 1) ks bs) (present ks j) (twos ks j) (zero-not-two k) (children-at (a + 1) ks bs j (omega (arith, e)) (omega (arith, l)))
  where
    zero-not-two : (k : ℕ) → (k == 0) ≡ true → (k == 2) ≡ false
    zero-not-two k h = let z : k ≡ 0 = eqb-true k 0 h in ne_eqb k 2 (λ q. omega (arith, z, q))

    next : (t u : Bool) (a : ℕ) (b : List ℕ) (rs : List Read) (p w : ℕ) → (t ≡ true → u ≡ false) → children_in (take p rs) ≡ w
        → children_in (take ((if t then 0 else 1) + p) (if t then rs else read u a b ∷ rs)) ≡ (if u then 1 else 0) + w
    next true true a b rs p w f h = absurd (let g : mark true ≡ mark false = ap mark (f refl) in omega (arith, g))
    next true false a b rs p w f h = let e : 0 + p ≡ p = omega arith in ap (λ s. children_in (take s rs)) e ∙ omega (arith, h)
    next false true a b rs p w f h = let e : 1 + p ≡ suc p = omega arith in ap (λ s. children_in (take s (read true a b ∷ rs))) e ∙ omega (arith, h)
    next false false a b rs p w f h = let e : 1 + p ≡ suc p = omega arith in ap (λ s. children_in (take s (read false a b ∷ rs))) e ∙ omega (arith, h)

-- ---- places of addresses

-- one step of a search: over an absent place, or over an entry that does not pass
skip : (p : ℕ → Bool) (t u : Bool) (a : ℕ) (b : List ℕ) (rs : List Read) (n : ℕ) → (t ≡ false → p a ≡ false) → position_or_len (λ r. p (read_address r)) rs ≡ n
    → position_or_len (λ r. p (read_address r)) (if t then rs else read u a b ∷ rs) ≡ (if t then 0 else 1) + n
skip p true u a b rs n f h = omega (arith, h)
skip p false u a b rs n f h =
    ap (λ s. cond (not (p s)) (1 + position_or_len (λ r. p (read_address r)) rs) 0) (address-read u a b)
    ∙ ap (λ s. cond (not s) (1 + position_or_len (λ r. p (read_address r)) rs) 0) (f refl)
    ∙ ap (λ s. 1 + s) h

stop : (p : ℕ → Bool) (u : Bool) (a : ℕ) (b : List ℕ) (rs : List Read) → p a ≡ true → position_or_len (λ r. p (read_address r)) (read u a b ∷ rs) ≡ 0
stop p u a b rs e =
    ap (λ s. cond (not (p s)) (1 + position_or_len (λ r. p (read_address r)) rs) 0) (address-read u a b)
    ∙ ap (λ s. cond (not s) (1 + position_or_len (λ r. p (read_address r)) rs) 0) e

not-same : (x y : ℕ) → x < y → (x == y) ≡ false
not-same x y l = ne_eqb x y (λ e. omega (arith, l, e))

long : (t u : Bool) (a : ℕ) (b : List ℕ) (rs : List Read) → (if t then 0 else 1) + length rs ≡ length (if t then rs else read u a b ∷ rs)
long true u a b rs = omega arith
long false u a b rs = omega arith

-- an address behind all
pub past : (x a : ℕ) (ks : List ℕ) (bs : List (List ℕ)) → a + length ks ≤ x →
    position_or_len (λ r. nat_le x (read_address r)) (read_cube a ks bs) ≡ length (read_cube a ks bs)
past x a [] bs l = refl
past x a (k ∷ ks) [] l = refl
past x a (k ∷ ks) (b ∷ bs) l =
    skip (λ y. nat_le x y) (k == 0) (k == 2) a b (read_cube (a + 1) ks bs) (length (read_cube (a + 1) ks bs))
    (λ e. lt-leb x a (omega (arith, l))) (past x (a + 1) ks bs (omega (arith, l)))
    ∙ long (k == 0) (k == 2) a b (read_cube (a + 1) ks bs)

-- an address behind which all begin
pub gone : (x a : ℕ) (ks : List ℕ) (bs : List (List ℕ)) → x < a → position_or_len (λ r. read_address r == x) (read_cube a ks bs) ≡ length (read_cube a ks bs)
gone x a [] bs l = refl
gone x a (k ∷ ks) [] l = refl
gone x a (k ∷ ks) (b ∷ bs) l =
    skip (λ y. y == x) (k == 0) (k == 2) a b (read_cube (a + 1) ks bs) (length (read_cube (a + 1) ks bs))
    (λ e. ne_eqb a x (λ q. omega (arith, l, q))) (gone x (a + 1) ks bs (omega (arith, l)))
    ∙ long (k == 0) (k == 2) a b (read_cube (a + 1) ks bs)

pub first : (x a : ℕ) (ks : List ℕ) (bs : List (List ℕ)) → x ≤ a → position_or_len (λ r. nat_le x (read_address r)) (read_cube a ks bs) ≡ 0
first x a [] bs l = refl
first x a (k ∷ ks) [] l = refl
first x a (k ∷ ks) (b ∷ bs) l = by (k == 0) (k == 2) a b (read_cube (a + 1) ks bs) (le-leb x a l) (first x (a + 1) ks bs (omega (arith, l)))
  where
    by : (t u : Bool) (a : ℕ) (b : List ℕ) (rs : List Read) → nat_le x a ≡ true →
        position_or_len (λ r. nat_le x (read_address r)) rs ≡ 0 →
        position_or_len (λ r. nat_le x (read_address r)) (if t then rs else read u a b ∷ rs) ≡ 0
    by true u a b rs e h = h
    by false u a b rs e h = stop (λ y. nat_le x y) u a b rs e

pub place-next : (a : ℕ) (ks : List ℕ) (bs : List (List ℕ)) (j : ℕ) → length bs ≡ length ks → j ≤ length ks →
    position_or_len (λ r. nat_le (a + j) (read_address r)) (read_cube a ks bs) ≡ present ks j
place-next a ks bs zero e l = first (a + 0) a ks bs (omega arith)
place-next a [] bs (suc j) e l = elim l [ ]
place-next a (k ∷ ks) [] (suc j) e l = absurd (omega (arith, e))
place-next a (k ∷ ks) (b ∷ bs) (suc j) e l =
    let z : a + 1 + j ≡ a + suc j = omega arith in
    skip (λ y. nat_le (a + suc j) y) (k == 0) (k == 2) a b (read_cube (a + 1) ks bs) (present ks j) (λ f. lt-leb (a + suc j) a (omega arith))
    (ap (λ s. position_or_len (λ r. nat_le s (read_address r)) (read_cube (a + 1) ks bs)) (sym z) ∙ place-next (a + 1) ks bs j (omega (arith, e)) (omega (arith, l)))

-- the place of an address at which an entry stands or, where the test is true, none
pub place-of : (t : Bool) (a : ℕ) (ks : List ℕ) (bs : List (List ℕ)) (j : ℕ) → length bs ≡ length ks → j < length ks →
    (slice_index_or ks j 0 == 0) ≡ t → position_or_len (λ r. read_address r == a + j) (read_cube a ks bs) ≡
    (if t then length (read_cube a ks bs) else present ks j)
place-of t a [] bs j e l h = absurd (omega (arith, l))
place-of t a (k ∷ ks) [] j e l h = absurd (omega (arith, e))
place-of t a (k ∷ ks) (b ∷ bs) zero e l h = here (k == 0) t h
  where
    here : (u t : Bool) → u ≡ t →
        position_or_len (λ r. read_address r == a + 0)
        (if u then read_cube (a + 1) ks bs else read (k == 2) a b ∷ read_cube (a + 1) ks bs) ≡
        (if t then length (if u then read_cube (a + 1) ks bs else read (k == 2) a b ∷ read_cube (a + 1) ks bs) else 0)
    here true true q = gone (a + 0) (a + 1) ks bs (omega arith)
    here true false q = absurd (let f : mark true ≡ mark false = ap mark q in omega (arith, f))
    here false true q = absurd (let f : mark false ≡ mark true = ap mark q in omega (arith, f))
    here false false q = stop (λ y. y == a + 0) (k == 2) a b (read_cube (a + 1) ks bs) (eq-eqb a (a + 0) (omega arith))
place-of t a (k ∷ ks) (b ∷ bs) (suc j) e l h =
    let z : a + 1 + j ≡ a + suc j = omega arith in
    skip (λ y. y == a + suc j) (k == 0) (k == 2) a b (read_cube (a + 1) ks bs)
    (if t then length (read_cube (a + 1) ks bs) else present ks j) (λ f. not-same a (a + suc j) (omega arith))
    (ap (λ s. position_or_len (λ r. read_address r == s) (read_cube (a + 1) ks bs)) (sym z) ∙ place-of t (a + 1) ks bs j (omega (arith, e)) (omega (arith, l)) h)
    ∙ on t
  where
    on : (t : Bool) → (if k == 0 then 0 else 1) + (if t then length (read_cube (a + 1) ks bs) else present ks j) ≡
        (if t then length (if k == 0 then read_cube (a + 1) ks bs else read (k == 2) a b ∷ read_cube (a + 1) ks bs) else
        (if k == 0 then 0 else 1) + present ks j)
    on true = long (k == 0) (k == 2) a b (read_cube (a + 1) ks bs)
    on false = refl
