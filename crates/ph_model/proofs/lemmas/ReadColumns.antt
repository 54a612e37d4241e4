-- The tables of what is read of columns are these columns again.
use Rattle.std.proofs.Common.{◌≡◌, ◌≢◌, ℕ, zero, suc, ◌+◌, ◌-◌, ◌*◌, ◌/◌, ◌^◌, ◌<◌, ◌≤◌, refl, sym, ◌∙◌, ap, arith, List, [], ◌∷◌}
use Rattle.std.proofs.Common.{◌++◌, length, map, take, drop, replicate, Bool, true, false, eq-eqb, ne_eqb, eqb-true}
use Rattle.std.specs.Prelude.{Option, Some, None, ◌==◌, ◌||◌, if◌then◌else◌, nat_lt}
use Rattle.std.specs.List.{AllByRecursion as Each, list_all}
use Rattle.std.proofs.lemmas.List.{take-append-drop, length-drop, map-append, append_assoc}
use Rattle.std.proofs.lemmas.Nat.{pow_pos}
use Rattle.std.proofs.Math.Nat.{mod-lt}
use Rattle.ph_specs.specs.Node.{Entries, end, point, child, PlainNode, Flat, flat}
use Rattle.ph_specs.specs.Digits.{Field, field, read_fields}
use Rattle.ph_specs.specs.Pack.{bodies, at_address, places, place_kind, place_body, linear_table, cube_table, values}
use Rattle.ph_specs.specs.Record.{Read, read_point, read_child, read, read_linear, read_cube, parts, absent_are_zero, filled}
use Rattle.ph_specs.proofs.lemmas.Numbers.{Fit}
use Rattle.ph_model.proofs.lemmas.Columns.{reads, mark_column, addr_column, body_column}
use Rattle.ph_specs.proofs.lemmas.Tests.{and-parts}
use Rattle.ph_model.proofs.lemmas.Counted.{kids, spots}
use Rattle.ph_specs.proofs.laws.ReadBack.{fields_of}
use Rattle.ph_model.proofs.laws.Unpacked.{child_nodes}

-- ---- fields of one width

pub fields-front : (n w : ℕ) (ws xs : List ℕ) → n ≤ length xs → fields_of (replicate n w ++ ws) xs ≡ map (field w) (take n xs) ++ fields_of ws (drop n xs)
fields-front zero w ws [] l = refl
fields-front zero w ws (x ∷ xs) l = refl
fields-front (suc n) w ws [] l = absurd (omega (arith, l))
fields-front (suc n) w ws (x ∷ xs) l =
    ap {B = List Field} (λ t. field w x ∷ t) (fields-front n w ws xs (omega (arith, l)))

pub fields-last : (n w : ℕ) (xs : List ℕ) → length xs ≡ n → fields_of (replicate n w) xs ≡ map (field w) xs
fields-last zero w [] l = refl
fields-last zero w (x ∷ xs) l = absurd (omega (arith, l))
fields-last (suc n) w [] l = absurd (omega (arith, l))
fields-last (suc n) w (x ∷ xs) l = ap {B = List Field} (λ t. field w x ∷ t) (fields-last n w xs (omega (arith, l)))

pub parts-fields : (level n dims : ℕ) (ys : List ℕ) → length ys ≡ n * dims → bodies level (parts n dims ys) ≡ map (field level) ys
parts-fields level zero dims [] l = refl
parts-fields level zero dims (y ∷ ys) l = absurd (omega (arith, l))
parts-fields level (suc n) dims ys l =
    let m : length (drop dims ys) ≡ n * dims = omega (arith, l, length-drop dims ys) in
    ap (λ t. map (field level) (take dims ys) ++ t) (parts-fields level n dims (drop dims ys) m)
    ∙ sym (map-append (field level) (take dims ys) (drop dims ys))
    ∙ ap (map (field level)) (take-append-drop dims ys)

pub length-parts : (n dims : ℕ) (ys : List ℕ) → length (parts n dims ys) ≡ n
length-parts zero dims ys = refl
length-parts (suc n) dims ys = ap suc (length-parts n dims (drop dims ys))

-- ---- what is read fits its fields

pub length-read_fields : (left : ℕ) (ws : List ℕ) (x : ℕ) → length (read_fields left ws x) ≡ length ws
length-read_fields left [] x = refl
length-read_fields left (w ∷ ws) x = ap suc (length-read_fields (left - w) ws x)

pub fit-read : (left : ℕ) (ws : List ℕ) (x : ℕ) → Fit (fields_of ws (read_fields left ws x))
fit-read left [] x = tt
fit-read left (w ∷ ws) x = (mod-lt (x / 2 ^ (left - w)) (pow_pos w), fit-read (left - w) ws x)

pub fit-numbers : (w : ℕ) (xs : List ℕ) → Fit (map (field w) xs) → Each (λ x. x < 2 ^ w) xs
fit-numbers w [] h = tt
fit-numbers w (x ∷ xs) h = (h.0, fit-numbers w xs h.1)

-- ---- columns of what is read

abbrev marks_of : List Read → List ℕ
marks_of [] = []
marks_of (read_point a body ∷ rs) = 0 ∷ marks_of rs
marks_of (read_child a body ∷ rs) = 1 ∷ marks_of rs

abbrev addrs_of : List Read → List ℕ
addrs_of [] = []
addrs_of (read_point a body ∷ rs) = a ∷ addrs_of rs
addrs_of (read_child a body ∷ rs) = a ∷ addrs_of rs

abbrev bodies_of : List Read → List (List ℕ)
bodies_of [] = []
bodies_of (read_point a body ∷ rs) = body ∷ bodies_of rs
bodies_of (read_child a body ∷ rs) = body ∷ bodies_of rs

columns-reads : (e : Entries) → (mark_column (flat e) ≡ marks_of (reads e)) × (addr_column (flat e) ≡ addrs_of (reads e)) × (body_column (flat e) ≡ bodies_of (reads e))
columns-reads end = (refl, refl, refl)
columns-reads (point a body v rest) =
    let h : (mark_column (flat rest) ≡ marks_of (reads rest)) × (addr_column (flat rest) ≡ addrs_of (reads rest)) ×
    (body_column (flat rest) ≡ bodies_of (reads rest)) = columns-reads rest in
    (ap {B = List ℕ} (λ t. 0 ∷ t) h.0, ap {B = List ℕ} (λ t. a ∷ t) h.1, ap {B = List (List ℕ)} (λ t. body ∷ t) h.2)
columns-reads (child a body c chain rest) =
    let h : (mark_column (flat rest) ≡ marks_of (reads rest)) × (addr_column (flat rest) ≡ addrs_of (reads rest)) ×
    (body_column (flat rest) ≡ bodies_of (reads rest)) = columns-reads rest in
    (ap {B = List ℕ} (λ t. 1 ∷ t) h.0, ap {B = List ℕ} (λ t. a ∷ t) h.1, ap {B = List (List ℕ)} (λ t. body ∷ t) h.2)

columns-linear : (ks addrs : List ℕ) (bs : List (List ℕ)) → Each (λ k. k < 2 ^ 1) ks → length addrs ≡ length ks →
    length bs ≡ length ks → (marks_of (read_linear ks addrs bs) ≡ ks) × (addrs_of (read_linear ks addrs bs) ≡ addrs) ×
    (bodies_of (read_linear ks addrs bs) ≡ bs)
columns-linear [] [] [] h l m = (refl, refl, refl)
columns-linear [] (a ∷ addrs) bs h l m = absurd (omega (arith, l))
columns-linear [] [] (b ∷ bs) h l m = absurd (omega (arith, m))
columns-linear (k ∷ ks) [] bs h l m = absurd (omega (arith, l))
columns-linear (k ∷ ks) (a ∷ addrs) [] h l m = absurd (omega (arith, m))
columns-linear (zero ∷ ks) (a ∷ addrs) (b ∷ bs) h l m =
    let i : (marks_of (read_linear ks addrs bs) ≡ ks) × (addrs_of (read_linear ks addrs bs) ≡ addrs) ×
    (bodies_of (read_linear ks addrs bs) ≡ bs) = columns-linear ks addrs bs h.1 (omega (arith, l)) (omega (arith, m)) in
    (ap {B = List ℕ} (λ t. 0 ∷ t) i.0, ap {B = List ℕ} (λ t. a ∷ t) i.1, ap {B = List (List ℕ)} (λ t. b ∷ t) i.2)
columns-linear (suc zero ∷ ks) (a ∷ addrs) (b ∷ bs) h l m =
    let i : (marks_of (read_linear ks addrs bs) ≡ ks) × (addrs_of (read_linear ks addrs bs) ≡ addrs) ×
    (bodies_of (read_linear ks addrs bs) ≡ bs) = columns-linear ks addrs bs h.1 (omega (arith, l)) (omega (arith, m)) in
    (ap {B = List ℕ} (λ t. 1 ∷ t) i.0, ap {B = List ℕ} (λ t. a ∷ t) i.1, ap {B = List (List ℕ)} (λ t. b ∷ t) i.2)
columns-linear (suc (suc k) ∷ ks) (a ∷ addrs) (b ∷ bs) h l m = absurd (let z : suc (suc k) < 2 ^ 1 = h.0 in omega (arith, z))

map-map : (f : Flat → ℕ) (w : ℕ) (es : List Flat) → map (λ e. field w (f e)) es ≡ map (field w) (map f es)
map-map f w [] = refl
map-map f w (e ∷ es) = ap {B = List Field} (λ t. field w (f e) ∷ t) (map-map f w es)

-- the table of entries that are read of columns
pub linear-again : (dims level : ℕ) (e : Entries) (ks addrs : List ℕ) (bs : List (List ℕ)) →
    Each (λ k. k < 2 ^ 1) ks → length addrs ≡ length ks → length bs ≡ length ks → reads e ≡ read_linear ks addrs bs →
    linear_table dims level (flat e) ≡ map (field 1) ks ++ (map (field dims) addrs ++ bodies level bs)
linear-again dims level e ks addrs bs h l m q =
    let es : List Flat = flat e in
    let c : (mark_column (flat e) ≡ marks_of (reads e)) × (addr_column (flat e) ≡ addrs_of (reads e)) × (body_column (flat e) ≡ bodies_of (reads e)) = columns-reads e in
    let d : (marks_of (read_linear ks addrs bs) ≡ ks) × (addrs_of (read_linear ks addrs bs) ≡ addrs) ×
    (bodies_of (read_linear ks addrs bs) ≡ bs) = columns-linear ks addrs bs h l m in
    ap (λ t. t ++ map (λ e. field dims e.addr) es ++ bodies level (body_column es)) (map-map _ 1 es ∙ ap (map (field 1)) (c.0 ∙ ap marks_of q ∙ d.0))
    ∙ ap (λ t. map (field 1) ks ++ t ++ bodies level (body_column es)) (map-map _ dims es ∙ ap (map (field dims)) (c.1 ∙ ap addrs_of q ∙ d.1))
    ∙ ap (λ t. map (field 1) ks ++ map (field dims) addrs ++ bodies level t) (c.2 ∙ ap bodies_of q ∙ d.2)
    ∙ append_assoc (map (field 1) ks) (map (field dims) addrs) (bodies level bs)

-- ---- places of what is read

abbrev addr_of : Read → ℕ
addr_of (read_point a body) = a
addr_of (read_child a body) = a

abbrev at_read : ℕ → List Read → Option Read
at_read a [] = None
at_read a (r ∷ rs) = if addr_of r == a then Some r else at_read a rs

abbrev kind_at : Option Read → ℕ
kind_at None = 0
kind_at (Some (read_point a body)) = 1
kind_at (Some (read_child a body)) = 2

abbrev body_at : ℕ → Option Read → List ℕ
body_at dims None = replicate dims 0
body_at dims (Some (read_point a body)) = body
body_at dims (Some (read_child a body)) = body

abbrev read_places : ℕ → ℕ → List Read → List (Option Read)
read_places zero a rs = []
read_places (suc n) a rs = at_read a rs ∷ read_places n (a + 1) rs

one-place : (dims a : ℕ) (e : Entries) →
    (place_kind (at_address a (flat e)) ≡ field 2 (kind_at (at_read a (reads e)))) ×
    (place_body dims (at_address a (flat e)) ≡ body_at dims (at_read a (reads e)))
one-place dims a end = (refl, refl)
one-place dims a (point x body v rest) = by_test (x == a) (one-place dims a rest)
  where
    by_test : (t : Bool) → (place_kind (at_address a (flat rest)) ≡ field 2 (kind_at (at_read a (reads rest)))) ×
        (place_body dims (at_address a (flat rest)) ≡ body_at dims (at_read a (reads rest))) →
        (place_kind (if t then Some (record { addr = x; body = body; value = Some v }) else at_address a (flat rest))
        ≡ field 2 (kind_at (if t then Some (read_point x body) else at_read a (reads rest)))) ×
        (place_body dims (if t then Some (record { addr = x; body = body; value = Some v }) else
        at_address a (flat rest)) ≡ body_at dims (if t then Some (read_point x body) else at_read a (reads rest)))
    by_test true h = (refl, refl)
    by_test false h = h
one-place dims a (child x body c chain rest) = by_test (x == a) (one-place dims a rest)
  where
    by_test : (t : Bool) → (place_kind (at_address a (flat rest)) ≡ field 2 (kind_at (at_read a (reads rest)))) ×
        (place_body dims (at_address a (flat rest)) ≡ body_at dims (at_read a (reads rest))) →
        (place_kind (if t then Some (record { addr = x; body = body; value = None }) else at_address a (flat rest)) ≡
        field 2 (kind_at (if t then Some (read_child x body) else at_read a (reads rest)))) ×
        (place_body dims (if t then Some (record { addr = x; body = body; value = None }) else
        at_address a (flat rest)) ≡ body_at dims (if t then Some (read_child x body) else at_read a (reads rest)))
    by_test true h = (refl, refl)
    by_test false h = h

all-places : (dims n a : ℕ) (e : Entries) →
    (map place_kind (places n a (flat e)) ≡ map (field 2) (map kind_at (read_places n a (reads e)))) ×
    (map (place_body dims) (places n a (flat e)) ≡ map (body_at dims) (read_places n a (reads e)))
all-places dims zero a e = (refl, refl)
all-places dims (suc n) a e =
    let h : (place_kind (at_address a (flat e)) ≡ field 2 (kind_at (at_read a (reads e)))) ×
    (place_body dims (at_address a (flat e)) ≡ body_at dims (at_read a (reads e))) = one-place dims a e in
    let i : (map place_kind (places n (a + 1) (flat e)) ≡
    map (field 2) (map kind_at (read_places n (a + 1) (reads e)))) ×
    (map (place_body dims) (places n (a + 1) (flat e)) ≡ map (body_at dims) (read_places n (a + 1) (reads e))) =
    all-places dims n (a + 1) e in
    (λ j. h.0 j ∷ i.0 j, λ j. h.1 j ∷ i.1 j)

addresses-cube : (least a : ℕ) (ks : List ℕ) (bs : List (List ℕ)) → least ≤ a → Each (λ r. least ≤ addr_of r) (read_cube a ks bs)
addresses-cube least a [] bs l = tt
addresses-cube least a (k ∷ ks) [] l = tt
addresses-cube least a (k ∷ ks) (b ∷ bs) l =
    by_test (k == 0) (k == 2) (addresses-cube least (a + 1) ks bs (omega (arith, l)))
  where
    by_test : (z t : Bool) → Each (λ r. least ≤ addr_of r) (read_cube (a + 1) ks bs) →
        Each (λ r. least ≤ addr_of r) (if z then read_cube (a + 1) ks bs else read t a b ∷ read_cube (a + 1) ks bs)
    by_test true t h = h
    by_test false true h = (l, h)
    by_test false false h = (l, h)

none-read : (a : ℕ) (rs : List Read) → Each (λ r. a + 1 ≤ addr_of r) rs → at_read a rs ≡ None
none-read a [] h = refl
none-read a (r ∷ rs) h =
    let n : addr_of r ≢ a = λ q. omega (arith, h.0, q) in
    ap {B = Option Read} (λ t. if t then Some r else at_read a rs) (ne_eqb (addr_of r) a n) ∙ none-read a rs h.1

skip-read : (n a : ℕ) (r : Read) (rs : List Read) → addr_of r < a → read_places n a (r ∷ rs) ≡ read_places n a rs
skip-read zero a r rs l = refl
skip-read (suc n) a r rs l =
    let q : addr_of r ≢ a = λ q. omega (arith, l, q) in
    ap {B = List (Option Read)} (λ t. (if t then Some r else at_read a rs) ∷ read_places n (a + 1) (r ∷ rs))
    (ne_eqb (addr_of r) a q) ∙ ap {B = List (Option Read)} (λ t. at_read a rs ∷ t)
    (skip-read n (a + 1) r rs (omega (arith, l)))

all-zero : (b : List ℕ) → list_all (λ x. x == 0) b ≡ true → replicate (length b) 0 ≡ b
all-zero [] h = refl
all-zero (x ∷ b) h =
    let p : ((x == 0) ≡ true) × (list_all (λ x. x == 0) b ≡ true) = and-parts (x == 0) (list_all (λ x. x == 0) b) h in
    let e : x ≡ 0 = eqb-true x 0 p.0 in
    ap (λ t. t ∷ replicate (length b) 0) (sym e) ∙ ap {B = List ℕ} (λ t. x ∷ t) (all-zero b p.1)

-- an entry in front of what is read behind it
here-read : (dims n a : ℕ) (r : Read) (rs : List Read) (ks : List ℕ) (bs : List (List ℕ)) → addr_of r ≡ a →
    (map kind_at (read_places n (a + 1) rs) ≡ ks) × (map (body_at dims) (read_places n (a + 1) rs) ≡ bs) →
    (map kind_at (read_places (suc n) a (r ∷ rs)) ≡ kind_at (Some r) ∷ ks) ×
    (map (body_at dims) (read_places (suc n) a (r ∷ rs)) ≡ body_at dims (Some r) ∷ bs)
here-read dims n a r rs ks bs e i =
    let p : read_places (suc n) a (r ∷ rs) ≡ Some r ∷ read_places n (a + 1) rs =
    ap {B = List (Option Read)} (λ t. (if t then Some r else at_read a rs) ∷ read_places n (a + 1) (r ∷ rs))
    (eq-eqb (addr_of r) a e) ∙ ap {B = List (Option Read)} (λ t. Some r ∷ t) (skip-read n (a + 1) r rs (omega (arith, e))) in
    (ap (map kind_at) p ∙ ap {B = List ℕ} (λ t. kind_at (Some r) ∷ t) i.0, ap (map (body_at dims)) p ∙ ap {B = List (List ℕ)} (λ t. body_at dims (Some r) ∷ t) i.1)

places-cube : (dims a : ℕ) (ks : List ℕ) (bs : List (List ℕ)) → Each (λ k. k ≤ 2) ks →
    Each (λ b. length b ≡ dims) bs → length bs ≡ length ks → absent_are_zero ks bs ≡ true →
    (map kind_at (read_places (length ks) a (read_cube a ks bs)) ≡ ks) ×
    (map (body_at dims) (read_places (length ks) a (read_cube a ks bs)) ≡ bs)
places-cube dims a [] [] h z l q = (refl, refl)
places-cube dims a [] (b ∷ bs) h z l q = absurd (omega (arith, l))
places-cube dims a (k ∷ ks) [] h z l q = absurd (omega (arith, l))
places-cube dims a (zero ∷ ks) (b ∷ bs) h z l q =
    let p : ((nat_lt 0 0 || list_all (λ x. x == 0) b) ≡ true) × (absent_are_zero ks bs ≡ true) =
    and-parts (nat_lt 0 0 || list_all (λ x. x == 0) b) (absent_are_zero ks bs) q in
    let i : (map kind_at (read_places (length ks) (a + 1) (read_cube (a + 1) ks bs)) ≡ ks) ×
    (map (body_at dims) (read_places (length ks) (a + 1) (read_cube (a + 1) ks bs)) ≡ bs) =
    places-cube dims (a + 1) ks bs h.1 z.1 (omega (arith, l)) p.1 in
    let rs : List Read = read_cube (a + 1) ks bs in
    let n : at_read a (read_cube (a + 1) ks bs) ≡ None = none-read a rs (addresses-cube (a + 1) (a + 1) ks bs (omega arith)) in
    let c : replicate dims 0 ≡ b = ap (λ t. replicate t 0) (sym z.0) ∙ all-zero b p.0 in (
      ap {B = List ℕ} (λ t. kind_at t ∷ map kind_at (read_places (length ks) (a + 1) rs)) n ∙
          ap {B = List ℕ} (λ t. 0 ∷ t) i.0,
      ap {B = List (List ℕ)} (λ t. body_at dims t ∷ map (body_at dims) (read_places (length ks) (a + 1) rs)) n ∙
          ap (λ t. t ∷ map (body_at dims) (read_places (length ks) (a + 1) rs)) c ∙ ap {B = List (List ℕ)} (λ t. b ∷ t) i.1,
    )
places-cube dims a (suc zero ∷ ks) (b ∷ bs) h z l q =
    here-read dims (length ks) a (read_point a b) (read_cube (a + 1) ks bs) ks bs refl
    (places-cube dims (a + 1) ks bs h.1 z.1 (omega (arith, l))
    (and-parts (nat_lt 0 1 || list_all (λ x. x == 0) b) (absent_are_zero ks bs) q).1)
places-cube dims a (suc (suc zero) ∷ ks) (b ∷ bs) h z l q =
    here-read dims (length ks) a (read_child a b) (read_cube (a + 1) ks bs) ks bs refl
    (places-cube dims (a + 1) ks bs h.1 z.1 (omega (arith, l))
    (and-parts (nat_lt 0 2 || list_all (λ x. x == 0) b) (absent_are_zero ks bs) q).1)
places-cube dims a (suc (suc (suc k)) ∷ ks) (b ∷ bs) h z l q =
    absurd (let n : suc (suc (suc k)) ≤ 2 = h.0 in omega (arith, n))

-- the table of entries that are read of a full table
pub cube-again : (dims level : ℕ) (e : Entries) (ks : List ℕ) (bs : List (List ℕ)) → Each (λ k. k ≤ 2) ks →
    Each (λ b. length b ≡ dims) bs → length bs ≡ length ks → length ks ≡ 2 ^ dims → absent_are_zero ks bs ≡ true →
    reads e ≡ read_cube 0 ks bs → cube_table dims level (flat e) ≡ map (field 2) ks ++ bodies level bs
cube-again dims level e ks bs h z l n q r =
    let m : ℕ = 2 ^ dims in
    let c : (map place_kind (places (2 ^ dims) 0 (flat e)) ≡
    map (field 2) (map kind_at (read_places (2 ^ dims) 0 (reads e)))) ×
    (map (place_body dims) (places (2 ^ dims) 0 (flat e)) ≡
    map (body_at dims) (read_places (2 ^ dims) 0 (reads e))) = all-places dims m 0 e in
    let d : (map kind_at (read_places (length ks) 0 (read_cube 0 ks bs)) ≡ ks) ×
    (map (body_at dims) (read_places (length ks) 0 (read_cube 0 ks bs)) ≡ bs) = places-cube dims 0 ks bs h z l q in
    let p : read_places (2 ^ dims) 0 (reads e) ≡ read_places (length ks) 0 (read_cube 0 ks bs) =
    ap (read_places m 0) r ∙ ap (λ t. read_places t 0 (read_cube 0 ks bs)) (sym n) in
    ap (λ t. t ++ bodies level (map (place_body dims) (places m 0 (flat e)))) (c.0 ∙ ap (λ t. map (field 2) (map kind_at t)) p ∙ ap (map (field 2)) d.0)
    ∙ ap (λ t. map (field 2) ks ++ bodies level t) (c.1 ∙ ap (map (body_at dims)) p ∙ d.1)

-- ---- entries that take their values and their children

pub filled-again : (rs : List Read) (vs : List ℕ) (cs : List PlainNode) → spots rs ≡ length vs → kids rs ≡ length cs →
    (reads (filled rs vs cs) ≡ rs) × (values (flat (filled rs vs cs)) ≡ vs) × (child_nodes (filled rs vs cs) ≡ cs)
filled-again [] [] [] h k = (refl, refl, refl)
filled-again [] (v ∷ vs) cs h k = absurd (omega (arith, h))
filled-again [] [] (c ∷ cs) h k = absurd (omega (arith, k))
filled-again (read_point a body ∷ rs) [] cs h k = absurd (omega (arith, h))
filled-again (read_point a body ∷ rs) (v ∷ vs) cs h k =
    let i : (reads (filled rs vs cs) ≡ rs) × (values (flat (filled rs vs cs)) ≡ vs) × (child_nodes (filled rs vs cs) ≡ cs) = filled-again rs vs cs (omega (arith, h)) k in
    (ap {B = List Read} (λ t. read_point a body ∷ t) i.0, ap {B = List ℕ} (λ t. v ∷ t) i.1, i.2)
filled-again (read_child a body ∷ rs) vs [] h k = absurd (omega (arith, k))
filled-again (read_child a body ∷ rs) vs (c ∷ cs) h k =
    let i : (reads (filled rs vs cs) ≡ rs) × (values (flat (filled rs vs cs)) ≡ vs) × (child_nodes (filled rs vs cs) ≡ cs) = filled-again rs vs cs h (omega (arith, k)) in
    (ap {B = List Read} (λ t. read_child a body ∷ t) i.0, i.1, ap {B = List PlainNode} (λ t. c ∷ t) i.2)
