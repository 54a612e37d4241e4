-- One step of a look-up or of an edit, in the words of a list of entries.
use Rattle.std.proofs.Common.{◌≡◌, ℕ, zero, suc, ◌+◌, ◌<◌, ◌≤◌, refl, sym, ◌∙◌, ap, subst, arith, List, [], ◌∷◌, length, true}
use Rattle.std.proofs.Common.{false, Bool, cond, not, inl, inr, ltb-false, le-ltb, lt-ltb, eq-eqb, eqb-true, ne_eqb}
use Rattle.std.specs.Prelude.{ℤ, nat_lt, ◌==◌, Option, Some, None, position, slice_get, unwrap_or, if◌then◌else◌}
use Rattle.std.specs.List.{AllByRecursion as Each, position_or_len}
use Rattle.std.proofs.lemmas.Bool.{eqb-false}
use Rattle.std.proofs.lemmas.List.Quantifiers.{position-Some}
use Rattle.std.proofs.lemmas.Option.{get_or_from_slice_get}
use Rattle.ph_specs.specs.ZOrder.{address}
use Rattle.ph_specs.specs.Node.{Entries, end, point, child, PlainNode}
use Rattle.ph_model.specs.EntryList.{Entry, What, value, node, listed, chained, in_front, node_of, entries}
use Rattle.ph_specs.specs.Shape.{digits_below, digits_between}
use Rattle.ph_specs.specs.TreeRows.{count}
use Rattle.ph_model.specs.Lawful.{IsLawfulFrom}
use Rattle.ph_specs.specs.DelTree.{same_digits}
use Rattle.ph_model.specs.PutTree.{split_place, body_address, body_below, find_entries, find_node}
use Rattle.ph_model.specs.PutTree.{inserted_point, with_point, split_child, point_below, child_below, put_entries, put_node}
use Rattle.ph_model.specs.EntryEdits.{point_entry, inserted, holding, with_what, with_child, parted, split_at}
use Rattle.ph_specs.proofs.laws.Put.{either}
use Rattle.ph_model.proofs.laws.EntryLists.{chained-listed}
use Rattle.ph_model.proofs.lemmas.PointDigits.{same_digits-true, same_digits-refl}

abbrev no_entry : Entry
no_entry = point_entry 0 [] 0

-- ---- an address that no entry has

abbrev pub IsAbsent : ℕ → List Entry → Type 0
IsAbsent a es = Each (λ e. (e.addr == a) ≡ false) es

place_le : {X : Type 0} (p : X → Bool) (xs : List X) → position_or_len p xs ≤ length xs
place_le p [] = omega arith
place_le p (x ∷ xs) =
    elim (p x) as (λ b. cond (not b) (1 + position_or_len p xs) 0 ≤ suc (length xs)) [
      | true ↦ omega arith
      | false ↦ omega (arith, place_le p xs)
    ]

place_none : {X : Type 0} (p : X → Bool) (xs : List X) → position p xs ≡ None → length xs ≡ position_or_len p xs
place_none p xs h = let q = place_le p xs in grind (arith, h, q)

absent-each : (a : ℕ) (es : List Entry) → length es ≡ position_or_len (λ e. e.addr == a) es → IsAbsent a es
absent-each a [] h = tt
absent-each a (x ∷ xs) h = by_test (x.addr == a) refl h (absent-each a xs)
  where
    by_test : (b : Bool) → (x.addr == a) ≡ b →
        suc (length xs) ≡ cond (not b) (1 + position_or_len (λ e. e.addr == a) xs) 0 →
        (length xs ≡ position_or_len (λ e. e.addr == a) xs → IsAbsent a xs) → IsAbsent a (x ∷ xs)
    by_test true e k ih = absurd (omega (arith, k))
    by_test false e k ih = (e, ih (omega (arith, k)))

pub absent-by : (a : ℕ) (es : List Entry) → position (λ e. e.addr == a) es ≡ None → IsAbsent a es
absent-by a es h = absent-each a es (place_none (λ e. e.addr == a) es h)

-- the entry that a look-up by address comes to has this address
pub address-found : (a i : ℕ) (es : List Entry) (x : Entry) → position (λ e. e.addr == a) es ≡ Some i → slice_get es i ≡ Some x → x.addr ≡ a
address-found a i es x h k =
    eqb-true x.addr a (sym (ap (λ e. e.addr == a) (get_or_from_slice_get es i x x k)) ∙ (position-Some (λ e. e.addr == a) es i x h).1)

-- an insertion
pub chained-inserted : (a : ℕ) (body : List ℕ) (v : ℕ) (e : Entries) → chained (inserted (point_entry a body v) (listed e)) ≡ inserted_point a body v e
chained-inserted a body v end = refl
chained-inserted a body v (point b other u rest) =
    elim (either (nat_lt a b)) [
      | inl first ↦ rw first (ap {B = Entries} (λ t. point a body v (point b other u t)) (chained-listed rest))
      | inr late ↦ rw late (ap {B = Entries} (λ t. point b other u t) (chained-inserted a body v rest))
    ]
chained-inserted a body v (child b other c chain rest) =
    elim (either (nat_lt a b)) [
      | inl first ↦ rw first (ap {B = Entries} (λ t. point a body v (child b other c chain t)) (chained-listed rest))
      | inr late ↦ rw late (ap {B = Entries} (λ t. child b other c chain t) (chained-inserted a body v rest))
    ]

not_either : (m n : ℕ) → (n == m) ≡ false → nat_lt m n ≡ false → nat_lt n m ≡ true
not_either m n h k =
    let a : n ≤ m = ltb-false m n k in
    let d : n ≡ m → ⊥ = eqb-false n m h in
    lt-ltb n m (omega (arith, a, d))

absent-entries : (w b : ℕ) (e : Entries) (p : List ℤ) (v : ℕ) → IsAbsent (address w p b) (listed e) → put_entries w b e p v ≡ with_point w b e p v
absent-entries w b end p v h = refl
absent-entries w b (point a body u rest) p v h =
    elim (either (nat_lt (address w p b) a)) [
      | inl first ↦ rw first
      | inr late ↦ rw (late, not_either (address w p b) a h.0 late) (ap {B = Entries} (λ t. point a body u t) (absent-entries w b rest p v h.1))
    ]
absent-entries w b (child a body c chain rest) p v h =
    elim (either (nat_lt (address w p b) a)) [
      | inl first ↦ rw first
      | inr late ↦ rw (late, not_either (address w p b) a h.0 late) (ap {B = Entries} (λ t. child a body c chain t) (absent-entries w b rest p v h.1))
    ]

absent-found : (w b : ℕ) (e : Entries) (p : List ℤ) → IsAbsent (address w p b) (listed e) → find_entries w b e p ≡ None
absent-found w b end p h = refl
absent-found w b (point a body u rest) p h = rw h.0 (absent-found w b rest p h.1)
absent-found w b (child a body c chain rest) p h = rw h.0 (absent-found w b rest p h.1)

-- ---- an entry that is there

abbrev as_entry : Entry → Entries → Entries
as_entry x rest = in_front x.addr x.body x.what rest

abbrev replaced : List Entry → ℕ → Entry → List Entry
replaced [] i y = []
replaced (x ∷ xs) zero y = y ∷ xs
replaced (x ∷ xs) (suc i) y = x ∷ replaced xs i y

head-is : (x y : Entry) (xs : List Entry) → slice_get (x ∷ xs) 0 ≡ Some y → x ≡ y
head-is x y xs h = ap (λ o. unwrap_or o no_entry) h

replaced-what : (es : List Entry) (i : ℕ) (x : Entry) (held : What) → slice_get es i ≡ Some x → with_what es i held ≡ replaced es i (holding x held)
replaced-what [] i x held h = refl
replaced-what (y ∷ ys) zero x held h = ap {B = List Entry} (λ t. holding t held ∷ ys) (head-is y x ys h)
replaced-what (y ∷ ys) (suc i) x held h = ap {B = List Entry} (λ t. y ∷ t) (replaced-what ys i x held h)

replaced-split : (es : List Entry) (i : ℕ) (x : Entry) (level : ℕ) (shared : List ℕ) (a : ℕ) (body : List ℕ)
    (new : Entry) → slice_get es i ≡ Some x →
    split_at es i level shared a body new ≡ replaced es i (parted x level shared a body new)
replaced-split [] i x level shared a body new h = refl
replaced-split (y ∷ ys) zero x level shared a body new h = ap {B = List Entry} (λ t. parted t level shared a body new ∷ ys) (head-is y x ys h)
replaced-split (y ∷ ys) (suc i) x level shared a body new h = ap {B = List Entry} (λ t. y ∷ t) (replaced-split ys i x level shared a body new h)

least-address : (dims b least : ℕ) (e : Entries) (i : ℕ) (x : Entry) → IsLawfulFrom dims b least e → slice_get (listed e) i ≡ Some x → least ≤ x.addr
least-address dims b least end i x k h = cc
least-address dims b least (point a body u rest) zero x k h = let q : a ≡ x.addr = ap (λ o. (unwrap_or o no_entry).addr) h in omega (arith, q, k.0)
least-address dims b least (point a body u rest) (suc i) x k h = omega (arith, k.0, least-address dims b (a + 1) rest i x k.3 h)
least-address dims b least (child a body c chain rest) zero x k h = let q : a ≡ x.addr = ap (λ o. (unwrap_or o no_entry).addr) h in omega (arith, q, k.0)
least-address dims b least (child a body c chain rest) (suc i) x k h = omega (arith, k.0, least-address dims b (a + 1) rest i x k.7 h)

-- an edit comes to the entry of the point's address
put-walks : (w dims b least : ℕ) (e : Entries) (i : ℕ) (x y : Entry) (p : List ℤ) (v : ℕ) →
    IsLawfulFrom dims b least e → slice_get (listed e) i ≡ Some x → x.addr ≡ address w p b →
    ((rest : Entries) → put_entries w b (as_entry x rest) p v ≡ as_entry y rest) →
    put_entries w b e p v ≡ chained (replaced (listed e) i y)
put-walks w dims b least end i x y p v k h a f = cc
put-walks w dims b least (point n body u rest) zero x y p v k h a f =
    subst (λ t. put_entries w b (as_entry t rest) p v ≡ as_entry y rest)
    (sym (head-is (point_entry n body u) x (listed rest) h)) (f rest) ∙ ap (as_entry y) (sym (chained-listed rest))
put-walks w dims b least (point n body u rest) (suc i) x y p v k h a f =
    let l : n + 1 ≤ x.addr = least-address dims b (n + 1) rest i x k.3 h in
    rw (le-ltb (address w p b) n (omega (arith, l, a)), lt-ltb n (address w p b) (omega (arith, l, a)))
    (ap {B = Entries} (λ t. point n body u t) (put-walks w dims b (n + 1) rest i x y p v k.3 h a f))
put-walks w dims b least (child n body c chain rest) zero x y p v k h a f =
    subst (λ t. put_entries w b (as_entry t rest) p v ≡ as_entry y rest)
    (sym (head-is (record { addr = n; body = body; what = node (record { level = c; chain = chain }) }) x
    (listed rest) h)) (f rest) ∙ ap (as_entry y) (sym (chained-listed rest))
put-walks w dims b least (child n body c chain rest) (suc i) x y p v k h a f =
    let l : n + 1 ≤ x.addr = least-address dims b (n + 1) rest i x k.7 h in
    rw (le-ltb (address w p b) n (omega (arith, l, a)), lt-ltb n (address w p b) (omega (arith, l, a)))
    (ap {B = Entries} (λ t. child n body c chain t) (put-walks w dims b (n + 1) rest i x y p v k.7 h a f))

-- a look-up does too
find-walks : (w dims b least : ℕ) (e : Entries) (i : ℕ) (x : Entry) (p : List ℤ) (o : Option ℕ) →
    IsLawfulFrom dims b least e → slice_get (listed e) i ≡ Some x → x.addr ≡ address w p b →
    ((rest : Entries) → find_entries w b (as_entry x rest) p ≡ o) → find_entries w b e p ≡ o
find-walks w dims b least end i x p o k h a f = cc
find-walks w dims b least (point n body u rest) zero x p o k h a f =
    subst (λ t. find_entries w b (as_entry t rest) p ≡ o) (sym (head-is (point_entry n body u) x (listed rest) h)) (f rest)
find-walks w dims b least (point n body u rest) (suc i) x p o k h a f =
    let l : n + 1 ≤ x.addr = least-address dims b (n + 1) rest i x k.3 h in
    let d : n ≡ address w p b → ⊥ = λ e. omega (arith, l, a, e) in
    rw (ne_eqb n (address w p b) d) (find-walks w dims b (n + 1) rest i x p o k.3 h a f)
find-walks w dims b least (child n body c chain rest) zero x p o k h a f =
    subst (λ t. find_entries w b (as_entry t rest) p ≡ o)
    (sym (head-is (record { addr = n; body = body; what = node (record { level = c; chain = chain }) }) x
    (listed rest) h)) (f rest)
find-walks w dims b least (child n body c chain rest) (suc i) x p o k h a f =
    let l : n + 1 ≤ x.addr = least-address dims b (n + 1) rest i x k.7 h in
    let d : n ≡ address w p b → ⊥ = λ e. omega (arith, l, a, e) in
    rw (ne_eqb n (address w p b) d) (find-walks w dims b (n + 1) rest i x p o k.7 h a f)

-- ---- the laws of a look-up

pub find_node-absent : (w : ℕ) (n : PlainNode) (p : List ℤ) → position (λ e. e.addr == address w p n.level) (entries n) ≡ None → find_node w n p ≡ None
find_node-absent w n p h = absent-found w n.level n.chain p (absent-by (address w p n.level) (entries n) h)

pub find_node-value : (w dims : ℕ) (n : PlainNode) (i : ℕ) (x : Entry) (u : ℕ) (p : List ℤ) →
    IsLawfulFrom dims n.level 0 n.chain → slice_get (entries n) i ≡ Some x → x.addr ≡ address w p n.level →
    x.what ≡ value u → find_node w n p ≡ (if same_digits x.body (digits_below w n.level p) then Some u else None)
find_node-value w dims n i x u p k h a q =
    find-walks w dims n.level 0 n.chain i x p (if same_digits x.body (digits_below w n.level p) then Some u else None) k h a
    (λ rest. ap (λ t. find_entries w n.level (in_front x.addr x.body t rest) p) q ∙
    ap (λ t. cond t (if same_digits x.body (digits_below w n.level p) then Some u else None)
    (find_entries w n.level rest p)) (eq-eqb x.addr (address w p n.level) a))

pub find_node-child : (w dims : ℕ) (n : PlainNode) (i : ℕ) (x : Entry) (c : PlainNode) (p : List ℤ) →
    IsLawfulFrom dims n.level 0 n.chain → slice_get (entries n) i ≡ Some x → x.addr ≡ address w p n.level →
    x.what ≡ node c → find_node w n p ≡
    (if same_digits x.body (digits_between w n.level c.level p) then find_node w c p else None)
find_node-child w dims n i x c p k h a q =
    find-walks w dims n.level 0 n.chain i x p (if same_digits x.body (digits_between w n.level c.level p) then find_node w c p else None) k h a
    (λ rest. ap (λ t. find_entries w n.level (in_front x.addr x.body t rest) p) q ∙
    ap (λ t. cond t (if same_digits x.body (digits_between w n.level c.level p) then find_node w c p else None)
    (find_entries w n.level rest p)) (eq-eqb x.addr (address w p n.level) a))

-- a child of a lawful node is lawful, and at a lower level
pub lawful-child : (dims b least : ℕ) (e : Entries) (i : ℕ) (x : Entry) (c : PlainNode) →
    IsLawfulFrom dims b least e → slice_get (listed e) i ≡ Some x → x.what ≡ node c →
    (c.level < b) × (2 ≤ count c.chain) × IsLawfulFrom dims c.level 0 c.chain
lawful-child dims b least end i x c k h q = cc
lawful-child dims b least (point a body u rest) zero x c k h q =
    let d : value u ≡ node c = ap (λ o. (unwrap_or o no_entry).what) h ∙ q in cc
lawful-child dims b least (point a body u rest) (suc i) x c k h q = lawful-child dims b (a + 1) rest i x c k.3 h q
lawful-child dims b least (child a body l chain rest) zero x c k h q =
    let d : record { level = l; chain = chain } ≡ c = ap (λ t. node_in t) (ap (λ o. (unwrap_or o no_entry).what) h ∙ q) in
    subst (λ (t : PlainNode). (t.level < b) × (2 ≤ count t.chain) × IsLawfulFrom dims t.level 0 t.chain) d (k.3, k.5, k.6)
  where
    node_in : What → PlainNode
    node_in (value v) = c
    node_in (node n) = n
lawful-child dims b least (child a body l chain rest) (suc i) x c k h q = lawful-child dims b (a + 1) rest i x c k.7 h q

-- ---- the laws of an edit

-- no entry at the address: a point entry joins
pub put_node-absent : (w : ℕ) (n : PlainNode) (p : List ℤ) (v : ℕ) →
    position (λ e. e.addr == address w p n.level) (entries n) ≡ None →
    put_node w n p v ≡ node_of n.level (inserted (point_entry (address w p n.level) (digits_below w n.level p) v) (entries n))
put_node-absent w n p v h =
    ap {B = PlainNode} (λ t. record { level = n.level; chain = t })
    (absent-entries w n.level n.chain p v (absent-by (address w p n.level) (entries n) h) ∙
    sym (chained-inserted (address w p n.level) (digits_below w n.level p) v n.chain))

put-point : (w b : ℕ) (x : Entry) (u : ℕ) (p : List ℤ) (v : ℕ) (rest : Entries) → x.addr ≡ address w p b →
    x.what ≡ value u → put_entries w b (as_entry x rest) p v ≡
    (if same_digits x.body (digits_below w b p) then point x.addr x.body v rest else
    split_child w b (split_place b x.body (digits_below w b p)) x.addr
    (point_below (split_place b x.body (digits_below w b p)) x.body u) rest p v)
put-point w b x u p v rest a q =
    ap (λ t. put_entries w b (in_front x.addr x.body t rest) p v) q ∙ tests
  where
    tests : put_entries w b (point x.addr x.body u rest) p v ≡
        (if same_digits x.body (digits_below w b p) then point x.addr x.body v rest else
        split_child w b (split_place b x.body (digits_below w b p)) x.addr
        (point_below (split_place b x.body (digits_below w b p)) x.body u) rest p v)
    tests = rw (le-ltb (address w p b) x.addr (omega (arith, a)), le-ltb x.addr (address w p b) (omega (arith, a)))

put-child : (w b : ℕ) (x : Entry) (c : PlainNode) (p : List ℤ) (v : ℕ) (rest : Entries) → x.addr ≡ address w p b →
    x.what ≡ node c → put_entries w b (as_entry x rest) p v ≡
    (if same_digits x.body (digits_between w b c.level p) then
    child x.addr x.body c.level (put_entries w c.level c.chain p v) rest else
    split_child w b (split_place b x.body (digits_between w b c.level p)) x.addr
    (child_below (split_place b x.body (digits_between w b c.level p)) x.body c.level c.chain) rest p v)
put-child w b x c p v rest a q =
    ap (λ t. put_entries w b (in_front x.addr x.body t rest) p v) q ∙ tests
  where
    tests : put_entries w b (child x.addr x.body c.level c.chain rest) p v ≡
        (if same_digits x.body (digits_between w b c.level p) then
        child x.addr x.body c.level (put_entries w c.level c.chain p v) rest else
        split_child w b (split_place b x.body (digits_between w b c.level p)) x.addr
        (child_below (split_place b x.body (digits_between w b c.level p)) x.body c.level c.chain) rest p v)
    tests = rw (le-ltb (address w p b) x.addr (omega (arith, a)), le-ltb x.addr (address w p b) (omega (arith, a)))

differs : (xs ys : List ℕ) → (xs ≡ ys → ⊥) → same_digits xs ys ≡ false
differs xs ys n = elim (either (same_digits xs ys)) [ inl same ↦ absurd (n (same_digits-true xs ys same)) | inr other ↦ other ]

-- a point entry with the same digits: it holds the new value
pub put_node-value : (w dims : ℕ) (n : PlainNode) (i : ℕ) (x : Entry) (u : ℕ) (p : List ℤ) (v : ℕ) →
    IsLawfulFrom dims n.level 0 n.chain → slice_get (entries n) i ≡ Some x → x.addr ≡ address w p n.level →
    x.what ≡ value u → x.body ≡ digits_below w n.level p → put_node w n p v ≡ node_of n.level (with_what (entries n) i (value v))
put_node-value w dims n i x u p v k h a q s =
    ap {B = PlainNode} (λ t. record { level = n.level; chain = t })
    (put-walks w dims n.level 0 n.chain i x (holding x (value v)) p v k h a
    (λ rest. put-point w n.level x u p v rest a q ∙
    ap (λ t. cond t (point x.addr x.body v rest)
    (split_child w n.level (split_place n.level x.body (digits_below w n.level p)) x.addr
    (point_below (split_place n.level x.body (digits_below w n.level p)) x.body u) rest p v))
    (same_digits-refl x.body (digits_below w n.level p) s))
    ∙ ap chained (sym (replaced-what (entries n) i x (value v) h)))

-- a child entry whose digits the point shares: the point goes into the child
pub put_node-child : (w dims : ℕ) (n : PlainNode) (i : ℕ) (x : Entry) (c : PlainNode) (p : List ℤ) (v : ℕ) →
    IsLawfulFrom dims n.level 0 n.chain → slice_get (entries n) i ≡ Some x → x.addr ≡ address w p n.level →
    x.what ≡ node c → x.body ≡ digits_between w n.level c.level p → put_node w n p v ≡ with_child n i (put_node w c p v)
put_node-child w dims n i x c p v k h a q s =
    ap {B = PlainNode} (λ t. record { level = n.level; chain = t })
    (put-walks w dims n.level 0 n.chain i x (holding x (node (put_node w c p v))) p v k h a
    (λ rest. put-child w n.level x c p v rest a q ∙
    ap (λ t. cond t (child x.addr x.body c.level (put_entries w c.level c.chain p v) rest)
    (split_child w n.level (split_place n.level x.body (digits_between w n.level c.level p)) x.addr
    (child_below (split_place n.level x.body (digits_between w n.level c.level p)) x.body c.level c.chain) rest p
    v)) (same_digits-refl x.body (digits_between w n.level c.level p) s))
    ∙ ap chained (sym (replaced-what (entries n) i x (node (put_node w c p v)) h)))

-- an entry that is split at a place, where a point joins, and a node with entry i so split
abbrev pub put_parted : ℕ → ℕ → Entry → ℕ → List ℤ → ℕ → Entry
put_parted w b x place p v =
    parted x place (digits_between w b place p) (body_address place x.body) (body_below place x.body)
    (point_entry (address w p place) (digits_below w place p) v)

abbrev pub put_split : ℕ → PlainNode → ℕ → Entry → ℕ → List ℤ → ℕ → PlainNode
put_split w n i x place p v =
    node_of n.level
    (split_at (entries n) i place (digits_between w n.level place p) (body_address place x.body)
    (body_below place x.body) (point_entry (address w p place) (digits_below w place p) v))

-- the child that a split makes
split-entry : (w b place : ℕ) (x : Entry) (held : What) (p : List ℤ) (v : ℕ) (rest : Entries) → x.what ≡ held →
    split_child w b place x.addr (in_front (body_address place x.body) (body_below place x.body) held end) rest p v ≡ as_entry (put_parted w b x place p v) rest
split-entry w b place x held p v rest q =
    ap {B = Entries} (λ t. child x.addr (digits_between w b place p) place t rest)
    (sym (chained-inserted (address w p place) (digits_below w place p) v (in_front (body_address place x.body) (body_below place x.body) held end))
    ∙ ap (λ t. chained (inserted (point_entry (address w p place) (digits_below w place p) v) t)) (one held)
    ∙ ap (λ t. chained (inserted (point_entry (address w p place) (digits_below w place p) v)
    (record { addr = body_address place x.body; body = body_below place x.body; what = t } ∷ []))) (sym q))
  where
    one : (held : What) → listed (in_front (body_address place x.body) (body_below place x.body) held end) ≡
        record { addr = body_address place x.body; body = body_below place x.body; what = held } ∷ []
    one (value u) = refl
    one (node c) = refl

-- an edit comes to an entry that is split
put_node-parted : (w dims : ℕ) (n : PlainNode) (i : ℕ) (x : Entry) (place : ℕ) (p : List ℤ) (v : ℕ) →
    IsLawfulFrom dims n.level 0 n.chain → slice_get (entries n) i ≡ Some x → x.addr ≡ address w p n.level →
    ((rest : Entries) → put_entries w n.level (as_entry x rest) p v ≡ as_entry (put_parted w n.level x place p v) rest) →
    put_node w n p v ≡ put_split w n i x place p v
put_node-parted w dims n i x place p v k h a f =
    ap {B = PlainNode} (λ t. record { level = n.level; chain = t })
    (put-walks w dims n.level 0 n.chain i x (put_parted w n.level x place p v) p v k h a f
    ∙ ap chained (sym (replaced-split (entries n) i x place (digits_between w n.level place p)
    (body_address place x.body) (body_below place x.body) (point_entry (address w p place) (digits_below w place p) v) h)))

-- a point entry with other digits is split
pub put_node-split_point : (w dims : ℕ) (n : PlainNode) (i : ℕ) (x : Entry) (u place : ℕ) (p : List ℤ) (v : ℕ) →
    IsLawfulFrom dims n.level 0 n.chain → slice_get (entries n) i ≡ Some x → x.addr ≡ address w p n.level →
    x.what ≡ value u → (x.body ≡ digits_below w n.level p → ⊥) →
    split_place n.level x.body (digits_below w n.level p) ≡ place →
    put_node w n p v ≡ put_split w n i x place p v
put_node-split_point w dims n i x u place p v k h a q s m =
    put_node-parted w dims n i x place p v k h a
    (λ rest. put-point w n.level x u p v rest a q
    ∙ ap (λ t. cond t (point x.addr x.body v rest)
    (split_child w n.level (split_place n.level x.body (digits_below w n.level p)) x.addr
    (point_below (split_place n.level x.body (digits_below w n.level p)) x.body u) rest p v))
    (differs x.body (digits_below w n.level p) s)
    ∙ ap (λ t. split_child w n.level t x.addr (point_below t x.body u) rest p v) m
    ∙ split-entry w n.level place x (value u) p v rest q)

-- a child entry with other digits is split
pub put_node-split_child : (w dims : ℕ) (n : PlainNode) (i : ℕ) (x : Entry) (c : PlainNode) (place : ℕ) (p : List ℤ)
    (v : ℕ) → IsLawfulFrom dims n.level 0 n.chain → slice_get (entries n) i ≡ Some x → x.addr ≡ address w p n.level →
    x.what ≡ node c → (x.body ≡ digits_between w n.level c.level p → ⊥) →
    split_place n.level x.body (digits_between w n.level c.level p) ≡ place →
    put_node w n p v ≡ put_split w n i x place p v
put_node-split_child w dims n i x c place p v k h a q s m =
    put_node-parted w dims n i x place p v k h a
    (λ rest. put-child w n.level x c p v rest a q
    ∙ ap (λ t. cond t (child x.addr x.body c.level (put_entries w c.level c.chain p v) rest)
    (split_child w n.level (split_place n.level x.body (digits_between w n.level c.level p)) x.addr
    (child_below (split_place n.level x.body (digits_between w n.level c.level p)) x.body c.level c.chain) rest p
    v)) (differs x.body (digits_between w n.level c.level p) s)
    ∙ ap (λ t. split_child w n.level t x.addr (child_below t x.body c.level c.chain) rest p v) m
    ∙ split-entry w n.level place x (node c) p v rest q)
