-- The removal of a point from a node, as an edit of its list of entries: the entry at the point's address decides.
use Rattle.std.proofs.Common.{◌≡◌, ℕ, zero, suc, ◌+◌, ◌-◌, ◌<◌, ◌≤◌, refl, sym, ◌∙◌, ap, subst, arith, List}
use Rattle.std.proofs.Common.{[], ◌∷◌, ◌++◌, length, get_or, true, false, Bool, cond, ltb-false}
use Rattle.std.specs.Prelude.{ℤ, Option, Some, None, position, slice_get, nat_lt}
use Rattle.std.specs.List.{position_or_len}
use Rattle.std.proofs.lemmas.List.Sums.{fails_before_first}
use Rattle.std.proofs.lemmas.List.Quantifiers.{position-Some}
use Rattle.ph_specs.specs.ZOrder.{address}
use Rattle.ph_specs.specs.Node.{Entries, end, point, child, PlainNode}
use Rattle.ph_model.specs.EntryList.{Entry, What, value, node, listed, in_front, chained, node_of, entries}
use Rattle.ph_specs.specs.Shape.{digits_below, digits_between}
use Rattle.ph_specs.specs.TreeRows.{put_together, count}
use Rattle.ph_model.specs.Lawful.{IsBody, HasZerosFrom, IsLawfulFrom}
use Rattle.ph_specs.specs.DelTree.{same_digits, merged_child, del_entries}
use Rattle.ph_model.specs.DelTree.{del_node, root_of, del_tree}
use Rattle.ph_model.specs.EntryEdits.{has_address, what_at, with_what, with_child, other_what, without, with_content, merged}
use Rattle.ph_model.proofs.laws.DelTree.{merged-front, count-del_entries}
use Rattle.ph_model.proofs.laws.EntryLists.{chained-listed, listed-chained, node_of-entries}

-- ---- the first entry at an address

-- entry i is x, and it is the first at the address
abbrev IsFirstAt : ℕ → List Entry → ℕ → Entry → Type 0
IsFirstAt a [] i x = ⊥
IsFirstAt a (y ∷ ys) zero x = (y ≡ x) × (has_address a y ≡ true)
IsFirstAt a (y ∷ ys) (suc i) x = (has_address a y ≡ false) × IsFirstAt a ys i x

abbrev IsNowhere : ℕ → List Entry → Type 0
IsNowhere a [] = Unit {0}
IsNowhere a (y ∷ ys) = (has_address a y ≡ false) × IsNowhere a ys

first_at : (a : ℕ) (es : List Entry) (i : ℕ) (x : Entry) → position (has_address a) es ≡ Some i → slice_get es i ≡ Some x → IsFirstAt a es i x
first_at a es i x e g =
    let s : (i < length es) × (has_address a (get_or es i x) ≡ true) ×
    ((k : ℕ) → k < i → has_address a (get_or es k x) ≡ false) = position-Some (has_address a) es i x e in
    by_place es i g s.1 s.2
  where
    by_place : (es : List Entry) (i : ℕ) → slice_get es i ≡ Some x → has_address a (get_or es i x) ≡ true →
        ((k : ℕ) → k < i → has_address a (get_or es k x) ≡ false) → IsFirstAt a es i x
    by_place [] i g t f = cc
    by_place (y ∷ ys) zero g t f = ((let s : y ≡ x = cc in s), t)
    by_place (y ∷ ys) (suc i) g t f = (f 0 (omega arith), by_place ys i g t (λ k l. f (suc k) (omega (arith, l))))

nowhere : (a : ℕ) (es : List Entry) → position (has_address a) es ≡ None → IsNowhere a es
nowhere a [] e = tt
nowhere a (y ∷ ys) e =
    let l : length (y ∷ ys) ≤ position_or_len (has_address a) (y ∷ ys) = by_test (nat_lt (position_or_len (has_address a) (y ∷ ys)) (length (y ∷ ys))) refl e in
    by_place (y ∷ ys) (λ k m. fails_before_first (has_address a) (y ∷ ys) k y (omega (arith, m, l)))
  where
    by_test : (t : Bool) → nat_lt (position_or_len (has_address a) (y ∷ ys)) (length (y ∷ ys)) ≡ t →
        cond t (Some (position_or_len (has_address a) (y ∷ ys))) None ≡ None →
        length (y ∷ ys) ≤ position_or_len (has_address a) (y ∷ ys)
    by_test true n h = cc
    by_test false n h = ltb-false (position_or_len (has_address a) (y ∷ ys)) (length (y ∷ ys)) n

    by_place : (es : List Entry) → ((k : ℕ) → k < length es → has_address a (get_or es k y) ≡ false) → IsNowhere a es
    by_place [] f = tt
    by_place (z ∷ es) f = (f 0 (omega arith), by_place es (λ k l. f (suc k) (omega (arith, l))))

-- ---- what is left of one entry

abbrev left_of : ℕ → ℕ → ℕ → List ℕ → What → List ℤ → List Entry
left_of w b a body (value v) p = cond (same_digits body (digits_below w b p)) [] (record { addr = a; body = body; what = value v } ∷ [])
left_of w b a body (node n) p =
    cond (same_digits body (digits_between w b n.level p))
    (listed (merged_child a body n.level (del_entries w n.level n.chain p) end))
    (record { addr = a; body = body; what = node n } ∷ [])

-- entry i replaced by some entries
abbrev replaced : List Entry → ℕ → List Entry → List Entry
replaced [] i ys = []
replaced (x ∷ xs) zero ys = ys ++ xs
replaced (x ∷ xs) (suc i) ys = x ∷ replaced xs i ys

listed-front : (a : ℕ) (body : List ℕ) (o : What) (rest : Entries) → listed (in_front a body o rest) ≡ listed (in_front a body o end) ++ listed rest
listed-front a body (value v) rest = refl
listed-front a body (node n) rest = refl

listed-merged : (a c : ℕ) (body : List ℕ) (chain rest : Entries) → listed (merged_child a body c chain rest) ≡ listed (merged_child a body c chain end) ++ listed rest
listed-merged a c body chain rest =
    let m = merged-front a c body chain in
    ap listed (m.1 rest) ∙ listed-front m.0.addr m.0.body m.0.what rest ∙ sym (ap (λ t. listed t ++ listed rest) (m.1 end))

listed-del : (w b : ℕ) (e : Entries) (p : List ℤ) (i : ℕ) (x : Entry) → IsFirstAt (address w p b) (listed e) i x →
    listed (del_entries w b e p) ≡ replaced (listed e) i (left_of w b x.addr x.body x.what p)
listed-del w b end p i x h = absurd h
listed-del w b (point a body v rest) p zero x h =
    subst (λ y. listed (del_entries w b (point a body v rest) p) ≡ left_of w b y.addr y.body y.what p ++ listed rest) h.0
    (ap (λ s. listed (cond s (cond (same_digits body (digits_below w b p)) rest (point a body v rest))
    (point a body v (del_entries w b rest p)))) h.1 ∙ by_test (same_digits body (digits_below w b p)))
  where
    by_test : (t : Bool) → listed (cond t rest (point a body v rest)) ≡ cond t [] (record { addr = a; body = body; what = value v } ∷ []) ++ listed rest
    by_test true = refl
    by_test false = refl
listed-del w b (point a body v rest) p (suc i) x h =
    ap (λ s. listed (cond s (cond (same_digits body (digits_below w b p)) rest (point a body v rest)) (point a body v (del_entries w b rest p)))) h.0
    ∙ ap {B = List Entry} (λ t. record { addr = a; body = body; what = value v } ∷ t) (listed-del w b rest p i x h.1)
listed-del w b (child a body c chain rest) p zero x h =
    subst (λ y. listed (del_entries w b (child a body c chain rest) p) ≡ left_of w b y.addr y.body y.what p ++ listed rest) h.0
    (ap (λ s. listed (cond s (cond (same_digits body (digits_between w b c p))
    (merged_child a body c (del_entries w c chain p) rest) (child a body c chain rest))
    (child a body c chain (del_entries w b rest p)))) h.1 ∙ by_test (same_digits body (digits_between w b c p)))
  where
    by_test : (t : Bool) → listed (cond t (merged_child a body c (del_entries w c chain p) rest)
        (child a body c chain rest)) ≡ cond t (listed (merged_child a body c (del_entries w c chain p) end))
        (record { addr = a; body = body; what = node (record { level = c; chain = chain }) } ∷ []) ++ listed rest
    by_test true = listed-merged a c body (del_entries w c chain p) rest
    by_test false = refl
listed-del w b (child a body c chain rest) p (suc i) x h =
    ap (λ s. listed (cond s (cond (same_digits body (digits_between w b c p))
    (merged_child a body c (del_entries w c chain p) rest) (child a body c chain rest))
    (child a body c chain (del_entries w b rest p)))) h.0
    ∙ ap {B = List Entry} (λ t. record { addr = a; body = body; what = node (record { level = c; chain = chain }) } ∷ t) (listed-del w b rest p i x h.1)

replaced-none : (es : List Entry) (i : ℕ) → replaced es i [] ≡ without es i
replaced-none [] i = refl
replaced-none (x ∷ es) zero = refl
replaced-none (x ∷ es) (suc i) = ap {B = List Entry} (λ t. x ∷ t) (replaced-none es i)

replaced-same : (a : ℕ) (es : List Entry) (i : ℕ) (x : Entry) → IsFirstAt a es i x → replaced es i (x ∷ []) ≡ es
replaced-same a [] i x h = refl
replaced-same a (y ∷ es) zero x h = ap {B = List Entry} (λ t. t ∷ es) (sym h.0)
replaced-same a (y ∷ es) (suc i) x h = ap {B = List Entry} (λ t. y ∷ t) (replaced-same a es i x h.1)

replaced-content : (a : ℕ) (es : List Entry) (i : ℕ) (x : Entry) (body : List ℕ) (u : What) → IsFirstAt a es i x →
    replaced es i (record { addr = x.addr; body = body; what = u } ∷ []) ≡ with_content es i body u
replaced-content a [] i x body u h = refl
replaced-content a (y ∷ es) zero x body u h = ap {B = List Entry} (λ t. record { addr = t.addr; body = body; what = u } ∷ es) (sym h.0)
replaced-content a (y ∷ es) (suc i) x body u h = ap {B = List Entry} (λ t. y ∷ t) (replaced-content a es i x body u h.1)

content-what : (a : ℕ) (es : List Entry) (i : ℕ) (x : Entry) (u : What) → IsFirstAt a es i x → with_content es i x.body u ≡ with_what es i u
content-what a [] i x u h = refl
content-what a (y ∷ es) zero x u h = ap {B = List Entry} (λ t. record { addr = y.addr; body = t.body; what = u } ∷ es) (sym h.0)
content-what a (y ∷ es) (suc i) x u h = ap {B = List Entry} (λ t. y ∷ t) (content-what a es i x u h.1)

content-merged : (a : ℕ) (es : List Entry) (i j : ℕ) (x : Entry) (body : List ℕ) → IsFirstAt a es i x → with_content es i body (other_what x.what j) ≡ merged es i j body
content-merged a [] i j x body h = refl
content-merged a (y ∷ es) zero j x body h = ap {B = List Entry} (λ t. record { addr = y.addr; body = body; what = other_what t.what j } ∷ es) (sym h.0)
content-merged a (y ∷ es) (suc i) j x body h = ap {B = List Entry} (λ t. y ∷ t) (content-merged a es i j x body h.1)

many-merged : (a c : ℕ) (body : List ℕ) (chain : Entries) → 2 ≤ length (listed chain) → merged_child a body c chain end ≡ child a body c chain end
many-merged a c body end l = absurd (omega (arith, l))
many-merged a c body (point d low v end) l = absurd (omega (arith, l))
many-merged a c body (point d low v (point d' low' v' more)) l = refl
many-merged a c body (point d low v (child d' low' e' chain' more)) l = refl
many-merged a c body (child d low e chain end) l = absurd (omega (arith, l))
many-merged a c body (child d low e chain (point d' low' v' more)) l = refl
many-merged a c body (child d low e chain (child d' low' e' chain' more)) l = refl

-- an entry in the place of the child that held it
abbrev joined : ℕ → ℕ → List ℕ → Entry → Entry
joined a c body y = record { addr = a; body = put_together c y.addr body y.body; what = y.what }

one-merged : (a c : ℕ) (body : List ℕ) (chain : Entries) (y : Entry) → listed chain ≡ y ∷ [] → listed (merged_child a body c chain end) ≡ joined a c body y ∷ []
one-merged a c body end y h = cc
one-merged a c body (point d low v end) y h = ap {B = List Entry} (λ t. joined a c body (get_or t 0 y) ∷ []) h
one-merged a c body (point d low v (point d' low' v' more)) y h = cc
one-merged a c body (point d low v (child d' low' e' chain' more)) y h = cc
one-merged a c body (child d low e chain end) y h = ap {B = List Entry} (λ t. joined a c body (get_or t 0 y) ∷ []) h
one-merged a c body (child d low e chain (point d' low' v' more)) y h = cc
one-merged a c body (child d low e chain (child d' low' e' chain' more)) y h = cc

-- ---- a node without a point

-- entry i is x, the entry of a node at the point's address
pub record IsEntryAt (w : ℕ) (n : PlainNode) (p : List ℤ) (i : ℕ) (x : Entry) : Type 0 where
  pub first : position (has_address (address w p n.level)) (entries n) ≡ Some i
  pub is : slice_get (entries n) i ≡ Some x

from_listed : (level : ℕ) (e : Entries) (es : List Entry) → listed e ≡ es → ◌≡◌ {A = PlainNode} (record { level = level; chain = e }) (node_of level es)
from_listed level e es h = ap {B = PlainNode} (λ t. record { level = level; chain = t }) (sym (chained-listed e) ∙ ap chained h)

del_node-left : (w : ℕ) (n : PlainNode) (p : List ℤ) (i : ℕ) (x : Entry) (u : What) → IsEntryAt w n p i x →
    x.what ≡ u → del_node w n p ≡ node_of n.level (replaced (entries n) i (left_of w n.level x.addr x.body u p))
del_node-left w n p i x u h e =
    from_listed n.level (del_entries w n.level n.chain p) _
    (listed-del w n.level n.chain p i x (first_at (address w p n.level) (entries n) i x h.first h.is) ∙
    ap (λ t. replaced (entries n) i (left_of w n.level x.addr x.body t p)) e)

-- with no entry at the point's address the node stays
pub del_node-none : (w : ℕ) (n : PlainNode) (p : List ℤ) → position (has_address (address w p n.level)) (entries n) ≡ None → del_node w n p ≡ n
del_node-none w n p h = ap {B = PlainNode} (λ t. record { level = n.level; chain = t }) (stays n.chain (nowhere (address w p n.level) (entries n) h))
  where
    stays : (e : Entries) → IsNowhere (address w p n.level) (listed e) → del_entries w n.level e p ≡ e
    stays end k = refl
    stays (point a body v rest) k =
        ap (λ s. cond s (cond (same_digits body (digits_below w n.level p)) rest (point a body v rest)) (point a body v (del_entries w n.level rest p))) k.0
        ∙ ap {B = Entries} (λ t. point a body v t) (stays rest k.1)
    stays (child a body c chain rest) k =
        ap (λ s. cond s (cond (same_digits body (digits_between w n.level c p))
        (merged_child a body c (del_entries w c chain p) rest) (child a body c chain rest))
        (child a body c chain (del_entries w n.level rest p))) k.0
        ∙ ap {B = Entries} (λ t. child a body c chain t) (stays rest k.1)

-- a point entry with the point's digits goes
pub del_node-point : (w : ℕ) (n : PlainNode) (p : List ℤ) (i : ℕ) (x : Entry) (v : ℕ) → IsEntryAt w n p i x →
    x.what ≡ value v → same_digits x.body (digits_below w n.level p) ≡ true →
    del_node w n p ≡ node_of n.level (without (entries n) i)
del_node-point w n p i x v h e s =
    del_node-left w n p i x (value v) h e
    ∙ ap (λ t. node_of n.level (replaced (entries n) i (cond t [] (record { addr = x.addr; body = x.body; what = value v } ∷ [])))) s
    ∙ ap (node_of n.level) (replaced-none (entries n) i)

-- an entry with other digits stays
stays-entry : (w : ℕ) (n : PlainNode) (p : List ℤ) (i : ℕ) (x : Entry) (u : What) → IsEntryAt w n p i x → x.what ≡ u →
    node_of n.level (replaced (entries n) i (record { addr = x.addr; body = x.body; what = u } ∷ [])) ≡ n
stays-entry w n p i x u h e =
    ap (λ t. node_of n.level (replaced (entries n) i (record { addr = x.addr; body = x.body; what = t } ∷ []))) (sym e)
    ∙ ap (node_of n.level) (replaced-same (address w p n.level) (entries n) i x (first_at (address w p n.level) (entries n) i x h.first h.is))
    ∙ node_of-entries n

pub del_node-other_point : (w : ℕ) (n : PlainNode) (p : List ℤ) (i : ℕ) (x : Entry) (v : ℕ) → IsEntryAt w n p i x →
    x.what ≡ value v → same_digits x.body (digits_below w n.level p) ≡ false → del_node w n p ≡ n
del_node-other_point w n p i x v h e s =
    del_node-left w n p i x (value v) h e
    ∙ ap (λ t. node_of n.level (replaced (entries n) i (cond t [] (record { addr = x.addr; body = x.body; what = value v } ∷ [])))) s
    ∙ stays-entry w n p i x (value v) h e

pub del_node-other_child : (w : ℕ) (n : PlainNode) (p : List ℤ) (i : ℕ) (x : Entry) (m : PlainNode) →
    IsEntryAt w n p i x → x.what ≡ node m → same_digits x.body (digits_between w n.level m.level p) ≡ false → del_node w n p ≡ n
del_node-other_child w n p i x m h e s =
    del_node-left w n p i x (node m) h e
    ∙ ap (λ t. node_of n.level (replaced (entries n) i
    (cond t (listed (merged_child x.addr x.body m.level (del_entries w m.level m.chain p) end))
    (record { addr = x.addr; body = x.body; what = node m } ∷ [])))) s
    ∙ stays-entry w n p i x (node m) h e

-- a child with the point's digits loses the point
del_node-below : (w : ℕ) (n : PlainNode) (p : List ℤ) (i : ℕ) (x : Entry) (m : PlainNode) → IsEntryAt w n p i x →
    x.what ≡ node m → same_digits x.body (digits_between w n.level m.level p) ≡ true →
    del_node w n p ≡ node_of n.level
    (replaced (entries n) i (listed (merged_child x.addr x.body m.level (del_entries w m.level m.chain p) end)))
del_node-below w n p i x m h e s =
    del_node-left w n p i x (node m) h e
    ∙ ap (λ t. node_of n.level (replaced (entries n) i
    (cond t (listed (merged_child x.addr x.body m.level (del_entries w m.level m.chain p) end))
    (record { addr = x.addr; body = x.body; what = node m } ∷ [])))) s

-- it stays a child where two entries or more are left in it
pub del_node-child : (w : ℕ) (n : PlainNode) (p : List ℤ) (i : ℕ) (x : Entry) (m : PlainNode) → IsEntryAt w n p i x →
    x.what ≡ node m → same_digits x.body (digits_between w n.level m.level p) ≡ true →
    2 ≤ length (entries (del_node w m p)) → del_node w n p ≡ with_child n i (del_node w m p)
del_node-child w n p i x m h e s l =
    let f : IsFirstAt (address w p n.level) (entries n) i x = first_at (address w p n.level) (entries n) i x h.first h.is in
    del_node-below w n p i x m h e s
    ∙ ap (λ t. node_of n.level (replaced (entries n) i (listed t))) (many-merged x.addr m.level x.body (del_entries w m.level m.chain p) l)
    ∙ ap (node_of n.level) (replaced-content (address w p n.level) (entries n) i x x.body (node (del_node w m p)) f ∙
    content-what (address w p n.level) (entries n) i x (node (del_node w m p)) f)

-- where one is left, that one takes the child's place
pub del_node-one : (w : ℕ) (n : PlainNode) (p : List ℤ) (i : ℕ) (x : Entry) (m : PlainNode) (y : Entry) →
    IsEntryAt w n p i x → x.what ≡ node m → same_digits x.body (digits_between w n.level m.level p) ≡ true →
    entries (del_node w m p) ≡ y ∷ [] →
    del_node w n p ≡ node_of n.level (with_content (entries n) i (put_together m.level y.addr x.body y.body) y.what)
del_node-one w n p i x m y h e s o =
    let f : IsFirstAt (address w p n.level) (entries n) i x = first_at (address w p n.level) (entries n) i x h.first h.is in
    del_node-below w n p i x m h e s
    ∙ ap (λ t. node_of n.level (replaced (entries n) i t)) (one-merged x.addr m.level x.body (del_entries w m.level m.chain p) y o)
    ∙ ap (node_of n.level) (replaced-content (address w p n.level) (entries n) i x (put_together m.level y.addr x.body y.body) y.what f)

what-is : (es : List Entry) (k : ℕ) (z : Entry) → slice_get es k ≡ Some z → z.what ≡ what_at es k
what-is [] k z h = cc
what-is (y ∷ es) zero z h = let s : z ≡ y = cc in ap (λ t. t.what) s
what-is (y ∷ es) (suc k) z h = what-is es k z h

other-left : (es : List Entry) (j : ℕ) (z : Entry) → length es ≡ 2 → j < 2 → slice_get es (1 - j) ≡ Some z → without es j ≡ z ∷ []
other-left [] j z l m h = absurd (omega (arith, l))
other-left (a ∷ []) j z l m h = absurd (omega (arith, l))
other-left (a ∷ b ∷ []) zero z l m h = let s : b ≡ z = cc in ap {B = List Entry} (λ t. t ∷ []) s
other-left (a ∷ b ∷ []) (suc zero) z l m h = let s : a ≡ z = cc in ap {B = List Entry} (λ t. t ∷ []) s
other-left (a ∷ b ∷ []) (suc (suc j)) z l m h = absurd (omega (arith, m))
other-left (a ∷ b ∷ c ∷ es) j z l m h = absurd (omega (arith, l))

-- a child of two loses its point entry j, and the other takes its place
pub del_node-pair : (w : ℕ) (n : PlainNode) (p : List ℤ) (i : ℕ) (x : Entry) (m : PlainNode) (j : ℕ) (y : Entry)
    (v : ℕ) (z : Entry) → IsEntryAt w n p i x → x.what ≡ node m →
    same_digits x.body (digits_between w n.level m.level p) ≡ true → IsEntryAt w m p j y → y.what ≡ value v →
    same_digits y.body (digits_below w m.level p) ≡ true → length (entries m) ≡ 2 →
    slice_get (entries m) (1 - j) ≡ Some z →
    del_node w n p ≡ node_of n.level (merged (entries n) i j (put_together m.level z.addr x.body z.body))
del_node-pair w n p i x m j y v z h e s k g t l o =
    let f : IsFirstAt (address w p n.level) (entries n) i x = first_at (address w p n.level) (entries n) i x h.first h.is in
    let q : (j < length (entries m)) × (has_address (address w p m.level) (get_or (entries m) j y) ≡ true) ×
    ((k : ℕ) → k < j → has_address (address w p m.level) (get_or (entries m) k y) ≡ false) =
    position-Some (has_address (address w p m.level)) (entries m) j y k.first in
    let c : entries (del_node w m p) ≡ z ∷ [] = ap entries (del_node-point w m p j y v k g t) ∙
    listed-chained (without (entries m) j) ∙ other-left (entries m) j z l (omega (arith, q.0, l)) o in
    let u : z.what ≡ other_what x.what j = what-is (entries m) (1 - j) z o ∙ sym (ap (λ d. other_what d j) e) in
    del_node-one w n p i x m z h e s c
    ∙ ap (λ d. node_of n.level (with_content (entries n) i (put_together m.level z.addr x.body z.body) d)) u
    ∙ ap (node_of n.level) (content-merged (address w p n.level) (entries n) i j x (put_together m.level z.addr x.body z.body) f)

-- ---- how many entries are left

length-count : (e : Entries) → length (listed e) ≡ count e
length-count end = refl
length-count (point a body v rest) = ap suc (length-count rest)
length-count (child a body c chain rest) = ap suc (length-count rest)

-- at most one entry goes
pub length-del_node : (w : ℕ) (n : PlainNode) (p : List ℤ) → length (entries n) ≤ length (entries (del_node w n p)) + 1
length-del_node w n p =
    omega (arith, count-del_entries w n.level n.chain p, length-count n.chain, length-count (del_entries w n.level n.chain p))

-- and none where a child is at the point's address
pub length-del_node-child : (w : ℕ) (n : PlainNode) (p : List ℤ) (i : ℕ) (x : Entry) (m : PlainNode) →
    IsEntryAt w n p i x → x.what ≡ node m → length (entries (del_node w n p)) ≡ length (entries n)
length-del_node-child w n p i x m h e =
    by_test (same_digits x.body (digits_between w n.level m.level p)) refl
  where
    long : (es : List Entry) (i : ℕ) (y : Entry) → length (replaced es i (y ∷ [])) ≡ length es
    long [] i y = refl
    long (z ∷ es) zero y = refl
    long (z ∷ es) (suc i) y = ap suc (long es i y)

    some : (a c : ℕ) (body : List ℕ) (chain : Entries) → (y : Entry) × (listed (merged_child a body c chain end) ≡ y ∷ [])
    some a c body end = (_, refl)
    some a c body (point d low v end) = (_, refl)
    some a c body (point d low v (point d' low' v' more)) = (_, refl)
    some a c body (point d low v (child d' low' e' chain' more)) = (_, refl)
    some a c body (child d low e chain end) = (_, refl)
    some a c body (child d low e chain (point d' low' v' more)) = (_, refl)
    some a c body (child d low e chain (child d' low' e' chain' more)) = (_, refl)

    by_test : (t : Bool) → same_digits x.body (digits_between w n.level m.level p) ≡ t → length (entries (del_node w n p)) ≡ length (entries n)
    by_test true s =
        let y : (y : Entry) × (listed (merged_child x.addr x.body m.level (del_entries w m.level m.chain p) end) ≡ y ∷
        []) = some x.addr m.level x.body (del_entries w m.level m.chain p) in
        ap (λ t. length (entries t)) (del_node-below w n p i x m h e s ∙ ap (λ t. node_of n.level (replaced (entries n) i t)) y.1)
        ∙ ap (λ t. length t) (listed-chained (replaced (entries n) i (y.0 ∷ [])))
        ∙ long (entries n) i y.0
    by_test false s = ap (λ t. length (entries t)) (del_node-other_child w n p i x m h e s)

-- ---- the root

pub del_tree-some : (w dims : ℕ) (n : PlainNode) (p : List ℤ) → 1 ≤ length (entries (del_node w n p)) → del_tree w dims (Some n) p ≡ Some (del_node w n p)
del_tree-some w dims n p l = by_chain (del_entries w n.level n.chain p) l
  where
    by_chain : (e : Entries) → 1 ≤ length (listed e) → root_of n.level e ≡ Some (record { level = n.level; chain = e })
    by_chain end l = absurd (omega (arith, l))
    by_chain (point a body v rest) l = refl
    by_chain (child a body c chain rest) l = refl

pub del_tree-none : (w dims : ℕ) (n : PlainNode) (p : List ℤ) → entries (del_node w n p) ≡ [] → del_tree w dims (Some n) p ≡ None
del_tree-none w dims n p h = by_chain (del_entries w n.level n.chain p) h
  where
    by_chain : (e : Entries) → listed e ≡ [] → ◌≡◌ {A = Option PlainNode} (root_of n.level e) None
    by_chain end h = refl
    by_chain (point a body v rest) h = cc
    by_chain (child a body c chain rest) h = cc

-- ---- the entries of a lawful node

-- a child of a lawful node
pub record IsLawfulChild (dims b : ℕ) (x : Entry) (m : PlainNode) : Type 0 where
  pub lower : m.level < b
  pub many : 2 ≤ length (entries m)
  pub lawful : IsLawfulFrom dims m.level 0 m.chain
  pub body : IsBody dims b x.body
  pub zeros : HasZerosFrom m.level x.body

pub lawful-child : (dims b least : ℕ) (e : Entries) (i : ℕ) (x : Entry) (m : PlainNode) →
    IsLawfulFrom dims b least e → slice_get (listed e) i ≡ Some x → x.what ≡ node m → IsLawfulChild dims b x m
lawful-child dims b least end i x m h g s = cc
lawful-child dims b least (point a body v rest) zero x m h g s =
    let q : ◌≡◌ {A = Entry} (record { addr = a; body = body; what = value v }) x = cc in
    let t : value v ≡ node m = ap (λ y. y.what) q ∙ s in
    cc
lawful-child dims b least (point a body v rest) (suc i) x m h g s = lawful-child dims b (a + 1) rest i x m h.3 g s
lawful-child dims b least (child a body c chain rest) zero x m h g s =
    let q : ◌≡◌ {A = Entry} (record { addr = a; body = body; what = node (record { level = c; chain = chain }) }) x = cc in
    let t : node (record { level = c; chain = chain }) ≡ node m = ap (λ y. y.what) q ∙ s in
    let r : ◌≡◌ {A = PlainNode} (record { level = c; chain = chain }) m = cc in
    let k : IsLawfulChild dims b (record { addr = a; body = body; what = node (record { level = c; chain = chain }) })
    (record { level = c; chain = chain }) =
    record { lower = h.3; many = omega (arith, h.5, length-count chain); lawful = h.6; body = h.2; zeros = h.4 } in
    subst (λ y. IsLawfulChild dims b y m) q (subst (IsLawfulChild dims b (record { addr = a; body = body; what = node (record { level = c; chain = chain }) })) r k)
lawful-child dims b least (child a body c chain rest) (suc i) x m h g s = lawful-child dims b (a + 1) rest i x m h.7 g s
