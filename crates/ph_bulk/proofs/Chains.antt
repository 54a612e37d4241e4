-- Entries one behind the other: what a record keeps of them, their children, and how many nodes are below them.
use Rattle.std.proofs.Common.{◌≡◌, ℕ, zero, suc, ◌+◌, ◌<◌, ◌≤◌, List, [], ◌∷◌, ◌++◌, length, map, take, get_or, refl, sym, ◌∙◌, ap, arith}
use Rattle.std.specs.Prelude.{Option, Some, None, slice_get}
use Rattle.std.proofs.lemmas.List.{take_more, map-append, length-append}
use Rattle.std.proofs.lemmas.Option.{slice_get-map, slice_get-get_or}
use Rattle.ph_specs.specs.Node.{Entries, end, point, child, Flat, PlainNode, flat}
use Rattle.ph_model.specs.EntryList.{Entry, What, value, node, chained, in_front}
use Rattle.ph_model.specs.NodeSize.{node_size, nodes_in}
use Rattle.ph_specs.specs.Pack.{children}
use Rattle.ph_specs.specs.TreeRows.{count}
use Rattle.ph_model.specs.Lawful.{IsLawfulFrom, IsLawfulEntry}
use Rattle.ph_model.proofs.laws.Unpacked.{child_nodes}
use Rattle.ph_model.proofs.laws.EntryLists.{listed-chained, entry-lawful}
use Rattle.ph_bulk.specs.Parts.{flat_entry, what_value}

-- ---- what a record keeps

flat-front : (a : ℕ) (b : List ℕ) (w : What) (rest : Entries) → flat (in_front a b w rest) ≡ record { addr = a; body = b; value = what_value w } ∷ flat rest
flat-front a b (value v) rest = refl
flat-front a b (node n) rest = refl

pub flat-chained : (es : List Entry) → flat (chained es) ≡ map flat_entry es
flat-chained [] = refl
flat-chained (e ∷ es) =
    flat-front e.addr e.body e.what (chained es) ∙ ap {B = List Flat} (λ t. flat_entry e ∷ t) (flat-chained es)

pub flat-count : (c : Entries) → length (flat c) ≡ count c
flat-count end = refl
flat-count (point a b v rest) = ap suc (flat-count rest)
flat-count (child a b below chain rest) = ap suc (flat-count rest)

-- ---- children

abbrev pub held : What → List PlainNode
held (value v) = []
held (node n) = n ∷ []

abbrev pub what_size : What → ℕ
what_size (value v) = 0
what_size (node n) = node_size n

nodes-front : (a : ℕ) (b : List ℕ) (w : What) (rest : Entries) → child_nodes (in_front a b w rest) ≡ held w ++ child_nodes rest
nodes-front a b (value v) rest = refl
nodes-front a b (node n) rest = refl

size-front : (a : ℕ) (b : List ℕ) (w : What) (rest : Entries) → nodes_in (in_front a b w rest) ≡ what_size w + nodes_in rest
size-front a b (value v) rest = omega arith
size-front a b (node n) rest = omega arith

append-parts : {X : Type 0} (xs ys zs : List X) → xs ++ (ys ++ zs) ≡ (xs ++ ys) ++ zs
append-parts [] ys zs = refl
append-parts {X} (x ∷ xs) ys zs = ap {B = List X} (λ t. x ∷ t) (append-parts xs ys zs)

pub append-none : {X : Type 0} (xs : List X) → xs ++ [] ≡ xs
append-none [] = refl
append-none {X} (x ∷ xs) = ap {B = List X} (λ t. x ∷ t) (append-none xs)

pub nodes-chained-more : (es : List Entry) (e : Entry) → child_nodes (chained (es ++ e ∷ [])) ≡ child_nodes (chained es) ++ held e.what
nodes-chained-more [] e = nodes-front e.addr e.body e.what end ∙ append-none (held e.what)
nodes-chained-more (x ∷ es) e =
    nodes-front x.addr x.body x.what (chained (es ++ e ∷ [])) ∙ ap (λ t. held x.what ++ t) (nodes-chained-more es e)
    ∙ append-parts (held x.what) (child_nodes (chained es)) (held e.what)
    ∙ ap (λ t. t ++ held e.what) (sym (nodes-front x.addr x.body x.what (chained es)))

pub size-chained : (es fs : List Entry) → nodes_in (chained (es ++ fs)) ≡ nodes_in (chained es) + nodes_in (chained fs)
size-chained [] fs = omega arith
size-chained (e ∷ es) fs =
    omega (arith, size-front e.addr e.body e.what (chained (es ++ fs)), size-front e.addr e.body e.what (chained es), size-chained es fs)

pub size-one : (e : Entry) → nodes_in (chained (e ∷ [])) ≡ what_size e.what
size-one e = omega (arith, size-front e.addr e.body e.what end)

-- ---- the first so many of some entries

held-front : (a : ℕ) (b : List ℕ) (w : What) (rest : Entries) → length (child_nodes (in_front a b w rest)) ≡ length (held w) + length (child_nodes rest)
held-front a b (value v) rest = omega arith
held-front a b (node n) rest = omega arith

-- a number to which each entry adds is no greater for the first of some entries
part-least : {X : Type 0} (all : Entries → ℕ) (one : What → ℕ) → all end ≡ 0 →
    ((a : ℕ) (b : List ℕ) (w : What) (rest : Entries) → all (in_front a b w rest) ≡ one w + all rest) →
    (f : X → Entry) (xs : List X) (i : ℕ) → all (chained (map f (take i xs))) ≤ all (chained (map f xs))
part-least all one none front f xs zero = omega (arith, none)
part-least all one none front f [] (suc i) = omega arith
part-least all one none front f (x ∷ xs) (suc i) =
    omega (
      arith,
      front (f x).addr (f x).body (f x).what (chained (map f (take i xs))),
      front (f x).addr (f x).body (f x).what (chained (map f xs)),
      part-least all one none front f xs i,
    )

children-part : {X : Type 0} (f : X → Entry) (xs : List X) (i : ℕ) → length (child_nodes (chained (map f (take i xs)))) ≤ length (child_nodes (chained (map f xs)))
children-part f xs i = part-least (λ c. length (child_nodes c)) (λ w. length (held w)) refl held-front f xs i

module _ {X : Type 0} (f : X → Entry) (xs : List X) (i : ℕ) (x : X) (l : i < length xs) (e : x ≡ get_or xs i x) where
  one-more : map f (take (i + 1) xs) ≡ map f (take i xs) ++ f x ∷ []
  one-more =
      ap (map f) (take_more xs i x l) ∙ map-append f (take i xs) (get_or xs i x ∷ []) ∙ ap {B = List Entry} (λ t. map f (take i xs) ++ f t ∷ []) (sym e)

  pub nodes-more : child_nodes (chained (map f (take (i + 1) xs))) ≡ child_nodes (chained (map f (take i xs))) ++ held (f x).what
  nodes-more = ap (λ t. child_nodes (chained t)) one-more ∙ nodes-chained-more (map f (take i xs)) (f x)

  pub size-more : nodes_in (chained (map f (take (i + 1) xs))) ≡ nodes_in (chained (map f (take i xs))) + what_size (f x).what
  size-more =
      ap (λ t. nodes_in (chained t)) one-more ∙ size-chained (map f (take i xs)) (f x ∷ []) ∙ ap (λ n. nodes_in (chained (map f (take i xs))) + n) (size-one (f x))

  -- all children are one more, at least, than those in front of one
  pub children-more : (n : PlainNode) → held (f x).what ≡ n ∷ [] → length (child_nodes (chained (map f (take i xs)))) + 1 ≤ length (child_nodes (chained (map f xs)))
  children-more n h =
      let ns : List PlainNode = child_nodes (chained (map f (take i xs))) in
      let one : length (held (f x).what) ≡ 1 = ap (λ (t : List PlainNode). length t) h in
      omega (arith, ap (λ (t : List PlainNode). length t) nodes-more, length-append ns (held (f x).what), one, children-part f xs (i + 1))

  -- an entry of lawful entries is lawful
  pub entry-at : (dims level least : ℕ) → IsLawfulFrom dims level least (chained (map f xs)) → IsLawfulEntry dims level (f x)
  entry-at dims level least h =
      entry-lawful dims level least i (chained (map f xs)) (f x) h
      (ap (λ t. slice_get t i) (listed-chained (map f xs)) ∙ slice_get-map f xs i ∙
      ap (λ o. option_over f o) (slice_get-get_or xs i x l ∙ ap {B = Option X} Some (sym e)))
    where
      option_over : (X → Entry) → Option X → Option Entry
      option_over g None = None
      option_over g (Some y) = Some (g y)

pub size-part : {X : Type 0} (f : X → Entry) (xs : List X) (i : ℕ) → nodes_in (chained (map f (take i xs))) ≤ nodes_in (chained (map f xs))
size-part f xs i = part-least nodes_in what_size refl size-front f xs i

-- ---- counts

pub nodes-children : (c : Entries) → length (child_nodes c) ≡ children (flat c)
nodes-children end = refl
nodes-children (point a b v rest) = omega (arith, nodes-children rest)
nodes-children (child a b below chain rest) = omega (arith, nodes-children rest)

-- a node at level 0 has no children
pub none-below : (dims level least : ℕ) (c : Entries) → IsLawfulFrom dims level least c → level ≡ 0 → children (flat c) ≡ 0
none-below dims level least end h z = refl
none-below dims level least (point a b v rest) h z = omega (arith, none-below dims level (a + 1) rest h.3 z)
none-below dims level least (child a b below chain rest) h z = absurd (let no : ⊥ = omega (arith, h.3, z) in no)
