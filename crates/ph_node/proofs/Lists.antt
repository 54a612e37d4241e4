-- What a record keeps of the entries of a node, and their children.
use Rattle.std.proofs.Common.{◌≡◌, ℕ, ◌+◌, ◌≤◌, List, [], ◌∷◌, ◌++◌, length, map, refl, ap, sym, ◌∙◌, subst, arith}
use Rattle.std.specs.Prelude.{Some, None}
use Rattle.std.proofs.lemmas.List.{length-map}
use Rattle.ph_model.specs.Layout.{AreRising}
use Rattle.ph_specs.specs.Node.{Entries, end, point, child, PlainNode, Flat, flat}
use Rattle.ph_model.specs.EntryList.{Entry, What, value, node, node_of, listed, chained}
use Rattle.ph_specs.specs.Pack.{children, values, record_of}
use Rattle.ph_specs.specs.Record.{unpacked}
use Rattle.ph_model.proofs.laws.EntryLists.{listed-chained}
use Rattle.ph_model.proofs.laws.Unpacked.{child_nodes}
use Rattle.ph_node.specs.Kept.{AreKept, IsKept}
use Rattle.ph_node.specs.OneEdit.{value_of, ones_of, held_nodes, nodes_held, flat_of}
use Rattle.ph_node.specs.Recorded.{IsRecorded}
use Rattle.ph_node.proofs.RecordNodes.{kept-pack, again}

pub flat-map : (c : Entries) → flat c ≡ map flat_of (listed c)
flat-map end = refl
flat-map (point a b v rest) = ap {B = List Flat} (λ u. record { addr = a; body = b; value = Some v } ∷ u) (flat-map rest)
flat-map (child a b l k rest) = ap {B = List Flat} (λ u. record { addr = a; body = b; value = None } ∷ u) (flat-map rest)

pub nodes-held : (c : Entries) → child_nodes c ≡ nodes_held (listed c)
nodes-held end = refl
nodes-held (point a b v rest) = nodes-held rest
nodes-held (child a b l k rest) = ap {B = List PlainNode} (λ u. record { level = l; chain = k } ∷ u) (nodes-held rest)

pub flat-chained : (es : List Entry) → flat (chained es) ≡ map flat_of es
flat-chained es = flat-map (chained es) ∙ ap (λ u. map flat_of u) (listed-chained es)

pub nodes-chained : (es : List Entry) → child_nodes (chained es) ≡ nodes_held es
nodes-chained es = nodes-held (chained es) ∙ ap nodes_held (listed-chained es)

-- ---- counts

value-or-node : (w : What) (fs : List Flat) (a : ℕ) (b : List ℕ) (ns : List PlainNode)
    → length (values (record { addr = a; body = b; value = value_of w } ∷ fs)) + length (held_nodes w ++ ns) ≡ length (values fs) + length ns + 1
value-or-node (value v) fs a b ns = omega arith
value-or-node (node n) fs a b ns = omega arith

pub values-nodes : (es : List Entry) → length (values (map flat_of es)) + length (nodes_held es) ≡ length es
values-nodes [] = refl
values-nodes (e ∷ es) = omega (arith, value-or-node e.what (map flat_of es) e.addr e.body (nodes_held es), values-nodes es)

child-or-none : (w : What) (fs : List Flat) (a : ℕ) (b : List ℕ) (ns : List PlainNode)
    → children fs ≡ length ns → children (record { addr = a; body = b; value = value_of w } ∷ fs) ≡ length (held_nodes w ++ ns)
child-or-none (value v) fs a b ns h = omega (arith, h)
child-or-none (node n) fs a b ns h = omega (arith, h)

pub held-length : (w : What) → length (held_nodes w) ≡ ones_of w
held-length (value v) = refl
held-length (node n) = refl

children-nodes : (es : List Entry) → children (map flat_of es) ≡ length (nodes_held es)
children-nodes [] = refl
children-nodes (e ∷ es) = child-or-none e.what (map flat_of es) e.addr e.body (nodes_held es) (children-nodes es)

pub front-nodes : (w : What) (ns : List PlainNode) → length (held_nodes w ++ ns) ≡ ones_of w + length ns
front-nodes (value v) ns = omega arith
front-nodes (node n) ns = omega arith

-- ---- a new node

pub rising : (dims level least : ℕ) (es : List Entry) → AreKept dims level least es → AreRising dims level least (map flat_of es)
rising dims level least [] k = tt
rising dims level least (e ∷ es) k = (k.0, k.1, k.2, rising dims level (e.addr + 1) es k.3)

-- entries as a record has them and children, which are those of a node
pub record Renewed (d level : ℕ) (fs : List Flat) (ns : List PlainNode) (es : List Entry) : Type 0 where
  pub flats : fs ≡ map flat_of es
  pub nodes : nodes_held es ≡ ns
  pub kept : IsKept d level es
  pub some : 1 ≤ length es
  pub bottom : level ≡ 0 → length ns ≡ 0

module _ (d level : ℕ) (fs : List Flat) (ns : List PlainNode) (es : List Entry) (r : Renewed d level fs ns es) where
  pub rise_new : AreRising d level 0 fs
  rise_new = subst (AreRising d level 0) (sym r.flats) (rising d level 0 es r.kept.rise)

  pub long_new : length fs ≡ length es
  long_new = ap (λ (u : List Flat). length u) r.flats ∙ length-map es flat_of

  pub points_new : length (values fs) + length ns ≡ length fs
  points_new =
      let a : length (values fs) ≡ length (values (map flat_of es)) = ap (λ (u : List Flat). length (values u)) r.flats in
      let b : length (nodes_held es) ≡ length ns = ap (λ (u : List PlainNode). length u) r.nodes in
      omega (arith, a, b, long_new, values-nodes es)

  here : IsKept d level (listed (chained es))
  here = subst (IsKept d level) (sym (listed-chained es)) r.kept

  same : fs ≡ flat (chained es)
  same = r.flats ∙ sym (flat-chained es)

  same-nodes : child_nodes (chained es) ≡ ns
  same-nodes = nodes-chained es ∙ r.nodes

  least : 1 ≤ length (flat (chained es))
  least = subst (λ (u : List Flat). 1 ≤ length u) same (omega (arith, long_new, r.some))

  no-children : level ≡ 0 → children (flat (chained es)) ≡ 0
  no-children z =
      let a : children (flat (chained es)) ≡ length (nodes_held es) = ap children (flat-chained es) ∙ children-nodes es in
      omega (arith, a, ap (λ (u : List PlainNode). length u) r.nodes, r.bottom z)

  pub kept_new : (ws : List ℕ) → ws ≡ record_of d level fs → IsRecorded d ws ns
  kept_new ws e =
      subst (λ u. IsRecorded d u ns) (sym (e ∙ ap (λ u. record_of d level u) same))
      (subst (λ m. IsRecorded d (record_of d level (flat (chained es))) m) same-nodes (kept-pack d level (chained es) here least no-children))

  pub seen_new : (ws : List ℕ) → ws ≡ record_of d level fs → unpacked d ws ns ≡ node_of level es
  seen_new ws e =
      ap (λ u. unpacked d u ns) (e ∙ ap (λ u. record_of d level u) same)
      ∙ ap (λ m. unpacked d (record_of d level (flat (chained es))) m) (sym same-nodes)
      ∙ again d level (chained es) here least no-children
