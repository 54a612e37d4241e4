-- A child in its place among the children.
use Rattle.std.proofs.Common.{◌≡◌, ℕ, zero, suc, ◌+◌, ◌<◌, List, [], ◌∷◌, ◌++◌, length, map, refl, ap, sym, ◌∙◌, arith, get_or, slice_set, length-set}
use Rattle.std.specs.Prelude.{None}
use Rattle.ph_model.specs.EntryEdits.{what_at, with_what}
use Rattle.ph_specs.specs.Node.{PlainNode, Flat}
use Rattle.ph_model.specs.EntryList.{Entry, What, value, node, entries}
use Rattle.ph_node.specs.OneEdit.{value_of, ones_of, held_nodes, nodes_held, flat_of, flats_of, before}
use Rattle.ph_node.specs.Children.{nodes_of}
use Rattle.ph_node.specs.Split.{IsNode}
use Rattle.ph_node.specs.declared.node.ChildOf.{ChildOf}
use Rattle.ph_node.proofs.Keeps.{still-what}
use Rattle.ph_node.proofs.Lists.{Renewed}
use Rattle.ph_node.proofs.OldNodes.{IsOld}

-- ---- one entry

flat-node : (e : Entry) (w : PlainNode) → IsNode e.what → flat_of e ≡ record { addr = e.addr; body = e.body; value = None }
flat-node e w n = ap {B = Flat} (λ o. record { addr = e.addr; body = e.body; value = o }) (none e.what n)
  where
    none : (w : What) → IsNode w → value_of w ≡ None
    none (value v) n = absurd n
    none (node m) n = refl

set-front : (w : What) (ns : List PlainNode) (k : ℕ) (x : PlainNode) → held_nodes w ++ slice_set ns k x ≡ slice_set (held_nodes w ++ ns) (ones_of w + k) x
set-front (value v) ns k x = ap (λ j. slice_set ns j x) (omega arith)
set-front (node n) ns k x =
    let e : 1 + k ≡ suc k = omega arith in
    sym (ap (λ j. slice_set (n ∷ ns) j x) e)

get-front : (w : What) (ns : List PlainNode) (k : ℕ) (x : PlainNode) → get_or (held_nodes w ++ ns) (ones_of w + k) x ≡ get_or ns k x
get-front (value v) ns k x = ap (λ j. get_or ns j x) (omega arith)
get-front (node n) ns k x =
    let e : 1 + k ≡ suc k = omega arith in
    ap (λ j. get_or (n ∷ ns) j x) e

set-here : (w : What) (ns : List PlainNode) (x : PlainNode) → IsNode w → x ∷ ns ≡ slice_set (held_nodes w ++ ns) 0 x
set-here (value v) ns x n = absurd n
set-here (node m) ns x n = refl

get-here : (w : What) (ns : List PlainNode) (x : PlainNode) → IsNode w → x ≡ get_or (held_nodes w ++ ns) 0 x → node x ≡ w
get-here (value v) ns x n e = absurd n
get-here (node m) ns x n e = ap node e

some-here : (w : What) (ns : List PlainNode) → IsNode w → 0 < length (held_nodes w ++ ns)
some-here (value v) ns n = absurd n
some-here (node m) ns n = omega arith

some-front : (w : What) (ns : List PlainNode) (k : ℕ) → k < length ns → ones_of w + k < length (held_nodes w ++ ns)
some-front (value v) ns k l = omega (arith, l)
some-front (node n) ns k l = omega (arith, l)

-- ---- among all

pub flats-lent : (es : List Entry) (i : ℕ) (x : PlainNode) → IsNode (what_at es i) → map flat_of es ≡ map flat_of (with_what es i (node x))
flats-lent [] i x n = refl
flats-lent (e ∷ es) zero x n = ap {B = List Flat} (λ f. f ∷ map flat_of es) (flat-node e x n)
flats-lent (e ∷ es) (suc i) x n = ap {B = List Flat} (λ u. flat_of e ∷ u) (flats-lent es i x n)

nodes-lent : (es : List Entry) (i : ℕ) (x : PlainNode) → IsNode (what_at es i) → nodes_held (with_what es i (node x)) ≡ slice_set (nodes_held es) (before es i) x
nodes-lent [] i x n = absurd n
nodes-lent (e ∷ es) zero x n = set-here e.what (nodes_held es) x n
nodes-lent (e ∷ es) (suc i) x n = ap (λ u. held_nodes e.what ++ u) (nodes-lent es i x n) ∙ set-front e.what (nodes_held es) (before es i) x

pub lent-is : (es : List Entry) (i : ℕ) (x : PlainNode) → IsNode (what_at es i) → x ≡ get_or (nodes_held es) (before es i) x → node x ≡ what_at es i
lent-is [] i x n e = absurd n
lent-is (e ∷ es) zero x n h = get-here e.what (nodes_held es) x n h
lent-is (e ∷ es) (suc i) x n h = lent-is es i x n (h ∙ get-front e.what (nodes_held es) (before es i) x)

pub lent-below : (es : List Entry) (i : ℕ) → IsNode (what_at es i) → before es i < length (nodes_held es)
lent-below [] i n = absurd n
lent-below (e ∷ es) zero n = some-here e.what (nodes_held es) n
lent-below (e ∷ es) (suc i) n = some-front e.what (nodes_held es) (before es i) (lent-below es i n)

pub length-what : (es : List Entry) (i : ℕ) (w : What) → length (with_what es i w) ≡ length es
length-what [] i w = refl
length-what (e ∷ es) zero w = refl
length-what (e ∷ es) (suc i) w = ap suc (length-what es i w)

nodes-set : {P : Type 0} (ss : List (ChildOf P)) (k : ℕ) (w : ChildOf P) → nodes_of (slice_set ss k w) ≡ slice_set (nodes_of ss) k w.node
nodes-set [] zero w = refl
nodes-set [] (suc k) w = refl
nodes-set (s ∷ ss) zero w = refl
nodes-set (s ∷ ss) (suc k) w = ap (λ ts. s.node ∷ ts) (nodes-set ss k w)

pub lent : {P : Type 0} (d : ℕ) (ws : List ℕ) (ss : List (ChildOf P)) (t : PlainNode) (o : IsOld d ws (nodes_of ss) t)
    (i k : ℕ) (w : ChildOf P) → i < length (entries t) → IsNode (what_at (entries t) i) → k ≡ before (entries t) i
    → Renewed d t.level (flats_of t) (nodes_of (slice_set ss k w)) (with_what (entries t) i (node w.node))
lent d ws ss t o i k w l n q =
    let e : nodes_of (slice_set ss k w) ≡ slice_set (nodes_of ss) k w.node = nodes-set ss k w in
    record {
      flats = flats-lent (entries t) i w.node n;
      nodes = nodes-lent (entries t) i w.node n ∙ ap (λ u. slice_set u (before (entries t) i) w.node) o.nodes ∙
          ap (λ j. slice_set (nodes_of ss) j w.node) (sym q) ∙ sym e;
      kept = still-what d t.level (entries t) i (node w.node) o.kept;
      some = omega (arith, l, length-what (entries t) i (node w.node));
      bottom = λ z. omega (arith, o.bottom z, ap (λ (u : List PlainNode). length u) e, length-set (nodes_of ss) k w.node);
    }
