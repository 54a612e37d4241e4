-- A node with another body and other contents in one entry.
use Rattle.std.proofs.Common.{◌≡◌, ℕ, zero, suc, ◌+◌, ◌<◌, ◌≤◌, List, [], ◌∷◌, ◌++◌, take, drop, length, map, refl, ap, sym, ◌∙◌, subst, arith}
use Rattle.ph_model.specs.EntryEdits.{what_at, other_what, with_content, split_at, merged, inserted}
use Rattle.ph_model.specs.Lawful.{IsBody}
use Rattle.ph_specs.specs.Node.{PlainNode, Flat}
use Rattle.ph_model.specs.EntryList.{Entry, What, value, node, entries, node_of}
use Rattle.ph_bits.specs.Edits.{edited}
use Rattle.ph_node.specs.Kept.{AreKept}
use Rattle.ph_node.specs.Merge.{addr_at}
use Rattle.ph_node.specs.OneEdit.{value_of, ones_of, held_nodes, nodes_held, flat_of, flats_of, before}
use Rattle.ph_node.proofs.Lists.{Renewed, front-nodes}
use Rattle.ph_node.proofs.OldNodes.{IsOld}

-- ---- a split and a merge are changes of contents

pub split-content : (es : List Entry) (i level : ℕ) (shared : List ℕ) (a : ℕ) (body : List ℕ) (new : Entry)
    → split_at es i level shared a body new ≡ with_content es i shared (node (node_of level (inserted new (record { addr = a; body = body; what = what_at es i } ∷ []))))
split-content [] i level shared a body new = refl
split-content (x ∷ xs) zero level shared a body new = refl
split-content (x ∷ xs) (suc i) level shared a body new = ap {B = List Entry} (λ t. x ∷ t) (split-content xs i level shared a body new)

pub merged-content : (es : List Entry) (i j : ℕ) (body : List ℕ) → merged es i j body ≡ with_content es i body (other_what (what_at es i) j)
merged-content [] i j body = refl
merged-content (x ∷ xs) zero j body = refl
merged-content (x ∷ xs) (suc i) j body = ap {B = List Entry} (λ t. x ∷ t) (merged-content xs i j body)

-- ---- as a record keeps it, and its children

flats-content : (es : List Entry) (i : ℕ) (body : List ℕ) (w : What) → i < length es →
    edited i 1 1 (record { addr = addr_at es i; body = body; value = value_of w }) (map flat_of es) ≡
    map flat_of (with_content es i body w)
flats-content [] i body w l = absurd (omega (arith, l))
flats-content (e ∷ es) zero body w l = refl
flats-content (e ∷ es) (suc i) body w l = ap {B = List Flat} (λ u. flat_of e ∷ u) (flats-content es i body w (omega (arith, l)))

-- the node, if it is one
abbrev pub node_in : What → PlainNode
node_in (value v) = node_of 0 []
node_in (node n) = n

edit-here : (o w : What) (ns : List PlainNode) → held_nodes w ++ ns ≡ edited 0 (ones_of o) (ones_of w) (node_in w) (held_nodes o ++ ns)
edit-here (value u) (value v) ns = refl
edit-here (value u) (node n) ns = refl
edit-here (node m) (value v) ns = refl
edit-here (node m) (node n) ns = refl

edit-front : (o : What) (k less more : ℕ) (x : PlainNode) (ns : List PlainNode) →
    held_nodes o ++ edited k less more x ns ≡ edited (ones_of o + k) less more x (held_nodes o ++ ns)
edit-front (value v) k less more x ns = ap (λ j. edited j less more x ns) (omega arith)
edit-front (node n) k less more x ns =
    let e : suc k ≡ 1 + k = omega arith in
    ap (λ j. edited j less more x (n ∷ ns)) e

nodes-content : (es : List Entry) (i : ℕ) (body : List ℕ) (w : What) → i < length es →
    nodes_held (with_content es i body w) ≡ edited (before es i) (ones_of (what_at es i)) (ones_of w) (node_in w) (nodes_held es)
nodes-content [] i body w l = absurd (omega (arith, l))
nodes-content (e ∷ es) zero body w l = edit-here e.what w (nodes_held es)
nodes-content (e ∷ es) (suc i) body w l =
    ap (λ u. held_nodes e.what ++ u) (nodes-content es i body w (omega (arith, l))) ∙ edit-front e.what (before es i)
    (ones_of (what_at es i)) (ones_of w) (node_in w) (nodes_held es)

length-content : (es : List Entry) (i : ℕ) (body : List ℕ) (w : What) → length (with_content es i body w) ≡ length es
length-content [] i body w = refl
length-content (e ∷ es) zero body w = refl
length-content (e ∷ es) (suc i) body w = ap suc (length-content es i body w)

kept-content : (d level least : ℕ) (es : List Entry) (i : ℕ) (body : List ℕ) (w : What) → IsBody d level body →
    AreKept d level least es → AreKept d level least (with_content es i body w)
kept-content d level least [] i body w b k = k
kept-content d level least (e ∷ es) zero body w b k = (k.0, k.1, b, k.3)
kept-content d level least (e ∷ es) (suc i) body w b k = (k.0, k.1, k.2, kept-content d level (e.addr + 1) es i body w b k.3)

-- the children in front of an entry, and its own
pub front-fits : (es : List Entry) (i : ℕ) → i < length es → before es i + ones_of (what_at es i) ≤ length (nodes_held es)
front-fits [] i l = absurd (omega (arith, l))
front-fits (e ∷ es) zero l = omega (arith, front-nodes e.what (nodes_held es))
front-fits (e ∷ es) (suc i) l = omega (arith, front-nodes e.what (nodes_held es), front-fits es i (omega (arith, l)))

pub own-nodes : (es : List Entry) (i : ℕ) → take (ones_of (what_at es i)) (drop (before es i) (nodes_held es)) ≡ held_nodes (what_at es i)
own-nodes [] i = refl
own-nodes (e ∷ es) zero = own e.what (nodes_held es)
  where
    own : (w : What) (ns : List PlainNode) → take (ones_of w) (drop 0 (held_nodes w ++ ns)) ≡ held_nodes w
    own (value v) ns = refl
    own (node n) ns = refl
own-nodes (e ∷ es) (suc i) = past e.what (nodes_held es) (ones_of (what_at es i)) (before es i) ∙ own-nodes es i
  where
    past : (w : What) (ns : List PlainNode) (n k : ℕ) → take n (drop (ones_of w + k) (held_nodes w ++ ns)) ≡ take n (drop k ns)
    past (value v) ns n k = ap (λ j. take n (drop j ns)) (omega arith)
    past (node m) ns n k =
        let e : 1 + k ≡ suc k = omega arith in
        ap (λ j. take n (drop j (m ∷ ns))) e

module _ (d : ℕ) (ws : List ℕ) (ns : List PlainNode) (t : PlainNode) (o : IsOld d ws ns t) (i : ℕ) (l : i < length (entries t)) where
  pub front_fits : before (entries t) i + ones_of (what_at (entries t) i) ≤ length ns
  front_fits = subst (λ (u : List PlainNode). before (entries t) i + ones_of (what_at (entries t) i) ≤ length u) o.nodes (front-fits (entries t) i l)

  pub own_nodes : take (ones_of (what_at (entries t) i)) (drop (before (entries t) i) ns) ≡ held_nodes (what_at (entries t) i)
  own_nodes = ap (λ u. take (ones_of (what_at (entries t) i)) (drop (before (entries t) i) u)) (sym o.nodes) ∙ own-nodes (entries t) i

  pub changed : (body : List ℕ) (w : What) → IsBody d t.level body → 1 ≤ t.level
      → Renewed d t.level (edited i 1 1 (record { addr = addr_at (entries t) i; body = body; value = value_of w })
      (flats_of t)) (edited (before (entries t) i) (ones_of (what_at (entries t) i)) (ones_of w) (node_in w) ns)
      (with_content (entries t) i body w)
  changed body w b low = record {
    flats = flats-content (entries t) i body w l;
    nodes = nodes-content (entries t) i body w l ∙ ap (λ u. edited (before (entries t) i) (ones_of (what_at (entries t) i)) (ones_of w) (node_in w) u) o.nodes;
    kept = record { some = o.kept.some; few = o.kept.few; low = o.kept.low; rise = kept-content d t.level 0 (entries t) i body w b o.kept.rise };
    some = omega (arith, l, length-content (entries t) i body w);
    bottom = λ z. absurd (omega (arith, z, low));
  }
