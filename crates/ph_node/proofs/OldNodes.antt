-- What is known of a node by its words and its children.
use Rattle.std.proofs.Common.{◌≡◌, ℕ, zero, suc, ◌+◌, ◌-◌, ◌<◌, ◌≤◌, List, [], ◌∷◌, length, map, take, refl, ap}
use Rattle.std.proofs.Common.{sym, ◌∙◌, subst, arith, Bool, true, false, slice_index_or, get_or}
use Rattle.std.specs.Prelude.{Some, None, slice_get, if◌then◌else◌}
use Rattle.std.proofs.lemmas.List.{length-drop}
use Rattle.ph_specs.specs.Digits.{words_for}
use Rattle.ph_model.specs.EntryEdits.{what_at}
use Rattle.ph_model.specs.Layout.{is_child}
use Rattle.ph_specs.specs.Node.{PlainNode, Flat}
use Rattle.ph_model.specs.EntryList.{What, value, node, node_of, listed, entries}
use Rattle.ph_model.specs.NodeSize.{children_in, points_in}
use Rattle.ph_specs.specs.Pack.{values, record_of, pack}
use Rattle.ph_specs.specs.Record.{Read, read_point, read_child, filled, unpacked, entries_in, values_in, first_in, table_digits}
use Rattle.ph_model.proofs.laws.Unpacked.{child_nodes}
use Rattle.ph_bits.specs.Edits.{flats, flats_in}
use Rattle.ph_bits.specs.Packed.{rank_at}
use Rattle.ph_node.specs.Kept.{IsKept}
use Rattle.ph_node.specs.OneEdit.{value_of, ones_of, nodes_held, flat_of, flats_of, before}
use Rattle.ph_node.specs.Recorded.{IsRecorded, IsSource}
use Rattle.ph_node.specs.Split.{IsNode}
use Rattle.ph_node.proofs.Listings.{many, length_is}
use Rattle.ph_node.proofs.Lists.{values-nodes, flat-map, nodes-held}
use Rattle.ph_node.proofs.Reading.{point-told, child-told}

-- ---- by what was read of its record

flats-filled : (es : List Read) (vs : List ℕ) (ns : List PlainNode) → children_in es ≡ length ns →
    points_in es ≡ length vs → flats es vs ≡ map flat_of (listed (filled es vs ns))
flats-filled [] vs ns h k = refl
flats-filled (read_point a b ∷ es) [] ns h k = absurd (omega (arith, k))
flats-filled (read_point a b ∷ es) (v ∷ vs) ns h k =
    ap {B = List Flat} (λ t. record { addr = a; body = b; value = Some v } ∷ t) (flats-filled es vs ns h (omega (arith, k)))
flats-filled (read_child a b ∷ es) vs [] h k = absurd (omega (arith, h))
flats-filled (read_child a b ∷ es) vs (n ∷ ns) h k =
    ap {B = List Flat} (λ t. record { addr = a; body = b; value = None } ∷ t) (flats-filled es vs ns (omega (arith, h)) k)

nodes-filled : (es : List Read) (vs : List ℕ) (ns : List PlainNode) → children_in es ≡ length ns → points_in es ≡ length vs → nodes_held (listed (filled es vs ns)) ≡ ns
nodes-filled [] vs [] h k = refl
nodes-filled [] vs (n ∷ ns) h k = absurd (omega (arith, h))
nodes-filled (read_point a b ∷ es) [] ns h k = absurd (omega (arith, k))
nodes-filled (read_point a b ∷ es) (v ∷ vs) ns h k = nodes-filled es vs ns h (omega (arith, k))
nodes-filled (read_child a b ∷ es) vs [] h k = absurd (omega (arith, h))
nodes-filled (read_child a b ∷ es) vs (n ∷ ns) h k = ap {B = List PlainNode} (λ t. n ∷ t) (nodes-filled es vs ns (omega (arith, h)) k)

both-in : (es : List Read) → children_in es + points_in es ≡ length es
both-in [] = refl
both-in (read_point a b ∷ es) = omega (arith, both-in es)
both-in (read_child a b ∷ es) = omega (arith, both-in es)

before-filled : (es : List Read) (vs : List ℕ) (ns : List PlainNode) (i : ℕ) → children_in es ≡ length ns →
    points_in es ≡ length vs → before (listed (filled es vs ns)) i ≡ children_in (take i es)
before-filled [] vs ns zero h k = refl
before-filled [] vs ns (suc i) h k = refl
before-filled (read_point a b ∷ es) [] ns i h k = absurd (omega (arith, k))
before-filled (read_point a b ∷ es) (v ∷ vs) ns zero h k = refl
before-filled (read_point a b ∷ es) (v ∷ vs) ns (suc i) h k = omega (arith, before-filled es vs ns i h (omega (arith, k)))
before-filled (read_child a b ∷ es) vs [] i h k = absurd (omega (arith, h))
before-filled (read_child a b ∷ es) vs (n ∷ ns) zero h k = refl
before-filled (read_child a b ∷ es) vs (n ∷ ns) (suc i) h k = omega (arith, before-filled es vs ns i (omega (arith, h)) k)

both-before : (es : List Read) (i : ℕ) → i ≤ length es → children_in (take i es) + points_in (take i es) ≡ i
both-before es zero l = refl
both-before [] (suc i) l = absurd (omega (arith, l))
both-before (read_point a b ∷ es) (suc i) l = omega (arith, both-before es i (omega (arith, l)))
both-before (read_child a b ∷ es) (suc i) l = omega (arith, both-before es i (omega (arith, l)))

points-before : (rs : List Read) (vs : List ℕ) (i : ℕ) → points_in rs ≡ length vs → points_in (take i rs) ≡ length (values (take i (flats rs vs)))
points-before [] vs zero h = refl
points-before [] vs (suc i) h = refl
points-before (r ∷ rs) vs zero h = zero-of (flats (r ∷ rs) vs)
  where
    zero-of : (fs : List Flat) → 0 ≡ length (values (take 0 fs))
    zero-of fs = refl
points-before (read_point a b ∷ rs) [] (suc i) h = absurd (omega (arith, h))
points-before (read_point a b ∷ rs) (v ∷ vs) (suc i) h = ap suc (points-before rs vs i (omega (arith, h)))
points-before (read_child a b ∷ rs) vs (suc i) h = points-before rs vs i h

get-again : {A : Type 0} (xs : List A) (k : ℕ) (x : A) → k < length xs → get_or xs k x ≡ get_or xs k (get_or xs k x)
get-again [] k x l = absurd (omega (arith, l))
get-again (y ∷ ys) zero x l = refl
get-again (y ∷ ys) (suc k) x l = get-again ys k x (omega (arith, l))

-- ---- the node

pub record IsOld (d : ℕ) (ws : List ℕ) (ns : List PlainNode) (t : PlainNode) : Type 0 where
  pub source : IsSource d ws
  pub level : (first_in ws).level ≡ t.level
  pub count : (first_in ws).entries ≡ length (entries t)
  pub flats : flats_in d ws ≡ flats_of t
  pub nodes : nodes_held (entries t) ≡ ns
  pub kept : IsKept d t.level (entries t)
  pub bottom : t.level ≡ 0 → length ns ≡ 0
  pub words : ws ≡ record_of d t.level (flats_of t)
  pub points : length (values (flats_of t)) + length ns ≡ length (entries t)

module _ (d : ℕ) (ws : List ℕ) (ns : List PlainNode) (t : PlainNode) (is : unpacked d ws ns ≡ t) (kept : IsRecorded d ws ns) where
  whole : (children_in (entries_in d ws) ≡ length ns) × (points_in (entries_in d ws) ≡ length (values_in d ws))
  whole = kept.packed.whole

  nodes-are : nodes_held (entries t) ≡ ns
  nodes-are = ap (λ (u : PlainNode). nodes_held (entries u)) (sym is) ∙ nodes-filled (entries_in d ws) (values_in d ws) ns whole.0 whole.1

  pub children-are : length ns ≡ (first_in ws).children
  children-are =
      let r = kept.laid.tables in
      omega (arith, whole.0, whole.1, both-in (entries_in d ws), many d ws r, long, r.kids)
    where
      long : length (values_in d ws) ≡ (first_in ws).entries - (first_in ws).children
      long = omega (arith, length-drop (1 + words_for (table_digits d (first_in ws))) ws, kept.laid.tables.long)

  level-is : (first_in ws).level ≡ t.level
  level-is = ap (λ u. u.level) is

  flats-are : flats_in d ws ≡ flats_of t
  flats-are = flats-filled (entries_in d ws) (values_in d ws) ns whole.0 whole.1 ∙ ap flats_of is

  pub old : IsOld d ws ns t
  old = record {
    source = record { laid = kept.laid; points = whole.1 };
    level = level-is;
    count = sym (many d ws kept.laid.tables) ∙ sym (length_is d ws ns t is kept);
    flats = flats-are;
    nodes = nodes-are;
    kept = subst (λ u. IsKept d u.level (entries u)) is kept.node;
    bottom = λ z. omega (arith, children-are, kept.laid.tables.bottom (level-is ∙ z));
    words = kept.packed.packed ∙ ap (λ (u : PlainNode). pack d u) is ∙ ap (λ u. record_of d t.level u) (flat-map t.chain);
    points = omega (arith, values-nodes (entries t), ap (λ (u : List PlainNode). length u) nodes-are);
  }

  pub level_is : t.level ≡ (first_in ws).level
  level_is = sym level-is

  pub nodes_are : child_nodes t.chain ≡ ns
  nodes_are = nodes-held t.chain ∙ nodes-are

  -- ---- an entry by its read

  front-is : (i : ℕ) → before (entries t) i ≡ children_in (take i (entries_in d ws))
  front-is i = ap (λ (u : PlainNode). before (entries u) i) (sym is) ∙ before-filled (entries_in d ws) (values_in d ws) ns i whole.0 whole.1

  points-are : (i : ℕ) → points_in (take i (entries_in d ws)) ≡ length (values (take i (flats_of t)))
  points-are i = points-before (entries_in d ws) (values_in d ws) i whole.1 ∙ ap (λ (u : List Flat). length (values (take i u))) flats-are

  -- how many children, or points, stand in front of it
  pub ranked : (e : ℕ) (us : List ℕ) → e ≡ d → us ≡ ws → (c : Bool) (i r : ℕ) → r ≡ rank_at c (entries_in e us) i →
      r ≡ (if c then before (entries t) i else length (values (take i (flats_of t))))
  ranked e us f h true i r q =
      q ∙ ap (λ n. rank_at true (entries_in n us) i) f ∙ ap (λ u. rank_at true (entries_in d u) i) h ∙ sym (front-is i)
  ranked e us f h false i r q =
      q ∙ ap (λ n. rank_at false (entries_in n us) i) f ∙ ap (λ u. rank_at false (entries_in d u) i) h ∙ points-are i

  module _ (e : ℕ) (us : List ℕ) (f : us ≡ ws) (h : e ≡ d) (i : ℕ) (l : i < length (entries t)) (c : Bool)
      (k : slice_get (map is_child (entries_in e us)) i ≡ Some c) (r : ℕ) (q : r ≡ rank_at c (entries_in e us) i) where
    both : children_in (take i (entries_in d ws)) + points_in (take i (entries_in d ws)) ≡ i
    both = both-before (entries_in d ws) i (omega (arith, l, length_is d ws ns t is kept))

    rank-is : r ≡ rank_at c (entries_in d ws) i
    rank-is = q ∙ ap (λ n. rank_at c (entries_in n us) i) h ∙ ap (λ u. rank_at c (entries_in d u) i) f

    -- a point
    pub point_front : c ≡ false → (r ≤ i) × (i - r ≡ before (entries t) i)
    point_front z =
        let p : r ≡ points_in (take i (entries_in d ws)) = rank-is ∙ ap (λ y. rank_at y (entries_in d ws) i) z in
        (omega (arith, p, both), omega (arith, p, both, front-is i))

    pub point_what : c ≡ false → (r < length (values_in e us)) × (value (slice_index_or (values_in e us) r 0) ≡ what_at (entries t) i)
    point_what z = point-told d e ws us ns t is kept f h i l c r k z q

    -- a child
    pub child_front : c ≡ true → r ≡ before (entries t) i
    child_front z = rank-is ∙ ap (λ y. rank_at y (entries_in d ws) i) z ∙ sym (front-is i)

    pub child_what : c ≡ true → IsNode (what_at (entries t) i)
    child_what z =
        let p = child-told d e ws us ns t is kept f h i l c r k z q in
        subst IsNode (p.1 (get_or ns r (node_of 0 [])) (get-again ns r (node_of 0 []) p.0)) tt

pub node-value : (w : What) → IsNode w → value_of w ≡ None
node-value (value v) n = absurd n
node-value (node m) n = refl

pub node-one : (w : What) → IsNode w → ones_of w ≡ 1
node-one (value v) n = absurd n
node-one (node m) n = refl
