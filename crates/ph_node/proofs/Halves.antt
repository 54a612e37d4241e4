-- A node with an entry split.
use Rattle.std.proofs.Common.{◌≡◌, ◌≢◌, ℕ, ◌+◌, ◌-◌, ◌<◌, ◌≤◌, List, [], ◌∷◌, ◌++◌, take, drop, length, map, refl, ap, sym, ◌∙◌, subst, arith, Bool, true, false}
use Rattle.std.specs.List.{insert, remove}
use Rattle.std.specs.Prelude.{Some, None, nat_lt, if◌then◌else◌}
use Rattle.ph_digits.specs.Differences.{IsTopDifference}
use Rattle.ph_digits.proofs.Cuts.{is_body-above, other_address, take-above}
use Rattle.ph_model.specs.EntryEdits.{what_at, inserted, split_at}
use Rattle.ph_specs.specs.Digits.{words_for}
use Rattle.ph_model.specs.Lawful.{IsBody}
use Rattle.ph_specs.specs.Pack.{record_of}
use Rattle.ph_specs.specs.Node.{PlainNode, Flat}
use Rattle.ph_model.specs.EntryList.{Entry, What, value, node, entries, node_of}
use Rattle.ph_model.specs.PutTree.{body_address, body_below, body_above}
use Rattle.ph_model.proofs.laws.EntryLists.{listed-chained}
use Rattle.ph_bits.specs.Edits.{edited, least_digits, words_wanted}
use Rattle.ph_node.specs.Bodies.{IsBodyArray}
use Rattle.ph_node.specs.Merge.{addr_at}
use Rattle.ph_node.specs.OneEdit.{value_of, ones_of, held_nodes, nodes_held, flat_of, flats_of, before, held_by, IsOldEntry}
use Rattle.ph_node.specs.Pairs.{below_flat, in_order, pair_flats}
use Rattle.ph_node.specs.Children.{nodes_of}
use Rattle.ph_node.specs.declared.node.ChildOf.{ChildOf}
use Rattle.ph_node.specs.Split.{IsBelow, body_at, entry_below, part_place, split_node}
use Rattle.ph_node.specs.declared.olds.OldEntry.{OldEntry}
use Rattle.ph_node.proofs.Contents.{changed, split-content, front_fits, own_nodes}
use Rattle.ph_node.proofs.Lengths.{record-long}
use Rattle.ph_node.proofs.Keeps.{kept-body}
use Rattle.ph_node.proofs.Listings.{length-nodes}
use Rattle.ph_node.proofs.Lists.{Renewed, rise_new, points_new, held-length}
use Rattle.ph_node.proofs.NodeEdits.{length-changed}
use Rattle.ph_node.proofs.PairLists.{length-order}
use Rattle.ph_node.proofs.Spliced.{length-edited}
use Rattle.ph_node.proofs.ChildLists.{nodes-put, nodes-taken, place-left}
use Rattle.ph_node.proofs.OldNodes.{IsOld}
use Rattle.ph_node.proofs.Parts.{AreApart, apart, apart-place, child-kept}

abbrev pub pair_entries : ℕ → List ℕ → What → List ℕ → ℕ → List Entry
pair_entries place xs w ys v = inserted (entry_below place ys (value v)) (entry_below place xs w ∷ [])

-- the child that holds what entry i held, and a point with a body
abbrev pub half_node : PlainNode → ℕ → ℕ → List ℕ → ℕ → PlainNode
half_node t i place ys v = node_of place (pair_entries place (body_at (entries t) i) (what_at (entries t) i) ys v)

-- the children of a node whose entry i is a child
abbrev pub nodes_with : PlainNode → ℕ → PlainNode → List PlainNode → List PlainNode
nodes_with t i n ns = edited (before (entries t) i) (ones_of (what_at (entries t) i)) 1 n ns

flats-pair : (place : ℕ) (xs ys : List ℕ) (w : What) (v : ℕ) →
    in_order (below_flat place xs (value_of w)) (below_flat place ys (Some v)) ≡ map flat_of (pair_entries place xs w ys v)
flats-pair place xs ys w v =
    elim (nat_lt (body_address place ys) (body_address place xs))
    as (λ b. (if b then below_flat place ys (Some v) ∷ below_flat place xs (value_of w) ∷ [] else
    below_flat place xs (value_of w) ∷ below_flat place ys (Some v) ∷ [])
    ≡ map flat_of (if b then entry_below place ys (value v) ∷ entry_below place xs w ∷ [] else
    entry_below place xs w ∷ entry_below place ys (value v) ∷ [])) [ true ↦ refl | false ↦ refl ]

nodes-pair : (place : ℕ) (xs ys : List ℕ) (w : What) (v : ℕ) → nodes_held (pair_entries place xs w ys v) ≡ held_nodes w
nodes-pair place xs ys w v =
    elim (nat_lt (body_address place ys) (body_address place xs))
    as (λ b. nodes_held (if b then entry_below place ys (value v) ∷ entry_below place xs w ∷ [] else
    entry_below place xs w ∷ entry_below place ys (value v) ∷ []) ≡ held_nodes w) [ true ↦ alone w | false ↦ alone w ]
  where
    alone : (w : What) → held_nodes w ++ [] ≡ held_nodes w
    alone (value v) = refl
    alone (node n) = refl

some-pair : (e x : Entry) → 1 ≤ length (inserted e (x ∷ []))
some-pair e x = elim (nat_lt e.addr x.addr) as (λ b. 1 ≤ length (if b then e ∷ x ∷ [] else x ∷ e ∷ [])) [ true ↦ omega arith | false ↦ omega arith ]

no-children : (w : What) (place : ℕ) → IsBelow place w → place ≡ 0 → length (held_nodes w) ≡ 0
no-children (value v) place h z = refl
no-children (node n) place h z = absurd (omega (arith, h, z))

module _ (d : ℕ) (ws : List ℕ) (ns : List PlainNode) (t : PlainNode) (o : IsOld d ws ns t) (i : ℕ) (old : OldEntry)
    (r : IsOldEntry d t i old) (l : i < length (entries t)) where
  body-was : IsBody d t.level (body_at (entries t) i)
  body-was = kept-body d t.level 0 (entries t) i o.kept.rise l

  module _ (place v : ℕ) (body : List ℕ) (b : IsBodyArray d t.level body) (top : IsTopDifference (take d old.body) (take d body) place) where
    two : AreApart d t.level place (body_at (entries t) i) (take d body)
    two = apart d t.level place (body_at (entries t) i) (take d body) body-was b.fields (subst (λ u. IsTopDifference u (take d body) place) (sym r.body) top)

    pub lower : place < t.level
    lower = two.lower

    pub part_there : part_place t i (take d body) ≡ place
    part_there = apart-place d t.level place (body_at (entries t) i) (take d body) two

    pub addresses_differ : body_address place (take d old.body) ≢ body_address place (take d body)
    addresses_differ =
        subst (λ u. body_address place u ≢ body_address place (take d body)) r.body
        (other_address place (body_at (entries t) i) (take d body) (omega (arith, body-was.0, b.fields.0))
        two.agree two.differ)

    pub child_new : IsBelow (part_place t i (take d body)) (what_at (entries t) i) →
        Renewed d place (pair_flats d place old body v) (held_nodes (what_at (entries t) i))
        (pair_entries place (body_at (entries t) i) (what_at (entries t) i) (take d body) v)
    child_new above = record {
      flats =
          ap (λ u. in_order (below_flat place u (held_by old)) (below_flat place (take d body) (Some v))) (sym r.body)
          ∙ ap (λ u. in_order (below_flat place (body_at (entries t) i) u) (below_flat place (take d body) (Some v))) (sym r.value)
          ∙ flats-pair place (body_at (entries t) i) (take d body) (what_at (entries t) i) v;
      nodes = nodes-pair place (body_at (entries t) i) (take d body) (what_at (entries t) i) v;
      kept = child-kept d t.level place (entries t) (body_at (entries t) i) (take d body) (what_at (entries t) i) (value v) o.kept two;
      some = some-pair (entry_below place (take d body) (value v)) (entry_below place (body_at (entries t) i) (what_at (entries t) i));
      bottom = no-children (what_at (entries t) i) place (subst (λ k. IsBelow k (what_at (entries t) i)) part_there above);
    }

    -- the room behind the record of the pair
    pub child_room : IsBelow (part_place t i (take d body)) (what_at (entries t) i) → (room : ℕ)
        → words_wanted d place 2 (2 - (if old.child then 1 else 0)) + (if old.child then 1 else 0) ≤ room →
        length (record_of d place (pair_flats d place old body v)) + (if old.child then 1 else 0) ≤ room
    child_room above room h =
        let fs : List Flat = pair_flats d place old body v in
        let n : length fs ≡ 2 = length-order place (take d old.body) (take d body) (held_by old) (Some v) in
        let a = record-long d place fs (rise_new d place fs _ _ (child_new above)) in
        let e : words_for (least_digits d place (length fs)) ≡ words_for (least_digits d place 2) = ap (λ k. words_for (least_digits d place k)) n in
        omega (arith, a, e, n, points_new d place fs _ _ (child_new above), held-length (what_at (entries t) i), r.kind, h)

    pub parent_new : (shared : List ℕ) → shared ≡ body_above place body →
        Renewed d t.level (edited i 1 1 (record { addr = old.addr; body = take d shared; value = None }) (flats_of t))
        (nodes_with t i (half_node t i place (take d body) v) ns) (entries (split_node t i place (take d body) v))
    parent_new shared s =
        let below : PlainNode = half_node t i place (take d body) v in
        let q : take d shared ≡ body_above place (take d body) = ap (λ u. take d u) s ∙ take-above place d body in
        subst (λ a. Renewed d t.level (edited i 1 1 (record { addr = a; body = take d shared; value = None })
        (flats_of t)) (nodes_with t i below ns)
        (entries (split_node t i place (take d body) v))) r.addr
        (subst (λ u. Renewed d t.level
        (edited i 1 1 (record { addr = addr_at (entries t) i; body = u; value = None }) (flats_of t))
        (nodes_with t i below ns)
        (entries (split_node t i place (take d body) v))) (sym q)
        (subst (λ es. Renewed d t.level
        (edited i 1 1 (record {
          addr = addr_at (entries t) i;
          body = body_above place (take d body);
          value = None;
        }) (flats_of t)) (nodes_with t i below ns) es)
        (sym (listed-chained (split_at (entries t) i place (body_above place (take d body))
        (body_address place (body_at (entries t) i)) (body_below place (body_at (entries t) i))
        (entry_below place (take d body) (value v)))
        ∙ split-content (entries t) i place (body_above place (take d body))
        (body_address place (body_at (entries t) i)) (body_below place (body_at (entries t) i))
        (entry_below place (take d body) (value v))))
        (changed d ws ns t o i l (body_above place (take d body)) (node below) (is_body-above d t.level place (take d body) b.fields) (omega (arith, two.lower)))))

    -- the record of the node is shorter by a word where the entry was a point
    pub parent_long : (shared : List ℕ) → shared ≡ body_above place body →
        length (record_of d t.level (edited i 1 1 (record { addr = old.addr; body = take d shared; value = None })
        (flats_of t))) + 1 ≡ length ws + (if old.child then 1 else 0)
    parent_long shared s =
        let below : PlainNode = half_node t i place (take d body) v in
        let a = length-changed d ws ns t o i _ _ _ l (parent_new shared s) in
        let b = length-edited (before (entries t) i) (ones_of (what_at (entries t) i)) 1 below ns (front_fits d ws ns t o i l) in
        omega (arith, a, b, r.kind)

-- ---- the children

module _ {P : Type 0} (d : ℕ) (ws : List ℕ) (ss : List (ChildOf P)) (t : PlainNode) (o : IsOld d ws (nodes_of ss) t)
    (i : ℕ) (old : OldEntry) (r : IsOldEntry d t i old) (l : i < length (entries t)) (rs : List (ChildOf P)) (same : rs ≡ ss) where
  fits : old.front + (if old.child then 1 else 0) ≤ length rs
  fits = omega (arith, front_fits d ws (nodes_of ss) t o i l, r.front, r.kind, length-nodes ss, ap (λ (u : List (ChildOf P)). length u) same)

  pub front_within : old.child ≡ true → old.front < length rs
  front_within h =
      let k : ◌≡◌ {A = ℕ} (if old.child then 1 else 0) 1 = ap {B = ℕ} (λ (b : Bool). if b then 1 else 0) h in
      omega (arith, fits, k)

  pub place_left : (ls : List (ChildOf P)) → ls ≡ (if old.child then remove rs old.front else rs) → old.front ≤ length ls
  place_left ls e = subst (λ (u : List (ChildOf P)). old.front ≤ length u) (sym e) (place-left old.child rs old.front fits)

  pub kids_are : (ts : List (ChildOf P)) → ts ≡ (if old.child then take 1 (drop old.front rs) else []) → nodes_of ts ≡ held_nodes (what_at (entries t) i)
  kids_are ts e =
      ap nodes_of e ∙ nodes-taken old.child rs old.front
      ∙ ap (λ n. take n (drop old.front (nodes_of rs))) (sym r.kind)
      ∙ ap (λ k. take (ones_of (what_at (entries t) i)) (drop k (nodes_of rs))) r.front
      ∙ ap (λ u. take (ones_of (what_at (entries t) i)) (drop (before (entries t) i) (nodes_of u))) same
      ∙ own_nodes d ws (nodes_of ss) t o i l

  pub put_is : (ls vs : List (ChildOf P)) (s : ChildOf P) → ls ≡ (if old.child then remove rs old.front else rs) →
      vs ≡ insert ls old.front s → nodes_of vs ≡ nodes_with t i s.node (nodes_of ss)
  put_is ls vs s e f =
      ap nodes_of (f ∙ ap (λ u. insert u old.front s) e) ∙ nodes-put old.child rs old.front s fits
      ∙ ap (λ n. edited old.front n 1 s.node (nodes_of rs)) (sym r.kind)
      ∙ ap (λ k. edited k (ones_of (what_at (entries t) i)) 1 s.node (nodes_of rs)) r.front
      ∙ ap (λ u. edited (before (entries t) i) (ones_of (what_at (entries t) i)) 1 s.node (nodes_of u)) same
