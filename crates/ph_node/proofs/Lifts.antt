-- A node with a child of two entries replaced by one of them.
use Rattle.std.proofs.Common.{◌≡◌, ℕ, zero, suc, ◌+◌, ◌-◌, ◌<◌, List, [], ◌∷◌, ◌++◌, take, drop, length, refl, ap, sym, ◌∙◌, subst, arith, Bool, true, get_or}
use Rattle.std.specs.Prelude.{Option, if◌then◌else◌}
use Rattle.ph_model.specs.EntryEdits.{what_at, other_what, with_content, merged}
use Rattle.ph_specs.specs.TreeRows.{put_together}
use Rattle.ph_model.specs.Lawful.{IsBody, HasZerosFrom}
use Rattle.ph_specs.specs.Node.{PlainNode, Flat}
use Rattle.ph_model.specs.EntryList.{Entry, What, value, node, entries}
use Rattle.ph_specs.specs.Pack.{record_of}
use Rattle.ph_model.specs.PutTree.{body_above}
use Rattle.ph_model.proofs.laws.EntryLists.{listed-chained}
use Rattle.ph_bits.specs.Edits.{edited}
use Rattle.ph_node.specs.Merge.{IsPair, level_held, entries_held, addr_at, body_beside, merge_node}
use Rattle.ph_node.specs.OneEdit.{value_of, ones_of, held_nodes, nodes_held, node_at, flats_of, before, held_by, IsOldEntry}
use Rattle.ph_node.specs.Children.{nodes_of}
use Rattle.ph_node.specs.Split.{IsNode, IsValue, body_at}
use Rattle.ph_node.specs.declared.node.ChildOf.{ChildOf}
use Rattle.ph_node.specs.declared.olds.OldEntry.{OldEntry}
use Rattle.ph_node.proofs.Contents.{changed, merged-content, node_in, front_fits}
use Rattle.ph_node.proofs.Lent.{lent-is}
use Rattle.ph_node.proofs.Listings.{length-nodes, get-nodes}
use Rattle.ph_node.proofs.Lists.{Renewed, held-length}
use Rattle.ph_bits.specs.Packed.{IsPadded}
use Rattle.ph_node.proofs.NodeEdits.{length-changed}
use Rattle.ph_node.proofs.Merges.{body-joined, joined, IsJoined}
use Rattle.ph_node.proofs.OldNodes.{IsOld, node-one}
use Rattle.ph_node.proofs.ChildLists.{at-child}
use Rattle.ph_node.proofs.Spliced.{length-edited}
use Rattle.ph_node.proofs.Valued.{none-held}

pair-node : (w : What) → length (entries_held w) ≡ 2 → IsNode w
pair-node (value v) h = absurd (omega (arith, h))
pair-node (node n) h = tt

alone : (w : What) → held_nodes w ++ [] ≡ held_nodes w
alone (value v) = refl
alone (node n) = refl

-- of two entries of which one is a point, the children are what the other holds
other-nodes : (es : List Entry) (j : ℕ) → length es ≡ 2 → j < 2 → IsValue (what_at es j) → nodes_held es ≡ held_nodes (what_at es (1 - j))
other-nodes [] j l h v = absurd (omega (arith, l))
other-nodes (e ∷ []) j l h v = absurd (omega (arith, l))
other-nodes (e ∷ f ∷ []) zero l h v = ap (λ u. u ++ (held_nodes f.what ++ [])) (none-held e.what v) ∙ alone f.what
other-nodes (e ∷ f ∷ []) (suc zero) l h v = ap (λ u. held_nodes e.what ++ (u ++ [])) (none-held f.what v) ∙ alone e.what
other-nodes (e ∷ f ∷ []) (suc (suc j)) l h v = absurd (omega (arith, h))
other-nodes (e ∷ f ∷ x ∷ es) j l h v = absurd (omega (arith, l))

held-first : (w : What) → node_at (held_nodes w) 0 ≡ node_in w
held-first (value v) = refl
held-first (node n) = refl

-- ---- the child

module _ {P : Type 0} (d : ℕ) (ws : List ℕ) (ss : List (ChildOf P)) (t : PlainNode) (o : IsOld d ws (nodes_of ss) t)
    (i : ℕ) (old : OldEntry) (r : IsOldEntry d t i old) (l : i < length (entries t))
    (p : IsPair t.level (body_at (entries t) i) (what_at (entries t) i)) where
  one-child : ones_of (what_at (entries t) i) ≡ 1
  one-child = node-one (what_at (entries t) i) (pair-node (what_at (entries t) i) p.two)

  pub front_in : old.front < length ss
  front_in = omega (arith, front_fits d ws (nodes_of ss) t o i l, r.front, one-child, length-nodes ss)

  pub child_is : (s : ChildOf P) → s ≡ get_or ss old.front s → node s.node ≡ what_at (entries t) i
  child_is s e =
      lent-is (entries t) i s.node (pair-node (what_at (entries t) i) p.two)
      (get-nodes ss old.front s e ∙ ap (λ k. get_or (nodes_of ss) k s.node) r.front ∙ ap (λ u. get_or u (before (entries t) i) s.node) (sym o.nodes))

  pub child_at : (s : ChildOf P) → s ≡ get_or ss old.front s → s.node ≡ node_at (nodes_of ss) old.front
  child_at s e = at-child ss old.front s front_in e

-- ---- the entry beside the point

module _ (t : PlainNode) (i j : ℕ) (p : IsPair t.level (body_at (entries t) i) (what_at (entries t) i)) (one : j < 2)
    (v : IsValue (what_at (entries_held (what_at (entries t) i)) j)) (x : PlainNode) (is : node x ≡ what_at (entries t) i) where
  pub two : length (entries x) ≡ 2
  two = subst (λ (w : What). length (entries_held w) ≡ 2) (sym is) p.two

  pub child_low : x.level < t.level
  child_low = subst (λ (w : What). level_held w < t.level) (sym is) p.lower

  pub child_zeros : HasZerosFrom x.level (body_at (entries t) i)
  child_zeros = subst (λ (w : What). HasZerosFrom (level_held w) (body_at (entries t) i)) (sym is) p.zeros

  kids : nodes_held (entries x) ≡ held_nodes (what_at (entries x) (1 - j))
  kids = other-nodes (entries x) j two one (subst (λ (w : What). IsValue (what_at (entries_held w) j)) (sym is) v)

  same-what : other_what (what_at (entries t) i) j ≡ what_at (entries x) (1 - j)
  same-what = ap (λ w. other_what w j) (sym is)

  module _ (d : ℕ) (ws : List ℕ) (ns : List PlainNode) (o : IsOld d ws ns t) (old other : OldEntry)
      (r : IsOldEntry d t i old) (q : IsOldEntry d x (1 - j) other) (l : i < length (entries t)) where
    -- its child, where it is one
    pub kids_one : other.child ≡ true → length (nodes_held (entries x)) ≡ 1
    kids_one h =
        let k : ◌≡◌ {A = ℕ} (if other.child then 1 else 0) 1 = ap {B = ℕ} (λ (b : Bool). if b then 1 else 0) h in
        omega (arith, ap (λ (u : List PlainNode). length u) kids, held-length (what_at (entries x) (1 - j)), q.kind, k)

    pub lifted : (vs : List PlainNode) → vs ≡ edited old.front 1 (if other.child then 1 else 0) (node_at (nodes_held (entries x)) 0) ns
        → vs ≡ edited (before (entries t) i) (ones_of (what_at (entries t) i))
        (ones_of (other_what (what_at (entries t) i) j)) (node_in (other_what (what_at (entries t) i) j)) ns
    lifted vs e =
        e
        ∙ ap (λ k. edited k 1 (if other.child then 1 else 0) (node_at (nodes_held (entries x)) 0) ns) r.front
        ∙ ap (λ k. edited (before (entries t) i) k (if other.child then 1 else 0) (node_at (nodes_held (entries x)) 0)
        ns) (sym (node-one (what_at (entries t) i) (pair-node (what_at (entries t) i) p.two)))
        ∙ ap (λ k. edited (before (entries t) i) (ones_of (what_at (entries t) i)) k (node_at (nodes_held (entries x)) 0) ns) (sym q.kind)
        ∙ ap (λ n. edited (before (entries t) i) (ones_of (what_at (entries t) i))
        (ones_of (what_at (entries x) (1 - j))) n ns) (ap (λ u. node_at u 0) kids ∙ held-first (what_at (entries x) (1 - j)))
        ∙ ap (λ w. edited (before (entries t) i) (ones_of (what_at (entries t) i)) (ones_of w) (node_in w) ns) (sym same-what)

    -- the array that is put together
    module _ (n m k : ℕ) (known : List ℕ) (e : n ≡ d) (f : m ≡ d) (h : k ≡ x.level)
        (join : known ≡ put_together k other.addr (body_above k (take n old.body)) (take m other.body)) where
      abbrev body : List ℕ
      body = known ++ drop n old.body

      joins : IsJoined d x.level other.addr old.body other.body (known ++ drop n old.body)
      joins =
          joined d n m x.level other.addr old.body other.body known e f r.fields.0 q.fields.0 (subst (HasZerosFrom x.level) r.body child_zeros)
          (join ∙ ap (λ l. put_together l other.addr (body_above l (take n old.body)) (take m other.body)) h)

      pub merged_padded : IsPadded d (known ++ drop n old.body)
      merged_padded = joins.behind ∙ r.padded

      made : take d (known ++ drop n old.body) ≡ put_together x.level other.addr (take d old.body) (take d other.body)
      made = joins.front

      beside : take d (known ++ drop n old.body) ≡ body_beside (body_at (entries t) i) (what_at (entries t) i) j
      beside =
          made
          ∙ ap (λ a. put_together x.level a (take d old.body) (take d other.body)) (sym q.addr)
          ∙ ap (λ u. put_together x.level (addr_at (entries x) (1 - j)) u (take d other.body)) (sym r.body)
          ∙ ap (λ u. put_together x.level (addr_at (entries x) (1 - j)) (body_at (entries t) i) u) (sym q.body)
          ∙ ap (λ w. body_beside (body_at (entries t) i) w j) is

      whole : IsBody d t.level (take d (known ++ drop n old.body))
      whole =
          subst (IsBody d t.level) (sym made)
          (body-joined d t.level x.level other.addr (take d old.body) (take d other.body) child_low (subst (HasZerosFrom x.level) r.body child_zeros) r.fields q.fields)

      pub merged_new : Renewed d t.level (edited i 1 1 (record { addr = old.addr; body = take d (known ++ drop n old.body); value = held_by other }) (flats_of t))
          (edited (before (entries t) i) (ones_of (what_at (entries t) i))
          (ones_of (other_what (what_at (entries t) i) j)) (node_in (other_what (what_at (entries t) i) j)) ns)
          (entries (merge_node t i j))
      merged_new =
          let w : What = other_what (what_at (entries t) i) j in
          let ks : List PlainNode = edited (before (entries t) i) (ones_of (what_at (entries t) i)) (ones_of w) (node_in w) ns in
          let b : List ℕ = body_beside (body_at (entries t) i) (what_at (entries t) i) j in
          let f : record { addr = addr_at (entries t) i; body = take d body; value = value_of w } ≡
          record { addr = old.addr; body = take d body; value = held_by other } =
          ap {B = Flat} (λ (a : ℕ). record { addr = a; body = take d body; value = value_of w }) r.addr
          ∙ ap {B = Flat} (λ (u : Option ℕ). record { addr = old.addr; body = take d body; value = u }) (ap value_of same-what ∙ q.value) in
          subst (λ x. Renewed d t.level (edited i 1 1 x (flats_of t)) ks (entries (merge_node t i j))) f
          (subst (λ es. Renewed d t.level (edited i 1 1 (record { addr = addr_at (entries t) i; body = take d body; value = value_of w }) (flats_of t)) ks es)
          (ap (λ u. with_content (entries t) i u w) beside ∙ sym (merged-content (entries t) i j b) ∙ sym (listed-chained (merged (entries t) i j b)))
          (changed d ws ns t o i l (take d body) w whole (omega (arith, child_low))))

      -- the record of the node is longer by a word where it is a point
      pub merged_long : length (record_of d t.level
          (edited i 1 1 (record { addr = old.addr; body = take d (known ++ drop n old.body); value = held_by other })
          (flats_of t))) + (if other.child then 1 else 0) ≡ length ws + 1
      merged_long =
          let w : What = other_what (what_at (entries t) i) j in
          let a = length-changed d ws ns t o i _ _ _ l merged_new in
          let b = length-edited (before (entries t) i) (ones_of (what_at (entries t) i)) (ones_of w) (node_in w) ns (front_fits d ws ns t o i l) in
          let c : ones_of w ≡ (if other.child then 1 else 0) = ap ones_of same-what ∙ q.kind in
          omega (arith, a, b, c, node-one (what_at (entries t) i) (pair-node (what_at (entries t) i) p.two))
