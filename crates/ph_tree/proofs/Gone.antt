-- A removal by the step that it takes at a node.
use Rattle.std.proofs.Common.{length, ◌≡◌, ℕ, zero, suc, ◌+◌, ◌-◌, ◌<◌, ◌≤◌, List, [], ◌∷◌}
use Rattle.std.proofs.Common.{not, cond, inl, inr, refl, arith, ap, sym, ◌∙◌, subst, ne_eqb, eq-eqb, lt-ltb}
use Rattle.std.specs.Prelude.{ℤ, Some, None, Option, slice_get, position, unwrap_or}
use Rattle.std.specs.List.{position_or_len}
use Rattle.ph_specs.specs.ZOrder.{address}
use Rattle.ph_specs.specs.Node.{Entries, end, point, child, PlainNode}
use Rattle.ph_model.specs.EntryList.{Entry, What, value, node, entries, listed, node_of}
use Rattle.ph_specs.specs.Shape.{digits_below, digits_between}
use Rattle.ph_specs.specs.TreeRows.{count, put_together}
use Rattle.ph_model.specs.Lawful.{IsLawful, IsLawfulFrom}
use Rattle.ph_model.specs.PutTree.{find_node, find_tree}
use Rattle.ph_model.specs.DelTree.{del_node, del_tree}
use Rattle.ph_model.specs.EntryEdits.{has_address, with_child, what_at, without, merged}
use Rattle.ph_model.proofs.lemmas.PointDigits.{same_digits-refl}
use Rattle.ph_model.proofs.laws.EntryLists.{listed-chained}
use Rattle.ph_model.proofs.laws.EntryEdits as laws
use Rattle.ph_model.proofs.laws.DelEntries.{IsEntryAt, IsLawfulChild, lawful-child, del_node-none, del_node-point}
use Rattle.ph_model.proofs.laws.DelEntries.{del_node-other_point, del_node-other_child, del_node-child, del_node-pair}
use Rattle.ph_model.proofs.laws.DelEntries.{length-del_node, length-del_node-child, del_tree-none, del_tree-some}
use Rattle.ph_node.specs.Shown.{shown}
use Rattle.ph_node.specs.Split.{IsValue, body_at}
use Rattle.ph_node.specs.Merge.{IsPair, entries_held, addr_at, body_beside, merge_node}
use Rattle.ph_node.proofs.Merges.{got}
use Rattle.ph_node.specs.Spots.{IsSpot}
use Rattle.ph_node.specs.declared.reads.NodeRefOf.{NodeRefOf}
use Rattle.ph_node.specs.declared.spots.Spot.{Spot}
use Rattle.ph_tree.specs.declared.step.StepOf.{StepOf}
use Rattle.ph_tree.specs.declared.step.StepOf.TheVariants.{Absent, Same, Below, Other}
use Rattle.ph_tree.specs.Step.{IsAt, IsApart, IsStep}
use Rattle.ph_tree.proofs.Steps.{what_got, body_got, within, spot_at}
use Rattle.ph_tree.proofs.Walks.{no_entry, not_same, least-address, IsStepAt, IsMissing, step_as, below_digits, way_below}

-- ---- the place of an entry

place-at : (dims b least : ℕ) (e : Entries) (i : ℕ) (x : Entry) → IsLawfulFrom dims b least e →
    slice_get (listed e) i ≡ Some x → position_or_len (has_address x.addr) (listed e) ≡ i
place-at dims b least end i x h g = cc
place-at dims b least (point a body v rest) zero x h g =
    let d : a ≡ x.addr = ap (λ o. (unwrap_or o no_entry).addr) g in
    ap (λ t. cond (not t) (1 + position_or_len (has_address x.addr) (listed rest)) 0) (eq-eqb a x.addr d)
place-at dims b least (point a body v rest) (suc i) x h g =
    let l : a + 1 ≤ x.addr = least-address dims b (a + 1) rest i x h.3 g in
    let ih : position_or_len (has_address x.addr) (listed rest) ≡ i = place-at dims b (a + 1) rest i x h.3 g in
    ap (λ t. cond (not t) (1 + position_or_len (has_address x.addr) (listed rest)) 0) (ne_eqb a x.addr (λ e. omega (arith, l, e))) ∙ omega (arith, ih)
place-at dims b least (child a body c chain rest) zero x h g =
    let d : a ≡ x.addr = ap (λ o. (unwrap_or o no_entry).addr) g in
    ap (λ t. cond (not t) (1 + position_or_len (has_address x.addr) (listed rest)) 0) (eq-eqb a x.addr d)
place-at dims b least (child a body c chain rest) (suc i) x h g =
    let l : a + 1 ≤ x.addr = least-address dims b (a + 1) rest i x h.7 g in
    let ih : position_or_len (has_address x.addr) (listed rest) ≡ i = place-at dims b (a + 1) rest i x h.7 g in
    ap (λ t. cond (not t) (1 + position_or_len (has_address x.addr) (listed rest)) 0) (ne_eqb a x.addr (λ e. omega (arith, l, e))) ∙ omega (arith, ih)

pub entry_at : (w dims : ℕ) (p : List ℤ) (t : PlainNode) (spot : Spot) (x : Entry) →
    IsLawfulFrom dims t.level 0 t.chain → IsAt w p t spot x → IsEntryAt w t p spot.place x
entry_at w dims p t spot x ok at =
    let q : position_or_len (has_address (address w p t.level)) (entries t) ≡ spot.place =
    subst (λ a. position_or_len (has_address a) (entries t) ≡ spot.place) at.1
    (place-at dims t.level 0 t.chain spot.place x ok at.0) in
    record {
      first = rw (q, lt-ltb spot.place (length (entries t)) (within (entries t) spot.place x at.0)) refl;
      is = at.0;
    }

-- an address that is nowhere
pub nowhere_is : (w : ℕ) (p : List ℤ) (t : PlainNode) (level a : ℕ) → level ≡ t.level → a ≡ address w p level →
    None ≡ position (has_address a) (entries t) → position (has_address (address w p t.level)) (entries t) ≡ None
nowhere_is w p t level a l d n =
    ap (λ u. position (has_address u) (entries t)) (sym (d ∙ ap (address w p) l)) ∙ sym n

-- ---- an entry less

length-without : (es : List Entry) (i : ℕ) → i < length es → length (without es i) + 1 ≡ length es
length-without [] i l = absurd (omega (arith, l))
length-without (x ∷ es) zero l = omega arith
length-without (x ∷ es) (suc i) l = omega (arith, length-without es i (omega (arith, l)))

length-node : (b : ℕ) (es : List Entry) → length (entries (node_of b es)) ≡ length es
length-node b es = ap (λ u. length u) (listed-chained es)

empty : (es : List Entry) → length es ≡ 0 → es ≡ []
empty [] e = refl
empty (x ∷ es) e = absurd (omega (arith, e))

-- ---- what is found among the entries

-- the entry at a spot is the point, with this value
abbrev pub IsOwn : ℕ → List ℤ → PlainNode → Spot → ℕ → Type 0
IsOwn w p n s v =
    (x : Entry) × IsAt w p n s x × (x.what ≡ value v) × (x.body ≡ digits_below w n.level p)

module _ (w dims : ℕ) (p : List ℤ) (t : PlainNode) (ok : IsLawfulFrom dims t.level 0 t.chain) where
  module _ (spot : Spot) (v : ℕ) (s : IsOwn w p t spot v) where
    pub own_found : find_node w t p ≡ Some v
    own_found =
        laws.find_node-value w dims t spot.place s.0 v p ok s.1.0 s.1.1 s.2 ∙ ap (λ z. cond z (Some v) None) (same_digits-refl s.0.body (digits_below w t.level p) s.3)

    pub own_del : node_of t.level (without (entries t) spot.place) ≡ del_node w t p
    own_del =
        sym (del_node-point w t p spot.place s.0 v (entry_at w dims p t spot s.0 ok s.1) s.2 (same_digits-refl s.0.body (digits_below w t.level p) s.3))

    pub own_length : length (entries (del_node w t p)) + 1 ≡ length (entries t)
    own_length =
        let e : length (entries (del_node w t p)) ≡ length (without (entries t) spot.place) =
        ap (λ u. length (entries u)) (sym own_del) ∙ length-node t.level (without (entries t) spot.place) in
        omega (arith, e, length-without (entries t) spot.place (within (entries t) spot.place s.0 s.1.0))

  other_del_by : (spot : Spot) (x : Entry) (held : What) → IsAt w p t spot x → x.what ≡ held → IsApart w p t.level x.body held → del_node w t p ≡ t
  other_del_by spot x (value u) at q a =
      del_node-other_point w t p spot.place x u (entry_at w dims p t spot x ok at) q (not_same x.body (digits_below w t.level p) a)
  other_del_by spot x (node m) at q a =
      del_node-other_child w t p spot.place x m (entry_at w dims p t spot x ok at) q (not_same x.body (digits_between w t.level m.level p) a)

  -- a node of so many entries in which none is the point keeps so many
  module _ (many : ℕ) (l : many ≤ length (entries t)) where
    pub none_many : position (has_address (address w p t.level)) (entries t) ≡ None → many ≤ length (entries (del_node w t p))
    none_many n = subst (λ u. many ≤ length (entries u)) (sym (del_node-none w t p n)) l

    pub other_many : (spot : Spot) (x : Entry) (u : ℕ) → IsAt w p t spot x → x.what ≡ value u →
        (x.body ≡ digits_below w t.level p → ⊥) → many ≤ length (entries (del_node w t p))
    other_many spot x u at q a = subst (λ n. many ≤ length (entries n)) (sym (other_del_by spot x (value u) at q a)) l

    pub child_many : (spot : Spot) (x : Entry) (m : PlainNode) → IsAt w p t spot x → x.what ≡ node m → many ≤ length (entries (del_node w t p))
    child_many spot x m at q = omega (arith, l, length-del_node-child w t p spot.place x m (entry_at w dims p t spot x ok at) q)

-- one of two entries or more keeps one
pub left_one : (w : ℕ) (p : List ℤ) (t : PlainNode) → 2 ≤ length (entries t) → 1 ≤ length (entries (del_node w t p))
left_one w p t l = omega (arith, l, length-del_node w t p)

-- ---- steps

pair-other : (es : List Entry) (j : ℕ) → length es ≡ 2 → j < 2 → (z : Entry) × (slice_get es (1 - j) ≡ Some z)
pair-other [] j l m = absurd (omega (arith, l))
pair-other (a ∷ []) j l m = absurd (omega (arith, l))
pair-other (a ∷ b ∷ []) zero l m = (b, refl)
pair-other (a ∷ b ∷ []) (suc zero) l m = (a, refl)
pair-other (a ∷ b ∷ []) (suc (suc j)) l m = absurd (omega (arith, m))
pair-other (a ∷ b ∷ c ∷ es) j l m = absurd (omega (arith, l))

-- all that a merge asks, and what it makes
pub record Merges (w : ℕ) (p : List ℤ) (t : PlainNode) (spot : Spot) (j v : ℕ) : Type 0 where
  pub there : IsSpot (entries t) spot
  pub pair : IsPair t.level (body_at (entries t) spot.place) (what_at (entries t) spot.place)
  pub one : j < 2
  pub point : IsValue (what_at (entries_held (what_at (entries t) spot.place)) j)
  pub del : merge_node t spot.place j ≡ del_node w t p
  pub found : find_node w t p ≡ Some v

module _ {dims w o : ℕ} {p : List ℤ} {t : PlainNode} {found : StepOf PlainNode} (k : IsStepAt dims w p t found o) where
  pub absent_del : {place : ℕ} → found ≡ Absent place → t ≡ del_node w t p
  absent_del is = sym (del_node-none w t p (step_as k is).0)

  pub other_del : {spot : Spot} → found ≡ Other spot → t ≡ del_node w t p
  other_del {spot = spot} is =
      let s = step_as k is in sym (other_del_by w dims p t k.lawful spot s.0 s.0.what s.1 refl s.2)

  pub missing_del : IsMissing found → t ≡ del_node w t p
  missing_del (inl is) = absent_del is.1
  missing_del (inr is) = other_del is.1

  module _ {spot : Spot} {v : ℕ} (is : found ≡ Same spot v) where
    pub same_own : IsOwn w p t spot v
    same_own = let s = step_as k is in (s.0, s.1, s.2, s.3)

    pub same_del : node_of t.level (without (entries t) spot.place) ≡ del_node w t p
    same_del = own_del w dims p t k.lawful spot v same_own

    pub same_length : length (entries (del_node w t p)) + 1 ≡ length (entries t)
    same_length = own_length w dims p t k.lawful spot v same_own

  module _ {spot : Spot} {rank : ℕ} {m : NodeRefOf PlainNode} (is : found ≡ Below spot rank m) where
    abbrev nearer : IsStep w p t (Below spot rank m) o
    nearer = step_as k is

    below_lawful : IsLawfulChild dims t.level nearer.0 (shown m)
    below_lawful = lawful-child dims t.level 0 t.chain spot.place nearer.0 (shown m) k.lawful nearer.1.0 nearer.2

    pub below_many : {n : PlainNode} → shown m ≡ n → 2 ≤ length (entries n)
    below_many e = subst (λ u. 2 ≤ length (entries u)) e below_lawful.many

    -- a node that leads to the point keeps its entries
    pub below_left : (many : ℕ) → many ≤ length (entries t) → many ≤ length (entries (del_node w t p))
    below_left many l = child_many w dims p t k.lawful many l spot nearer.0 (shown m) nearer.1 nearer.2

    -- a child that keeps two entries is kept
    pub below_del : {n : PlainNode} → shown m ≡ n → 2 ≤ length (entries (del_node w n p)) → with_child t spot.place (del_node w n p) ≡ del_node w t p
    below_del e =
        subst (λ u. 2 ≤ length (entries (del_node w u p)) → with_child t spot.place (del_node w u p) ≡ del_node w t p) e
        (λ l. sym (del_node-child w t p spot.place nearer.0 (shown m)
        (entry_at w dims p t spot nearer.0 k.lawful nearer.1) nearer.2 (below_digits k is) l))

    pub merges : {own : Spot} {v : ℕ} → (length (entries (shown m)) ≡ 2) × IsOwn w p (shown m) own v → Merges w p t spot own.place v
    merges {own = own} {v = v} (two, y) =
        let j : ℕ = own.place in
        let one : j < 2 = omega (arith, two, within (entries (shown m)) j y.0 y.1.0) in
        let z : (z : Entry) × (slice_get (entries (shown m)) (1 - j) ≡ Some z) = pair-other (entries (shown m)) j two one in
        let held : what_at (entries t) spot.place ≡ node (shown m) = what_got (entries t) spot.place nearer.0 nearer.1.0 ∙ nearer.2 in
        let front : body_at (entries t) spot.place ≡ nearer.0.body = body_got (entries t) spot.place nearer.0 nearer.1.0 in
        let at : (addr_at (entries (shown m)) (1 - j) ≡ z.0.addr) × (body_at (entries (shown m)) (1 - j) ≡ z.0.body) ×
        (what_at (entries (shown m)) (1 - j) ≡ z.0.what) = got (entries (shown m)) (1 - j) z.0 z.1 in
        record {
          there = spot_at w p t spot nearer.0 nearer.1;
          pair = subst (λ u. IsPair t.level u (what_at (entries t) spot.place)) (sym front)
              (subst (IsPair t.level nearer.0.body) (sym held)
              (record { two = two; lower = below_lawful.lower; zeros = below_lawful.zeros }));
          one = one;
          point = subst (λ u. IsValue (what_at (entries_held u) j)) (sym held) (subst IsValue (sym (what_got (entries (shown m)) j y.0 y.1.0 ∙ y.2)) tt);
          del =
              ap (λ u. node_of t.level (merged (entries t) spot.place j (body_beside u (what_at (entries t) spot.place) j))) front
              ∙ ap (λ u. node_of t.level (merged (entries t) spot.place j (body_beside nearer.0.body u j))) held
              ∙ ap (λ n. node_of t.level (merged (entries t) spot.place j (put_together (shown m).level n nearer.0.body (body_at (entries (shown m)) (1 - j))))) at.0
              ∙ ap (λ u. node_of t.level (merged (entries t) spot.place j (put_together (shown m).level z.0.addr nearer.0.body u))) at.1
              ∙ sym (del_node-pair w t p spot.place nearer.0 (shown m) j y.0 v z.0
              (entry_at w dims p t spot nearer.0 k.lawful nearer.1) nearer.2 (below_digits k is)
              (entry_at w dims p (shown m) own y.0 below_lawful.lawful y.1) y.2
              (same_digits-refl y.0.body (digits_below w (shown m).level p) y.3) two z.1);
          found = (way_below k is refl).found ∙ own_found w dims p (shown m) below_lawful.lawful own v y;
        }

-- ---- a root

pub length-count : (e : Entries) → length (listed e) ≡ count e
length-count end = refl
length-count (point a body v rest) = ap suc (length-count rest)
length-count (child a body c chain rest) = ap suc (length-count rest)

module _ (w dims : ℕ) (p : List ℤ) (n : PlainNode) (t : Option PlainNode) (root : Some n ≡ t) (ok : IsLawful w dims t) where
  pub root_lawful : IsLawful w dims (Some n)
  root_lawful = subst (IsLawful w dims) (sym root) ok

  pub root_some : 1 ≤ length (entries n)
  root_some = omega (arith, root_lawful.1, length-count n.chain)

  pub root_found : find_node w n p ≡ find_tree w dims t p
  root_found = ap (λ o. find_tree w dims o p) root

  -- the root keeps an entry
  pub root_kept : 1 ≤ length (entries (del_node w n p)) → Some (del_node w n p) ≡ del_tree w dims t p
  root_kept left = sym (del_tree-some w dims n p left) ∙ ap (λ o. del_tree w dims o p) root

  -- it loses the last one
  pub root_gone : length (entries (del_node w n p)) ≡ 0 → None ≡ del_tree w dims t p
  root_gone none = sym (del_tree-none w dims n p (empty (entries (del_node w n p)) none)) ∙ ap (λ o. del_tree w dims o p) root
