-- The room that a removal wants, and that it may want behind a put, by the step that is taken at a node.
use Rattle.std.proofs.Common.{length, ◌≡◌, ◌≢◌, ℕ, zero, suc, ◌+◌, ◌≤◌, List, cond, refl, arith, ap, sym, ◌∙◌, subst, ne_eqb, eq-eqb}
use Rattle.std.specs.Prelude.{◌==◌, ℤ, Option, Some, slice_get, unwrap_or}
use Rattle.ph_specs.specs.ZOrder.{address}
use Rattle.ph_specs.specs.Node.{Entries, end, point, child, PlainNode}
use Rattle.ph_model.specs.EntryList.{Entry, What, value, node, entries, listed}
use Rattle.ph_specs.specs.Shape.{digits_below, digits_between}
use Rattle.ph_specs.specs.TreeRows.{count}
use Rattle.ph_model.specs.Lawful.{IsLawfulFrom}
use Rattle.ph_specs.specs.DelTree.{same_digits, del_entries}
use Rattle.ph_model.specs.DelTree.{del_node}
use Rattle.ph_model.specs.EntryEdits.{point_entry}
use Rattle.ph_model.proofs.lemmas.PointDigits.{same_digits-refl}
use Rattle.ph_node.specs.Shown.{shown}
use Rattle.ph_node.specs.declared.reads.NodeRefOf.{NodeRefOf}
use Rattle.ph_node.specs.declared.spots.Spot.{Spot}
use Rattle.ph_tree.specs.declared.step.StepOf.{StepOf}
use Rattle.ph_tree.specs.declared.step.StepOf.TheVariants.{Same, Below}
use Rattle.ph_tree.specs.Rooms.{relaid_room, spare_room, wanted_below, spare_wanted, spare_wanted_in, left_below, spare_left}
use Rattle.ph_tree.specs.Step.{IsStep}
use Rattle.ph_tree.proofs.Walks.{no_entry, least-address, IsStepAt, step_as, below_digits}
use Rattle.ph_tree.proofs.Gone.{length-count}

-- ---- a number by the entry at the point's address

module _ (w dims b : ℕ) (p : List ℤ) (of_all : Entries → ℕ) (of_one : List ℕ → What → ℕ)
    (at_point : (a : ℕ) (body : List ℕ) (v : ℕ) (rest : Entries) →
    of_all (point a body v rest) ≡ cond (a == address w p b) (of_one body (value v)) (of_all rest))
    (at_child : (a : ℕ) (body : List ℕ) (c : ℕ) (chain rest : Entries) →
    of_all (child a body c chain rest) ≡
    cond (a == address w p b) (of_one body (node (record { level = c; chain = chain }))) (of_all rest)) where
  by-entry : (least : ℕ) (e : Entries) (i : ℕ) (x : Entry) → IsLawfulFrom dims b least e →
      slice_get (listed e) i ≡ Some x → x.addr ≡ address w p b → of_all e ≡ of_one x.body x.what
  by-entry least end i x h g a = cc
  by-entry least (point n body u rest) zero x h g a =
      let q : point_entry n body u ≡ x = ap (λ o. unwrap_or o no_entry) g in
      at_point n body u rest ∙ ap (λ t. cond t (of_one body (value u)) (of_all rest))
      (eq-eqb n (address w p b) (ap (λ y. y.addr) q ∙ a)) ∙ ap (λ y. of_one y.body y.what) q
  by-entry least (point n body u rest) (suc i) x h g a =
      let l : n + 1 ≤ x.addr = least-address dims b (n + 1) rest i x h.3 g in
      let d : n ≢ address w p b = λ e. omega (arith, l, a, e) in
      at_point n body u rest ∙ ap (λ t. cond t (of_one body (value u)) (of_all rest)) (ne_eqb n (address w p b) d) ∙ by-entry (n + 1) rest i x h.3 g a
  by-entry least (child n body c chain rest) zero x h g a =
      let q : ◌≡◌ {A = Entry} (record { addr = n; body = body; what = node (record { level = c; chain = chain }) }) x = ap (λ o. unwrap_or o no_entry) g in
      at_child n body c chain rest
      ∙ ap (λ t. cond t (of_one body (node (record { level = c; chain = chain }))) (of_all rest)) (eq-eqb n (address w p b) (ap (λ y. y.addr) q ∙ a))
      ∙ ap (λ y. of_one y.body y.what) q
  by-entry least (child n body c chain rest) (suc i) x h g a =
      let l : n + 1 ≤ x.addr = least-address dims b (n + 1) rest i x h.7 g in
      let d : n ≢ address w p b = λ e. omega (arith, l, a, e) in
      at_child n body c chain rest
      ∙ ap (λ t. cond t (of_one body (node (record { level = c; chain = chain }))) (of_all rest)) (ne_eqb n (address w p b) d)
      ∙ by-entry (n + 1) rest i x h.7 g a

-- what is wanted for one entry at the point's address
abbrev wanted_by : ℕ → ℕ → ℕ → ℕ → List ℤ → List ℕ → What → ℕ
wanted_by w dims room b p body (value v) = cond (same_digits body (digits_below w b p)) room 0
wanted_by w dims room b p body (node m) =
    cond (same_digits body (digits_between w b m.level p)) (cond (count (del_entries w m.level m.chain p) == 1) 0 (spare_wanted w dims m p)) 0

wanted-at : (w dims room b least : ℕ) (e : Entries) (i : ℕ) (x : Entry) (p : List ℤ) → IsLawfulFrom dims b least e →
    slice_get (listed e) i ≡ Some x → x.addr ≡ address w p b →
    wanted_below w dims room b e p ≡ wanted_by w dims room b p x.body x.what
wanted-at w dims room b least e i x p =
    by-entry w dims b p (λ e. wanted_below w dims room b e p) (wanted_by w dims room b p) (λ a body v rest. refl) (λ a body c chain rest. refl) least e i x

-- what may be wanted behind a put for one entry at the point's address
abbrev left_by : ℕ → ℕ → ℕ → ℕ → List ℤ → List ℕ → What → ℕ
left_by w dims room b p body (value v) = cond (same_digits body (digits_below w b p)) room 0
left_by w dims room b p body (node m) = cond (same_digits body (digits_between w b m.level p)) (spare_left w dims m p) 0

left-at : (w dims room b least : ℕ) (e : Entries) (i : ℕ) (x : Entry) (p : List ℤ) → IsLawfulFrom dims b least e →
    slice_get (listed e) i ≡ Some x → x.addr ≡ address w p b → left_below w dims room b e p ≡ left_by w dims room b p x.body x.what
left-at w dims room b least e i x p =
    by-entry w dims b p (λ e. left_below w dims room b e p) (left_by w dims room b p) (λ a body v rest. refl) (λ a body c chain rest. refl) least e i x

-- ---- steps

many_not_one : (n : ℕ) → 2 ≤ n → n ≢ 1
many_not_one n l e = omega (arith, l, e)

module _ {dims w o : ℕ} {p : List ℤ} {t : PlainNode} {found : StepOf PlainNode} (k : IsStepAt dims w p t found o) where
  module _ {spot : Spot} {v : ℕ} (is : found ≡ Same spot v) where
    abbrev own : IsStep w p t (Same spot v) o
    own = step_as k is

    -- the node that loses the point may want room for its record
    pub same_wanted : spare_wanted w dims t p ≡ relaid_room dims t.level t.chain
    same_wanted =
        wanted-at w dims (relaid_room dims t.level t.chain) t.level 0 t.chain spot.place own.0 p k.lawful own.1.0 own.1.1
        ∙ ap (wanted_by w dims (relaid_room dims t.level t.chain) t.level p own.0.body) own.2
        ∙ ap (λ z. cond z (relaid_room dims t.level t.chain) 0) (same_digits-refl own.0.body (digits_below w t.level p) own.3)

    pub same_left : spare_left w dims t p ≡ spare_room w dims t.level t.chain
    same_left =
        left-at w dims (spare_room w dims t.level t.chain) t.level 0 t.chain spot.place own.0 p k.lawful own.1.0 own.1.1
        ∙ ap (left_by w dims (spare_room w dims t.level t.chain) t.level p own.0.body) own.2
        ∙ ap (λ z. cond z (spare_room w dims t.level t.chain) 0) (same_digits-refl own.0.body (digits_below w t.level p) own.3)

  module _ {spot : Spot} {rank : ℕ} {m : NodeRefOf PlainNode} (is : found ≡ Below spot rank m) where
    abbrev nearer : IsStep w p t (Below spot rank m) o
    nearer = step_as k is

    below_wanted : spare_wanted w dims t p ≡ cond (count (del_entries w (shown m).level (shown m).chain p) == 1) 0 (spare_wanted w dims (shown m) p)
    below_wanted =
        wanted-at w dims (relaid_room dims t.level t.chain) t.level 0 t.chain spot.place nearer.0 p k.lawful nearer.1.0 nearer.1.1
        ∙ ap (wanted_by w dims (relaid_room dims t.level t.chain) t.level p nearer.0.body) nearer.2
        ∙ ap (λ z. cond z (cond (count (del_entries w (shown m).level (shown m).chain p) == 1) 0 (spare_wanted w dims (shown m) p)) 0) (below_digits k is)

    -- a child that keeps two entries wants what is wanted
    pub child_wanted : {n : PlainNode} → shown m ≡ n → 2 ≤ length (entries (del_node w n p)) → spare_wanted w dims t p ≡ spare_wanted w dims n p
    child_wanted e h =
        let kept : 2 ≤ length (entries (del_node w (shown m) p)) = subst (λ u. 2 ≤ length (entries (del_node w u p))) (sym e) h in
        let many : 2 ≤ count (del_entries w (shown m).level (shown m).chain p) =
        omega (arith, kept, length-count (del_entries w (shown m).level (shown m).chain p)) in
        below_wanted
        ∙ ap (λ z. cond z 0 (spare_wanted w dims (shown m) p)) (ne_eqb (count (del_entries w (shown m).level (shown m).chain p)) 1 (many_not_one _ many))
        ∙ ap (λ u. spare_wanted w dims u p) e

    pub below_left_room : spare_left w dims t p ≡ spare_left w dims (shown m) p
    below_left_room =
        left-at w dims (spare_room w dims t.level t.chain) t.level 0 t.chain spot.place nearer.0 p k.lawful nearer.1.0 nearer.1.1
        ∙ ap (left_by w dims (spare_room w dims t.level t.chain) t.level p nearer.0.body) nearer.2
        ∙ ap (λ z. cond z (spare_left w dims (shown m) p) 0) (below_digits k is)

-- ---- a root

not_zero : (n : ℕ) → 1 ≤ n → n ≢ 0
not_zero n l e = omega (arith, l, e)

-- one that keeps an entry wants what its node does
pub root_wanted : (w dims : ℕ) (p : List ℤ) (n : PlainNode) (t : Option PlainNode) → Some n ≡ t →
    1 ≤ length (entries (del_node w n p)) → spare_wanted_in w dims t p ≡ spare_wanted w dims n p
root_wanted w dims p n t root left =
    let some : 1 ≤ count (del_entries w n.level n.chain p) = omega (arith, left, length-count (del_entries w n.level n.chain p)) in
    ap (λ u. spare_wanted_in w dims u p) (sym root)
    ∙ ap (λ z. cond z 0 (spare_wanted w dims n p)) (ne_eqb (count (del_entries w n.level n.chain p)) 0 (not_zero _ some))
