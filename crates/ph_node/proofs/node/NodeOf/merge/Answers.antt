use Rattle.std.proofs.Common.{◌≡◌, ◌<◌, ◌^◌, ◌++◌, ℕ, Bool, List, Some, take, drop, arith, refl, ap, sym, ◌∙◌, subst, length}
use Rattle.std.specs.List.{AllByRecursion as Each}
use Rattle.std.specs.Prelude.{if◌then◌else◌}
use Rattle.ph_specs.specs.Node.{PlainNode}
use Rattle.ph_model.specs.EntryList.{node, entries}
use Rattle.ph_model.specs.EntryEdits.{what_at, other_what}
use Rattle.ph_specs.specs.Pack.{record_of}
use Rattle.ph_specs.specs.Record.{unpacked}
use Rattle.ph_model.proofs.laws.EntryLists.{node_of-entries}
use Rattle.ph_bits.specs.Edits.{edited}
use Rattle.ph_bits.specs.declared.edits.Edit.{Edit}
use Rattle.ph_node.specs.Kinds.{is_node}
use Rattle.ph_node.specs.Merge.{merge_node}
use Rattle.ph_node.specs.OneEdit.{ones_of, nodes_held, node_at, before, edit_flats}
use Rattle.ph_node.specs.RecordEdit.{record_with}
use Rattle.ph_node.specs.Recorded.{IsRecorded}
use Rattle.ph_node.specs.Children.{nodes_of}
use Rattle.ph_node.proofs.ChildTests.{kind-there}
use Rattle.ph_node.proofs.Contents.{node_in}
use Rattle.ph_node.proofs.Lifts.{front_in, child_is, child_at, two, kids_one, lifted, merged_new, merged_padded, merged_long}
use Rattle.ph_node.proofs.Lists.{Renewed, rise_new, kept_new, seen_new}
use Rattle.ph_node.proofs.Merges.{body-wider}
use Rattle.ph_node.proofs.OldNodes.{old}
use Rattle.ph_node.proofs.PutEdits.{put_edit, record_put, put_record}
use Rattle.ph_node.proofs.Reading.{spot-there}
use Rattle.ph_node.proofs.node.NodeOf.merge.Given.{Over}
use Rattle.ph_node.proofs.node.NodeOf.merge.Goals as goal
use Rattle.ph_node.proofs.node.NodeOf.merge.Goals.{After-value-held, After-D-3, After-put_entry}

pub value-held-requires : goal.value-held-requires
value-held-requires g c =
    front_in _ _ c.self.inside.block.values _ (old _ _ _ _ c.self.view_is c.self.invariant) c.args.spot.place
    c.old_entry-old.result c.old_entry-old.ensures c.requires.spot.within c.requires.child

-- the child that is read is the entry's
child : (g : Over) (c : After-value-held g) → node c.value-held.result.now.node ≡ what_at (entries c.args.self.now) c.args.spot.place
child g c =
    child_is _ _ c.self.inside.block.values _ (old _ _ _ _ c.self.view_is c.self.invariant) c.args.spot.place
    c.old_entry-old.result c.old_entry-old.ensures c.requires.spot.within c.requires.child c.value-held.result.now c.value-held.ensures

pub entry_beside-other-requires-clause-two : goal.entry_beside-other-requires-clause-two
entry_beside-other-requires-clause-two g c =
    let q = c.requires in
    two c.args.self.now c.args.spot.place c.args.j q.child q.one q.point c.value-held.result.now.node
    (child g (goal.at.entry_beside-other-requires-clause-two g c).After-value-held)

pub join-requires-clause-known : goal.join-requires-clause-known
join-requires-clause-known g c =
    let o = old _ _ _ _ c.self.view_is c.self.invariant in
    let w = body-wider g.P.Dims.D c.args.self.now.level 62 _ (omega (arith, o.kept.low)) c.old_entry-old.ensures.fields in
    (refl, subst (λ n. Each (λ x. x < 2 ^ 62) (take n c.old_entry-old.result.body)) (sym c.D.ensures) w.1)

-- what is written in place of the entry
abbrev new_edit : (g : Over) → After-D-3 g → Edit
new_edit g c =
    put_edit c.args.spot.place c.old_entry-old.result.addr c.entry_beside-other.result.child
    (c.join.new.known ++ drop c.D.result c.old_entry-old.result.body) c.entry_beside-other.result.value

-- the children of a node without a child that is lifted
abbrev nodes_left : PlainNode → ℕ → ℕ → List PlainNode → List PlainNode
nodes_left t i j ns =
    edited (before (entries t) i) (ones_of (what_at (entries t) i)) (ones_of (other_what (what_at (entries t) i) j))
    (node_in (other_what (what_at (entries t) i) j)) ns

-- with it the entries are those of a node
renewed : (g : Over) (c : After-D-3 g) → node c.value-held.result.now.node ≡ what_at (entries c.args.self.now) c.args.spot.place →
    Renewed g.P.Dims.D c.args.self.now.level (edit_flats g.P.Dims.D c.args.self.now (new_edit g c))
    (nodes_left c.args.self.now c.args.spot.place c.args.j (nodes_of c.self.inside.block.values))
    (entries (merge_node c.args.self.now c.args.spot.place c.args.j))
renewed g c is =
    let q = c.requires in
    merged_new c.args.self.now c.args.spot.place c.args.j q.child q.one q.point c.value-held.result.now.node is _ _ _
    (old _ _ _ _ c.self.view_is c.self.invariant) c.old_entry-old.result c.entry_beside-other.result c.old_entry-old.ensures
    c.entry_beside-other.ensures q.spot.within _ _ _ _ c.D.ensures c.D-2.ensures c.level.ensures.value c.join.ensures

-- its record
record_new : (g : Over) (c : After-D-3 g) →
    record_with c.D-3.result c.lift_child.new.block.words (new_edit g c) ≡
    record_of g.P.Dims.D c.args.self.now.level (edit_flats g.P.Dims.D c.args.self.now (new_edit g c))
record_new g c = record_put _ _ _ _ c.self.view_is c.self.invariant _ _ c.D-3.ensures c.lift_child.ensures.words (new_edit g c)

pub put_entry-requires-clause-edit : goal.put_entry-requires-clause-edit
put_entry-requires-clause-edit g c =
    let q = c.requires in
    let at = goal.at.put_entry-requires-clause-edit g c in
    let is = child g at.After-value-held in
    put_record _ _ _ _ c.self.view_is c.self.invariant _ _ c.D-3.ensures c.lift_child.ensures.words c.args.spot.place
    c.old_entry-old.result.addr c.entry_beside-other.result.child
    (c.join.new.known ++ drop c.D.result c.old_entry-old.result.body) c.entry_beside-other.result.value
    q.spot.within c.old_entry-old.ensures.addr (rise_new _ _ _ _ _ (renewed g at.After-D-3 is))
    (merged_padded c.args.self.now c.args.spot.place c.args.j q.child q.one q.point c.value-held.result.now.node is _ _ _
    (old _ _ _ _ c.self.view_is c.self.invariant) c.old_entry-old.result c.entry_beside-other.result c.old_entry-old.ensures
    c.entry_beside-other.ensures q.spot.within _ _ _ _ c.D.ensures c.D-2.ensures c.level.ensures.value c.join.ensures)

pub put_entry-requires-clause-address : goal.put_entry-requires-clause-address
put_entry-requires-clause-address g c =
    let q = c.requires in
    spot-there _ _ _ _ _ _ c.self.view_is c.self.invariant c.lift_child.ensures.words c.D-3.ensures c.args.spot
    q.spot ∙ ap Some (q.spot.address ∙ c.old_entry-old.ensures.addr)

pub put_entry-requires-clause-was : goal.put_entry-requires-clause-was
put_entry-requires-clause-was g c h =
    kind-there _ _ _ _ _ _ c.self.view_is c.self.invariant c.lift_child.ensures.words c.D-3.ensures c.args.spot.place
    c.requires.spot.within ∙ ap Some (ap is_node (sym (child g (goal.at.put_entry-requires-clause-was g c).After-value-held)))

pub put_entry-requires-clause-long : goal.put_entry-requires-clause-long
put_entry-requires-clause-long g c h =
    let q = c.requires in
    let at = goal.at.put_entry-requires-clause-long g c in
    let k : ◌≡◌ {A = ℕ} (if c.entry_beside-other.result.child then 1 else 0) 1 = ap {B = ℕ} (λ (b : Bool). if b then 1 else 0) h in
    omega (
      arith,
      ap (λ u. length u) (record_new g at.After-D-3),
      merged_long c.args.self.now c.args.spot.place c.args.j q.child q.one q.point c.value-held.result.now.node
          (child g at.After-value-held) _ _ _ (old _ _ _ _ c.self.view_is c.self.invariant) c.old_entry-old.result
          c.entry_beside-other.result c.old_entry-old.ensures c.entry_beside-other.ensures q.spot.within _ _ _ _
          c.D.ensures c.D-2.ensures c.level.ensures.value c.join.ensures,
      ap (λ u. length u) c.lift_child.ensures.words,
      k,
    )

pub lift_child-requires-clause-within : goal.lift_child-requires-clause-within
lift_child-requires-clause-within g c =
    front_in _ _ c.self.inside.block.values _ (old _ _ _ _ c.self.view_is c.self.invariant) c.args.spot.place
    c.old_entry-old.result c.old_entry-old.ensures c.requires.spot.within c.requires.child

pub lift_child-requires-clause-one : goal.lift_child-requires-clause-one
lift_child-requires-clause-one g c h =
    let q = c.requires in
    let o = old _ _ _ _ c.self.view_is c.self.invariant in
    subst (λ (n : PlainNode). length (nodes_held (entries n)) ≡ 1)
    (child_at _ _ c.self.inside.block.values _ o c.args.spot.place c.old_entry-old.result c.old_entry-old.ensures
    q.spot.within q.child c.value-held.result.now c.value-held.ensures)
    (kids_one c.args.self.now c.args.spot.place c.args.j q.child q.one q.point c.value-held.result.now.node
    (child g (goal.at.lift_child-requires-clause-one g c).After-value-held) _ _ _ o c.old_entry-old.result
    c.entry_beside-other.result c.old_entry-old.ensures c.entry_beside-other.ensures q.spot.within h)

-- the children that are left
left : (g : Over) (c : After-put_entry g) → node c.value-held.result.now.node ≡ what_at (entries c.args.self.now) c.args.spot.place →
    nodes_of c.put_entry.new.block.values ≡ nodes_left c.args.self.now c.args.spot.place c.args.j (nodes_of c.self.inside.block.values)
left g c is =
    let q = c.requires in
    let o = old _ _ _ _ c.self.view_is c.self.invariant in
    let at = child_at _ _ c.self.inside.block.values _ o c.args.spot.place c.old_entry-old.result
    c.old_entry-old.ensures q.spot.within q.child c.value-held.result.now c.value-held.ensures in
    lifted c.args.self.now c.args.spot.place c.args.j q.child q.one q.point c.value-held.result.now.node is _ _ _ o
    c.old_entry-old.result c.entry_beside-other.result c.old_entry-old.ensures c.entry_beside-other.ensures q.spot.within _
    (ap nodes_of c.put_entry.ensures.same.0 ∙ c.lift_child.ensures.nodes ∙
    ap (λ (n : PlainNode). edited c.old_entry-old.result.front 1
    (if c.entry_beside-other.result.child then 1 else 0) (node_at (nodes_held (entries n)) 0)
    (nodes_of c.self.inside.block.values)) (sym at))

pub invariant_of-self : goal.invariant_of-self
invariant_of-self g c =
    let at = goal.at.invariant_of-self g c in
    let is = child g at.After-value-held in
    subst (IsRecorded g.P.Dims.D c.put_entry.new.block.words) (sym (left g at.After-put_entry is))
    (kept_new _ _ _ _ _ (renewed g at.After-D-3 is) _ (c.put_entry.ensures.words ∙ record_new g at.After-D-3))

pub returns-clause-node : goal.returns-clause-node
returns-clause-node g c =
    let at = goal.at.returns-clause-node g c in
    let is = child g at.After-value-held in
    ap (λ ns. unpacked g.P.Dims.D c.put_entry.new.block.words ns) (left g at.After-put_entry is)
    ∙ seen_new _ _ _ _ _ (renewed g at.After-D-3 is) _ (c.put_entry.ensures.words ∙ record_new g at.After-D-3)
    ∙ node_of-entries (merge_node c.args.self.now c.args.spot.place c.args.j)
