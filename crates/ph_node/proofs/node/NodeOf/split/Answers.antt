use Rattle.std.proofs.Common.{◌≡◌, ℕ, arith, ap, sym, ◌∙◌, subst, length, take, true, Some, false, refl, ◌+◌, ◌≤◌, Bool}
use Rattle.std.specs.Prelude.{if◌then◌else◌}
use Rattle.ph_model.specs.EntryList.{entries}
use Rattle.ph_specs.specs.Pack.{record_of}
use Rattle.ph_specs.specs.Record.{unpacked}
use Rattle.ph_model.proofs.laws.EntryLists.{node_of-entries}
use Rattle.ph_bits.specs.Packed.{IsPadded}
use Rattle.ph_bits.specs.declared.edits.Edit.{Edit}
use Rattle.ph_node.specs.OneEdit.{edit_flats}
use Rattle.ph_node.specs.RecordEdit.{record_with}
use Rattle.ph_node.specs.Recorded.{IsRecorded}
use Rattle.ph_node.specs.Children.{nodes_of}
use Rattle.ph_node.specs.Split.{split_node}
use Rattle.ph_node.proofs.BodyArrays.{padded-above, padded-filled}
use Rattle.ph_node.proofs.Halves.{lower, part_there, addresses_differ, child_new, child_room, parent_new}
use Rattle.ph_node.proofs.Halves.{parent_long, half_node, nodes_with, front_within, place_left, kids_are, put_is}
use Rattle.ph_node.proofs.Lists.{Renewed, rise_new, kept_new, seen_new}
use Rattle.ph_node.proofs.OldNodes.{old}
use Rattle.ph_node.proofs.PutEdits.{put_edit, record_put, put_record}
use Rattle.ph_node.proofs.Reading.{spot-there}
use Rattle.ph_node.proofs.node.NodeOf.split.Given.{Over}
use Rattle.ph_node.proofs.node.NodeOf.split.Goals as goal
use Rattle.ph_node.proofs.node.NodeOf.split.Goals.{After-place_apart-level, After-D, After-insert}

-- the two are apart below the level of the node
low : (g : Over) (c : After-place_apart-level g) → c.place_apart-level.result ≤ 61
low g c =
    let q = c.requires in
    let o = old _ _ _ _ c.self.view_is c.self.invariant in
    omega (
      arith,
      o.kept.low,
      lower _ _ _ _ o c.args.spot.place c.old_entry-old.result c.old_entry-old.ensures
          q.spot.within c.place_apart-level.result c.args.v c.args.body.now q.body c.place_apart-level.ensures,
    )

pub pair_below-requires-clause-low : goal.pair_below-requires-clause-low
pair_below-requires-clause-low g c = low g (goal.at.pair_below-requires-clause-low g c).After-place_apart-level

pub pair_below-requires-clause-differ : goal.pair_below-requires-clause-differ
pair_below-requires-clause-differ g c =
    let q = c.requires in
    addresses_differ _ _ _ _ (old _ _ _ _ c.self.view_is c.self.invariant) c.args.spot.place c.old_entry-old.result
    c.old_entry-old.ensures q.spot.within c.place_apart-level.result c.args.v c.args.body.now q.body
    c.place_apart-level.ensures

pub body_above-requires : goal.body_above-requires
body_above-requires g c = omega (arith, low g (goal.at.body_above-requires g c).After-place_apart-level)

pub pair_below-requires-clause-body_padded : goal.pair_below-requires-clause-body_padded
pair_below-requires-clause-body_padded g c = padded-filled g.P.Dims.D c.args.body.now c.requires.body.fields.0 c.requires.body.filled

-- what is written in place of the entry
abbrev new_edit : (g : Over) → After-D g → Edit
new_edit g c = put_edit c.args.spot.place c.old_entry-old.result.addr true c.body_above.result 0

-- with it the entries are those of a node
renewed : (g : Over) (c : After-D g) →
    Renewed g.P.Dims.D c.args.self.now.level (edit_flats g.P.Dims.D c.args.self.now (new_edit g c))
    (nodes_with c.args.self.now c.args.spot.place
    (half_node c.args.self.now c.args.spot.place c.place_apart-level.result (take g.P.Dims.D c.args.body.now) c.args.v)
    (nodes_of c.self.inside.block.values))
    (entries (split_node c.args.self.now c.args.spot.place c.place_apart-level.result (take g.P.Dims.D c.args.body.now) c.args.v))
renewed g c =
    let q = c.requires in
    parent_new _ _ _ _ (old _ _ _ _ c.self.view_is c.self.invariant) c.args.spot.place c.old_entry-old.result
    c.old_entry-old.ensures q.spot.within c.place_apart-level.result c.args.v c.args.body.now q.body
    c.place_apart-level.ensures c.body_above.result c.body_above.ensures

-- its record, and how long that is
record_new : (g : Over) (c : After-D g) →
    record_with c.D.result c.self.inside.block.words (new_edit g c) ≡
    record_of g.P.Dims.D c.args.self.now.level (edit_flats g.P.Dims.D c.args.self.now (new_edit g c))
record_new g c = record_put _ _ _ _ c.self.view_is c.self.invariant _ _ c.D.ensures refl (new_edit g c)

record_length : (g : Over) (c : After-D g) →
    length (record_with c.D.result c.self.inside.block.words (new_edit g c)) + 1 ≡
    length c.self.inside.block.words + (if c.old_entry-old.result.child then 1 else 0)
record_length g c =
    let q = c.requires in
    let o = old _ _ _ _ c.self.view_is c.self.invariant in
    omega (
      arith,
      ap (λ u. length u) (record_new g c),
      parent_long _ _ _ _ o c.args.spot.place c.old_entry-old.result
          c.old_entry-old.ensures q.spot.within c.place_apart-level.result c.args.v c.args.body.now q.body
          c.place_apart-level.ensures c.body_above.result c.body_above.ensures,
    )

one-at-most : (b : Bool) → (if b then 1 else 0) ≤ 1
one-at-most true = omega arith
one-at-most false = omega arith

pub put_entry-requires-clause-edit : goal.put_entry-requires-clause-edit
put_entry-requires-clause-edit g c =
    let q = c.requires in
    put_record _ _ _ _ c.self.view_is c.self.invariant _ _ c.D.ensures refl c.args.spot.place c.old_entry-old.result.addr
    true c.body_above.result 0 q.spot.within c.old_entry-old.ensures.addr
    (rise_new _ _ _ _ _ (renewed g (goal.at.put_entry-requires-clause-edit g c).After-D))
    (subst (λ b. IsPadded g.P.Dims.D b) (sym c.body_above.ensures)
    (padded-above g.P.Dims.D c.place_apart-level.result c.args.body.now
    (padded-filled g.P.Dims.D c.args.body.now q.body.fields.0 q.body.filled)))

pub put_entry-requires-clause-address : goal.put_entry-requires-clause-address
put_entry-requires-clause-address g c =
    let q = c.requires in
    spot-there _ _ _ _ _ _ c.self.view_is c.self.invariant refl c.D.ensures c.args.spot q.spot ∙ ap Some (q.spot.address ∙ c.old_entry-old.ensures.addr)

pub put_entry-requires-clause-long : goal.put_entry-requires-clause-long
put_entry-requires-clause-long g c h =
    omega (arith, record_length g (goal.at.put_entry-requires-clause-long g c).After-D, one-at-most c.old_entry-old.result.child)

pub take_child-requires-clause-within : goal.take_child-requires-clause-within
take_child-requires-clause-within g c h =
    front_within _ _ c.self.inside.block.values _ (old _ _ _ _ c.self.view_is c.self.invariant) c.args.spot.place
    c.old_entry-old.result c.old_entry-old.ensures c.requires.spot.within c.put_entry.new.block.values
    c.put_entry.ensures.same.0 h

pub take_child-requires-clause-room : goal.take_child-requires-clause-room
take_child-requires-clause-room g c h =
    let q = c.requires in
    let o = old _ _ _ _ c.self.view_is c.self.invariant in
    let k : ◌≡◌ {A = ℕ} (if c.old_entry-old.result.child then 1 else 0) 1 = ap {B = ℕ} (λ (b : Bool). if b then 1 else 0) h in
    omega (
      arith,
      child_room _ _ _ _ o c.args.spot.place c.old_entry-old.result c.old_entry-old.ensures q.spot.within
          c.place_apart-level.result c.args.v c.args.body.now q.body c.place_apart-level.ensures q.above _
          c.in_ok-words.ensures.room,
      ap (λ u. length u) c.in_ok-words.ensures.words,
      k,
      ap (λ b. b.spare) c.of-below.ensures,
    )

pub take_child-requires-clause-free : goal.take_child-requires-clause-free
take_child-requires-clause-free g c h =
    let k : ◌≡◌ {A = ℕ} (if c.old_entry-old.result.child then 1 else 0) 0 = ap {B = ℕ} (λ (b : Bool). if b then 1 else 0) h in
    omega (arith, record_length g (goal.at.take_child-requires-clause-free g c).After-D, k, c.put_entry.ensures.places, ap (λ u. length u) c.put_entry.ensures.words)

pub insert-requires-clause-rank : goal.insert-requires-clause-rank
insert-requires-clause-rank g c =
    place_left _ _ c.self.inside.block.values _ (old _ _ _ _ c.self.view_is c.self.invariant) c.args.spot.place
    c.old_entry-old.result c.old_entry-old.ensures c.requires.spot.within c.put_entry.new.block.values
    c.put_entry.ensures.same.0 _ c.take_child.ensures.left

pub invariant_of-node : goal.invariant_of-node
invariant_of-node g c =
    let q = c.requires in
    let o = old _ _ _ _ c.self.view_is c.self.invariant in
    let k = kids_are _ _ c.self.inside.block.values _ o c.args.spot.place c.old_entry-old.result
    c.old_entry-old.ensures q.spot.within c.put_entry.new.block.values c.put_entry.ensures.same.0 _
    c.take_child.ensures.taken in
    subst (IsRecorded g.P.Dims.D c.take_child.new.to.words) (sym k)
    (kept_new _ _ _ _ _ (child_new _ _ _ _ o c.args.spot.place c.old_entry-old.result c.old_entry-old.ensures
    q.spot.within c.place_apart-level.result c.args.v c.args.body.now q.body c.place_apart-level.ensures q.above)
    _ (c.take_child.ensures.words ∙ ap (λ b. b.words) c.of-below.ensures ∙ c.in_ok-words.ensures.words))

-- the node that the entry holds
seen : (g : Over) (c : After-insert g) →
    unpacked g.P.Dims.D c.take_child.new.to.words (nodes_of c.take_child.new.to.values) ≡
    half_node c.args.self.now c.args.spot.place c.place_apart-level.result (take g.P.Dims.D c.args.body.now) c.args.v
seen g c =
    let q = c.requires in
    let o = old _ _ _ _ c.self.view_is c.self.invariant in
    ap (λ ns. unpacked g.P.Dims.D c.take_child.new.to.words ns)
    (kids_are _ _ c.self.inside.block.values _ o c.args.spot.place c.old_entry-old.result c.old_entry-old.ensures
    q.spot.within c.put_entry.new.block.values c.put_entry.ensures.same.0 _ c.take_child.ensures.taken)
    ∙ seen_new _ _ _ _ _ (child_new _ _ _ _ o c.args.spot.place c.old_entry-old.result c.old_entry-old.ensures
    q.spot.within c.place_apart-level.result c.args.v c.args.body.now q.body c.place_apart-level.ensures q.above)
    _ (c.take_child.ensures.words ∙ ap (λ b. b.words) c.of-below.ensures ∙ c.in_ok-words.ensures.words)

-- the children with it
put : (g : Over) (c : After-insert g) →
    nodes_of c.insert.new.self.values ≡ nodes_with c.args.self.now c.args.spot.place
    (half_node c.args.self.now c.args.spot.place c.place_apart-level.result (take g.P.Dims.D c.args.body.now) c.args.v)
    (nodes_of c.self.inside.block.values)
put g c =
    let o = old _ _ _ _ c.self.view_is c.self.invariant in
    put_is _ _ c.self.inside.block.values _ o c.args.spot.place c.old_entry-old.result c.old_entry-old.ensures
    c.requires.spot.within c.put_entry.new.block.values c.put_entry.ensures.same.0 _ _ _ c.take_child.ensures.left
    c.insert.ensures.values
    ∙ ap (λ n. nodes_with c.args.self.now c.args.spot.place n (nodes_of c.self.inside.block.values)) (seen g c)

pub invariant_of-self : goal.invariant_of-self
invariant_of-self g c =
    let at = goal.at.invariant_of-self g c in
    subst (IsRecorded g.P.Dims.D c.insert.new.self.words) (sym (put g at.After-insert))
    (kept_new _ _ _ _ _ (renewed g at.After-D) _
    (c.insert.ensures.same.0 ∙ c.take_child.ensures.same ∙ c.put_entry.ensures.words ∙ record_new g at.After-D))

pub returns-clause-ok : goal.returns-clause-ok
returns-clause-ok g c =
    let q = c.requires in
    let o = old _ _ _ _ c.self.view_is c.self.invariant in
    let at = goal.at.returns-clause-ok g c in
    ap (λ ns. unpacked g.P.Dims.D c.insert.new.self.words ns) (put g at.After-insert)
    ∙ seen_new _ _ _ _ _ (renewed g at.After-D) _
    (c.insert.ensures.same.0 ∙ c.take_child.ensures.same ∙ c.put_entry.ensures.words ∙ record_new g at.After-D)
    ∙ node_of-entries (split_node c.args.self.now c.args.spot.place c.place_apart-level.result (take g.P.Dims.D c.args.body.now) c.args.v)
    ∙ ap (λ k. split_node c.args.self.now c.args.spot.place k (take g.P.Dims.D c.args.body.now) c.args.v)
    (sym (part_there _ _ _ _ o c.args.spot.place c.old_entry-old.result c.old_entry-old.ensures q.spot.within
    c.place_apart-level.result c.args.v c.args.body.now q.body c.place_apart-level.ensures))
