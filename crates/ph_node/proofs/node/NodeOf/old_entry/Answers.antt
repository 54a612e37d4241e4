use Rattle.std.proofs.Common.{◌≡◌, take, ap, refl, sym, ◌∙◌, subst}
use Rattle.std.specs.Prelude.{if◌then◌else◌}
use Rattle.ph_model.specs.EntryEdits.{what_at}
use Rattle.ph_model.specs.Lawful.{IsBody}
use Rattle.ph_model.specs.EntryList.{value, entries}
use Rattle.ph_bits.specs.Fields.{digits_row}
use Rattle.ph_bits.specs.Packed.{IsPadded}
use Rattle.ph_node.specs.OneEdit.{IsOldEntry, value_of, ones_of, before, held_by}
use Rattle.ph_node.specs.Split.{body_at}
use Rattle.ph_node.specs.declared.olds.OldEntry.{OldEntry}
use Rattle.ph_node.proofs.Keeps.{kept-body}
use Rattle.ph_node.proofs.OldNodes.{old, point_front, point_what, child_front, child_what, node-value, node-one}
use Rattle.ph_node.proofs.Reading.{spot-in, body-told}
use Rattle.ph_node.proofs.node.NodeOf.old_entry.Given.{Over}
use Rattle.ph_node.proofs.node.NodeOf.old_entry.Goals as goal
use Rattle.ph_node.proofs.node.NodeOf.old_entry.Goals.{After-row-body}

pub ranked-child-requires : goal.ranked-child-requires
ranked-child-requires g c = spot-in _ _ _ _ _ _ c.self.view_is c.self.invariant c.words-words.ensures c.D-dims.ensures c.args.spot c.requires

pub body_at-at-requires : goal.body_at-at-requires
body_at-at-requires g c = spot-in _ _ _ _ _ _ c.self.view_is c.self.invariant c.words-words.ensures c.D-dims.ensures c.args.spot c.requires

-- an entry with the body that was read is the one that stands there, once its value and its place tell so
read : (g : Over) (c : After-row-body g) (o : OldEntry) → o.addr ≡ c.args.spot.addr → o.body ≡ c.row-body.result →
    value_of (what_at (entries c.args.self.now) c.args.spot.place) ≡ held_by o →
    ones_of (what_at (entries c.args.self.now) c.args.spot.place) ≡ (if o.child then 1 else 0) →
    o.front ≡ before (entries c.args.self.now) c.args.spot.place → IsOldEntry g.P.Dims.D c.args.self.now c.args.spot.place o
read g c o addr body held kind front =
    let b : take g.P.Dims.D c.row-body.result ≡ body_at (entries c.args.self.now) c.args.spot.place =
    ap (λ d. take d c.row-body.result) (sym c.D-dims.ensures) ∙ c.row-body.ensures.fields
    ∙ ap (λ l. digits_row c.words-words.result.now c.body_at-at.result l c.D-dims.result) c.level_in.ensures
    ∙ body-told _ _ _ _ _ _ c.self.view_is c.self.invariant c.words-words.ensures c.D-dims.ensures c.args.spot.place c.requires.within _ c.body_at-at.ensures.body in
    let here : take g.P.Dims.D o.body ≡ body_at (entries c.args.self.now) c.args.spot.place = ap (take g.P.Dims.D) body ∙ b in
    record {
      addr = sym c.requires.address ∙ sym addr;
      body = sym here;
      fields = subst (IsBody g.P.Dims.D c.args.self.now.level) (sym here)
          (kept-body _ _ 0 _ c.args.spot.place (old _ _ _ _ c.self.view_is c.self.invariant).kept.rise c.requires.within);
      padded = subst (IsPadded g.P.Dims.D) (sym body) (subst (λ d. IsPadded d c.row-body.result) c.D-dims.ensures c.row-body.ensures.zeros);
      value = held;
      kind = kind;
      front = front;
    }

pub returns-then-child : goal.returns-then-child
returns-then-child g c =
    let n = child_what _ _ _ _ c.self.view_is c.self.invariant _ _ c.words-words.ensures c.D-dims.ensures
    c.args.spot.place c.requires.within _ c.ranked-child.ensures.kind _ c.ranked-child.ensures.rank c.if-child.true in
    read g (goal.at.returns-then-child g c).After-row-body _ refl refl (node-value _ n) (node-one _ n)
    (child_front _ _ _ _ c.self.view_is c.self.invariant _ _ c.words-words.ensures c.D-dims.ensures
    c.args.spot.place c.requires.within _ c.ranked-child.ensures.kind _ c.ranked-child.ensures.rank c.if-child.true)

pub value-requires-clause-within : goal.value-requires-clause-within
value-requires-clause-within g c =
    (point_what _ _ _ _ c.self.view_is c.self.invariant _ _ c.words-words.ensures c.D-dims.ensures c.args.spot.place
    c.requires.within _ c.ranked-child.ensures.kind _ c.ranked-child.ensures.rank c.if-child.false).0

pub overflow_sub-result : goal.overflow_sub-result
overflow_sub-result g c =
    (point_front _ _ _ _ c.self.view_is c.self.invariant _ _ c.words-words.ensures c.D-dims.ensures c.args.spot.place
    c.requires.within _ c.ranked-child.ensures.kind _ c.ranked-child.ensures.rank c.if-child.false).0

pub returns : goal.returns
returns g c =
    let w = ap value c.value.ensures ∙
    (point_what _ _ _ _ c.self.view_is c.self.invariant _ _ c.words-words.ensures c.D-dims.ensures
    c.args.spot.place c.requires.within _ c.ranked-child.ensures.kind _ c.ranked-child.ensures.rank c.if-child.false).1 in
    read g (goal.at.returns g c).After-row-body _ refl refl (ap value_of (sym w)) (ap ones_of (sym w))
    (point_front _ _ _ _ c.self.view_is c.self.invariant _ _ c.words-words.ensures c.D-dims.ensures
    c.args.spot.place c.requires.within _ c.ranked-child.ensures.kind _ c.ranked-child.ensures.rank c.if-child.false).1
