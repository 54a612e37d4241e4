use Rattle.std.proofs.Common.{◌≡◌, ℕ, List, arith, subst, sym, ◌∙◌, ap, false}
use Rattle.std.specs.Prelude.{Some, IfSome}
use Rattle.ph_specs.specs.Record.{entries_in}
use Rattle.ph_bits.specs.Edits.{new_flat}
use Rattle.ph_bits.specs.Packed.{rank_at}
use Rattle.ph_node.specs.Marks.{IsMarkIn}
use Rattle.ph_node.proofs.EditReads.{longer, new_value, old_within, rank_within, old_value}
use Rattle.ph_node.proofs.edited.EditedOfEntries.value.Goals as goal

pub returns-then-is_new : goal.returns-then-is_new
returns-then-is_new g c =
    let s = c.args.self.now in
    record {
      stands = c.requires.stands;
      value = λ v l. new_value g.P.Dims.D s.old.now s.edit.place s.edit.less s.edit.more s.edit.entry s.edit.value s.source s.within
          c.args.i c.requires.within (c.is_new.ensures.yes c.if-is_new.true) v l;
    }

pub old_place-k-requires-clause-fits : goal.old_place-k-requires-clause-fits
old_place-k-requires-clause-fits g c =
    let s = c.args.self.now in
    omega (
      arith,
      c.requires.within,
      s.few,
      s.within,
      longer g.P.Dims.D s.old.now s.edit.place s.edit.less s.edit.more
          (new_flat g.P.Dims.D s.edit.entry s.edit.value) s.source s.within,
    )

pub marked-found-requires-clause-within : goal.marked-found-requires-clause-within
marked-found-requires-clause-within g c =
    let s = c.args.self.now in
    old_within g.P.Dims.D s.old.now s.edit.place s.edit.less s.edit.more s.edit.entry s.edit.value s.source s.within
    c.args.i c.requires.within c.old_place-k.result (c.is_new.ensures.no c.if-is_new.false)
    c.old_place-k.ensures.front c.old_place-k.ensures.back

pub value-requires-clause-within : goal.value-requires-clause-within
value-requires-clause-within g c =
    let s = c.args.self.now in
    rank_within g.P.Dims.D s.old.now s.edit.place s.edit.less s.edit.more s.edit.entry s.edit.value s.source s.within
    c.args.i c.requires.within c.old_place-k.result (c.is_new.ensures.no c.if-is_new.false)
    c.old_place-k.ensures.front c.old_place-k.ensures.back
    c.D.result c.marked-found.result.points c.D.ensures
    (c.marked-found.ensures.mark.points ∙ ap (λ k. rank_at false (entries_in c.D.result s.old.now) k) c.marked-found.ensures.place)
    c.requires.point.0 c.requires.point.1 c.D-2.result c.D-2.ensures

pub returns : goal.returns
returns g c =
    let s = c.args.self.now in
    record {
      stands = subst (λ o. IfSome o (IsMarkIn g.P.Dims.D s.old.now)) (sym c.marked-found.ensures.stands)
          (subst (λ d. IsMarkIn d s.old.now c.marked-found.result) c.D.ensures c.marked-found.ensures.mark);
      value = λ v l. old_value g.P.Dims.D s.old.now s.edit.place s.edit.less s.edit.more s.edit.entry s.edit.value s.source s.within
          c.args.i c.requires.within c.old_place-k.result (c.is_new.ensures.no c.if-is_new.false)
          c.old_place-k.ensures.front c.old_place-k.ensures.back
          c.D.result c.marked-found.result.points c.D.ensures
          (c.marked-found.ensures.mark.points ∙ ap (λ k. rank_at false (entries_in c.D.result s.old.now) k) c.marked-found.ensures.place)
          v l c.D-2.result c.value.result c.D-2.ensures c.value.ensures;
    }
