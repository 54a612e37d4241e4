use Rattle.std.proofs.Common.{◌≡◌, ℕ, List, arith, subst, sym}
use Rattle.std.specs.Prelude.{Some, IfSome, slice_get}
use Rattle.ph_specs.specs.Record.{entries_in}
use Rattle.ph_bits.specs.Edits.{new_flat}
use Rattle.ph_bits.specs.Packed.{IsPadded, read_of}
use Rattle.ph_node.specs.Marks.{IsMarkIn}
use Rattle.ph_node.proofs.EditReads.{longer, new_entry, old_within, old_entry}
use Rattle.ph_node.proofs.edited.EditedOfEntries.at.Goals as goal

pub returns-then-is_new : goal.returns-then-is_new
returns-then-is_new g c =
    let s = c.args.self.now in
    record {
      stands = c.requires.stands;
      entry = new_entry g.P.Dims.D s.old.now s.edit.place s.edit.less s.edit.more s.edit.entry s.edit.value
          s.source s.within c.args.i c.requires.within (c.is_new.ensures.yes c.if-is_new.true);
      zeros = s.padded;
    }

pub old_place-k-requires-clause-fits : goal.old_place-k-requires-clause-fits
old_place-k-requires-clause-fits g c =
    let s = c.args.self.now in
    omega (
      arith,
      c.requires.within,
      s.few,
      s.within,
      longer g.P.Dims.D s.old.now s.edit.place s.edit.less s.edit.more
          (new_flat g.P.Dims.D s.edit.entry s.edit.value) s.source s.within,
    )

pub marked-found-requires-clause-within : goal.marked-found-requires-clause-within
marked-found-requires-clause-within g c =
    let s = c.args.self.now in
    old_within g.P.Dims.D s.old.now s.edit.place s.edit.less s.edit.more s.edit.entry s.edit.value s.source s.within
    c.args.i c.requires.within c.old_place-k.result (c.is_new.ensures.no c.if-is_new.false) c.old_place-k.ensures.front
    c.old_place-k.ensures.back

pub returns : goal.returns
returns g c =
    let s = c.args.self.now in
    let read : slice_get (entries_in c.D-2.result s.old.now) c.old_place-k.result ≡ Some (read_of c.D-2.result c.entry_at.result) =
    subst (λ k. slice_get (entries_in c.D-2.result s.old.now) k ≡ Some (read_of c.D-2.result c.entry_at.result))
    c.marked-found.ensures.place c.entry_at.ensures.entry in
    record {
      stands = subst (λ o. IfSome o (IsMarkIn g.P.Dims.D s.old.now)) (sym c.marked-found.ensures.stands)
          (subst (λ d. IsMarkIn d s.old.now c.marked-found.result) c.D.ensures c.marked-found.ensures.mark);
      entry = old_entry g.P.Dims.D s.old.now s.edit.place s.edit.less s.edit.more s.edit.entry s.edit.value s.source
          s.within c.args.i c.requires.within c.old_place-k.result (c.is_new.ensures.no c.if-is_new.false)
          c.old_place-k.ensures.front c.old_place-k.ensures.back
          c.D-2.result c.entry_at.result c.D-2.ensures read;
      zeros = subst (λ d. IsPadded d c.entry_at.result.body) c.D-2.ensures c.entry_at.ensures.zeros;
    }
