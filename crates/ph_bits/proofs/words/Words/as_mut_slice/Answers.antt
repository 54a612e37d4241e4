use Rattle.std.proofs.Common.{◌-◌, refl, ◌∙◌, ap}
use Rattle.ph_bits.specs.Block.{Block}
use Rattle.ph_bits.specs.LendsSlice.{with_slice}
use Rattle.ph_bits.proofs.BlockParts.{other-words}
use Rattle.ph_bits.proofs.SlotLists.{in-lent, length-lent, written-lent}
use Rattle.ph_bits.proofs.words.Words.as_mut_slice.Goals as goal

pub invariant_of-self-lent : goal.invariant_of-self-lent
invariant_of-self-lent c w =
    let h = c.self.invariant in let n = c.self.inside.len in let cs = c.self.inside.places.slots in
    other-words _ _ _ _ _ _ _ _ h refl (length-lent n cs w h.written.0) (written-lent n cs w h.written)

pub returns : goal.returns
returns c =
    let n = c.self.inside.len in
    let cs = c.self.inside.places.slots in
    let h = c.self.invariant.written in (
      (
        refl,
        λ w. (λ j. record {
          words = in-lent n cs w h.0 j;
          spare = c.self.inside.room - n;
          heap = c.self.inside.alloc;
        }) ∙ ap (λ (b : Block). with_slice b w) c.self.view_is,
      ),
      record { lends = tt; words = c.words_mut.ensures.words ∙ ap (λ (b : Block). b.words) c.self.view_is },
    )
