use Rattle.std.proofs.Common.{◌≡◌, ◌+◌, sym, ◌∙◌, ap, subst, length, slice_set, Some}
use Rattle.std.proofs.lemmas.List.{length-set}
use Rattle.ph_bits.specs.Block.{Block}
use Rattle.ph_bits.specs.Slots.{AreWritten, words_in}
use Rattle.ph_bits.proofs.BlockParts.{other-words}
use Rattle.ph_bits.proofs.SlotLists.{written-set, in-set}
use Rattle.ph_bits.proofs.words.Words.set.Goals as goal

pub invariant_of-self : goal.invariant_of-self
invariant_of-self c =
    let h = c.self.invariant in
    let p = c.self.inside.places in
    let n = c.self.inside.len in
    let i = c.args.i + 1 in
    let e = c.write.ensures in
    other-words _ _ _ _ _ _ _ _ h e.0 (ap length e.1 ∙ length-set p.slots i (Some c.args.word))
    (subst (AreWritten (n + 1)) (sym e.1) (written-set (n + 1) p.slots i c.args.word h.written))

pub returns : goal.returns
returns c =
    let p = c.self.inside.places in
    let n = c.self.inside.len in
    let b = c.args.self.now in
    let e : words_in n c.write.new.self.slots ≡ slice_set b.words c.args.i c.args.word =
    ap (words_in n) c.write.ensures.1 ∙ in-set n p.slots c.args.i c.args.word ∙ ap (λ (v : Block). slice_set v.words c.args.i c.args.word) c.self.view_is in
    (λ j. record { words = e j; spare = (c.self.view_is j).spare; heap = (c.self.view_is j).heap })
