use Rattle.std.proofs.Common.{◌+◌, sym, ◌∙◌, ap, subst}
use Rattle.ph_bits.specs.Slots.{AreWritten, words_in}
use Rattle.ph_bits.proofs.Headers.{told}
use Rattle.ph_bits.proofs.SlotLists.{in-shown}
use Rattle.ph_bits.proofs.block.Block.words.Goals as goal

pub words-requires : goal.words-requires
words-requires g c =
    let h = c.self.invariant in let i = c.self.inside in let cs = i.places.slots in
    let t = told cs i.kids.items i.alloc c.args.self.now c.self.view_is h.6 h.7 h.8 in
    (h.0, subst (λ k. AreWritten (k + 1) cs) (sym c.len.ensures.value) t.written)

pub returns : goal.returns
returns g c =
    let h = c.self.invariant in let i = c.self.inside in let cs = i.places.slots in
    let t = told cs i.kids.items i.alloc c.args.self.now c.self.view_is h.6 h.7 h.8 in
    in-shown c.len.result cs c.words.result.now c.words.ensures ∙ ap (λ k. words_in k cs) c.len.ensures.value ∙ t.words
