use Rattle.std.proofs.Common.{◌≡◌, ◌<◌, ◌+◌, ◌-◌, ◌∷◌, ◌++◌, [], sym, ◌∙◌, ap, subst, arith, length, Some}
use Rattle.std.proofs.lemmas.List.{length-set}
use Rattle.ph_bits.specs.Block.{Block}
use Rattle.ph_bits.specs.Slots.{AreWritten, words_in}
use Rattle.ph_bits.proofs.BlockParts.{other-words}
use Rattle.ph_bits.proofs.SlotLists.{written-more, in-more}
use Rattle.ph_bits.proofs.words.Words.push.Goals as goal

pub invariant_of-self : goal.invariant_of-self
invariant_of-self c =
    let h = c.self.invariant in
    let p = c.self.inside.places in
    let n = c.self.inside.len in
    let e = c.write.ensures in
    let s : c.self.inside.room - n ≡ c.args.self.now.spare = ap (λ (b : Block). b.spare) c.self.view_is in
    let l : n + 1 < length p.slots = omega (arith, s, c.requires, h.places) in
    other-words _ _ _ _ _ _ _ _ h e.0 (ap length e.1 ∙ length-set p.slots (n + 1) (Some c.args.word))
    (subst (AreWritten (n + 1 + 1)) (sym e.1) (written-more (n + 1) p.slots c.args.word h.written l))

pub returns-clause-words : goal.returns-clause-words
returns-clause-words c =
    let p = c.self.inside.places in
    let n = c.self.inside.len in
    let s : c.self.inside.room - n ≡ c.args.self.now.spare = ap (λ (b : Block). b.spare) c.self.view_is in
    ap (words_in (n + 1)) c.write.ensures.1
    ∙ in-more n p.slots c.args.word (omega (arith, s, c.requires, c.self.invariant.places))
    ∙ ap (λ (b : Block). b.words ++ c.args.word ∷ []) c.self.view_is
