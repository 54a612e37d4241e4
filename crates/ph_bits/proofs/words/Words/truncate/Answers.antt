use Rattle.std.proofs.Common.{◌≡◌, ◌≤◌, ◌+◌, length, take, ◌∙◌, ap, arith, refl}
use Rattle.ph_bits.specs.Block.{Block}
use Rattle.ph_bits.specs.Slots.{words_in}
use Rattle.ph_bits.proofs.BlockParts.{other-words}
use Rattle.ph_bits.proofs.SlotLists.{written-fewer, in-fewer, length-in}
use Rattle.ph_bits.proofs.words.Words.truncate.Goals as goal

pub overflow_cast-self : goal.overflow_cast-self
overflow_cast-self c =
    let h = c.self.invariant in let n = c.self.inside.len in let cs = c.self.inside.places.slots in
    let e : words_in n cs ≡ c.args.self.now.words = ap (λ (b : Block). b.words) c.self.view_is in
    record { fits = omega (arith, h.small, h.places, h.written.0, length-in n cs h.written.0, ap length e, c.requires) }

pub invariant_of-self : goal.invariant_of-self
invariant_of-self c =
    let h = c.self.invariant in let n = c.self.inside.len in let cs = c.self.inside.places.slots in let m = c.args.len in
    let e : words_in n cs ≡ c.args.self.now.words = ap (λ (b : Block). b.words) c.self.view_is in
    let l : m + 1 ≤ n + 1 = omega (arith, length-in n cs h.written.0, ap length e, c.requires) in
    other-words _ _ _ _ _ _ _ _ h refl refl (written-fewer (m + 1) (n + 1) cs l h.written)

pub returns-clause-words : goal.returns-clause-words
returns-clause-words c =
    let h = c.self.invariant in let n = c.self.inside.len in let cs = c.self.inside.places.slots in let m = c.args.len in
    let e : words_in n cs ≡ c.args.self.now.words = ap (λ (b : Block). b.words) c.self.view_is in
    let l : m ≤ n = omega (arith, length-in n cs h.written.0, ap length e, c.requires) in
    in-fewer m n cs l ∙ ap (take m) e
