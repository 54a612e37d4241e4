use Rattle.std.proofs.Common.{◌≡◌, ◌+◌, ◌-◌, ℕ, List, sym, ◌∙◌, ap, arith, length, slice_set, Some}
use Rattle.std.proofs.lemmas.List.{length-set}
use Rattle.ph_bits.specs.Headers.{header_of}
use Rattle.ph_bits.specs.Slots.{words_in}
use Rattle.ph_bits.proofs.Headers.{Holds, told, held, header-behind}
use Rattle.ph_bits.proofs.SlotLists.{written-set, in-set}
use Rattle.ph_bits.proofs.block.Block.set.Given.{Over}
use Rattle.ph_bits.proofs.block.Block.set.Goals as goal

-- the header stays
stays : (g : Over) (c : goal.After-write g) → let b = c.args.self.now in Holds c.write.new.self.slots c.self.inside.kids.items (length b.words + b.spare) (length b.words)
stays g c =
    let h = c.self.invariant in let i = c.self.inside in let cs = i.places.slots in let b = c.args.self.now in
    let t = told cs i.kids.items i.alloc b c.self.view_is h.6 h.7 h.8 in
    let e = c.write.ensures.1 in let at = c.args.i + 1 in let x = c.args.word in
    held c.write.new.self.slots i.kids.items (length b.words + b.spare) (length b.words)
    (ap length e ∙ length-set cs at (Some x) ∙ t.places) (omega (arith, t.fits, t.count))
    (rw e (written-set (length b.words + 1) cs at x t.written)) (ap header_of e ∙ header-behind cs c.args.i (Some x) ∙ omega (arith, t.head, t.count))

pub invariant_of-self : goal.invariant_of-self
invariant_of-self g c =
    let h = c.self.invariant in let i = c.self.inside in
    let t = told i.places.slots i.kids.items i.alloc c.args.self.now c.self.view_is h.6 h.7 h.8 in
    let s = stays g c in let at = c.write.ensures.0 in let l = t.places ∙ sym s.places in
    (h.0 ∙ sym at, h.1 ∙ sym at, h.2, h.3 ∙ sym at, h.4 ∙ l, h.5 ∙ ap (λ k. k + length i.kids.items) l, s.small, s.written, s.head)

pub returns : goal.returns
returns g c =
    let h = c.self.invariant in let i = c.self.inside in let cs = i.places.slots in let b = c.args.self.now in
    let t = told cs i.kids.items i.alloc b c.self.view_is h.6 h.7 h.8 in let n = length b.words in
    let new : words_in n c.write.new.self.slots ≡ slice_set b.words c.args.i c.args.word =
    ap (words_in n) c.write.ensures.1 ∙ in-set n cs c.args.i c.args.word ∙ ap (λ (v : List ℕ). slice_set v c.args.i c.args.word) t.words in
    let spare : n + b.spare - n ≡ b.spare = omega arith in
    (stays g c).seen i.alloc ∙ (λ j. record { words = new j; spare = spare j; values = t.values j; heap = (c.self.view_is j).heap })
