use Rattle.std.proofs.Common.{◌≡◌, ◌+◌, ◌-◌, ◌*◌, ◌^◌, ℕ, sym, ◌∙◌, ap, arith, length, take, Some}
use Rattle.std.proofs.lemmas.List.{length-set}
use Rattle.ph_bits.specs.Headers.{header_of}
use Rattle.ph_bits.specs.Slots.{words_in}
use Rattle.ph_bits.proofs.Headers.{Holds, told, held, header-first}
use Rattle.ph_bits.proofs.SlotLists.{written-set, written-fewer, in-header, in-fewer}
use Rattle.ph_bits.proofs.block.Block.truncate.Given.{Over}
use Rattle.ph_bits.proofs.block.Block.truncate.Goals as goal

-- the header, and the words that are left
left : (g : Over) (c : goal.After-write g) → let b = c.args.self.now in
    Holds c.write.new.self.slots c.self.inside.kids.items (length b.words + b.spare) c.args.len × (words_in c.args.len c.write.new.self.slots ≡ take c.args.len b.words)
left g c =
    let h = c.self.invariant in let i = c.self.inside in let cs = i.places.slots in let b = c.args.self.now in
    let t = told cs i.kids.items i.alloc b c.self.view_is h.6 h.7 h.8 in
    let ds = c.write.new.self.slots in let e = c.write.ensures.1 in let m = c.args.len in
    let head : ℕ = c.header.result - (c.len.result - m) * 2 ^ 21 in (
      held ds i.kids.items (length b.words + b.spare) m (ap length e ∙ length-set cs 0 (Some head) ∙ t.places) (omega (arith, t.fits, t.count))
          (rw e (written-set (m + 1) cs 0 head (written-fewer (m + 1) (length b.words + 1) cs (omega (arith, c.requires)) t.written)))
          (ap header_of e ∙ header-first cs head (omega (arith, t.places)) ∙ omega (arith, c.header.ensures.value, c.len.ensures.value, c.requires, t.count)),
      ap (words_in m) e ∙ in-header m cs (Some head) ∙ in-fewer m (length b.words) cs c.requires ∙ ap (take m) t.words,
    )

pub invariant_of-self : goal.invariant_of-self
invariant_of-self g c =
    let h = c.self.invariant in let i = c.self.inside in
    let t = told i.places.slots i.kids.items i.alloc c.args.self.now c.self.view_is h.6 h.7 h.8 in
    let s = (left g c).0 in let at = c.write.ensures.0 in let l = t.places ∙ sym s.places in
    (h.0 ∙ sym at, h.1 ∙ sym at, h.2, h.3 ∙ sym at, h.4 ∙ l, h.5 ∙ ap (λ k. k + length i.kids.items) l, s.small, s.written, s.head)

pub returns-clause-words : goal.returns-clause-words
returns-clause-words g c = let s = left g c in s.0.words ∙ s.1
