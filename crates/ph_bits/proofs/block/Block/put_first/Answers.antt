use Rattle.std.proofs.Common.{◌≡◌, ◌+◌, ◌-◌, ◌^◌, ℕ, List, sym, ◌∙◌, ap, arith, length, length-take, take, slice_set, Option, Some}
use Rattle.std.proofs.lemmas.List.{length-set}
use Rattle.ph_bits.specs.Filled.{Filled}
use Rattle.ph_bits.specs.Headers.{header_of}
use Rattle.ph_bits.specs.Slots.{words_in}
use Rattle.ph_bits.proofs.Headers.{Holds, told, held, header-first, taken, in-alike, written-alike}
use Rattle.ph_bits.proofs.SlotLists.{written-set, in-header}
use Rattle.ph_bits.proofs.block.Block.put_first.Given.{Over}
use Rattle.ph_bits.proofs.block.Block.put_first.Goals as goal

-- the header, and the words that stay
kept : (g : Over) (c : goal.After-write g) → let b = c.args.self.now in
    Holds c.write.new.self.slots c.push_front.new.self.items (length b.words + b.spare - 1) (length b.words)
    × (words_in (length b.words) c.write.new.self.slots ≡ b.words)
kept g c =
    let h = c.self.invariant in let i = c.self.inside in let cs = i.places.slots in let b = c.args.self.now in
    let t = told cs i.kids.items i.alloc b c.self.view_is h.6 h.7 h.8 in
    let ds = c.write.new.self.slots in let e = c.push_front.ensures in let spare = c.requires.spare in
    let n = length b.words in let last = n + b.spare in let head : ℕ = c.header.result - 2 ^ 42 + 1 in
    let inner : List (Option ℕ) = take last cs in
    let slots : ds ≡ slice_set inner 0 (Some head) =
    c.write.ensures.1 ∙ ap (λ (v : List (Option ℕ)). slice_set v 0 (Some head)) (e.4 ∙ ap (λ k. take k cs) (omega (arith, c.first-last.ensures))) in
    let long : length inner ≡ last = omega (arith, length-take last cs, t.places) in
    let l : length ds ≡ last = ap length slots ∙ length-set inner 0 (Some head) ∙ long in
    let same : take (n + 1) inner ≡ take (n + 1) cs = taken (n + 1) last cs (omega (arith, spare)) in
    let more = ap length e.0 in (
      held ds c.push_front.new.self.items (last - 1) n (omega (arith, l, spare)) (omega (arith, t.fits, t.count, more, spare))
          (rw slots (written-set (n + 1) inner 0 head (written-alike n cs inner same (omega (arith, long, spare)) t.written)))
          (ap header_of slots ∙ header-first inner head (omega (arith, long, spare)) ∙ omega (arith, c.header.ensures.value, t.count, more, spare)),
      ap (words_in n) slots ∙ in-header n inner (Some head) ∙ in-alike n cs inner same ∙ t.words,
    )

pub invariant_of-self : goal.invariant_of-self
invariant_of-self g c =
    let h = c.self.invariant in let i = c.self.inside in
    let t = told i.places.slots i.kids.items i.alloc c.args.self.now c.self.view_is h.6 h.7 h.8 in
    let e = c.push_front.ensures in let s = (kept g c).0 in let spare = c.requires.spare in let more = ap length e.0 in let at = c.write.ensures.0 ∙ e.3 in
    let from : c.first-last.result - 1 ≡ length c.write.new.self.slots = omega (arith, c.first-last.ensures, s.places, spare) in
    (h.0 ∙ sym at, h.1 ∙ sym at, h.2, e.1 ∙ h.3 ∙ sym at, e.2 ∙ from, h.5 ∙ omega (arith, s.places, more, t.places, spare), s.small, s.written, s.head)

pub returns-clause-same : goal.returns-clause-same
returns-clause-same g c = let s = kept g c in (s.0.words ∙ s.1, ap (λ (v : Filled g.row.T.Denot). v.heap) c.self.view_is)
