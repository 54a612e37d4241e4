use Rattle.std.proofs.Common.{◌≡◌, ◌+◌, ◌-◌, ◌^◌, ℕ, List, [], ◌∷◌, ◌++◌, sym, ◌∙◌, ap, arith, length, length-append, slice_set, Option, None, Some}
use Rattle.std.proofs.lemmas.List.{length-set}
use Rattle.ph_bits.specs.Headers.{header_of}
use Rattle.ph_bits.proofs.Headers.{told, held, header-first, joined, written-alike}
use Rattle.ph_bits.proofs.SlotLists.{written-set}
use Rattle.ph_bits.proofs.block.Block.take_first.Goals as goal

pub invariant_of-self : goal.invariant_of-self
invariant_of-self g c =
    let h = c.self.invariant in let i = c.self.inside in let cs = i.places.slots in let b = c.args.self.now in
    let t = told cs i.kids.items i.alloc b c.self.view_is h.6 h.7 h.8 in
    let ds = c.write.new.self.slots in let e = c.pop_front-value.ensures in let f = c.write.ensures in
    let n = length b.words in let room = n + b.spare + 1 in let head : ℕ = c.header.result + 2 ^ 42 - 1 in
    let inner : List (Option ℕ) = cs ++ None ∷ [] in
    let slots : ds ≡ slice_set inner 0 (Some head) = f.1 ∙ ap (λ (v : List (Option ℕ)). slice_set v 0 (Some head)) e.4 in
    let long : length inner ≡ room + 1 = length-append cs (None ∷ []) ∙ omega (arith, t.places) in
    let l : length ds ≡ room + 1 = ap length slots ∙ length-set inner 0 (Some head) ∙ long in
    let fewer = ap length e.0 in
    let s = held ds c.pop_front-value.new.self.items room n l (omega (arith, t.fits, t.count, fewer))
    (rw slots (written-set (n + 1) inner 0 head (written-alike n cs inner (joined (n + 1) cs (None ∷ []) t.written.0) (omega (arith, long)) t.written)))
    (ap header_of slots ∙ header-first inner head (omega (arith, long)) ∙ omega (arith, c.header.ensures.value, t.count, fewer)) in
    let at = f.0 ∙ e.3 in
    let from : c.first-first.result + 1 ≡ length ds = omega (arith, c.first-first.ensures, l) in
    (h.0 ∙ sym at, h.1 ∙ sym at, h.2, e.1 ∙ h.3 ∙ sym at, e.2 ∙ from, h.5 ∙ omega (arith, l, fewer, t.places), s.small, s.written, s.head)
