use Rattle.std.proofs.Common.{◌≡◌, ◌<◌, ◌+◌, ◌^◌, ℕ, List, sym, ◌∙◌, ap, arith, length, slice_set, Option, Some}
use Rattle.std.proofs.lemmas.List.{length-set}
use Rattle.ph_bits.specs.Headers.{header_of}
use Rattle.ph_bits.proofs.Headers.{told, held, header-first}
use Rattle.ph_bits.proofs.SlotLists.{written-set, written-more}
use Rattle.ph_bits.proofs.block.Block.push.Goals as goal

pub invariant_of-self : goal.invariant_of-self
invariant_of-self g c =
    let h = c.self.invariant in let i = c.self.inside in let cs = i.places.slots in let b = c.args.self.now in
    let t = told cs i.kids.items i.alloc b c.self.view_is h.6 h.7 h.8 in
    let ds = c.write-2.new.self.slots in let e = c.write.ensures in let f = c.write-2.ensures in
    let n = length b.words in let head : ℕ = c.header-header.result + 2 ^ 21 in let x = c.args.word in
    let inner : List (Option ℕ) = slice_set cs (n + 1) (Some x) in
    let slots : ds ≡ slice_set inner 0 (Some head) =
    f.1 ∙ ap (λ (v : List (Option ℕ)). slice_set v 0 (Some head)) (e.1 ∙ ap (λ k. slice_set cs (k + 1) (Some x)) c.len-len.ensures.value) in
    let long : length inner ≡ length cs = length-set cs (n + 1) (Some x) in
    let l : length ds ≡ length cs = ap length slots ∙ length-set inner 0 (Some head) ∙ long in
    let room : n + 1 < length cs = omega (arith, t.places, c.requires) in
    let s = held ds i.kids.items (n + b.spare) (n + 1) (l ∙ t.places) (omega (arith, t.fits, t.count))
    (rw slots (written-set (n + 1 + 1) inner 0 head (written-more (n + 1) cs x t.written room)))
    (ap header_of slots ∙ header-first inner head (omega (arith, t.places, long)) ∙ omega (arith, c.header-header.ensures.value, t.count)) in
    let at = f.0 ∙ e.0 in
    (h.0 ∙ sym at, h.1 ∙ sym at, h.2, h.3 ∙ sym at, h.4 ∙ sym l, h.5 ∙ ap (λ k. k + length i.kids.items) (sym l), s.small, s.written, s.head)
