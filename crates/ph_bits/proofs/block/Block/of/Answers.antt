use Rattle.std.proofs.Common.{◌≡◌, ◌+◌, ◌*◌, ◌^◌, ℕ, sym, ◌∙◌, ap, arith, length, Some}
use Rattle.std.proofs.lemmas.List.{length-set}
use Rattle.ph_bits.specs.Headers.{header_of}
use Rattle.ph_bits.proofs.Headers.{held, header-first}
use Rattle.ph_bits.proofs.SlotLists.{written-set}
use Rattle.ph_bits.proofs.block.Block.of.Goals as goal

pub invariant_of-result : goal.invariant_of-result
invariant_of-result g c =
    let r = c.into_parts-places.result in let p = c.into_parts-places.ensures.parts in let cs = r.1.slots in let n = r.3 in let room = r.4 in
    let ds = c.write.new.self.slots in let e = c.write.ensures in let k = c.none-kids.ensures in
    let head : ℕ = room * 2 ^ 42 + n * 2 ^ 21 in
    let none : length c.none-kids.result.items ≡ 0 = ap length k.2 in
    let l : length ds ≡ room + 1 = ap length e.1 ∙ length-set cs 0 (Some head) ∙ p.places in
    let s = held ds c.none-kids.result.items room n l (omega (arith, p.small, none)) (rw e.1 (written-set (n + 1) cs 0 head p.written))
    (ap header_of e.1 ∙ header-first cs head (omega (arith, p.places)) ∙ omega (arith, none)) in
    (p.start ∙ sym e.0, p.right ∙ sym e.0, p.heap, k.0, k.1, p.whole ∙ omega (arith, l, none), s.small, s.written, s.head)
