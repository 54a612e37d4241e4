use Rattle.std.proofs.Common.{◌≤◌, ◌+◌, arith, refl}
use Rattle.ph_bits.proofs.BlockParts.{other-words}
use Rattle.ph_bits.proofs.SlotLists.{written-fewer}
use Rattle.ph_bits.proofs.words.Words.reset.Goals as goal

pub invariant_of-self : goal.invariant_of-self
invariant_of-self c =
    let h = c.self.invariant in let n = c.self.inside.len in
    let l : 0 + 1 ≤ n + 1 = omega arith in
    other-words _ _ _ _ _ _ _ _ h refl refl (written-fewer (0 + 1) (n + 1) c.self.inside.places.slots l h.written)
