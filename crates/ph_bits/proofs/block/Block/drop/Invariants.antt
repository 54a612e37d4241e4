use Rattle.std.proofs.Common.{◌≡◌, ◌+◌, length}
use Rattle.ph_bits.proofs.block.Block.drop.Given as goal

abbrev pub invariant-loop-i : goal.invariant-loop-i
invariant-loop-i g l = (l.start.at ≡ l.kids.at) × (l.start.at ≡ l.places.at) × (l.first + l.i ≡ l.kids.from) ×
    (l.first + l.i ≡ length l.places.slots) × (length l.kids.items + l.i ≡ l.count)
