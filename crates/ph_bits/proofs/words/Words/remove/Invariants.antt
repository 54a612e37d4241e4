use Rattle.std.proofs.Common.{◌≡◌}
use Rattle.ph_bits.specs.Block.{IsSamePlaces}
use Rattle.ph_bits.proofs.Shifts.{moved}
use Rattle.ph_bits.proofs.words.Words.remove.Given as goal

abbrev pub invariant-loop-k : goal.invariant-loop-k
invariant-loop-k l = record {
  words : l.self.words ≡ moved l.initial.self.words l.i l.k;
  places : IsSamePlaces l.initial.self l.self;
}
