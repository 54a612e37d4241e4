use Rattle.std.proofs.Common.{◌≡◌, replicate}
use Rattle.ph_bits.specs.Block.{IsSamePlaces}
use Rattle.ph_bits.proofs.words.Words.reset.Given as goal

abbrev pub invariant-loop : goal.invariant-loop
invariant-loop l = (l.self.words ≡ replicate l.counter 0) × IsSamePlaces l.initial.self l.self
