use Rattle.std.proofs.Common.{◌≡◌, ◌+◌, ◌*◌, ◌^◌, length}
use Rattle.ph_bits.specs.Block.{IsSamePlaces}
use Rattle.ph_bits.specs.Fields.{number_in}
use Rattle.ph_bits.proofs.pens.Pen.behind_zeros.Given as goal

abbrev pub invariant-loop : goal.invariant-loop
invariant-loop l =
    record {
      length : length l.words.words ≡ length l.initial.words.words + l.counter;
      number : number_in l.words.words ≡ number_in l.initial.words.words * 2 ^ (64 * l.counter);
      places : IsSamePlaces l.initial.words l.words;
    }
