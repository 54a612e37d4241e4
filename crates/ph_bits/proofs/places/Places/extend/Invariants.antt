use Rattle.std.proofs.Common.{◌≡◌, ◌+◌, ◌++◌, length, take}
use Rattle.ph_bits.specs.Slots.{AreWritten, words_at}
use Rattle.ph_bits.proofs.places.Places.extend.Given as goal

abbrev pub invariant-loop-i : goal.invariant-loop-i
invariant-loop-i l =
    record {
      start : l.self.at ≡ l.initial.self.at;
      room : length l.self.slots ≡ length l.initial.self.slots;
      written : AreWritten (l.len + l.i) l.self.slots;
      words : words_at (l.len + l.i) l.self.slots ≡ words_at l.len l.initial.self.slots ++ take l.i l.more;
    }
