use Rattle.std.proofs.Common.{◌≡◌, ◌+◌}
use Rattle.ph_specs.specs.Load.{words_in}
use Rattle.ph_bits.specs.Block.{room_of}
use Rattle.ph_snap.proofs.records.read_words.Given as goal

abbrev pub invariant-loop-i : goal.invariant-loop-i
invariant-loop-i l = record {
  words : l.words.words ≡ words_in l.i l.bytes;
  room : room_of l.words ≡ l.len + l.more;
}
