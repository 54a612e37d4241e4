use Rattle.std.proofs.Common.{◌≡◌, ◌*◌, ◌^◌, ◌<◌, map, take, drop}
use Rattle.ph_specs.specs.Digits.{field, number_of}
use Rattle.ph_snap.proofs.records.word_at.Given as goal

abbrev pub invariant-loop-i : goal.invariant-loop-i
invariant-loop-i l = record {
  value : l.word ≡ number_of (map (field 8) (take l.i (drop l.at l.bytes)));
  small : l.word < 2 ^ (8 * l.i);
}
