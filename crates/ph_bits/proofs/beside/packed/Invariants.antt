use Rattle.std.proofs.Common.{◌≡◌, ◌*◌, ◌<◌, ◌^◌, map, drop}
use Rattle.ph_specs.specs.Digits.{field, number_after, number_of}
use Rattle.ph_bits.specs.Fields.{cut}
use Rattle.ph_bits.proofs.beside.packed.Given as goal

abbrev pub invariant-loop-i : goal.invariant-loop-i
invariant-loop-i l = record {
  value : number_after l.all (map (field l.fn.width) (map (cut l.fn.width l.fn.low) (drop l.i l.fn.numbers))) ≡
      number_of (map (field l.fn.width) (map (cut l.fn.width l.fn.low) l.fn.numbers));
  small : l.all < 2 ^ (l.fn.width * l.i);
}
