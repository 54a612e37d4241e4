use Rattle.std.proofs.Common.{◌≡◌, ◌++◌, length, take}
use Rattle.std.specs.Prelude.{IfSome}
use Rattle.ph_specs.specs.Pack.{values}
use Rattle.ph_bits.specs.Block.{IsSamePlaces}
use Rattle.ph_linear.proofs.writes.put_values.Given as goal

abbrev pub invariant-loop-i : goal.invariant-loop-i
invariant-loop-i g l =
    record {
      end : l.i-end ≡ length (g.E.Entries.list l.fn.from);
      words : l.words.words ≡ l.fn.words.words ++ values (take l.i (g.E.Entries.list l.fn.from));
      places : IsSamePlaces l.fn.words l.words;
      mark : IfSome l.mark (g.E.Entries.stands l.fn.from);
    }
