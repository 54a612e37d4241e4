use Rattle.std.proofs.Common.{◌≡◌, ◌+◌, ◌*◌, ◌≤◌, ℕ, map, take, length}
use Rattle.std.specs.Prelude.{IfSome}
use Rattle.ph_specs.specs.Digits.{number_after}
use Rattle.ph_specs.specs.Pack.{children, places, place_kind}
use Rattle.ph_bits.specs.Block.{IsSamePlaces}
use Rattle.ph_bits.specs.Written.{IsPen, digits_by, number_by}
use Rattle.ph_cube.proofs.Standing.{Passed}
use Rattle.ph_cube.proofs.writes.put_kinds.Given as goal

abbrev pub invariant-loop-i : goal.invariant-loop-i
invariant-loop-i g l =
    record {
      end : l.i-end ≡ length (g.E.Entries.list l.fn.from);
      at : (level : ℕ) × Passed g.P.Dims.D level l.passed l.i (g.E.Entries.list l.fn.from);
      few : l.children ≤ l.i;
      children : l.children ≡ children (take l.i (g.E.Entries.list l.fn.from));
      pen : IsPen l.pen;
      digits : digits_by l.words.words l.pen ≡ digits_by l.fn.words.words l.fn.pen + l.passed * 2;
      number : number_by l.words.words l.pen ≡ number_after (number_by l.fn.words.words l.fn.pen) (map place_kind (places l.passed 0 (g.E.Entries.list l.fn.from)));
      places : IsSamePlaces l.fn.words l.words;
      mark : IfSome l.mark (g.E.Entries.stands l.fn.from);
    }
