use Rattle.std.proofs.Common.{◌≡◌, ◌+◌, ◌*◌, take, map}
use Rattle.ph_specs.specs.Digits.{field, number_after}
use Rattle.ph_bits.specs.Block.{IsSamePlaces}
use Rattle.ph_bits.specs.Written.{IsPen, digits_by, number_by}
use Rattle.ph_bits.proofs.pens.Pen.put_row.Given as goal

abbrev pub invariant-loop-i : goal.invariant-loop-i
invariant-loop-i l =
    record {
      pen : IsPen l.self;
      digits : digits_by l.words.words l.self ≡ digits_by l.initial.words.words l.initial.self + l.i * l.fn.width;
      number : number_by l.words.words l.self ≡ number_after (number_by l.initial.words.words l.initial.self)
          (take l.i (map (field l.fn.width) (take l.fn.count l.fn.body)));
      places : IsSamePlaces l.initial.words l.words;
    }
