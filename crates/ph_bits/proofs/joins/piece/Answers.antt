use Rattle.std.proofs.Common.{◌∙◌, ◌*◌, ◌/◌, ◌^◌, ◌-◌, sym, arith}
use Rattle.ph_bits.proofs.PenSteps.{masked}
use Rattle.ph_bits.proofs.Pieces.{piece-is}
use Rattle.ph_bits.proofs.RowPlaces.{row-at}
use Rattle.ph_bits.proofs.joins.piece.Goals as goal

pub returns-then-count-width-le64-clause-value : goal.returns-then-count-width-le64-clause-value
returns-then-count-width-le64-clause-value c =
    let r = c.requires in
    masked (c.args.first / 2 ^ (c.args.width * (c.args.count - 1 - c.args.i))) c.args.width (omega (arith, r.width))
    ∙ piece-is c.args.words.now c.args.at c.args.width c.args.count c.args.i c.args.first r.inside r.within (r.first (omega arith))

pub returns-else-count-width-le64-clause-value : goal.returns-else-count-width-le64-clause-value
returns-else-count-width-le64-clause-value c = c.field.ensures ∙ sym (row-at c.args.words.now c.args.at c.args.width c.args.count c.args.i c.requires.within)
