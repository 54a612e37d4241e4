use Rattle.std.proofs.Common.{◌+◌, ◌*◌, ◌^◌, ◌≤◌, length, arith, ◌∙◌, sym, ap, slice_index_or}
use Rattle.ph_bits.specs.Written.{number_by}
use Rattle.ph_bits.proofs.Folds.{row-more}
use Rattle.ph_bits.proofs.pens.Pen.put_row.Goals as goal

pub loop-i-preserved : goal.loop-i-preserved
loop-i-preserved c =
    let v = c.loop-i.invariant in
    let w = c.args.width in
    let l : c.args.count ≤ length c.args.body.now = omega (arith, c.requires.few, c.told-body) in
    record {
      pen = c.put.ensures.pen;
      digits = omega (arith, c.put.ensures.digits, v.digits);
      number =
          c.put.ensures.number
          ∙ ap (λ t. t * 2 ^ w + slice_index_or c.args.body.now c.loop-i.i 0) v.number
          ∙ sym (row-more (number_by c.args.words.now.words c.args.self.now) w c.args.count c.args.body.now c.loop-i.i c.loop-i-test.true l);
      places = (c.put.ensures.places.0 ∙ v.places.0, c.put.ensures.places.1 ∙ v.places.1);
    }
