use Rattle.std.proofs.Common.{◌+◌, ◌-◌, arith, length}
use Rattle.ph_specs.specs.TreeRows.{put_together}
use Rattle.ph_model.specs.PutTree.{body_above}
use Rattle.ph_bits.specs.Apart.{greatest_square}
use Rattle.ph_bits.specs.Fields.{digits_row}
use Rattle.ph_bits.proofs.Aparts.{apart-first, apart-done, room-on}
use Rattle.ph_bits.proofs.JoinedNumbers.{joined-long}
use Rattle.ph_bits.proofs.apart.row_distance.Goals as goal

pub returns-then-sum-limit : goal.returns-then-sum-limit
returns-then-sum-limit c =
    let known = c.args.known.now in
    let whole = put_together c.args.level c.args.addr (body_above c.args.level known) (digits_row c.args.words.now c.args.at c.args.level (length known)) in
    let l = c.loop-i-test.true in
    let long = joined-long c.args.words.now known c.args.at c.args.level c.args.addr in
    let first = apart-first c.loop-i.i _ _ whole c.args.others.now (omega (arith, l, long))
    (omega (arith, l, c.requires.others.0)) c.joined_number-number.ensures.value c.square_apart-sum.ensures.value in
    omega (arith, c.if-sum-limit.true, c.loop-i.invariant.value, first)

pub loop-i-preserved : goal.loop-i-preserved
loop-i-preserved c =
    let known = c.args.known.now in
    let whole = put_together c.args.level c.args.addr (body_above c.args.level known) (digits_row c.args.words.now c.args.at c.args.level (length known)) in
    let i = c.loop-i.i in
    let l = c.loop-i-test.true in
    let long = joined-long c.args.words.now known c.args.at c.args.level c.args.addr in
    let first = apart-first i _ _ whole c.args.others.now (omega (arith, l, long))
    (omega (arith, l, c.requires.others.0)) c.joined_number-number.ensures.value c.square_apart-sum.ensures.value in
    record {
      value = omega (arith, c.loop-i.invariant.value, first);
      limit = room-on c.loop-i.sum c.square_apart-sum.result (length known - i) (length known - (i + 1))
          greatest_square (omega (arith, l)) c.square_apart-sum.ensures.limit c.loop-i.invariant.limit;
      within = omega (arith, c.if-sum-limit.false);
    }

pub returns : goal.returns
returns c =
    let known = c.args.known.now in
    let whole = put_together c.args.level c.args.addr (body_above c.args.level known) (digits_row c.args.words.now c.args.at c.args.level (length known)) in
    let long = joined-long c.args.words.now known c.args.at c.args.level c.args.addr in
    (apart-done c.loop-i.i c.loop-i.sum _ whole c.args.others.now (omega (arith, c.loop-i-test.false, long)) c.loop-i.invariant.value, c.loop-i.invariant.within)
