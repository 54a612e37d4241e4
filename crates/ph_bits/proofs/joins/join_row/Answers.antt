use Rattle.std.proofs.Common.{◌∙◌, ◌+◌, ◌*◌, ◌-◌, ◌/◌, ◌%◌, ◌^◌, ap, arith, get_or, length, rules}
use Rattle.ph_digits.proofs.Joins.{kept-more, made-more, joined-all}
use Rattle.ph_bits.specs.Fields.{digits_row}
use Rattle.ph_bits.proofs.JoinedNumbers.{sum-fits}
use Rattle.ph_bits.proofs.RowPlaces.{length-row}
use Rattle.ph_bits.proofs.joins.join_row.Goals as goal

pub overflow_add-known-in-loop-i : goal.overflow_add-known-in-loop-i
overflow_add-known-in-loop-i c =
    let k = sum-fits c.args.level c.loop-i.i (length c.args.known.now) _ _ _ c.loop-i.known c.args.known.now c.loop-i.invariant.kept
    c.requires.known c.requires.level c.digits_above.ensures.limit c.address_digit.ensures.limit c.piece-below.ensures.limit in
    omega (arith, k)

pub loop-i-preserved : goal.loop-i-preserved
loop-i-preserved c =
    let row = digits_row c.args.words.now c.args.at c.args.level (length c.args.known.now) in
    record {
      long = search rules;
      made = made-more c.args.level c.args.addr c.loop-i.i _ c.loop-i.known c.args.known.now row
          (length-row c.args.words.now c.args.at c.args.level (length c.args.known.now)) c.loop-i.invariant.long
          c.loop-i-test.true c.loop-i.invariant.kept c.loop-i.invariant.made
          (ap (λ t. t + c.address_digit.result + c.piece-below.result) c.digits_above.ensures.value ∙
          ap (λ t. get_or c.loop-i.known c.loop-i.i 0 / 2 ^ (c.args.level + 1) * 2 ^ (c.args.level + 1) + t +
          c.piece-below.result) c.address_digit.ensures.value
          ∙ ap (λ t. get_or c.loop-i.known c.loop-i.i 0 / 2 ^ (c.args.level + 1) * 2 ^ (c.args.level + 1) +
          c.args.addr / 2 ^ (length c.args.known.now - 1 - c.loop-i.i) % 2 * 2 ^ c.args.level + t)
          c.piece-below.ensures.value);
      kept = kept-more c.loop-i.i _ c.loop-i.known c.args.known.now c.loop-i.invariant.kept;
    }

pub returns : goal.returns
returns c =
    let row = digits_row c.args.words.now c.args.at c.args.level (length c.args.known.now) in
    joined-all c.args.level c.args.addr c.loop-i.i c.loop-i.known c.args.known.now row
    (length-row c.args.words.now c.args.at c.args.level (length c.args.known.now)) c.loop-i.invariant.long
    (omega arith) c.loop-i.invariant.made
