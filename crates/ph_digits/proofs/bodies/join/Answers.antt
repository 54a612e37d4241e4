use Rattle.std.proofs.Common.{◌∙◌, ◌+◌, ◌*◌, ◌/◌, ◌^◌, ap, arith, get_or, length, rules}
use Rattle.std.proofs.Math.Pow.{pow_mono}
use Rattle.ph_digits.proofs.Joins.{small-at, kept-at, kept-more, made-more, joined-all}
use Rattle.ph_digits.proofs.bodies.join.Goals as goal

pub overflow_add-known-in-loop-i : goal.overflow_add-known-in-loop-i
overflow_add-known-in-loop-i c =
    omega (
      arith,
      c.digits_above.ensures.limit,
      c.address_digit.ensures.limit,
      kept-at c.loop-i.i c.loop-i.known c.args.known.now c.loop-i.invariant.kept,
      small-at 62 (length c.args.known.now) c.loop-i.i c.args.known.now c.requires.known,
      small-at c.args.level (length c.args.known.now) c.loop-i.i c.args.body.now c.requires.body,
      pow_mono {i = c.args.level} {j = 61} c.requires.level,
    )

pub loop-i-preserved : goal.loop-i-preserved
loop-i-preserved c = record {
  long = search rules;
  made = made-more c.args.level c.args.addr c.loop-i.i _ c.loop-i.known c.args.known.now c.args.body.now
      c.requires.body.0 c.loop-i.invariant.long c.loop-i-test.true c.loop-i.invariant.kept c.loop-i.invariant.made
      (ap (λ t. t + c.address_digit.result + get_or c.args.body.now c.loop-i.i 0) c.digits_above.ensures.value ∙
      ap (λ t. get_or c.loop-i.known c.loop-i.i 0 / 2 ^ (c.args.level + 1) * 2 ^ (c.args.level + 1) + t + get_or
      c.args.body.now c.loop-i.i 0) c.address_digit.ensures.value);
  kept = kept-more c.loop-i.i _ c.loop-i.known c.args.known.now c.loop-i.invariant.kept;
}

pub returns : goal.returns
returns c =
    joined-all c.args.level c.args.addr c.loop-i.i c.loop-i.known c.args.known.now c.args.body.now c.requires.body.0
    c.loop-i.invariant.long (omega arith) c.loop-i.invariant.made
