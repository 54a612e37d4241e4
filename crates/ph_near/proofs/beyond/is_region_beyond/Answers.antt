use Rattle.std.proofs.Common.{◌≡◌, [], ◌+◌, ◌-◌, ◌/◌, ◌%◌, ◌^◌, ap, arith, drop, get_or, length}
use Rattle.std.proofs.Math.Nat.{mod-lt}
use Rattle.std.proofs.lemmas.List.{drop_all}
use Rattle.ph_digits.proofs.Joins.{small-at}
use Rattle.ph_node.specs.Apart.{greatest_square}
use Rattle.ph_near.specs.Far.{corner_of, gaps_squared}
use Rattle.ph_near.proofs.FarRegions.{corner-room, corner-long, corner-gaps, room-on}
use Rattle.ph_near.proofs.beyond.is_region_beyond.Goals as goal

pub squared_gap-sum-requires-clause-low : goal.squared_gap-sum-requires-clause-low
squared_gap-sum-requires-clause-low c =
    let known = c.args.known.now in
    let digit = c.args.addr / 2 ^ (length known - 1 - c.loop-i.i) in
    let room = corner-room c.args.level (get_or known c.loop-i.i 0) (digit % 2) c.requires.level
    (small-at 62 (length known) c.loop-i.i known c.requires.known) (mod-lt digit (omega arith)) in
    omega (arith, room, c.digits_above.ensures.value, c.address_digit-digit.ensures.value)

pub returns-then-sum-limit-clause-beyond : goal.returns-then-sum-limit-clause-beyond
returns-then-sum-limit-clause-beyond c _ =
    let first = corner-gaps c.args.level c.args.addr c.loop-i.i _ _ c.squared_gap-sum.result c.args.known.now c.args.center.now
    c.loop-i-test.true c.requires.center.0 (omega (arith, c.if-level-eq0.false)) c.digits_above.ensures.value
    c.address_digit-digit.ensures.value c.squared_gap-sum.ensures.value in
    (omega (arith, c.if-level-eq0.false), omega (arith, c.if-sum-limit.true, c.loop-i.invariant.value, first))

pub loop-i-preserved : goal.loop-i-preserved
loop-i-preserved c =
    let first = corner-gaps c.args.level c.args.addr c.loop-i.i _ _ c.squared_gap-sum.result c.args.known.now c.args.center.now
    c.loop-i-test.true c.requires.center.0 (omega (arith, c.if-level-eq0.false)) c.digits_above.ensures.value
    c.address_digit-digit.ensures.value c.squared_gap-sum.ensures.value in
    record {
      value = omega (arith, c.loop-i.invariant.value, first);
      within = omega (arith, c.if-sum-limit.false);
      limit = room-on c.loop-i.sum c.squared_gap-sum.result (length c.args.known.now - c.loop-i.i) (length c.args.known.now - (c.loop-i.i + 1))
          greatest_square (omega (arith, c.loop-i-test.true)) c.squared_gap-sum.ensures.limit c.loop-i.invariant.limit;
    }

pub returns-clause-within : goal.returns-clause-within
returns-clause-within c _ l =
    let known = c.args.known.now in
    let corner = corner_of c.args.level c.args.addr known in
    let none : drop c.loop-i.i corner ≡ [] = drop_all c.loop-i.i corner (omega (arith, c.loop-i-test.false, corner-long c.args.level c.args.addr known)) in
    let rest : gaps_squared (c.args.level - 1) (drop c.loop-i.i corner) (drop c.loop-i.i c.args.center.now) ≡ 0 =
    ap (λ t. gaps_squared (c.args.level - 1) t (drop c.loop-i.i c.args.center.now)) none in
    omega (arith, c.loop-i.invariant.value, c.loop-i.invariant.within, rest)
