use Rattle.std.proofs.Common.{◌≡◌, ◌+◌, ◌*◌, ◌/◌, ◌^◌, ◌<◌, ◌≤◌, ◌∙◌, ℕ, ap, arith, get_or, length, length-set}
use Rattle.ph_digits.proofs.Joins.{small-at}
use Rattle.ph_node.specs.Apart.{greatest_square}
use Rattle.ph_near.specs.Far.{gap_above}
use Rattle.ph_near.specs.Halves.{half_gap}
use Rattle.ph_near.proofs.FarRegions.{corner-room}
use Rattle.ph_near.proofs.HalfGaps.{set-more}
use Rattle.ph_near.proofs.halves.Halves.new.Goals as goal

pub squared_gap-requires-clause-low : goal.squared_gap-requires-clause-low
squared_gap-requires-clause-low g c =
    let x = get_or c.args.known.now c.loop-i.i 0 in
    let small : get_or c.args.known.now c.loop-i.i 0 < 2 ^ 62 = small-at 62 g.row.D c.loop-i.i c.args.known.now c.requires.known in
    let room = corner-room c.args.level x 0 c.requires.level small (omega arith) in
    omega (arith, room, c.digits_above-start.ensures.value)

pub overflow_add-middle : goal.overflow_add-middle
overflow_add-middle g c =
    let small : get_or c.args.known.now c.loop-i.i 0 < 2 ^ 62 = small-at 62 g.row.D c.loop-i.i c.args.known.now c.requires.known in
    omega (arith, small, c.digits_above-start.ensures.limit, c.address_digit.ensures.limit)

pub squared_gap-requires-in-loop-i-clause-low : goal.squared_gap-requires-in-loop-i-clause-low
squared_gap-requires-in-loop-i-clause-low g c =
    let x = get_or c.args.known.now c.loop-i.i 0 in
    let small : get_or c.args.known.now c.loop-i.i 0 < 2 ^ 62 = small-at 62 g.row.D c.loop-i.i c.args.known.now c.requires.known in
    let room = corner-room c.args.level x 1 c.requires.level small (omega arith) in
    omega (arith, room, c.digits_above-start.ensures.value, c.address_digit.ensures.value)

pub loop-i-preserved : goal.loop-i-preserved
loop-i-preserved g c =
    let i = c.loop-i.i in
    let level = c.args.level in
    let known = c.args.known.now in
    let center = c.args.center.now in
    let in_low : c.loop-i.i < length c.loop-i.low = omega (arith, c.loop-i-test.true, c.loop-i.invariant.lows) in
    let in_high : c.loop-i.i < length c.loop-i.high = omega (arith, c.loop-i-test.true, c.loop-i.invariant.highs) in
    let start : c.digits_above-start.result ≡ get_or c.args.known.now c.loop-i.i 0 / 2 ^ (c.args.level + 1) * 2 ^
    (c.args.level + 1) + 0 * 2 ^ c.args.level = omega (arith, c.digits_above-start.ensures.value) in
    let middle : c.digits_above-start.result + c.address_digit.result ≡ get_or c.args.known.now c.loop-i.i 0 / 2 ^
    (c.args.level + 1) * 2 ^ (c.args.level + 1) + 1 * 2 ^ c.args.level =
    omega (arith, c.digits_above-start.ensures.value, c.address_digit.ensures.value) in
    let square = λ (t : ℕ). gap_above level t (get_or center i 0) * gap_above level t (get_or center i 0) in
    record {
      lows = length-set c.loop-i.low i c.squared_gap.result ∙ c.loop-i.invariant.lows;
      highs = length-set c.loop-i.high i c.squared_gap-in-loop-i.result ∙ c.loop-i.invariant.highs;
      low = set-more (λ j n. n ≡ half_gap level (get_or known j 0) 0 (get_or center j 0)) c.loop-i.low i
          c.squared_gap.result in_low c.loop-i.invariant.low (c.squared_gap.ensures.value ∙ ap square start);
      high = set-more (λ j n. n ≡ half_gap level (get_or known j 0) 1 (get_or center j 0)) c.loop-i.high i
          c.squared_gap-in-loop-i.result in_high c.loop-i.invariant.high
          (c.squared_gap-in-loop-i.ensures.value ∙ ap square middle);
      small_low = set-more (λ j n. n ≤ greatest_square) c.loop-i.low i c.squared_gap.result in_low c.loop-i.invariant.small_low c.squared_gap.ensures.limit;
      small_high = set-more (λ j n. n ≤ greatest_square) c.loop-i.high i c.squared_gap-in-loop-i.result in_high
          c.loop-i.invariant.small_high c.squared_gap-in-loop-i.ensures.limit;
    }

pub returns-clause-small : goal.returns-clause-small
returns-clause-small g c = record {
  few = c.requires.few;
  lows = c.loop-i.invariant.lows;
  highs = c.loop-i.invariant.highs;
  low = λ j k. c.loop-i.invariant.small_low j (omega (arith, k, c.loop-i-test.false));
  high = λ j k. c.loop-i.invariant.small_high j (omega (arith, k, c.loop-i-test.false));
}
