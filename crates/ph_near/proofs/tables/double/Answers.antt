use Rattle.std.proofs.Common.{◌+◌, ◌<◌, ◌∙◌, below_more, refl, ap, arith, get_or, length}
use Rattle.ph_near.proofs.TwoWrites.{at-first, at-second, elsewhere, long-both}
use Rattle.ph_near.proofs.tables.double.Goals as goal

pub overflow_add-sums : goal.overflow_add-sums
overflow_add-sums c =
    let j = c.loop-j.j in
    let same = c.loop-j.invariant.rest j (omega arith) c.loop-j-test.true in
    omega (arith, same, c.requires.small j c.loop-j-test.true, c.requires.low)

pub loop-j-init : goal.loop-j-init
loop-j-init c = record {
  long = refl;
  lows = λ i k. absurd (omega (arith, k));
  highs = λ i k. absurd (omega (arith, k));
  rest = λ i _ k. refl;
  below = λ i k. refl;
  above = λ i k. refl;
}

pub loop-j-preserved : goal.loop-j-preserved
loop-j-preserved c =
    let xs = c.loop-j.sums in
    let j = c.loop-j.j in
    let start = c.args.start in
    let count = c.args.count in
    let p = c.args.start + c.loop-j.j in
    let q = c.args.start + c.args.count + c.loop-j.j in
    let u = get_or c.loop-j.sums (c.args.start + c.loop-j.j) 0 + c.args.low in
    let v = get_or c.loop-j.sums (c.args.start + c.loop-j.j) 0 + c.args.high in
    let same = c.loop-j.invariant.rest j (omega arith) c.loop-j-test.true in
    let apart : c.args.start + c.loop-j.j < c.args.start + c.args.count + c.loop-j.j = omega (arith, c.loop-j-test.true) in
    let inside : c.args.start + c.args.count + c.loop-j.j < length c.loop-j.sums =
    omega (arith, c.loop-j-test.true, c.loop-j.invariant.long, c.requires.long, c.requires.room) in
    record {
      long = long-both xs p q u v ∙ c.loop-j.invariant.long;
      lows = below_more _ _
          (λ i k. elsewhere xs p q u v (start + i) (λ e. omega (arith, e, k)) (λ e. omega (arith, e, k, c.loop-j-test.true)) ∙ c.loop-j.invariant.lows i k)
          (at-first xs p q u v apart inside ∙ ap (λ n. n + c.args.low) same);
      highs = below_more _ _
          (λ i k. elsewhere xs p q u v (start + count + i) (λ e. omega (arith, e, k, c.loop-j-test.true)) (λ e. omega (arith, e, k)) ∙ c.loop-j.invariant.highs i k)
          (at-second xs p q u v inside ∙ ap (λ n. n + c.args.high) same);
      rest = λ i k l. elsewhere xs p q u v (start + i) (λ e. omega (arith, e, k)) (λ e. omega (arith, e, l, k)) ∙ c.loop-j.invariant.rest i (omega (arith, k)) l;
      below = λ i k. elsewhere xs p q u v i (λ e. omega (arith, e, k)) (λ e. omega (arith, e, k)) ∙ c.loop-j.invariant.below i k;
      above = λ i k. elsewhere xs p q u v i (λ e. omega (arith, e, k, c.loop-j-test.true)) (λ e. omega (arith, e, k, c.loop-j-test.true)) ∙ c.loop-j.invariant.above i k;
    }

pub returns : goal.returns
returns c = record {
  long = c.loop-j.invariant.long;
  lows = λ j k. c.loop-j.invariant.lows j (omega (arith, k, c.loop-j-test.false));
  highs = λ j k. c.loop-j.invariant.highs j (omega (arith, k, c.loop-j-test.false));
  below = c.loop-j.invariant.below;
  above = c.loop-j.invariant.above;
}
