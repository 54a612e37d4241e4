use Rattle.std.proofs.Common.{arith, rules}
use Rattle.ph_zorder.specs.Squares.{greatest_square}
use Rattle.ph_zorder.proofs.Gaps.{limit-on, small-on, offset-distance-on}
use Rattle.ph_zorder.proofs.distances.offset_distance.Goals as goal

pub square-sum-requires : goal.square-sum-requires
square-sum-requires c =
    let s = c.in-Some.ensures.steps in
    let a = small-on c.args.w c.in-Some.x.now c.next.new.self.a.rest.now c.loop-x.x-iterator.a.rest.now (omega arith) s.0 c.loop-x.invariant.first in
    let b = small-on c.args.w c.in-Some.y.now c.next.new.self.b.rest.now c.loop-x.x-iterator.b.rest.now (omega arith) s.1 c.loop-x.invariant.second in
    omega (arith, c.abs_diff.ensures, a.0, b.0)

pub loop-x-preserved : goal.loop-x-preserved
loop-x-preserved c =
    let s = c.in-Some.ensures.steps in
    record {
      value = offset-distance-on c.args.w c.in-Some.x.now c.in-Some.y.now c.next.new.self.a.rest.now
          c.next.new.self.b.rest.now c.loop-x.x-iterator.a.rest.now c.loop-x.x-iterator.b.rest.now c.loop-x.sum
          c.abs_diff.result c.square-sum.result _ s.0 s.1 c.abs_diff.ensures c.square-sum.ensures.value c.loop-x.invariant.value;
      limit = limit-on c.in-Some.x.now c.next.new.self.a.rest.now c.loop-x.x-iterator.a.rest.now c.loop-x.sum
          c.square-sum.result greatest_square s.0 c.square-sum.ensures.limit c.loop-x.invariant.limit;
      same = search rules;
      first = (small-on c.args.w c.in-Some.x.now c.next.new.self.a.rest.now c.loop-x.x-iterator.a.rest.now (omega arith) s.0 c.loop-x.invariant.first).2;
      second = (small-on c.args.w c.in-Some.y.now c.next.new.self.b.rest.now c.loop-x.x-iterator.b.rest.now (omega arith) s.1 c.loop-x.invariant.second).2;
    }
