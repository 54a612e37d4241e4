use Rattle.std.proofs.Common.{arith, rules}
use Rattle.ph_zorder.specs.Squares.{greatest_square}
use Rattle.ph_zorder.proofs.Gaps.{limit-on, small-on, offset-bound-on}
use Rattle.ph_zorder.proofs.distances.offset_least_distance.Goals as goal

pub region_gap-requires-clause-first : goal.region_gap-requires-clause-first
region_gap-requires-clause-first c =
    (small-on c.args.w c.in-Some.x.now c.next.new.self.a.rest.now c.loop-x.x-iterator.a.rest.now (omega arith) c.in-Some.ensures.steps.0 c.loop-x.invariant.first).0

pub region_gap-requires-clause-second : goal.region_gap-requires-clause-second
region_gap-requires-clause-second c =
    (small-on c.args.w c.in-Some.y.now c.next.new.self.b.rest.now c.loop-x.x-iterator.b.rest.now (omega arith) c.in-Some.ensures.steps.1 c.loop-x.invariant.second).0

pub loop-x-preserved : goal.loop-x-preserved
loop-x-preserved c =
    let s = c.in-Some.ensures.steps in
    let b = small-on c.args.w c.in-Some.y.now c.next.new.self.b.rest.now c.loop-x.x-iterator.b.rest.now (omega arith) s.1 c.loop-x.invariant.second in
    record {
      value = offset-bound-on c.args.w c.args.level c.in-Some.x.now c.in-Some.y.now c.next.new.self.a.rest.now
          c.next.new.self.b.rest.now c.loop-x.x-iterator.a.rest.now c.loop-x.x-iterator.b.rest.now c.loop-x.sum
          c.region_gap.result c.square-sum.result _ (omega arith) b.1 s.0 s.1 c.region_gap.ensures.value
          c.square-sum.ensures.value c.loop-x.invariant.value;
      limit = limit-on c.in-Some.x.now c.next.new.self.a.rest.now c.loop-x.x-iterator.a.rest.now c.loop-x.sum
          c.square-sum.result greatest_square s.0 c.square-sum.ensures.limit c.loop-x.invariant.limit;
      same = search rules;
      first = (small-on c.args.w c.in-Some.x.now c.next.new.self.a.rest.now c.loop-x.x-iterator.a.rest.now (omega arith) s.0 c.loop-x.invariant.first).2;
      second = b.2;
    }
