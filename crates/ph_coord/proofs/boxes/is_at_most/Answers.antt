use Rattle.std.proofs.Common.{◌≡◌, arith, rules, true, false}
use Rattle.std.specs.Prelude.{int_le}
use Rattle.std.proofs.lemmas.Int.{ints}
use Rattle.ph_coord.proofs.Ordered.{ordered_so_far, reversed_here}
use Rattle.ph_coord.proofs.boxes.is_at_most.Goals as goal

pub returns-then-b-a : goal.returns-then-b-a
returns-then-b-a c =
    let s = c.in-Some.ensures.steps in
    let t = c.if-b-a.true in
    let u : int_le c.in-Some.a.now c.in-Some.b.now ≡ false = grind (arith, ints) in
    reversed_here c.in-Some.a.now c.in-Some.b.now c.next.new.self.a.rest.now c.next.new.self.b.rest.now
    c.loop-a.a-iterator.a.rest.now c.loop-a.a-iterator.b.rest.now c.args.low.now c.args.high.now s.0 s.1 u
    c.loop-a.invariant.value

pub loop-a-preserved : goal.loop-a-preserved
loop-a-preserved c =
    let s = c.in-Some.ensures.steps in
    let t = c.if-b-a.false in
    let u : int_le c.in-Some.a.now c.in-Some.b.now ≡ true = grind (arith, ints) in
    record {
      value = ordered_so_far c.in-Some.a.now c.in-Some.b.now c.next.new.self.a.rest.now c.next.new.self.b.rest.now
          c.loop-a.a-iterator.a.rest.now c.loop-a.a-iterator.b.rest.now c.args.low.now c.args.high.now s.0 s.1 u
          c.loop-a.invariant.value;
      same = search rules;
    }
