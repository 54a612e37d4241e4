use Rattle.std.proofs.Common.{arith}
use Rattle.ph_node.specs.Shown.{shown}
use Rattle.ph_near.proofs.Balls.{spot-body, next-at, out-on}
use Rattle.ph_near.proofs.sphere.SphereOf.first_behind.Goals as goal

pub rules_out-requires-clause-body : goal.rules_out-requires-clause-body
rules_out-requires-clause-body g c = spot-body g.P.Dims.D (shown c.args.node) c.spot-spot.result c.requires.lawful c.spot-spot.ensures.spot

pub returns-then-not-rules_out : goal.returns-then-not-rules_out
returns-then-not-rules_out g c = record {
  found = next-at c.args.self.now (shown c.args.node) c.args.known.now.digits c.args.place c.spot-spot.ensures.place
      c.spot-spot.ensures.spot c.loop-i.invariant.out g.P.Dims.D c.requires.lawful c.loop-i.invariant.behind
      (c.rules_out.ensures.near c.if-not-rules_out.true);
  spot = c.spot-spot.ensures.spot;
  room = omega arith;
}

pub loop-i-preserved : goal.loop-i-preserved
loop-i-preserved g c = record {
  behind = omega (arith, c.loop-i.invariant.behind);
  out = out-on c.args.self.now (shown c.args.node) c.args.known.now.digits c.args.place c.spot-spot.ensures.place
      c.spot-spot.ensures.spot c.loop-i.invariant.out (c.rules_out.ensures.far c.if-not-rules_out.false);
}
