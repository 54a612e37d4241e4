use Rattle.std.proofs.Common.{◌+◌, arith}
use Rattle.ph_model.specs.EntryList.{entries}
use Rattle.ph_model.specs.PutTree.{body_above}
use Rattle.ph_node.specs.Shown.{shown}
use Rattle.ph_near.specs.BallSphere.{points_of}
use Rattle.ph_near.proofs.Balls.{spot-body, next-at, out-on, found-on, out-none}
use Rattle.ph_near.proofs.sphere.SphereOf.first_inside.Goals as goal

pub rules_out-requires-clause-body : goal.rules_out-requires-clause-body
rules_out-requires-clause-body g c = spot-body g.P.Dims.D (shown c.args.node) c.spot-spot.result c.requires.lawful c.spot-spot.ensures.spot

pub returns-then-not-rules_out : goal.returns-then-not-rules_out
returns-then-not-rules_out g c = record {
  found = next-at c.args.self.now (shown c.args.node) c.args.known.now.digits c.args.place c.spot-spot.ensures.place
      c.spot-spot.ensures.spot (out-none c.args.self.now (shown c.args.node) c.args.known.now.digits c.args.place) g.P.Dims.D c.requires.lawful (omega arith)
      (c.rules_out.ensures.near c.if-not-rules_out.true);
  spot = c.spot-spot.ensures.spot;
  room = omega arith;
}

pub returns : goal.returns
returns g c =
    let t = shown c.args.node in
    let out = out-on c.args.self.now t c.args.known.now.digits c.args.place c.spot-spot.ensures.place c.spot-spot.ensures.spot
    (out-none c.args.self.now t c.args.known.now.digits c.args.place) (c.rules_out.ensures.far c.if-not-rules_out.false) in
    record {
      found = found-on (points_of c.args.self.now) t.level (body_above t.level c.args.known.now.digits) (entries t) c.args.place (c.args.place + 1)
          (omega arith) out c.first_behind.result c.first_behind.ensures.found;
      spot = c.first_behind.ensures.spot;
      room = c.first_behind.ensures.room;
    }
