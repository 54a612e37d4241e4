use Rattle.std.proofs.Common.{◌≡◌, ◌+◌, [], take, arith}
use Rattle.ph_model.specs.PutTree.{body_address}
use Rattle.ph_model.specs.Combined.{seen_nodes}
use Rattle.ph_set.specs.Held.{held_what, nodes_held}
use Rattle.ph_set.specs.Meeting.{work_parts}
use Rattle.ph_set.proofs.Meetings.{address-known, apart-first, apart-second, apart-work}
use Rattle.ph_set.proofs.meet.list_apart.Given.{Over}
use Rattle.ph_set.proofs.meet.list_apart.Goals.{After-body_address-second}
use Rattle.ph_set.proofs.meet.list_apart.Goals as goal

-- the addresses at the place
addresses : (g : Over) (c : After-body_address-second g) →
    (c.body_address-first.result ≡ body_address c.args.place (take g.P.Dims.D c.args.x.now.digits))
    × (c.body_address-second.result ≡ body_address c.args.place (take g.P.Dims.D c.args.y.now.digits))
addresses g c = (
  address-known c.args.place c.args.x.now.digits c.D-dims.ensures c.body_address-first.ensures.value,
  address-known c.args.place c.args.y.now.digits c.D-dims.ensures c.body_address-second.ensures.value,
)

pub list_in_order-requires-clause-order : goal.list_in_order-requires-clause-order
list_in_order-requires-clause-order g c =
    let at = addresses g (goal.at.list_in_order-requires-clause-order g c).After-body_address-second in
    apart-first c.args.plan.now g.P.Dims.D (take g.P.Dims.D c.args.x.now.digits) (take g.P.Dims.D c.args.y.now.digits) (held_what c.args.x.now.held)
    (held_what c.args.y.now.held) c.requires.left c.requires.right c.args.place c.requires.apart
    (omega (arith, at.0, at.1, c.if-first-second.true))

pub list_in_order-requires-else-first-second-clause-order : goal.list_in_order-requires-else-first-second-clause-order
list_in_order-requires-else-first-second-clause-order g c =
    let at = addresses g (goal.at.list_in_order-requires-else-first-second-clause-order g c).After-body_address-second in
    apart-second c.args.plan.now g.P.Dims.D (take g.P.Dims.D c.args.x.now.digits) (take g.P.Dims.D c.args.y.now.digits) (held_what c.args.x.now.held)
    (held_what c.args.y.now.held) c.requires.left c.requires.right c.args.place c.requires.apart
    (omega (arith, at.0, at.1, c.if-first-second.false))

-- no region below the one part holds a point of the other
cost : (g : Over) (c : After-body_address-second g) → let p = c.args.plan.now in
    seen_nodes p.width p.left [] (nodes_held p.width g.P.Dims.D c.args.x.now) + seen_nodes p.width p.right [] (nodes_held p.width g.P.Dims.D c.args.y.now)
    ≡ work_parts p g.P.Dims.D c.args.x.now c.args.y.now
cost g c =
    apart-work c.args.plan.now g.P.Dims.D (take g.P.Dims.D c.args.x.now.digits) (take g.P.Dims.D c.args.y.now.digits) (held_what c.args.x.now.held)
    (held_what c.args.y.now.held) c.requires.left c.requires.right c.args.place c.requires.apart

pub returns-then-first-second-clause-visits : goal.returns-then-first-second-clause-visits
returns-then-first-second-clause-visits g c =
    omega (arith, cost g (goal.at.returns-then-first-second-clause-visits g c).After-body_address-second, c.list_in_order.ensures.visits)

pub returns-else-first-second-clause-visits : goal.returns-else-first-second-clause-visits
returns-else-first-second-clause-visits g c =
    omega (arith, cost g (goal.at.returns-else-first-second-clause-visits g c).After-body_address-second, c.list_in_order-else-first-second.ensures.visits)
