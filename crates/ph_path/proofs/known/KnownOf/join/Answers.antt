use Rattle.ph_node.specs.Shown.{shown}
use Rattle.ph_path.proofs.Knowns.{body-seen, known-joined}
use Rattle.ph_path.proofs.known.KnownOf.join.Goals as goal

pub join-requires-clause-known : goal.join-requires-clause-known
join-requires-clause-known g c = body-seen c.self.inside.digits c.D-dims.ensures c.self.invariant

pub invariant_of-self : goal.invariant_of-self
invariant_of-self g c =
    known-joined c.self.inside.digits c.D-dims.ensures c.self.invariant _ (shown c.args.node) c.args.spot c.self.view_is c.requires.level
    c.join.ensures.body c.join.ensures.known
