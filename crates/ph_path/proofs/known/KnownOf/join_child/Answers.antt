use Rattle.ph_node.specs.Shown.{shown}
use Rattle.ph_path.proofs.Knowns.{body-seen, known-joined}
use Rattle.ph_path.proofs.known.KnownOf.join_child.Goals as goal

pub join_child-requires-clause-few : goal.join_child-requires-clause-few
join_child-requires-clause-few g c = c.self.invariant.few

pub join_child-requires-clause-known : goal.join_child-requires-clause-known
join_child-requires-clause-known g c = body-seen c.self.inside.digits c.D-dims.ensures c.self.invariant

pub invariant_of-self : goal.invariant_of-self
invariant_of-self g c =
    known-joined c.self.inside.digits c.D-dims.ensures c.self.invariant _ (shown c.args.node) c.args.spot c.self.view_is c.requires.level
    c.requires.body c.join_child.ensures
