use Rattle.ph_path.proofs.Stacks.{replaced}
use Rattle.ph_path.proofs.path.PathOf.set_last.Goals as goal

pub invariant_of-self : goal.invariant_of-self
invariant_of-self g c =
    (replaced c.self.inside.last c.self.inside.above.items c.args.frame _ c.self.invariant c.self.view_is).0

pub returns : goal.returns
returns g c =
    (replaced c.self.inside.last c.self.inside.above.items c.args.frame _ c.self.invariant c.self.view_is).1
