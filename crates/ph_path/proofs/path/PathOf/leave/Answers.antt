use Rattle.ph_path.proofs.Stacks.{left, left-none}
use Rattle.ph_path.proofs.path.PathOf.leave.Goals as goal

pub invariant_of-self : goal.invariant_of-self
invariant_of-self g c =
    (left-none c.self.inside.last c.self.inside.above.items c.pop.new.self.items c.pop.result _ c.self.invariant
    c.pop.ensures.items c.in_default.is c.pop.ensures.variant c.self.view_is).0

pub returns-in_default : goal.returns-in_default
returns-in_default g c =
    (left-none c.self.inside.last c.self.inside.above.items c.pop.new.self.items c.pop.result _ c.self.invariant
    c.pop.ensures.items c.in_default.is c.pop.ensures.variant c.self.view_is).1

pub invariant_of-self-2 : goal.invariant_of-self-2
invariant_of-self-2 g c =
    (left c.self.inside.last c.self.inside.above.items c.pop.new.self.items c.pop.result c.in-Some.frame _
    c.self.invariant c.pop.ensures.items c.in-Some.is c.self.view_is).0

pub returns : goal.returns
returns g c =
    (left c.self.inside.last c.self.inside.above.items c.pop.new.self.items c.pop.result c.in-Some.frame _
    c.self.invariant c.pop.ensures.items c.in-Some.is c.self.view_is).1
