use Rattle.std.proofs.Common.{arith}
use Rattle.ph_path.proofs.Stacks.{first-pushed, few-above, pushed}
use Rattle.ph_path.proofs.path.PathOf.push.Goals as goal

pub invariant_of-self : goal.invariant_of-self
invariant_of-self g c =
    (first-pushed c.self.inside.last c.self.inside.above.items c.args.frame _ c.self.invariant c.in_default.is c.self.view_is).0

pub returns-in_default : goal.returns-in_default
returns-in_default g c =
    (first-pushed c.self.inside.last c.self.inside.above.items c.args.frame _ c.self.invariant c.in_default.is c.self.view_is).1

pub push-requires : goal.push-requires
push-requires g c =
    (omega arith, few-above c.self.inside.last c.self.inside.above.items c.in-Some.last _ 62 c.self.invariant c.in-Some.is c.self.view_is c.requires)

pub invariant_of-self-2 : goal.invariant_of-self-2
invariant_of-self-2 g c =
    (pushed c.self.inside.last c.self.inside.above.items c.push.new.self.items c.in-Some.last c.args.frame _
    c.self.invariant c.in-Some.is c.push.ensures.items c.self.view_is).0

pub returns : goal.returns
returns g c =
    (pushed c.self.inside.last c.self.inside.above.items c.push.new.self.items c.in-Some.last c.args.frame _
    c.self.invariant c.in-Some.is c.push.ensures.items c.self.view_is).1
