use Rattle.std.proofs.Common.{◌∙◌, ap, take, sym, subst}
use Rattle.ph_node.specs.Bodies.{IsBodyArray}
use Rattle.ph_tree.proofs.Offsets.{below_is, body_is}
use Rattle.ph_tree.proofs.key.KeyOf.below.Goals as goal

pub returns-clause-value : goal.returns-clause-value
returns-clause-value g c = ap (λ u. take g.P.Dims.D u) c.body_below.ensures ∙ below_is _ _ _ _ c.self.view_is c.args.level

pub returns-clause-body : goal.returns-clause-body
returns-clause-body g c =
    subst (IsBodyArray g.P.Dims.D c.args.level) (sym c.body_below.ensures) (body_is _ _ _ _ c.self.view_is c.args.level c.self.invariant)
