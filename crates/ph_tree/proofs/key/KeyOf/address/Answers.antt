use Rattle.std.proofs.Common.{◌≡◌, ◌<◌, ◌^◌, length, ◌∙◌, ap, take, subst}
use Rattle.ph_model.specs.PutTree.{body_address}
use Rattle.ph_tree.proofs.Offsets.{address_is}
use Rattle.ph_tree.proofs.key.KeyOf.address.Goals as goal

pub returns-clause-value : goal.returns-clause-value
returns-clause-value g c =
    c.body_address.ensures.value ∙ ap (λ n. body_address c.args.level (take n c.self.inside.offsets)) c.D.ensures ∙ address_is _ _ _ _ c.self.view_is c.args.level

pub returns-clause-limit : goal.returns-clause-limit
returns-clause-limit g c =
    let long : length (take c.D.result c.self.inside.offsets) ≡ g.P.Dims.D =
    ap (λ n. length (take n c.self.inside.offsets)) c.D.ensures ∙ c.self.invariant.body.fields.0 in
    subst (λ n. c.body_address.result < 2 ^ n) long c.body_address.ensures.limit
