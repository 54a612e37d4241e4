use Rattle.std.proofs.Common.{ap, ◌∙◌}
use Rattle.ph_model.specs.PutTree.{body_address}
use Rattle.ph_zorder.proofs.Decided.{address-is}
use Rattle.ph_zorder.proofs.order.address.Goals as goal

pub returns-clause-value : goal.returns-clause-value
returns-clause-value g c =
    c.body_address.ensures.value ∙ ap (body_address c.args.place) c.offsets.ensures ∙ address-is c.args.place c.args.w c.args.p.now
