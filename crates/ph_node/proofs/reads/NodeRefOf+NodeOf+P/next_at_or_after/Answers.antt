use Rattle.std.proofs.Common.{sym, ◌∙◌, ap}
use Rattle.std.specs.Prelude.{position, nat_le}
use Rattle.ph_specs.specs.Record.{entries_in}
use Rattle.ph_model.specs.Layout.{read_address}
use Rattle.ph_node.proofs.Listings.{place_is}
use Rattle.ph_node.proofs.reads.NodeRefOf+NodeOf+P.next_at_or_after.Goals as goal

pub returns : goal.returns
returns g c =
    c.next_at_or_after.ensures
    ∙ ap (λ ws. position (λ r. nat_le c.args.addr (read_address r)) (entries_in c.D.result ws)) c.words.ensures
    ∙ ap (λ d. position (λ r. nat_le c.args.addr (read_address r)) (entries_in d c.node.inside.block.words)) c.D.ensures
    ∙ sym (place_is _ _ _ _ c.node.view_is c.node.invariant (λ a. nat_le c.args.addr a))
