use Rattle.std.proofs.Common.{sym, ◌∙◌, ap}
use Rattle.ph_specs.specs.Record.{first_in}
use Rattle.ph_node.proofs.Listings.{count_is}
use Rattle.ph_node.proofs.reads.NodeRefOf+NodeOf+P.len.Goals as goal

pub returns : goal.returns
returns g c = c.count.ensures ∙ ap (λ ws. (first_in ws).entries) c.words.ensures ∙ sym (count_is _ _ _ _ c.node.view_is c.node.invariant)
