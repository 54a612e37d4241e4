use Rattle.std.proofs.Common.{◌∙◌, ◌==◌}
use Rattle.ph_model.specs.EntryList.{entries}
use Rattle.ph_node.specs.Shown.{shown}
use Rattle.ph_node.proofs.Reading.{place-there, front-there}
use Rattle.ph_node.proofs.FoundSpots.{spot_found}
use Rattle.ph_node.proofs.reads.NodeRefOf+NodeOf+P.search.Goals as goal

pub returns-in-Ok-clause-found : goal.returns-in-Ok-clause-found
returns-in-Ok-clause-found g c =
    c.in-Ok.ensures.found ∙ place-there _ _ _ _ _ _ c.node.view_is c.node.invariant c.words.ensures c.D.ensures (λ a. a == c.args.addr)

pub returns-in-Ok-clause-spot : goal.returns-in-Ok-clause-spot
returns-in-Ok-clause-spot g c =
    spot_found c.args.addr c.in-Ok.place (entries (shown c.args.self.now))
    (c.in-Ok.ensures.found ∙ place-there _ _ _ _ _ _ c.node.view_is c.node.invariant c.words.ensures c.D.ensures (λ a. a == c.args.addr))

pub returns-in-Err-clause-absent : goal.returns-in-Err-clause-absent
returns-in-Err-clause-absent g c =
    c.in-Err.ensures.absent ∙ place-there _ _ _ _ _ _ c.node.view_is c.node.invariant c.words.ensures c.D.ensures (λ a. a == c.args.addr)

pub returns-in-Err-clause-place : goal.returns-in-Err-clause-place
returns-in-Err-clause-place g c =
    c.in-Err.ensures.place ∙ front-there _ _ _ _ _ _ c.node.view_is c.node.invariant c.words.ensures c.D.ensures c.args.addr
