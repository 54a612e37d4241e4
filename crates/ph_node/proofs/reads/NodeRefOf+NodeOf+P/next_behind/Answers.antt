use Rattle.std.proofs.Common.{◌∙◌, refl}
use Rattle.std.specs.Prelude.{nat_le}
use Rattle.ph_node.proofs.Reading.{place-there, within-there, spot-there}
use Rattle.ph_node.proofs.reads.NodeRefOf+NodeOf+P.next_behind.Goals as goal

pub next_behind-requires-clause-within : goal.next_behind-requires-clause-within
next_behind-requires-clause-within g c =
    within-there _ _ _ _ _ _ c.node.view_is c.node.invariant c.words.ensures refl c.args.spot.place c.requires.spot.within

pub next_behind-requires-clause-address : goal.next_behind-requires-clause-address
next_behind-requires-clause-address g c =
    spot-there _ _ _ _ _ _ c.node.view_is c.node.invariant c.words.ensures refl c.args.spot c.requires.spot

pub returns : goal.returns
returns g c =
    c.next_behind.ensures
    ∙ place-there _ _ _ _ _ _ c.node.view_is c.node.invariant c.words.ensures refl (λ a. nat_le c.args.addr a)
