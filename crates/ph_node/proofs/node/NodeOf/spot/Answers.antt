use Rattle.std.proofs.Common.{sym, subst, ◌<◌, ◌^◌}
use Rattle.ph_model.specs.EntryList.{entries}
use Rattle.ph_node.proofs.Keeps.{kept-address}
use Rattle.ph_node.proofs.Listings.{node_is}
use Rattle.ph_node.proofs.Reading.{within-there, address-told}
use Rattle.ph_node.proofs.node.NodeOf.spot.Goals as goal

pub address-requires-clause-within : goal.address-requires-clause-within
address-requires-clause-within g c = within-there _ _ _ _ _ _ c.self.view_is c.self.invariant c.words.ensures c.D.ensures c.args.i c.requires

pub returns-clause-spot : goal.returns-clause-spot
returns-clause-spot g c = record {
  within = c.requires;
  address = address-told _ _ _ _ _ _ c.self.view_is c.self.invariant c.words.ensures c.D.ensures c.args.i c.requires _ c.address.ensures;
}

pub returns-clause-limit : goal.returns-clause-limit
returns-clause-limit g c =
    let t = c.args.self.now in
    subst (λ a. a < 2 ^ g.P.Dims.D) (sym (address-told _ _ _ _ _ _ c.self.view_is c.self.invariant c.words.ensures c.D.ensures c.args.i c.requires _ c.address.ensures))
    (kept-address g.P.Dims.D t.level 0 (entries t) c.args.i (node_is _ _ _ _ c.self.view_is c.self.invariant) c.requires)
