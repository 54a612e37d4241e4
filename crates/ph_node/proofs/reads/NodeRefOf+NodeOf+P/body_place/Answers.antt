use Rattle.std.proofs.Common.{subst}
use Rattle.ph_model.specs.EntryList.{entries}
use Rattle.ph_node.specs.Kept.{IsNodeOf}
use Rattle.ph_node.specs.Shown.{shown}
use Rattle.ph_node.proofs.Keeps.{kept-body}
use Rattle.ph_node.proofs.Reading.{spot-in, body-told, row-there}
use Rattle.ph_node.proofs.reads.NodeRefOf+NodeOf+P.body_place.Goals as goal

pub body_at-requires : goal.body_at-requires
body_at-requires g c = spot-in _ _ _ _ _ _ c.node.view_is c.node.invariant c.words.ensures c.D.ensures c.args.spot c.requires

pub returns-clause-body : goal.returns-clause-body
returns-clause-body g c =
    row-there _ _ _ _ _ _ c.node.view_is c.node.invariant c.words.ensures c.D.ensures c.body_at.result _
    (body-told _ _ _ _ _ _ c.node.view_is c.node.invariant c.words.ensures c.D.ensures c.args.spot.place c.requires.within _ c.body_at.ensures.body)

pub returns-clause-digits : goal.returns-clause-digits
returns-clause-digits g c =
    let t = shown c.args.self.now in
    let kept : IsNodeOf g.P.Dims.D (shown c.args.self.now) = subst (IsNodeOf g.P.Dims.D) c.node.view_is c.node.invariant.node in
    kept-body g.P.Dims.D t.level 0 (entries t) c.args.spot.place kept.rise c.requires.within
