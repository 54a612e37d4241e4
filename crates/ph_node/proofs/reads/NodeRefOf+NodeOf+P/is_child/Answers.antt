use Rattle.ph_node.proofs.ChildTests.{kind-is}
use Rattle.ph_node.proofs.Reading.{spot-in}
use Rattle.ph_node.proofs.reads.NodeRefOf+NodeOf+P.is_child.Goals as goal

pub is_child-requires : goal.is_child-requires
is_child-requires g c = spot-in _ _ _ _ _ _ c.node.view_is c.node.invariant c.words.ensures c.D.ensures c.args.spot c.requires

pub returns : goal.returns
returns g c =
    kind-is _ _ _ _ _ _ c.node.view_is c.node.invariant c.words.ensures c.D.ensures c.args.spot.place c.requires.within _ c.is_child.ensures
