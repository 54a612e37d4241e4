use Rattle.std.proofs.Common.{false}
use Rattle.ph_node.proofs.OldNodes.{ranked}
use Rattle.ph_node.proofs.Reading.{spot-in}
use Rattle.ph_node.proofs.node.NodeOf.points_before.Goals as goal

pub rank-requires : goal.rank-requires
rank-requires g c = spot-in _ _ _ _ _ _ c.self.view_is c.self.invariant c.words.ensures c.D.ensures c.args.spot c.requires

pub returns : goal.returns
returns g c = ranked _ _ _ _ c.self.view_is c.self.invariant _ _ c.D.ensures c.words.ensures false c.args.spot.place c.rank.result c.rank.ensures
