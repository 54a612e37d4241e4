use Rattle.std.proofs.Common.{length, ap, sym, ◌∙◌, subst}
use Rattle.ph_specs.specs.Record.{unpacked}
use Rattle.ph_node.specs.Recorded.{IsRecorded}
use Rattle.ph_node.specs.Children.{nodes_of}
use Rattle.ph_node.proofs.Listings.{length-nodes}
use Rattle.ph_node.proofs.PointEdits.{less_record, less_kept, less_seen, less_was, less_room}
use Rattle.ph_node.proofs.node.NodeOf.drop_entry.Goals as goal

pub take_point-requires-clause-edit : goal.take_point-requires-clause-edit
take_point-requires-clause-edit g c =
    less_record _ _ _ _ c.self.view_is c.self.invariant c.args.spot c.requires.spot c.requires.point c.requires.many _ c.less_edit-edit.ensures

pub take_point-requires-clause-was : goal.take_point-requires-clause-was
take_point-requires-clause-was g c =
    less_was _ _ _ _ c.self.view_is c.self.invariant c.args.spot c.requires.spot c.requires.point c.requires.many _ c.less_edit-edit.ensures

pub take_point-requires-clause-room : goal.take_point-requires-clause-room
take_point-requires-clause-room g c relaid =
    less_room _ _ _ _ c.self.view_is c.self.invariant c.args.spare (length c.self.inside.block.values)
    (sym (length-nodes c.self.inside.block.values)) c.requires.room relaid

pub invariant_of-self : goal.invariant_of-self
invariant_of-self g c =
    subst (λ ss. IsRecorded g.P.Dims.D c.take_point.new.block.words (nodes_of ss)) (sym c.take_point.ensures.values)
    (less_kept _ _ _ _ c.self.view_is c.self.invariant c.args.spot c.requires.spot c.requires.point c.requires.many
    _ c.less_edit-edit.ensures _ c.take_point.ensures.words)

pub returns-clause-node : goal.returns-clause-node
returns-clause-node g c =
    ap (λ ss. unpacked g.P.Dims.D c.take_point.new.block.words (nodes_of ss)) c.take_point.ensures.values
    ∙ less_seen _ _ _ _ c.self.view_is c.self.invariant c.args.spot c.requires.spot c.requires.point c.requires.many
    _ c.less_edit-edit.ensures _ c.take_point.ensures.words

pub take_point-requires-clause-less : goal.take_point-requires-clause-less
take_point-requires-clause-less g c = ap (λ e. e.less) c.less_edit-edit.ensures

pub take_point-requires-clause-more : goal.take_point-requires-clause-more
take_point-requires-clause-more g c = ap (λ e. e.more) c.less_edit-edit.ensures
