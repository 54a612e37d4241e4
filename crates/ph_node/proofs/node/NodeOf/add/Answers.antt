use Rattle.std.proofs.Common.{ap, sym, ◌∙◌, subst}
use Rattle.ph_specs.specs.Record.{unpacked}
use Rattle.ph_node.specs.Recorded.{IsRecorded}
use Rattle.ph_node.specs.Children.{nodes_of}
use Rattle.ph_node.proofs.Listings.{length-nodes}
use Rattle.ph_node.proofs.PointEdits.{more_record, more_kept, more_seen}
use Rattle.ph_node.proofs.node.NodeOf.add.Goals as goal

pub add_point-requires : goal.add_point-requires
add_point-requires g c =
    more_record _ _ _ _ c.self.view_is c.self.invariant c.args.i c.args.addr c.args.v c.args.body c.requires.absent c.requires.place
    c.requires.address c.requires.body _ c.more_edit-edit.ensures _ (length-nodes c.self.inside.block.values)

pub invariant_of-self-2 : goal.invariant_of-self-2
invariant_of-self-2 g c =
    subst (λ ss. IsRecorded g.P.Dims.D c.add_point.new.block.words (nodes_of ss)) (sym c.in_ok-add_point.ensures.put.values)
    (more_kept _ _ _ _ c.self.view_is c.self.invariant c.args.i c.args.addr c.args.v c.args.body c.requires.absent
    c.requires.place c.requires.address c.requires.body _ c.more_edit-edit.ensures _ c.in_ok-add_point.ensures.put.words)

pub returns-clause-ok : goal.returns-clause-ok
returns-clause-ok g c =
    ap (λ ss. unpacked g.P.Dims.D c.add_point.new.block.words (nodes_of ss)) c.in_ok-add_point.ensures.put.values
    ∙ more_seen _ _ _ _ c.self.view_is c.self.invariant c.args.i c.args.addr c.args.v c.args.body c.requires.absent
    c.requires.place c.requires.address c.requires.body _ c.more_edit-edit.ensures _ c.in_ok-add_point.ensures.put.words
