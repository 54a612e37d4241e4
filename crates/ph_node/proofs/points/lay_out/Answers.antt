use Rattle.std.proofs.Common.{length, ap, ◌∙◌, arith}
use Rattle.ph_node.specs.RecordEdit.{record_with}
use Rattle.ph_node.proofs.Resized.{long_with}
use Rattle.ph_node.proofs.points.lay_out.Goals as goal

pub move_into-requires-clause-room : goal.move_into-requires-clause-room
move_into-requires-clause-room g c =
    let e = c.args.edit.now in
    let same = c.lay_out.ensures.words ∙ ap (λ ws. record_with g.P.Dims.D ws e) c.words.ensures in
    omega (arith, c.requires.room, c.lay_out.ensures.places.0, ap length same, long_with g.P.Dims.D c.args.block.now.words e c.requires.edit)
