use Rattle.std.proofs.Common.{◌-◌, length, take, true, false, sym, ◌∙◌}
use Rattle.ph_node.proofs.RecordEdits.{record-there}
use Rattle.ph_node.proofs.rewrites.put_point.Goals as goal

pub returns-then-has_cube : goal.returns-then-has_cube
returns-then-has_cube c =
    let old = take (length c.args.words.now - 1) c.args.words.now in
    c.put_point.ensures ∙ record-there c.args.dims old c.args.edit.now true c.requires.edit c.requires.less c.requires.more (sym c.has_cube.ensures ∙ c.if-has_cube.true)

pub returns-else-has_cube : goal.returns-else-has_cube
returns-else-has_cube c =
    let old = take (length c.args.words.now - 1) c.args.words.now in
    c.put_point-else-has_cube.ensures ∙ record-there c.args.dims old c.args.edit.now false c.requires.edit
    c.requires.less c.requires.more (sym c.has_cube.ensures ∙ c.if-has_cube.false)
