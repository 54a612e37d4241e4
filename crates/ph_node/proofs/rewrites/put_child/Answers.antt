use Rattle.std.proofs.Common.{length, true, false, sym, ◌∙◌, ap}
use Rattle.ph_node.proofs.RecordEdits.{record-there}
use Rattle.ph_node.proofs.rewrites.put_child.Goals as goal

pub returns-then-has_cube-clause-words : goal.returns-then-has_cube-clause-words
returns-then-has_cube-clause-words c =
    c.put_child.ensures.words ∙ record-there c.args.dims c.args.words.now c.args.edit.now true c.requires.edit
    c.requires.less c.requires.more (sym c.has_cube.ensures ∙ c.if-has_cube.true)

pub returns-then-has_cube-clause-len : goal.returns-then-has_cube-clause-len
returns-then-has_cube-clause-len c =
    c.put_child.ensures.len ∙ ap length
    (record-there c.args.dims c.args.words.now c.args.edit.now true c.requires.edit c.requires.less
    c.requires.more (sym c.has_cube.ensures ∙ c.if-has_cube.true))

pub returns-else-has_cube-clause-words : goal.returns-else-has_cube-clause-words
returns-else-has_cube-clause-words c =
    c.put_child-else-has_cube.ensures.words
    ∙ record-there c.args.dims c.args.words.now c.args.edit.now false c.requires.edit c.requires.less c.requires.more (sym c.has_cube.ensures ∙ c.if-has_cube.false)

pub returns-else-has_cube-clause-len : goal.returns-else-has_cube-clause-len
returns-else-has_cube-clause-len c =
    c.put_child-else-has_cube.ensures.len
    ∙ ap length (record-there c.args.dims c.args.words.now c.args.edit.now false c.requires.edit c.requires.less
    c.requires.more (sym c.has_cube.ensures ∙ c.if-has_cube.false))
