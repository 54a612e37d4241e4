use Rattle.std.proofs.Common.{◌∙◌}
use Rattle.ph_linear.proofs.PutRecords.{none, point-changed}
use Rattle.ph_cube.proofs.edits.put_point.Goals as goal

pub put_value-requires-clause-none : goal.put_value-requires-clause-none
put_value-requires-clause-none c = none c.put_table-outline.ensures c.requires.less c.requires.was

pub put_value-requires-clause-outline : goal.put_value-requires-clause-outline
put_value-requires-clause-outline c =
    (point-changed c.put_table-outline.ensures c.args.words.now c.requires.less c.requires.more c.requires.point
    c.requires.some c.put_table-outline.auto.words).0

pub returns : goal.returns
returns c =
    c.put_value.ensures ∙ (point-changed c.put_table-outline.ensures c.args.words.now c.requires.less c.requires.more c.requires.point
    c.requires.some c.put_table-outline.auto.words).1
