use Rattle.std.proofs.Common.{length, ap, ◌∙◌}
use Rattle.ph_linear.proofs.PutRecords.{child-changed}
use Rattle.ph_cube.proofs.edits.put_child.Goals as goal

pub drop_value-requires-clause-outline : goal.drop_value-requires-clause-outline
drop_value-requires-clause-outline c = (child-changed c.put_table-outline.ensures c.requires.less c.requires.more c.requires.child).0

pub returns-clause-words : goal.returns-clause-words
returns-clause-words c =
    c.drop_value.ensures.words ∙ (child-changed c.put_table-outline.ensures c.requires.less c.requires.more c.requires.child).1

pub returns-clause-len : goal.returns-clause-len
returns-clause-len c =
    c.drop_value.ensures.len ∙ ap length (child-changed c.put_table-outline.ensures c.requires.less c.requires.more c.requires.child).1
