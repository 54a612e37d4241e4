use Rattle.std.proofs.Common.{length, arith, ap, ◌∙◌, refl}
use Rattle.ph_linear.proofs.PutRecords.{entry-gone}
use Rattle.ph_cube.proofs.edits.remove_point.Goals as goal

pub overflow_sub-outline : goal.overflow_sub-outline
overflow_sub-outline c =
    omega (arith, c.put_table-old.ensures.within, c.requires.less, c.put_table-old.ensures.outline.count)

pub drop_value-requires-clause-outline : goal.drop_value-requires-clause-outline
drop_value-requires-clause-outline c = (entry-gone c.put_table-old.ensures refl c.requires.less c.requires.more).0

pub returns-clause-words : goal.returns-clause-words
returns-clause-words c = c.drop_value.ensures.words ∙ (entry-gone c.put_table-old.ensures refl c.requires.less c.requires.more).1

pub returns-clause-len : goal.returns-clause-len
returns-clause-len c = c.drop_value.ensures.len ∙ ap length (entry-gone c.put_table-old.ensures refl c.requires.less c.requires.more).1
