use Rattle.std.proofs.Common.{length, ap, ◌∙◌}
use Rattle.ph_linear.proofs.PutRecords.{child-changed}
use Rattle.ph_linear.proofs.edits.put_child.Goals as goal

pub put_table-outline-requires : goal.put_table-outline-requires
put_table-outline-requires c =
    let q = c.requires in
    record { whole = q.record; within = q.within; less = q.less; more = q.more; address = q.address; rise = q.entries }

pub drop_value-requires-clause-outline : goal.drop_value-requires-clause-outline
drop_value-requires-clause-outline c = (child-changed c.put_table-outline.ensures c.requires.less c.requires.more c.requires.child).0

pub returns-clause-words : goal.returns-clause-words
returns-clause-words c =
    c.drop_value.ensures.words ∙ (child-changed c.put_table-outline.ensures c.requires.less c.requires.more c.requires.child).1

pub returns-clause-len : goal.returns-clause-len
returns-clause-len c =
    c.drop_value.ensures.len ∙ ap length (child-changed c.put_table-outline.ensures c.requires.less c.requires.more c.requires.child).1
