use Rattle.std.proofs.Common.{◌∙◌, refl}
use Rattle.ph_linear.proofs.PutRecords.{none-gone, point-come}
use Rattle.ph_cube.proofs.edits.insert_point.Goals as goal

pub put_value-requires-clause-none : goal.put_value-requires-clause-none
put_value-requires-clause-none c = none-gone c.put_table-old.ensures c.requires.less

pub put_value-requires-clause-outline : goal.put_value-requires-clause-outline
put_value-requires-clause-outline c =
    (point-come c.put_table-old.ensures c.args.words.now refl c.requires.less c.requires.more c.requires.point
    c.requires.some c.put_table-old.auto.words).0

pub returns : goal.returns
returns c =
    c.put_value.ensures ∙ (point-come c.put_table-old.ensures c.args.words.now refl c.requires.less c.requires.more
    c.requires.point c.requires.some c.put_table-old.auto.words).1
