use Rattle.ph_linear.proofs.Overs.{over-field}
use Rattle.ph_linear.proofs.copies.Column.put_field.Goals as goal

pub returns : goal.returns
returns c =
    over-field c.args.words.now c.set_field.new.words c.args.self c.args.edit.now c.args.v c.set_field.auto.words
    c.requires.column.inside c.requires.within c.requires.less c.requires.more c.set_field.ensures
