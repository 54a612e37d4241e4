use Rattle.std.proofs.Common.{◌∙◌, ap, arith}
use Rattle.ph_specs.specs.Record.{table_digits}
use Rattle.ph_model.proofs.laws.WordDigits.{each-fits}
use Rattle.ph_snap.proofs.Rules.{padding-is}
use Rattle.ph_snap.proofs.tables.padding_is_zero.Goals as goal

pub returns : goal.returns
returns c =
    padding-is c.args.dims c.args.words.now c.table_digits-digits.result c.field.result
    (omega (arith, c.requires.framed.long)) (each-fits c.args.words.now c.type_inv.words)
    (c.table_digits-digits.ensures.value ∙ ap (table_digits c.args.dims) c.requires.first) c.field.ensures
