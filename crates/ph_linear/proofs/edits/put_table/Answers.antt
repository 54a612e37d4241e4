use Rattle.std.proofs.Common.{rules, arith}
use Rattle.ph_model.proofs.laws.WordDigits.{each-fits}
use Rattle.ph_linear.proofs.edits.put_table.Goals as goal

pub returns : goal.returns
returns c = record {
  whole = c.requires.whole;
  fit = each-fits c.args.words.now (search rules);
  within = omega (arith, c.requires.within, c.requires.less);
  rise = c.requires.rise;
  outline = c.outline_of-outline.ensures;
  made = c.put_columns.ensures;
}
