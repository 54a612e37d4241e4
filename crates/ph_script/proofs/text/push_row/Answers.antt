use Rattle.std.specs.Prelude.{codes}
use Rattle.ph_script.proofs.RowTexts.{row-line}
use Rattle.ph_script.proofs.text.push_row.Goals as goal

pub returns : goal.returns
returns g c = rw (c.push_numbers.ensures, c.push_str.ensures.bytes, c.requires.empty) (row-line (codes "row") c.args.row.now)
