use Rattle.std.specs.Prelude.{codes}
use Rattle.ph_script.proofs.RowTexts.{pair-line}
use Rattle.ph_script.proofs.text.push_pair.Goals as goal

pub returns : goal.returns
returns g c = rw (
  c.push_str-2.ensures.bytes,
  c.push_row_numbers-2.ensures.bytes,
  c.push_row_numbers.ensures.bytes,
  c.push_str.ensures.bytes,
  c.requires.empty,
) (pair-line (codes "pair") c.args.first.now c.args.second.now)
