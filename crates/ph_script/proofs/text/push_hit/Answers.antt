use Rattle.std.specs.Prelude.{codes, decimal}
use Rattle.ph_script.proofs.RowTexts.{hit-line}
use Rattle.ph_script.proofs.text.push_hit.Goals as goal

pub returns : goal.returns
returns g c = rw (c.push_numbers.ensures, c.push_number.ensures.bytes, c.push_str.ensures.bytes, c.requires.empty)
    (hit-line (codes "hit") (decimal c.args.distance) c.args.row.now)
