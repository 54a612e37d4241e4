use Rattle.std.specs.Prelude.{decimal}
use Rattle.ph_script.proofs.FaultText.{fault-line}
use Rattle.ph_script.proofs.text.push_record.Goals as goal

pub returns : goal.returns
returns c =
    rw (c.push_str-4.ensures.bytes, c.push_str-3.ensures.bytes, c.push_str-2.ensures.bytes, c.push_number.ensures.bytes, c.push_str.ensures.bytes, c.requires.empty)
    (fault-line (decimal c.args.number) c.args.fault.now)
