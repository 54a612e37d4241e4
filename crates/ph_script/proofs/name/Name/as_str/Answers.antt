use Rattle.ph_script.proofs.NameBytes.{name-text}
use Rattle.ph_script.proofs.name.Name.as_str.Goals as goal

pub unreachable-requires : goal.unreachable-requires
unreachable-requires c = c.in-Err.ensures.cases.0 (name-text _ c.as_bytes.ensures.name)
