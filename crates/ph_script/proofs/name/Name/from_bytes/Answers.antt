use Rattle.std.proofs.Common.{sym, ◌∙◌}
use Rattle.ph_script.proofs.NameBytes.{filled}
use Rattle.ph_script.proofs.name.Name.from_bytes.Goals as goal

pub invariant_of-result : goal.invariant_of-result
invariant_of-result c =
    filled c.args.word.now c.copy_from_slice.new.self c.copy_from_slice.ensures.after (sym c.is_name.ensures ∙ c.if-not-is_name.false)
