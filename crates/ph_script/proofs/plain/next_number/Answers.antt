use Rattle.std.proofs.Common.{refl}
use Rattle.ph_script.proofs.WordCuts.{next_number}
use Rattle.ph_script.proofs.plain.next_number.Goals as goal

pub returns-in-Some : goal.returns-in-Some
returns-in-Some c = next_number c.args.line.now c.args.from c.in-Some.end _ c.in-Some.short c.in-Some.ensures refl
