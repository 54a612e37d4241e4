use Rattle.ph_script.proofs.PlainLines.{plain-fit, plain-does}
use Rattle.ph_script.proofs.read.read_command.Goals as goal

pub command-requires-clause-fit : goal.command-requires-clause-fit
command-requires-clause-fit c = rw c.as_slice.ensures (plain-fit c.in-Some.ensures)

pub returns-in-Some-clause-meaning : goal.returns-in-Some-clause-meaning
returns-in-Some-clause-meaning c = plain-does c.in-Some.ensures (rw c.as_slice.ensures at c.command.ensures.meaning)
