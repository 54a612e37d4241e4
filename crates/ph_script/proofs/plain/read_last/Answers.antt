use Rattle.std.proofs.Common.{sym, drop, ◌∙◌}
use Rattle.ph_script.proofs.FormRooms.{is-other}
use Rattle.ph_script.proofs.PlainLines.{last-some}
use Rattle.ph_script.proofs.plain.read_last.Goals as goal

pub returns-in-Some-next_number : goal.returns-in-Some-next_number
returns-in-Some-next_number c =
    let line = c.args.line.now in
    let read = c.in-Some-next_number in
    last-some c.args.plain (drop c.args.from line) (drop read.end line) c.in-Some.most read.short
    (sym c.most.ensures ∙ c.in-Some.is) read.ensures (is-other _ c.if-not-short.true) c.if-short-most.true
