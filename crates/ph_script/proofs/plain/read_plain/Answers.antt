use Rattle.std.proofs.Common.{drop, ◌∙◌}
use Rattle.ph_script.proofs.WordCuts.{no-words}
use Rattle.ph_script.proofs.PlainLines.{plain-line}
use Rattle.ph_script.proofs.plain.read_plain.Goals as goal

pub returns-in-Some-read_last : goal.returns-in-Some-read_last
returns-in-Some-read_last c =
    let line = c.args.line.now in
    let spelled = c.in-Some-read_coords.ensures in
    let last = c.in-Some-read_last in
    plain-line c.in-Some.plain c.args.dims line (drop c.in-Some.from line) (drop c.in-Some-read_coords.end line)
    (drop last.end line) c.read_coords.new.coords last.number c.in-Some.ensures spelled.spelled
    (spelled.count ∙ c.coords.ensures) last.ensures (no-words line last.end c.if-line-end.true)
