use Rattle.std.proofs.Common.{◌++◌, ◌-◌, ap, ◌∙◌, arith, length, min}
use Rattle.ph_script.proofs.LinePieces.{keep-room}
use Rattle.ph_script.proofs.lines.keep.Goals as goal

pub returns-clause-items : goal.returns-clause-items
returns-clause-items c =
    let len = c.args.buffer.now.ok.0 in
    c.in-Ok.ensures.items ∙ ap (λ l. c.args.buffer.now.items ++ l) c.split_at.ensures.front ∙
    keep-room c.args.buffer.now.items c.args.bytes.now 4097 c.min.result (omega (arith, c.requires.len, len))
    (c.min.ensures ∙ ap (λ n. min (4097 - n) (length c.args.bytes.now)) (omega (arith, c.len-room.ensures, len)))
