use Rattle.std.proofs.Common.{◌+◌, ◌*◌, ◌∙◌, ap, arith}
use Rattle.ph_model.specs.Digits.{digits_at}
use Rattle.ph_snap.proofs.Rules.{rises-on}
use Rattle.ph_snap.proofs.tables.addresses_rise.Goals as goal

pub loop-i-preserved : goal.loop-i-preserved
loop-i-preserved c =
    let w = c.args.width in
    rises-on c.args.words.now c.args.at w c.args.count c.loop-i.i c.loop-i.least c.field-addr.result (omega arith)
    (c.field-addr.ensures ∙ ap (λ t. digits_at c.args.words.now (c.args.at + c.loop-i.i * t) w) c.from.ensures)
    c.if-addr-least.false
    ∙ c.loop-i.invariant
