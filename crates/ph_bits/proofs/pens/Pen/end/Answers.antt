use Rattle.std.proofs.Common.{◌-◌, ◌*◌, ◌^◌, ◌%◌, ◌∙◌, sym, ap, arith, length}
use Rattle.ph_bits.specs.Fields.{number_in}
use Rattle.ph_bits.specs.Written.{digits_by, number_by}
use Rattle.ph_bits.proofs.PenSteps.{number-push, length-push, number_end}
use Rattle.ph_bits.proofs.pens.Pen.end.Goals as goal

pub returns-then-self-lt64-clause-number : goal.returns-then-self-lt64-clause-number
returns-then-self-lt64-clause-number c =
    let ws = c.args.words.now.words in
    let p = c.args.self in
    let x = p.kept * 2 ^ p.room % 2 ^ 64 in
    ap number_in c.push.ensures.words ∙ number-push ws x
    ∙ number_end (number_in ws) p.kept p.room (digits_by ws p) (length ws) c.requires.pen.kept c.requires.pen.most (omega arith)
    ∙ ap (λ t. number_by ws p * 2 ^ (64 * t - digits_by ws p)) (sym (ap length c.push.ensures.words ∙ length-push ws x))
