use Rattle.std.proofs.Common.{◌+◌, ◌-◌, ◌*◌, ◌^◌, ◌%◌, ◌/◌, ◌∙◌, ap, arith, bit_and}
use Rattle.ph_bits.specs.Fields.{number_in}
use Rattle.ph_bits.proofs.PenSteps.{number-push, kept_more, fits_more, fits_full, number_more, number_full}
use Rattle.ph_bits.proofs.pens.Pen.put.Goals as goal

pub overflow_add-self : goal.overflow_add-self
overflow_add-self c =
    let p = c.args.self.now in
    record { fits = fits_more p.kept p.room c.args.width c.args.v c.requires.pen.kept c.requires.pen.most c.if-width-self.true c.requires.value }

pub overflow_add-self-else-width-self : goal.overflow_add-self-else-width-self
overflow_add-self-else-width-self c =
    let p = c.args.self.now in
    record { fits = fits_full p.kept p.room c.args.width c.args.v c.requires.pen.kept c.requires.pen.most c.if-width-self.false c.requires.value }

pub returns-then-width-self-clause-pen : goal.returns-then-width-self-clause-pen
returns-then-width-self-clause-pen c =
    let p = c.args.self.now in
    record {
      some = omega (arith, c.if-width-self.true);
      most = omega (arith, c.requires.pen.most);
      kept = kept_more p.kept p.room c.args.width c.args.v c.requires.pen.kept c.requires.pen.most (omega (arith, c.if-width-self.true)) c.requires.value;
    }

pub returns-then-width-self-clause-number : goal.returns-then-width-self-clause-number
returns-then-width-self-clause-number c =
    let p = c.args.self.now in
    number_more (number_in c.args.words.now.words) p.kept p.room c.args.width c.args.v c.requires.pen.kept c.requires.pen.most (omega (arith, c.if-width-self.true))

pub returns-else-width-self-clause-number : goal.returns-else-width-self-clause-number
returns-else-width-self-clause-number c =
    let p = c.args.self.now in
    let ws = c.args.words.now.words in
    let w = c.args.width in
    let v = c.args.v in
    ap (λ t. t * 2 ^ (64 - (64 - (w - p.room))) + bit_and v (1 * 2 ^ (w - p.room) % 2 ^ 64 - 1))
    (ap number_in c.push.ensures.words ∙ number-push ws (p.kept * 2 ^ p.room % 2 ^ 64 + v / 2 ^ (w - p.room)))
    ∙ number_full (number_in ws) p.kept p.room w v c.requires.pen.kept c.requires.pen.most c.requires.pen.some c.if-width-self.false (omega (arith, c.requires.width))
