use Rattle.std.proofs.Common.{◌^◌, ◌<◌, sym, subst}
use Rattle.ph_model.proofs.laws.WordDigits.{digits-below}
use Rattle.ph_bits.proofs.MovedRuns.{moved-put}
use Rattle.ph_bits.proofs.moves.move_field.Goals as goal

pub set_field-requires-clause-value : goal.set_field-requires-clause-value
set_field-requires-clause-value c =
    subst (λ t. t < 2 ^ c.args.width) (sym c.field-moved.ensures) (digits-below c.args.words.now c.args.from c.args.width)

pub returns : goal.returns
returns c = moved-put c.args.words.now c.set_field.new.words c.args.from c.args.to c.args.width c.field-moved.result c.field-moved.ensures c.set_field.ensures
