use Rattle.ph_model.proofs.laws.WordDigits.{each-fits}
use Rattle.ph_bits.proofs.pens.are_words.Goals as goal

pub returns : goal.returns
returns c = each-fits c.args.all.now c.type_inv.all
