use Rattle.std.proofs.Common.{ap, sym, ◌∙◌}
use Rattle.std.specs.Prelude.{Some}
use Rattle.ph_linear.proofs.Ranks.{address-is}
use Rattle.ph_linear.proofs.reads.address.Goals as goal

pub returns : goal.returns
returns c = address-is c.args.dims c.args.words.now c.args.i c.requires.within ∙ ap Some (sym c.address_at.ensures.value)
