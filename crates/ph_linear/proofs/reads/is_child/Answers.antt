use Rattle.std.proofs.Common.{ap, sym, ◌∙◌}
use Rattle.std.specs.Prelude.{Some}
use Rattle.ph_linear.proofs.Ranks.{kind-is}
use Rattle.ph_linear.proofs.reads.is_child.Goals as goal

pub returns : goal.returns
returns c = kind-is c.args.dims c.args.words.now c.args.i c.requires.within ∙ ap Some (sym c.child_at.ensures)
