use Rattle.std.proofs.Common.{◌==◌, ap, sym, ◌∙◌}
use Rattle.ph_model.proofs.laws.WordDigits.{each-fits}
use Rattle.ph_linear.proofs.Columns.{kind-digits}
use Rattle.ph_linear.proofs.parts.child_at.Goals as goal

pub returns : goal.returns
returns c =
    ap (λ t. t == 1) (c.field.ensures ∙
    sym (kind-digits c.args.dims c.args.words.now c.args.i c.requires.record
    (each-fits c.args.words.now c.type_inv.words) c.requires.within))
