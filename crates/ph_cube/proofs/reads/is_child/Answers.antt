use Rattle.std.proofs.Common.{ap, sym, ◌∙◌}
use Rattle.std.specs.Prelude.{Some}
use Rattle.ph_model.proofs.laws.WordDigits.{each-fits}
use Rattle.ph_cube.proofs.Entries.{kind-is}
use Rattle.ph_cube.proofs.reads.is_child.Goals as goal

pub returns : goal.returns
returns c =
    kind-is c.args.dims c.args.words.now c.address_of.result c.args.i c.requires.record
    (each-fits c.args.words.now c.type_inv.words) c.requires.within c.address_of.ensures
    ∙ ap Some (sym c.child_at.ensures)
