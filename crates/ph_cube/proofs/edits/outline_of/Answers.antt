use Rattle.std.proofs.Common.{arith}
use Rattle.ph_model.proofs.laws.WordDigits.{each-fits}
use Rattle.ph_cube.proofs.EditedTables.{within}
use Rattle.ph_cube.proofs.edits.outline_of.Goals as goal

pub overflow_add-edit : goal.overflow_add-edit
overflow_add-edit c =
    let w = within c.args.dims c.args.old.now c.args.edit.now c.args.addr c.requires.record
    (each-fits c.args.old.now c.type_inv.old) c.requires.edit in record { fits = omega (arith, w) }
