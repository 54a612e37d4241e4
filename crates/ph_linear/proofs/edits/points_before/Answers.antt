use Rattle.std.proofs.Common.{arith}
use Rattle.ph_model.proofs.laws.WordDigits.{each-fits}
use Rattle.ph_linear.proofs.Ranks.{points-ones}
use Rattle.ph_linear.proofs.edits.points_before.Goals as goal

pub overflow_sub-result : goal.overflow_sub-result
overflow_sub-result c =
    let k = points-ones c.args.dims c.args.old.now c.args.i c.requires.record (each-fits c.args.old.now c.type_inv.old) c.requires.within in
    omega (arith, k, c.ones_before.ensures)

pub returns : goal.returns
returns c =
    let k = points-ones c.args.dims c.args.old.now c.args.i c.requires.record (each-fits c.args.old.now c.type_inv.old) c.requires.within in
    omega (arith, k, c.ones_before.ensures)
