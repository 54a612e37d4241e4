use Rattle.std.proofs.Common.{sym, subst}
use Rattle.ph_specs.specs.Boxes.{AreBoxes}
use Rattle.ph_specs.proofs.laws.BoxRows.{boxes-put}
use Rattle.ph_trials.proofs.joins.boxes.put.Goals as goal

pub returns-in-Ok-clause-boxes : goal.returns-in-Ok-clause-boxes
returns-in-Ok-clause-boxes g c =
    subst (λ t. AreBoxes t.table) (sym c.in-Ok.ensures.done.put)
    (boxes-put c.args.tree.now.width c.args.tree.now.table c.args.p c.args.value c.requires.upright c.requires.boxes)
