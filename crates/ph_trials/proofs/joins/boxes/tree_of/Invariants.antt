use Rattle.std.proofs.Common.{◌≡◌}
use Rattle.ph_specs.specs.Boxes.{AreBoxes}
use Rattle.ph_trials.proofs.joins.boxes.tree_of.Given as goal

abbrev pub invariant-loop-i : goal.invariant-loop-i
invariant-loop-i _ l = record { width : l.tree.width ≡ 32; boxes : AreBoxes l.tree.table }
