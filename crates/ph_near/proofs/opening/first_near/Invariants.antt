use Rattle.ph_model.specs.EntryList.{entries}
use Rattle.ph_node.specs.Shown.{shown}
use Rattle.ph_near.specs.Scanning.{AreBeyond}
use Rattle.ph_near.proofs.opening.first_near.Given as goal

abbrev pub invariant-loop-i : goal.invariant-loop-i
invariant-loop-i g l = AreBeyond (g.S.Distances.told l.sums) (entries (shown l.from.node)) l.limit l.fn.place l.i
