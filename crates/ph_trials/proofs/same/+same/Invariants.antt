use Rattle.std.proofs.Common.{◌≡◌, ◌+◌, ◌*◌, take}
use Rattle.ph_model.specs.EntryList.{entries}
use Rattle.ph_node.specs.Shown.{shown}
use Rattle.ph_trials.proofs.same.+same.Given as goal

abbrev pub decreases-is_same : goal.decreases-is_same
decreases-is_same g l = 2 * l.plain.now.level + 1

abbrev pub decreases-is_same_entry : goal.decreases-is_same_entry
decreases-is_same_entry g l = 2 * l.plain.now.level

abbrev pub invariant-is_same-loop-i : goal.invariant-is_same-loop-i
invariant-is_same-loop-i g l = take l.i (entries (shown l.shown)) ≡ take l.i (entries l.plain)
