use Rattle.std.proofs.Common.{◌≡◌, drop}
use Rattle.ph_node.specs.Between.{each_between}
use Rattle.ph_window.proofs.corners.are_between.Given as goal

abbrev pub invariant-loop-i : goal.invariant-loop-i
invariant-loop-i l =
    each_between l.lo l.hi l.p ≡ each_between (drop l.i l.lo) (drop l.i l.hi) (drop l.i l.p)
