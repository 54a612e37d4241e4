use Rattle.std.proofs.Common.{◌≡◌, take, map}
use Rattle.ph_specs.specs.Coordinate.{offset}
use Rattle.ph_coord.proofs.Filled.{padded}
use Rattle.ph_coord.proofs.offsets.offsets_of.Given as goal

abbrev pub invariant-loop-i : goal.invariant-loop-i
invariant-loop-i g l = l.offsets ≡ padded g.row.N 0 (take l.i (map (offset l.w) l.coords))
