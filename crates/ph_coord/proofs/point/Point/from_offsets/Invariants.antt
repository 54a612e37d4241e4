use Rattle.std.proofs.Common.{◌≡◌, take, map, pos}
use Rattle.ph_specs.specs.Coordinate.{coordinate}
use Rattle.ph_coord.proofs.Filled.{padded}
use Rattle.ph_coord.proofs.point.Point.from_offsets.Given as goal

abbrev pub invariant-loop-i : goal.invariant-loop-i
invariant-loop-i g l = l.coords ≡ padded g.row.D (pos 0) (take l.i (map (coordinate l.w) l.offsets))
