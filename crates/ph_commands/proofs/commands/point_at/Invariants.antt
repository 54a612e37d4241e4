use Rattle.std.proofs.Common.{◌≡◌, take, pos}
use Rattle.ph_coord.proofs.Filled.{padded}
use Rattle.ph_script.specs.Meaning.{numbers_of}
use Rattle.ph_commands.proofs.commands.point_at.Given as goal

abbrev pub invariant-loop-i : goal.invariant-loop-i
invariant-loop-i g l = l.numbers ≡ padded g.row.D (pos 0) (take l.i (numbers_of l.coords))
