use Rattle.std.proofs.Common.{take, map}
use Rattle.ph_shape.specs.Groups.{HaveAddress}
use Rattle.ph_shape.proofs.cuts.group_len.Given as goal

abbrev pub invariant-loop-i : goal.invariant-loop-i
invariant-loop-i g l = HaveAddress l.w l.place l.addr (take l.i (map g.P.Space.row_of l.rows))
