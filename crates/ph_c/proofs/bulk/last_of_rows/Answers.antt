-- Each row is at a point, since its coordinates are all there and fit.
use Rattle.std.proofs.Common.{arith}
use Rattle.ph_c.proofs.Paired.{rows-points}
use Rattle.ph_c.proofs.bulk.last_of_rows.Goals as goal

pub last_rows-requires : goal.last_rows-requires
last_rows-requires g c = (
  omega arith,
  (
    c.requires.few,
    rw c.in_ok-rows.ensures (rows-points c.args.w g.row.D c.args.points.now c.args.values.now c.requires.paired c.requires.coordinates),
  ),
)
