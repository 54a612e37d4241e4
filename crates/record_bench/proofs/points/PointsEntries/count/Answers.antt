use Rattle.std.proofs.Common.{sym}
use Rattle.record_bench.proofs.Listing.{length-points}
use Rattle.record_bench.proofs.points.PointsEntries.count.Goals as goal

pub returns : goal.returns
returns g c = let s = c.args.self.now in sym (length-points g.P.Dims.D s.count 0 s.step s.field)
