use Rattle.std.proofs.Common.{arith}
use Rattle.record_bench.proofs.Listing.{length-values, rising}
use Rattle.record_bench.proofs.layouts.CubeLayout.write.Goals as goal

pub write-requires-clause-entries : goal.write-requires-clause-entries
write-requires-clause-entries g c =
    let s = c.args.from.now in rising g.P.Dims.D s.level 0 s.count 0 s.step s.field s.fits s.apart (omega arith) (omega (arith, s.within))

pub write-requires-clause-room : goal.write-requires-clause-room
write-requires-clause-room g c =
    let s = c.args.from.now in omega (arith, c.requires.room, length-values g.P.Dims.D s.count 0 s.step s.field)
