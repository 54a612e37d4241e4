use Rattle.std.proofs.Common.{arith}
use Rattle.record_bench.proofs.Listing.{rising, is-record}
use Rattle.record_bench.proofs.records.Record.new.Goals as goal

pub invariant_of-result : goal.invariant_of-result
invariant_of-result g c =
    let s = c.args.points.now in
    let h = rising g.P.Dims.D s.level 0 s.count 0 s.step s.field s.fits s.apart (omega arith) (omega (arith, s.within)) in
    record { «record» = is-record g.L.Layout.cube g.P.Dims.D s.level s.count s.step s.field c.write.new.words.words s.some s.few s.low s.least h c.write.ensures.words }
