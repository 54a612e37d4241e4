use Rattle.std.proofs.Common.{arith}
use Rattle.record_bench.proofs.Listing.{inside, value-at, address-small}
use Rattle.record_bench.proofs.points.PointsEntries.value.Goals as goal

pub overflow_mul-result : goal.overflow_mul-result
overflow_mul-result g c =
    let s = c.args.self.now in
    omega (arith, address-small g.P.Dims.D s.count s.step c.args.i s.few s.within (inside g.P.Dims.D s.count s.step s.field c.args.i c.requires.within))

pub returns-clause-value : goal.returns-clause-value
returns-clause-value g c v e =
    let s = c.args.self.now in
    value-at g.P.Dims.D s.count s.step s.field c.args.i v (inside g.P.Dims.D s.count s.step s.field c.args.i c.requires.within) e
