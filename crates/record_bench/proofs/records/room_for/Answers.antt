use Rattle.std.proofs.Common.{◌∙◌, ap, arith}
use Rattle.std.specs.Int.{div_ceil}
use Rattle.record_bench.proofs.Listing.{room-small}
use Rattle.record_bench.proofs.records.room_for.Goals as goal

pub returns-clause-limit : goal.returns-clause-limit
returns-clause-limit g c =
    let s = c.args.points.now in
    omega (
      arith,
      c.div_ceil.ensures ∙ ap (λ n. div_ceil n 64) c.bits_of.ensures,
      room-small g.L.Layout.cube g.P.Dims.D s.level s.count s.step s.few s.low s.apart s.within,
    )
