use Rattle.std.proofs.Common.{ap, arith}
use Rattle.ph_specs.specs.Digits.{words_for}
use Rattle.ph_specs.specs.Pack.{linear_digits}
use Rattle.record_bench.proofs.Listing.{length-points, length-values, rising}
use Rattle.record_bench.proofs.layouts.LinearLayout.write.Goals as goal

pub write-requires-clause-entries : goal.write-requires-clause-entries
write-requires-clause-entries g c =
    let s = c.args.from.now in rising g.P.Dims.D s.level 0 s.count 0 s.step s.field s.fits s.apart (omega arith) (omega (arith, s.within))

pub write-requires-clause-room : goal.write-requires-clause-room
write-requires-clause-room g c =
    let s = c.args.from.now in
    let e = ap (λ n. words_for (linear_digits g.P.Dims.D s.level n)) (length-points g.P.Dims.D s.count 0 s.step s.field) in
    omega (arith, c.requires.room, e, length-values g.P.Dims.D s.count 0 s.step s.field)
