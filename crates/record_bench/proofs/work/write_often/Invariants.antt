use Rattle.std.proofs.Common.{◌+◌, ◌≤◌}
use Rattle.ph_specs.specs.Digits.{words_for}
use Rattle.ph_bits.specs.Block.{room_of}
use Rattle.record_bench.specs.Listed.{digits}
use Rattle.record_bench.proofs.work.write_often.Given as goal

abbrev pub invariant-loop : goal.invariant-loop
invariant-loop g l = 1 + words_for (digits g.L.Layout.cube g.P.Dims.D l.points.level l.points.count) + l.points.count ≤ room_of l.words
