use Rattle.std.proofs.Common.{arith}
use Rattle.ph_bits.specs.Block.{room_of}
use Rattle.ph_node.specs.Shown.{shown}
use Rattle.ph_trials.proofs.Written.{count-few, count-small, linear-small, cube-small, rise, linear-room, cube-room}
use Rattle.ph_trials.proofs.records.write_anew.Goals as goal

pub overflow_cast-count : goal.overflow_cast-count
overflow_cast-count g c =
    omega (
      arith,
      count-small g.P.Dims.D (shown c.args.node) c.requires c.D-dims.result c.level-level.result
          c.len-count.result c.D-dims.ensures c.level-level.ensures.value c.len-count.ensures,
    )

pub bits_of-in_list-requires-clause-entries : goal.bits_of-in_list-requires-clause-entries
bits_of-in_list-requires-clause-entries g c =
    count-few g.P.Dims.D (shown c.args.node) c.requires c.D-dims.result c.level-level.result c.len-count.result
    c.D-dims.ensures c.level-level.ensures.value c.len-count.ensures

pub bits_of-in_cube-requires-clause-entries : goal.bits_of-in_cube-requires-clause-entries
bits_of-in_cube-requires-clause-entries g c =
    count-few g.P.Dims.D (shown c.args.node) c.requires c.D-dims.result c.level-level.result c.len-count.result
    c.D-dims.ensures c.level-level.ensures.value c.len-count.ensures

pub block-requires-clause-digits : goal.block-requires-clause-digits
block-requires-clause-digits g c =
    omega (
      arith,
      c.bits_of-in_cube.ensures,
      cube-small g.P.Dims.D (shown c.args.node) c.requires c.D-dims.result
          c.level-level.result c.len-count.result c.D-dims.ensures c.level-level.ensures.value c.len-count.ensures,
    )

pub block-requires-clause-count : goal.block-requires-clause-count
block-requires-clause-count g c =
    count-small g.P.Dims.D (shown c.args.node) c.requires c.D-dims.result c.level-level.result c.len-count.result
    c.D-dims.ensures c.level-level.ensures.value c.len-count.ensures

pub write-requires-clause-entries : goal.write-requires-clause-entries
write-requires-clause-entries g c =
    rise g.P.Dims.D (shown c.args.node) c.requires c.D-dims.result c.level-level.result c.len-count.result
    c.D-dims.ensures c.level-level.ensures.value c.len-count.ensures

pub write-requires-clause-room : goal.write-requires-clause-room
write-requires-clause-room g c =
    cube-room g.P.Dims.D (shown c.args.node) c.requires c.D-dims.result c.level-level.result c.len-count.result
    c.D-dims.ensures c.level-level.ensures.value c.len-count.ensures c.bits_of-in_cube.result
    (room_of c.in_ok-words.words) c.bits_of-in_cube.ensures c.in_ok-words.ensures

pub block-requires-2-clause-digits : goal.block-requires-2-clause-digits
block-requires-2-clause-digits g c =
    omega (
      arith,
      c.bits_of-in_list.ensures,
      linear-small g.P.Dims.D (shown c.args.node) c.requires c.D-dims.result
          c.level-level.result c.len-count.result c.D-dims.ensures c.level-level.ensures.value c.len-count.ensures,
    )

pub block-requires-2-clause-count : goal.block-requires-2-clause-count
block-requires-2-clause-count g c =
    count-small g.P.Dims.D (shown c.args.node) c.requires c.D-dims.result c.level-level.result c.len-count.result
    c.D-dims.ensures c.level-level.ensures.value c.len-count.ensures

pub write-requires-2-clause-entries : goal.write-requires-2-clause-entries
write-requires-2-clause-entries g c =
    rise g.P.Dims.D (shown c.args.node) c.requires c.D-dims.result c.level-level.result c.len-count.result
    c.D-dims.ensures c.level-level.ensures.value c.len-count.ensures

pub write-requires-2-clause-room : goal.write-requires-2-clause-room
write-requires-2-clause-room g c =
    linear-room g.P.Dims.D (shown c.args.node) c.requires c.D-dims.result c.level-level.result c.len-count.result
    c.D-dims.ensures c.level-level.ensures.value c.len-count.ensures c.bits_of-in_list.result
    (room_of c.in_ok-words-2.words) c.bits_of-in_list.ensures c.in_ok-words-2.ensures
