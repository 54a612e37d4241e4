use Rattle.std.proofs.Common.{arith}
use Rattle.ph_node.specs.Shown.{shown}
use Rattle.ph_tree.proofs.RoomLimits.{room-few, room-of}
use Rattle.ph_tree.proofs.records.record_room.Goals as goal

pub returns-clause-room : goal.returns-clause-room
returns-clause-room g c =
    room-of g.P.Dims.D (shown c.args.node) c.words.result.now c.children.result.now c.words.ensures c.children.ensures

pub returns-clause-limit : goal.returns-clause-limit
returns-clause-limit g c =
    let n = shown c.args.node in
    omega (
      arith,
      room-of g.P.Dims.D n c.words.result.now c.children.result.now c.words.ensures c.children.ensures,
      room-few g.P.Dims.D n c.requires.few c.requires.lawful
          (omega (arith, c.level-level.ensures.value, c.level-level.ensures.limit)),
    )
