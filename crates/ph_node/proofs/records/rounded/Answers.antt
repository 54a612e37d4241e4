use Rattle.std.proofs.Common.{arith}
use Rattle.ph_node.proofs.Lengths.{two-digits, quarter, rounded-below, rounded-most, rounded-steps}
use Rattle.ph_node.proofs.records.rounded.Goals as goal

pub overflow_sub-step : goal.overflow_sub-step
overflow_sub-step c = two-digits c.ilog2.result c.args.room c.if-room-le32.false c.ilog2.ensures.next_power_gt

pub returns-clause-most : goal.returns-clause-most
returns-clause-most c =
    rounded-most c.ilog2.result c.args.room _
    (two-digits c.ilog2.result c.args.room c.if-room-le32.false c.ilog2.ensures.next_power_gt)
    c.ilog2.ensures.power_le (omega arith)

pub returns-clause-limit : goal.returns-clause-limit
returns-clause-limit c =
    rounded-below c.ilog2.result c.args.room _
    (two-digits c.ilog2.result c.args.room c.if-room-le32.false c.ilog2.ensures.next_power_gt)
    c.ilog2.ensures.power_le (omega arith) c.requires

pub returns-clause-rounded : goal.returns-clause-rounded
returns-clause-rounded c _ =
    let two = two-digits c.ilog2.result c.args.room c.if-room-le32.false c.ilog2.ensures.next_power_gt in
    rounded-steps c.ilog2.result c.args.room _ two c.ilog2.ensures.power_le c.ilog2.ensures.next_power_gt
    (omega (arith, quarter c.ilog2.result two, c.ilog2.ensures.power_le, c.requires))
