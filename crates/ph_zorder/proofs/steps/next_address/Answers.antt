use Rattle.std.proofs.Common.{arith}
use Rattle.ph_zorder.proofs.Filled.{some-found, none-found}
use Rattle.ph_zorder.proofs.steps.next_address.Goals as goal

pub returns-in-Some : goal.returns-in-Some
returns-in-Some c =
    some-found 32 c.args.address c.args.lower c.args.upper c.below_top.result c.checked_add.result c.in-Some.raised
    (omega (arith, c.ranges.address)) (omega (arith, c.ranges.lower)) (omega (arith, c.ranges.upper)) c.requires
    c.below_top.ensures c.checked_add.ensures c.in-Some.is

pub returns-in-None : goal.returns-in-None
returns-in-None c =
    none-found 32 c.args.address c.args.lower c.args.upper c.below_top.result c.checked_add.result
    (omega (arith, c.ranges.address)) (omega (arith, c.ranges.lower)) (omega (arith, c.ranges.upper)) c.requires
    c.below_top.ensures c.checked_add.ensures c.in-None.is
