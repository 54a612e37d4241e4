use Rattle.std.proofs.Common.{arith}
use Rattle.ph_node.proofs.records.size.Goals as goal

pub returns-clause-limit : goal.returns-clause-limit
returns-clause-limit c = omega (arith, c.least_of-digits.ensures.limit)
