use Rattle.std.proofs.Common.{arith}
use Rattle.ph_node.proofs.Lengths.{digits-few}
use Rattle.ph_node.proofs.records.least_of.Goals as goal

pub returns-clause-limit : goal.returns-clause-limit
returns-clause-limit c =
    grind (arith, c.min.ensures, c.bits_of-2.ensures, digits-few c.args.dims c.args.level c.args.n c.requires.few c.requires.low c.requires.entries)
