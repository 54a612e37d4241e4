use Rattle.std.proofs.Common.{arith}
use Rattle.ph_node.proofs.Lengths.{digits-few}
use Rattle.ph_snap.proofs.first.First.table_digits.Goals as goal

pub returns-clause-limit : goal.returns-clause-limit
returns-clause-limit c =
    let f = c.args.self.now in
    grind (arith, c.min.ensures, c.bits_of-2.ensures, digits-few c.args.dims f.level f.entries c.requires.few c.requires.low c.requires.entries)
