use Rattle.std.proofs.Common.{arith}
use Rattle.ph_set.proofs.KeptRows.{fewer-minus}
use Rattle.ph_set.proofs.trees.minus.Goals as goal

pub fewer-requires : goal.fewer-requires
fewer-requires g c = (omega arith, (c.requires, fewer-minus c.args.a.now.table c.args.b.now.table))
