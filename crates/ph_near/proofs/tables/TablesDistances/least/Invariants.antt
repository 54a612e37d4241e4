use Rattle.std.proofs.Common.{◌≡◌, ◌*◌, min}
use Rattle.ph_near.specs.Halves.{digits_sum}
use Rattle.ph_near.proofs.tables.TablesDistances.least.Given as goal

abbrev pub invariant-loop-table : goal.invariant-loop-table
invariant-loop-table g l = l.sum ≡ digits_sum g.row.D l.self.halves.low l.self.halves.high 0 l.addr (min (4 * l.table) g.row.D)
