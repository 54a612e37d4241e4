use Rattle.std.proofs.Common.{◌≡◌, take}
use Rattle.ph_specs.specs.Sets.{table_of}
use Rattle.ph_bulk.proofs.last.last_of_each.Given as goal

abbrev pub invariant-loop-row : goal.invariant-loop-row
invariant-loop-row g l = l.last.items ≡ table_of l.w (take l.row-index l.rows)
