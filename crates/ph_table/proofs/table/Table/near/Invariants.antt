use Rattle.std.proofs.Common.{◌≡◌, take}
use Rattle.ph_specs.specs.Distance.{near}
use Rattle.ph_table.specs.Hits.{hits_of}
use Rattle.ph_table.proofs.table.Table.near.Given as goal

abbrev pub invariant-loop-row : goal.invariant-loop-row
invariant-loop-row g l = l.hits.items ≡ hits_of l.fn.q (near l.fn.q l.fn.n (take l.row-index l.fn.self.rows))
