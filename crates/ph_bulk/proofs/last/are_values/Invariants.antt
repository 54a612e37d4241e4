use Rattle.std.proofs.Common.{take}
use Rattle.std.specs.Prelude.{IsTrue}
use Rattle.std.specs.List.{list_all}
use Rattle.ph_specs.specs.Table.{is_value}
use Rattle.ph_bulk.proofs.last.are_values.Given as goal

abbrev pub invariant-loop-row : goal.invariant-loop-row
invariant-loop-row g l = IsTrue (list_all (λ r. is_value r.value) (take l.row-index l.rows))
