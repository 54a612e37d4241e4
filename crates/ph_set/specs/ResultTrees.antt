-- The tree that a call makes of rows.
use Rattle.std.specs.Prelude.{◌≡◌, ℕ, ◌+◌, ◌≤◌, List, length, Result, IfOk, OnOk}
use Rattle.ph_specs.specs.Table.{Row}
use Rattle.ph_specs.specs.WorkSets.{all_nodes}
use Rattle.ph_tree.specs.Tree.{TreeTable}

-- It has these rows, is of a width and for at most `limit` rows. `before` and `later` are the changes that were counted, one for each of its nodes.
pub record IsMade {E : Type 0} (w dims limit : ℕ) (rows : List Row) (before later : ℕ) (result : Result TreeTable E) : Type 0 where
  pub table : IfOk result (λ t. t.table ≡ rows)
  pub width : IfOk result (λ t. t.width ≡ w)
  pub max : IfOk result (λ t. t.max ≡ limit)
  pub nodes : OnOk result (later ≡ before + length (all_nodes w dims rows))
  pub most : later ≤ before + length (all_nodes w dims rows)
  pub kept : before ≤ later
