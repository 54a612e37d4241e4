-- What a tree is seen as.
use Rattle.std.specs.Prelude.{◌≡◌, ℕ, ◌≤◌, List, length, ℤ, Option}
use Rattle.ph_specs.specs.Table.{Row, put, del}
use Rattle.ph_specs.specs.Node.{PlainNode}
use Rattle.ph_specs.specs.TreeRows.{rows}
use Rattle.ph_model.specs.Lawful.{IsLawful}

-- a table, its width, and how many rows it may have
pub record TreeTable : Type 0 where
  pub table : List Row
  pub width : ℕ
  pub max : ℕ

abbrev pub tree_table : ℕ → ℕ → Option PlainNode → ℕ → TreeTable
tree_table dims width root max = record { table = rows width dims root; width = width; max = max }

-- the same with a value at a point
abbrev pub with_row : TreeTable → List ℤ → ℕ → TreeTable
with_row t p v = record t { table = put t.width t.table p v }

-- the same without the row at a point
abbrev pub without_row : TreeTable → List ℤ → TreeTable
without_row t p = record t { table = del t.table p }

-- what a tree keeps
pub record IsTree (dims width : ℕ) (root : Option PlainNode) (max len : ℕ) : Type 0 where
  pub some : 1 ≤ dims
  pub few : dims ≤ 16
  pub wide : 1 ≤ width
  pub lawful : IsLawful width dims root
  pub counted : len ≡ length (rows width dims root)
  pub limit : len ≤ max
