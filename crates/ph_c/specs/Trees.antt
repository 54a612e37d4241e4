-- A tree as a table, of any number of dimensions.
use Rattle.std.specs.Prelude.{ℕ, []}
use Rattle.ph_tree.specs.Tree.{TreeTable}
use Rattle.ph_c.specs.declared.trees.Tree.{Tree}
use Rattle.ph_c.specs.declared.trees.Tree.TheVariants as tree

-- a table, and its number of dimensions
pub record AnyTable : Type 0 where
  pub dims : ℕ
  pub tree : TreeTable

abbrev pub table_at : ℕ → TreeTable → AnyTable
table_at dims t = record { dims = dims; tree = t }

abbrev pub any_table : Tree → AnyTable
any_table (tree.D1 t) = table_at 1 t
any_table (tree.D2 t) = table_at 2 t
any_table (tree.D3 t) = table_at 3 t
any_table (tree.D4 t) = table_at 4 t
any_table (tree.D5 t) = table_at 5 t
any_table (tree.D6 t) = table_at 6 t
any_table (tree.D7 t) = table_at 7 t
any_table (tree.D8 t) = table_at 8 t
any_table (tree.D9 t) = table_at 9 t
any_table (tree.D10 t) = table_at 10 t
any_table (tree.D11 t) = table_at 11 t
any_table (tree.D12 t) = table_at 12 t
any_table (tree.D13 t) = table_at 13 t
any_table (tree.D14 t) = table_at 14 t
any_table (tree.D15 t) = table_at 15 t
any_table (tree.D16 t) = table_at 16 t

-- the table of a new tree
abbrev pub empty_table : ℕ → ℕ → ℕ → AnyTable
empty_table dims width max = table_at dims (record { table = []; width = width; max = max })
