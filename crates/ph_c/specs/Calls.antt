-- What a call does, by whether the handle has a tree.
use Rattle.std.specs.Prelude.{◌≡◌, ℕ, Option, Some, None}
use Rattle.ph_c.specs.declared.trees.Tree.{Tree}
use Rattle.ph_c.specs.Trees.{AnyTable, any_table}
use Rattle.ph_c.specs.Answers.{no_tree}

-- the tree of a handle as a table
abbrev pub table_in : Option Tree → Option AnyTable
table_in None = None
table_in (Some t) = Some (any_table t)

-- what a question tells of a tree, and that without one it says so and is idle
abbrev pub Asks : Option AnyTable → ℕ → Type 0 → (AnyTable → Type 0) → Type 0
Asks None answer idle asks = (answer ≡ no_tree) × idle
Asks (Some t) answer idle asks = asks t

-- what an edit does to a tree, and that without one it says so and is idle
abbrev pub Edits : Option AnyTable → Option AnyTable → ℕ → Type 0 → (AnyTable → AnyTable → Type 0) → Type 0
Edits None None answer idle edits = (answer ≡ no_tree) × idle
Edits None (Some u) answer idle edits = ⊥
Edits (Some t) None answer idle edits = ⊥
Edits (Some t) (Some u) answer idle edits = edits t u
