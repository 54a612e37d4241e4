-- What the calls about one row answer, and what they leave.
use Rattle.std.specs.Prelude.{◌≡◌, ◌≢◌, ◌↔◌, ◌<◌, ◌≤◌, ℕ, List, [], ◌∷◌, length, ℤ, Some, None, IsSome}
use Rattle.ph_specs.specs.Coordinate.{IsPoint}
use Rattle.ph_specs.specs.Table.{find}
use Rattle.ph_tree.specs.Tree.{with_row, without_row}
use Rattle.ph_tree.specs.Moves.{move_answer, with_moved}
use Rattle.ph_tree.specs.declared.moves.Moved.TheVariants.{Done, Absent, Taken}
use Rattle.ph_c.specs.Trees.{AnyTable, table_at}
use Rattle.ph_c.specs.Answers.{IsOneOf}
use Rattle.ph_c.specs.Answers as code

-- the numbers are a point of the tree
abbrev pub IsPointIn : AnyTable → List ℤ → Type 0
IsPointIn t p = IsPoint t.tree.width t.dims p

-- the tree with a value at a point
abbrev pub with_value : AnyTable → List ℤ → ℕ → AnyTable
with_value t p v = table_at t.dims (with_row t.tree p v)

-- the tree without the row at a point
abbrev pub without_value : AnyTable → List ℤ → AnyTable
without_value t p = table_at t.dims (without_row t.tree p)

-- the tree with the row at one point moved to another
abbrev pub with_move : AnyTable → List ℤ → List ℤ → AnyTable
with_move t from to = table_at t.dims (with_moved t.tree from to)

-- A put of a value at numbers: of the two trees `was` is the one before it, and `now` the one that it leaves; the number lent for the former value is
-- `before`, and then `after`.
pub record IsPut (was : AnyTable) (p : List ℤ) (v : ℕ) (now : AnyTable) (before after answer : ℕ) : Type 0 where
  pub known : IsOneOf (code.done ∷ code.replaced ∷ code.no_point ∷ code.full ∷ code.no_memory ∷ []) answer
  pub added : answer ≡ code.done → IsPointIn was p × (find was.tree.table p ≡ None)
  pub replaced : (answer ≡ code.replaced) ↔ (IsPointIn was p × IsSome (find was.tree.table p))
  pub no_point : (answer ≡ code.no_point) ↔ (IsPointIn was p → ⊥)
  pub full : (answer ≡ code.full) ↔ (IsPointIn was p × (find was.tree.table p ≡ None) × (length was.tree.table ≡ was.tree.max))
  pub no_memory : answer ≡ code.no_memory → IsPointIn was p × (find was.tree.table p ≡ None)
  pub put : answer ≤ code.replaced → now ≡ with_value was p v
  pub stays : code.replaced < answer → now ≡ was
  pub former : answer ≡ code.replaced → find was.tree.table p ≡ Some after
  pub kept : answer ≢ code.replaced → after ≡ before

-- A question for the value at numbers. The number lent for it is `before`, and then `after`.
pub record IsGet (t : AnyTable) (p : List ℤ) (before after answer : ℕ) : Type 0 where
  pub known : IsOneOf (code.done ∷ code.absent ∷ code.no_point ∷ []) answer
  pub found : answer ≡ code.done → IsPointIn t p × (find t.tree.table p ≡ Some after)
  pub absent : answer ≡ code.absent → IsPointIn t p × (find t.tree.table p ≡ None)
  pub no_point : (answer ≡ code.no_point) ↔ (IsPointIn t p → ⊥)
  pub kept : answer ≢ code.done → after ≡ before

-- A removal of the row at numbers; the number lent for its value is `before`, and then `after`.
pub record IsRemove (was : AnyTable) (p : List ℤ) (now : AnyTable) (before after answer : ℕ) : Type 0 where
  pub known : IsOneOf (code.done ∷ code.absent ∷ code.no_point ∷ code.no_memory ∷ []) answer
  pub gone : answer ≡ code.done → IsPointIn was p × (find was.tree.table p ≡ Some after)
  pub absent : (answer ≡ code.absent) ↔ (IsPointIn was p × (find was.tree.table p ≡ None))
  pub no_point : (answer ≡ code.no_point) ↔ (IsPointIn was p → ⊥)
  pub no_memory : answer ≡ code.no_memory → IsPointIn was p × IsSome (find was.tree.table p)
  pub removed : answer ≤ code.absent → now ≡ without_value was p
  pub stays : code.absent < answer → now ≡ was
  pub kept : answer ≢ code.done → after ≡ before

-- A move of the row at some numbers to others.
pub record IsMove (was : AnyTable) (from to : List ℤ) (now : AnyTable) (answer : ℕ) : Type 0 where
  pub known : IsOneOf (code.done ∷ code.absent ∷ code.taken ∷ code.no_point ∷ code.no_memory ∷ []) answer
  pub done : answer ≡ code.done → IsPointIn was from × IsPointIn was to × (move_answer was.tree.table from to ≡ Done)
  pub absent : answer ≡ code.absent → IsPointIn was from × IsPointIn was to × (move_answer was.tree.table from to ≡ Absent)
  pub taken : answer ≡ code.taken → IsPointIn was from × IsPointIn was to × (move_answer was.tree.table from to ≡ Taken)
  pub no_point : (answer ≡ code.no_point) ↔ (IsPointIn was from × IsPointIn was to → ⊥)
  pub no_memory : answer ≡ code.no_memory
      → IsPointIn was from × IsPointIn was to × IsSome (find was.tree.table from) × (find was.tree.table to ≡ None)
  pub moved : answer ≤ code.taken → now ≡ with_move was from to
  pub stays : code.taken < answer → now ≡ was
