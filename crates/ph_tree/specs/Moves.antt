-- What a move finds in a table.
use Rattle.std.specs.Prelude.{◌≡◌, ◌+◌, ◌≤◌, ℕ, if◌then◌else◌, List, ℤ, Option, Some, None, Result, Ok, IsOk, IsSome, IfOk, OnOk, OnErr}
use Rattle.std.specs.declared.alloc.AllocError.{AllocError}
use Rattle.ph_specs.specs.Coordinate.{same_point}
use Rattle.ph_specs.specs.Table.{Row, find, has, move}
use Rattle.ph_tree.specs.Tree.{TreeTable}
use Rattle.ph_tree.specs.declared.moves.Moved.{Moved}
use Rattle.ph_tree.specs.declared.moves.Moved.TheVariants.{Done, Absent, Taken}

-- the answer where this is the value at the first point
abbrev pub answer_for : List Row → List ℤ → List ℤ → Option ℕ → Moved
answer_for table from to None = Absent
answer_for table from to (Some v) = if same_point from to then Done else (if has table to then Taken else Done)

-- the answer of a move
abbrev pub move_answer : List Row → List ℤ → List ℤ → Moved
move_answer table from to = answer_for table from to (find table from)

-- a table with the row at one point moved to another
abbrev pub with_moved : TreeTable → List ℤ → List ℤ → TreeTable
with_moved t from to = record t { table = move t.width t.table from to }

-- What a move does where a row is at its first point, by what is found at the second: of the three trees `was` is the one before it, `after` is that with the
-- row moved, and `now` is the one that it leaves. `before` and `later` are the changes that were counted.
pub record IsMoveOf {T : Type 0} (found : Option ℕ) (was after now : T) (before later : ℕ) (result : Result Moved AllocError) : Type 0 where
  pub taken : IsSome found → result ≡ Ok Taken
  pub done : found ≡ None → IfOk result (λ a. a ≡ Done)
  pub moved : found ≡ None → OnOk result (now ≡ after)
  pub held : IsSome found → now ≡ was
  pub err : OnErr result (now ≡ was)
  pub changes : later ≤ before + 4
  pub spared : OnErr result (later ≡ before)
  pub idle : IsSome found → later ≡ before
  pub kept : before ≤ later
  pub made : found ≡ None → OnOk result (before + 1 ≤ later)

-- What a move does to what keeps a table. Of the three states `was` is the one before it, `after` is that with the row moved, and `now` is the one that
-- it leaves.
pub record IsMoved {T : Type 0} (table : List Row) (from to : List ℤ) (was after now : T) (before later : ℕ)
    (result : Result Moved AllocError) : Type 0 where
  pub moved : OnOk result (now ≡ after)
  pub answer : IfOk result (λ a. a ≡ move_answer table from to)
  pub err : OnErr result (now ≡ was)
  pub absent : find table from ≡ None → IsOk result
  pub taken : IsSome (find table to) → IsOk result
  pub changes : later ≤ before + 4
  pub spared : OnErr result (later ≡ before)
  pub idle : find table from ≡ None → later ≡ before
  pub held : IsSome (find table to) → later ≡ before
  pub kept : before ≤ later
  pub made : IsSome (find table from) → find table to ≡ None → OnOk result (before + 1 ≤ later)
