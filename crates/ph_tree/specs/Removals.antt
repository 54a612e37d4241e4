-- What a removal does to a tree, or to a node with all below it.
use Rattle.std.specs.Prelude.{◌≡◌, ℕ, ◌+◌, ◌≤◌, List, ℤ, Option, None, Result, IsOk, IsSome, IfOk, OnOk, OnErr}
use Rattle.std.specs.declared.alloc.AllocError.{AllocError}
use Rattle.ph_specs.specs.Shape.{shape}
use Rattle.ph_specs.specs.Table.{Row, find}
use Rattle.ph_tree.specs.Rooms.{spare_wanted_in}

-- A removal finds a value at its point or none. Of the three trees `was` is the one before it, `after` is that without the point, and `now` is the one that
-- it leaves; `before` and `later` are the changes that were counted.
pub record IsRemoval {T : Type 0} (found : Option ℕ) (was after now : T) (before later : ℕ) (result : Result (Option ℕ) AllocError) : Type 0 where
  pub answer : IfOk result (λ a. a ≡ found)
  pub del : OnOk result (now ≡ after)
  pub err : OnErr result (now ≡ was)
  pub absent : found ≡ None → IsOk result
  pub changes : later ≤ before + 2
  pub idle : found ≡ None → later ≡ before
  pub spared : OnErr result (later ≡ before)
  pub kept : before ≤ later
  pub made : IfOk result (λ a. IsSome a → before + 1 ≤ later)

-- What the removal of a point does to what keeps a table. Of the three states `was` is the one before it, `after` is that without the point, and `now` is
-- the one that it leaves; `before` and `later` are the changes that were counted.
pub record IsRemovedRow {T : Type 0} (width dims : ℕ) (table : List Row) (p : List ℤ) (was after now : T) (before later : ℕ)
    (result : Result (Option ℕ) AllocError) : Type 0 where
  pub del : OnOk result (now ≡ after)
  pub answer : IfOk result (λ a. a ≡ find table p)
  pub err : OnErr result (now ≡ was)
  pub absent : find table p ≡ None → IsOk result
  pub lean : spare_wanted_in width dims (shape width table) p ≡ 0 → IsOk result
  pub changes : later ≤ before + 2
  pub idle : find table p ≡ None → later ≡ before
  pub spared : OnErr result (later ≡ before)
  pub kept : before ≤ later
  pub made : IsSome (find table p) → OnOk result (before + 1 ≤ later)
