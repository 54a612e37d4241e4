-- What a put does to a tree, or to a node with all below it.
use Rattle.std.specs.Prelude.{◌≡◌, ℕ, ◌+◌, ◌≤◌, ◌↔◌, Bool, true, false, List, length, ℤ, Option, None, Result, IsOk, IsSome, IfOk, OnOk, OnErr, IsErrOf}
use Rattle.ph_specs.specs.Table.{Row, find}
use Rattle.ph_table.specs.Rows.{put_answer}
use Rattle.ph_table.specs.declared.table.Put.{Put}
use Rattle.ph_table.specs.declared.table.Put.TheVariants.{New}
use Rattle.ph_tree.specs.declared.error.PutError.{PutError}
use Rattle.ph_tree.specs.declared.error.PutError.TheVariants.{Full}

-- A put finds a value at its point or none. Of the three trees `was` is the one before it, `after` is that with the value put, and `now` is the one that
-- it leaves; `before` and `later` are the changes that were counted. A fresh put is of a new point alone, and no new point is put where there is no room.
pub record IsPut {T : Type 0} (fresh room : Bool) (found : Option ℕ) (was after now : T) (before later : ℕ)
    (result : Result Put PutError) : Type 0 where
  pub answer : IfOk result (λ a. a ≡ put_answer found)
  pub put : fresh ≡ false → OnOk result (now ≡ after)
  pub joined : found ≡ None → OnOk result (now ≡ after)
  pub held : fresh ≡ true → IsSome found → now ≡ was
  pub err : OnErr result (now ≡ was)
  pub full : IsErrOf result Full → room ≡ false
  pub absent : OnErr result (found ≡ None)
  pub refused : found ≡ None → room ≡ false → IsErrOf result Full
  pub changes : later ≤ before + 2
  pub spared : OnErr result (later ≡ before)
  pub kept : before ≤ later
  pub made : IfOk result (λ a. a ≡ New → before + 1 ≤ later)
  pub replaced : fresh ≡ false → IsSome found → later ≡ before + 1
  pub idle : fresh ≡ true → IsSome found → later ≡ before

-- What a put at a point does to what keeps a table of at most `max` rows. Of the three states `was` is the one before it, `after` is that with the value
-- put, and `now` is the one that it leaves; `before` and `later` are the changes that were counted.
pub record IsPutRow {T : Type 0} (table : List Row) (max : ℕ) (p : List ℤ) (was after now : T) (before later : ℕ)
    (result : Result Put PutError) : Type 0 where
  pub put : OnOk result (now ≡ after)
  pub answer : IfOk result (λ a. a ≡ put_answer (find table p))
  pub err : OnErr result (now ≡ was)
  pub full : IsErrOf result Full ↔ ((find table p ≡ None) × (length table ≡ max))
  pub present : IsSome (find table p) → IsOk result
  pub changes : later ≤ before + 2
  pub spared : OnErr result (later ≡ before)
  pub kept : before ≤ later
  pub made : IfOk result (λ a. a ≡ New → before + 1 ≤ later)
  pub replaced : IsSome (find table p) → later ≡ before + 1
