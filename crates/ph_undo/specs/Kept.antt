-- What a tree that keeps its last edits is seen as.
use Rattle.std.specs.Prelude.{◌≡◌, ◌≤◌, ◌+◌, ◌↔◌, ℕ, Bool, true, false, List, [], ◌∷◌, length, Option, Result, Ok, OnOk, OnErr}
use Rattle.std.specs.List.{AllByRecursion as Each}
use Rattle.std.specs.declared.alloc.AllocError.{AllocError}
use Rattle.circular_buffer.specs.Buffer.{Buffer}
use Rattle.ph_specs.specs.Past.{Past, back}
use Rattle.ph_specs.specs.Table.{Row}
use Rattle.ph_tree.specs.Tree.{TreeTable}
use Rattle.ph_undo.specs.Inverses.{past_of, undone, undo_visits, IsInverse, IsChange, AreChanges}
use Rattle.ph_undo.specs.Rings.{inverses_in, room_in}
use Rattle.ph_undo.specs.declared.inverse.Inverse.{Inverse}

-- the tree without its past
abbrev pub tree_of : Past → TreeTable
tree_of k = record { table = k.table; width = k.width; max = k.max }

-- a table with the tables that inverses lead back to
abbrev pub kept_of : {D : ℕ} → TreeTable → ℕ → Option (Buffer (Inverse D)) → Past
kept_of t depth ring = record { table = t.table; width = t.width; max = t.max; depth = depth; past = past_of t.width t.table (inverses_in ring) }

-- what is kept: at most 16 dimensions, room for as many inverses as may be taken back, their points are points of the tree, no
-- table that they lead to has more rows than the tree may have, and each of them changes its table
pub record IsKept (D : ℕ) (t : TreeTable) (depth : ℕ) (ring : Option (Buffer (Inverse D))) : Type 0 where
  pub few : D ≤ 16
  pub limit : depth ≤ 65536
  pub room : room_in ring ≡ depth
  pub within : length (inverses_in ring) ≤ depth
  pub points : Each (IsInverse t.width) (inverses_in ring)
  pub fit : Each (λ table. length table ≤ t.max) (past_of t.width t.table (inverses_in ring))
  pub changes : AreChanges t.width t.table (inverses_in ring)

-- What it does to a tree with its past to take the last edit back: `was` is before it, and `now` is what it leaves. `before` and `later` are the changes
-- that were counted.
pub record IsTakenBack (was now : Past) (before later : ℕ) (result : Result Bool AllocError) : Type 0 where
  pub none : result ≡ Ok false ↔ (was.past ≡ [])
  pub stays : was.past ≡ [] → now ≡ was
  pub back : OnOk result (now ≡ back was 1)
  pub err : OnErr result (now ≡ was)
  pub changes : later ≤ before + 4
  pub spared : OnErr result (later ≡ before)
  pub kept : before ≤ later
  pub made : result ≡ Ok true → before + 1 ≤ later

-- a table was led back to the one from before its last edit by an inverse that changes it, with at most the visits of that inverse
pub record IsLedBack (dims width : ℕ) (table before : List Row) (visits now_visits : ℕ) : Type 0 where
  pub inverse : Inverse dims
  pub point : IsInverse width inverse
  pub change : IsChange table inverse
  pub leads : undone width table inverse ≡ before
  pub few : now_visits ≤ visits + undo_visits width dims table inverse

-- the visits where the last edit is taken back: those of its inverse at most, and none where nothing is kept
abbrev pub BackVisits : ℕ → ℕ → List Row → List (List Row) → ℕ → ℕ → Type 0
BackVisits dims width table [] visits now_visits = now_visits ≡ visits
BackVisits dims width table (before ∷ past) visits now_visits = IsLedBack dims width table before visits now_visits
