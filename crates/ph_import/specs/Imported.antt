-- What a tree that keeps its last edits is after rows were put into it.
use Rattle.std.specs.Prelude.{◌≡◌, ℕ, ◌+◌, ◌-◌, ◌*◌, ◌<◌, ◌≤◌, nat_le, if◌then◌else◌, List, [], ◌∷◌, length, sum_by, take, Result, OnOk, IsErr, IsErrOf}
use Rattle.ph_specs.specs.Past.{Past, without_past}
use Rattle.ph_specs.specs.Table.{Row, put}
use Rattle.ph_specs.specs.Sets.{put_all}
use Rattle.ph_specs.specs.WorkSets.{all_nodes, path}
use Rattle.ph_import.specs.declared.fault.ImportFault.{ImportFault}
use Rattle.ph_import.specs.declared.fault.ImportFault.TheVariants.{Full}

-- the same tree with all rows put, in their order, and no past
abbrev pub with_rows : Past → List Row → Past
with_rows k rows = without_past k (put_all k.width k.table rows)

-- the same, but with its past where there are no rows
abbrev pub with_some : Past → List Row → Past
with_some k [] = k
with_some k (r ∷ rows) = with_rows k (r ∷ rows)

-- the most visits of rows that are put one after the other: twice the path of each in the table as it then stands, and its root once
abbrev pub puts_visits : ℕ → ℕ → List Row → List Row → ℕ
puts_visits width dims table [] = 0
puts_visits width dims table (r ∷ rows) =
    (2 * length (path width dims table r.point) - 1) + puts_visits width dims (put width table r.point r.value) rows

-- the visits of a look-up of each row's point
abbrev pub looks_visits : ℕ → ℕ → List Row → List Row → ℕ
looks_visits width dims table rows = sum_by (λ r. length (path width dims table r.point)) rows

-- the most visits to tell whether a table may have all rows: none where it may even if each is at a new point, and else a look-up of each
abbrev pub room_visits : ℕ → ℕ → ℕ → List Row → List Row → ℕ
room_visits max width dims table rows = if nat_le (length table + length rows) max then 0 else looks_visits width dims table rows

-- the same, and those of the puts where it may
abbrev pub rows_visits : ℕ → Past → List Row → ℕ
rows_visits dims k rows =
    room_visits k.max k.width dims k.table rows
    + (if nat_le (length (put_all k.width k.table rows)) k.max then puts_visits k.width dims k.table rows else 0)

-- the most visits of an import: none where the table is empty, its nodes where it has no more rows than come, and else those of the puts
abbrev pub visits_into : List Row → ℕ → ℕ
visits_into [] n = 0
visits_into (r ∷ table) n = n

abbrev pub import_visits : ℕ → Past → List Row → ℕ
import_visits dims k rows =
    visits_into k.table (if nat_le (length k.table) (length rows) then length (all_nodes k.width dims k.table) else rows_visits dims k rows)

-- the same by the width and the number of rows alone
abbrev pub most_visits : ℕ → List Row → ℕ → ℕ
most_visits width [] n = 0
most_visits width (r ∷ table) n = 4 * width * n

-- the most changes: the nodes of the result where the table has no more rows than come, and else two a row
abbrev pub most_changes : ℕ → ℕ → List Row → List Row → ℕ
most_changes width dims table rows =
    if nat_le (length table) (length rows) then length (all_nodes width dims (put_all width table rows)) else 2 * length rows

-- What a call does that gives a tree another table: `was` is the tree before it, and `now` is what it leaves. `before` and `later` are the changes that were
-- counted, `most` of them at most. Where the table has more rows than the tree may have, it stays as it was.
pub record IsRenewed (was now : Past) (table : List Row) (most before later : ℕ) (result : Result Unit ImportFault) : Type 0 where
  pub ok : OnOk result (now ≡ without_past was table)
  pub full : IsErrOf result Full → was.max < length table
  pub refused : was.max < length table → IsErr result
  pub unchanged : was.max < length table → now ≡ was
  pub changes : later ≤ before + most
  pub grown : before ≤ later
  pub untouched : was.max < length table → later ≡ before

-- the same with the table that rows make of its own
abbrev pub IsImported : Past → Past → List Row → ℕ → ℕ → ℕ → Result Unit ImportFault → Type 0
IsImported was now rows most before later result = IsRenewed was now (put_all was.width was.table rows) most before later result

-- some first rows are put, and at least one is not
pub record IsPart (before after : Past) (rows : List Row) : Type 0 where
  pub part : ℕ
  pub few : part < length rows
  pub state : after ≡ with_some before (take part rows)
