-- What a load of bytes gives, and how far a counter rises for bytes that are read.
use Rattle.std.specs.Prelude.{◌≡◌, ◌≤◌, ℕ, ◌+◌, ◌*◌, true, List, length, Ok}
use Rattle.ph_specs.specs.declared.Kind.{Kind}
use Rattle.ph_specs.specs.KindRows.{rows_fit}
use Rattle.ph_specs.specs.SavedTable.{read_snapshot}
use Rattle.ph_specs.specs.SnapshotOf.{IsSnapshotOf}
use Rattle.ph_specs.specs.WorkSets.{all_nodes}
use Rattle.ph_commands.specs.Tables.{AnyTable}

-- the bytes are the snapshot of this table of so many dimensions and of this width, for each of whose nodes a change is counted
pub record IsLoadedTree (kind : Kind) (asked w : ℕ) (bytes : List ℕ) (t : AnyTable) (before later : ℕ) : Type 0 where
  pub dims : t.dims ≡ asked
  pub width : t.tree.width ≡ w
  pub rows : rows_fit kind t.tree.table ≡ true
  pub read : read_snapshot kind asked w bytes ≡ Ok t.tree.table
  pub snapshot : IsSnapshotOf kind asked w bytes t.tree.table
  pub nodes : later ≡ before + length (all_nodes w asked t.tree.table)

-- a counter does not fall, and rises by at most one for sixteen of the bytes
pub record IsWithinBytes (bytes : List ℕ) (before later : ℕ) : Type 0 where
  pub kept : before ≤ later
  pub few : 16 * later ≤ 16 * before + length bytes
