-- A tree as bytes of a caller.
use Rattle.std.specs.Prelude.{◌≡◌, ◌≢◌, ◌↔◌, ◌-◌, ◌^◌, ◌<◌, min, ℕ, List, [], ◌∷◌, length, None, IsSome, Ok}
use Rattle.ph_specs.specs.declared.Kind.TheVariants.{Points}
use Rattle.ph_specs.specs.Load.{load_fault}
use Rattle.ph_specs.specs.SavedTable.{read_snapshot}
use Rattle.ph_specs.specs.Snapshot.{snap}
use Rattle.ph_specs.specs.SnapshotOf.{IsSnapshotOf}
use Rattle.ph_c.specs.Trees.{AnyTable}
use Rattle.ph_c.specs.Opens.{AreDimensions, IsWidth}
use Rattle.ph_c.specs.Pages.{overlaid}
use Rattle.ph_c.specs.Answers.{IsOneOf}
use Rattle.ph_c.specs.Answers as code

abbrev pub snapshot_of : AnyTable → List ℕ
snapshot_of t = snap Points t.dims t.tree.width t.tree.table

-- A save: `before` are the bytes that were lent, and `after` what they are then. It is told how many are needed, or 2^64 - 1 where it is more.
pub record IsSave (t : AnyTable) (before after : List ℕ) (needed answer : ℕ) : Type 0 where
  pub known : IsOneOf (code.done ∷ code.no_room ∷ []) answer
  pub no_room : (answer ≡ code.no_room) ↔ (length before < length (snapshot_of t))
  pub saved : answer ≡ code.done → after ≡ overlaid (snapshot_of t) before
  pub kept : answer ≢ code.done → after ≡ before
  pub told : needed ≡ min (length (snapshot_of t)) (2 ^ 64 - 1)

-- the tree of a snapshot
pub record IsLoaded (dims width : ℕ) (bytes : List ℕ) (made : AnyTable) : Type 0 where
  pub sizes : AreDimensions dims × IsWidth width
  pub sound : load_fault Points dims width bytes ≡ None
  pub dims_are : made.dims ≡ dims
  pub width_is : made.tree.width ≡ width
  pub max_is : made.tree.max ≡ 2 ^ 64 - 1
  pub rows : read_snapshot Points dims width bytes ≡ Ok made.tree.table
  pub snapshot : IsSnapshotOf Points dims width bytes made.tree.table

-- why there is none
pub record NotLoaded (dims width : ℕ) (bytes : List ℕ) (answer : ℕ) : Type 0 where
  pub known : IsOneOf (code.no_dimensions ∷ code.no_width ∷ code.no_memory ∷ code.damaged ∷ []) answer
  pub no_dimensions : (answer ≡ code.no_dimensions) ↔ (AreDimensions dims → ⊥)
  pub no_width : (answer ≡ code.no_width) ↔ (AreDimensions dims × (IsWidth width → ⊥))
  pub damaged : answer ≡ code.damaged → AreDimensions dims × IsWidth width × IsSome (load_fault Points dims width bytes)
  pub no_memory : answer ≡ code.no_memory → AreDimensions dims × IsWidth width
