-- A slot of the code as that of the definitions.
use Rattle.std.specs.Prelude.{◌≤◌, ℕ, List, length, IsTrue}
use Rattle.std.specs.List.{AllByRecursion}
use Rattle.std.specs.Ordering.{nat_cmp}
use Rattle.std.specs.Cmp.Lexicographic.{slice_cmp}
use Rattle.std.specs.FinMap.Entries.{is_sorted}
use Rattle.ph_specs.specs.declared.Kind.{Kind}
use Rattle.ph_specs.specs.Named.{Named}
use Rattle.ph_specs.specs.Window.{Cursor}
use Rattle.ph_slot.specs.Naming.{place, under, entered_at}
use Rattle.ph_slot.specs.declared.cursors.Held.{Held}
use Rattle.ph_commands.specs.Tables.{AnyTable, IsCursorIn, IsOfKind}

-- the cursors of a slot under their names
abbrev pub named : {D : ℕ} → List (Held D) → Named Cursor
named held = under (λ h. h.name) (λ h. h.cursor) held

-- with a cursor more, in place of one of its name
abbrev pub entered : {D : ℕ} → Held D → List (Held D) → List (Held D)
entered h held = entered_at (place h.name (named held)) h held

-- what a slot of the code keeps: that it has 1 to 16 dimensions and its rows are of its kind, at most 16 cursors in the order of their names, which
-- differ, and that each serves in its table
pub record IsSlot {D : ℕ} (kind : Kind) (t : AnyTable) (held : List (Held D)) : Type 0 where
  pub some : 1 ≤ t.dims
  pub limit : t.dims ≤ 16
  pub of_kind : IsOfKind kind t
  pub few : length held ≤ 16
  pub sorted : IsTrue (is_sorted (slice_cmp nat_cmp) (named held))
  pub serve : AllByRecursion (λ h. IsCursorIn t h.cursor) held
