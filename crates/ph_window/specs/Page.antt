-- Pages of a window.
use Rattle.std.specs.Prelude.{◌≡◌, ℕ, suc, List, ◌∷◌, ℤ, Option, Some, None}
use Rattle.ph_specs.specs.Coordinate.{IsPoint}
use Rattle.ph_specs.specs.Table.{Row}
use Rattle.ph_specs.specs.Window.{Cursor}
use Rattle.ph_window.specs.Window.{Listing}

-- the rows that are left of the window, the visits for them, how many rows may still be given, and the cursor
pub record Paging (C : Type 0) : Type 0 where
  pub rows : List Row
  pub visits : ℕ
  pub left : ℕ
  pub cursor : C

-- the first n rows of a window, before any of them is given
abbrev pub paging : {C : Type 0} → Listing → ℕ → C → Paging C
paging window n cursor = record { rows = window.rows; visits = window.visits; left = n; cursor = cursor }

-- a point that may be the last one listed
abbrev pub IsLast : ℕ → ℕ → Option (List ℤ) → Type 0
IsLast w d None = Unit {0}
IsLast w d (Some p) = IsPoint w d p

-- nothing was given
abbrev pub IsSamePage : Paging Cursor → Paging Cursor → Type 0
IsSamePage old new = (new.rows ≡ old.rows) × (new.left ≡ old.left) × (new.cursor ≡ old.cursor)

-- a row was given
abbrev pub IsNextPage : Paging Cursor → Paging Cursor → Row → Type 0
IsNextPage old new r =
    (old.rows ≡ r ∷ new.rows) × (old.left ≡ suc new.left) × (new.cursor ≡ record { lo = old.cursor.lo; hi = old.cursor.hi; last = Some r.point })
