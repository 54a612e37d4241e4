-- A page of a window in arrays of a caller.
use Rattle.std.specs.Prelude.{◌≡◌, ◌≢◌, ◌↔◌, ℕ, List, [], ◌∷◌, ℤ, Option, Some, None, length, take, drop}
use Rattle.ph_specs.specs.Table.{Row}
use Rattle.ph_specs.specs.Window.{Cursor, rest}
use Rattle.ph_c.specs.Trees.{AnyTable}
use Rattle.ph_c.specs.Edits.{IsPointIn}
use Rattle.ph_c.specs.Pages.{points_of, values_of, overlaid, IsRoom}
use Rattle.ph_c.specs.Answers.{IsOneOf}
use Rattle.ph_c.specs.Answers as code

-- the last point listed, or none where no numbers are given for it
abbrev pub last_of : List ℤ → Option (List ℤ)
last_of [] = None
last_of (c ∷ p) = Some (c ∷ p)

abbrev pub cursor_at : List ℤ → List ℤ → List ℤ → Cursor
cursor_at low high last = record { lo = low; hi = high; last = last_of last }

-- the corners are points of the tree, and the last one listed is, if there is one
abbrev pub IsLastIn : AnyTable → List ℤ → Type 0
IsLastIn t [] = Unit {0}
IsLastIn t (c ∷ p) = IsPointIn t (c ∷ p)

abbrev pub AreCorners : AnyTable → List ℤ → List ℤ → List ℤ → Type 0
AreCorners t low high last = IsPointIn t low × IsPointIn t high × IsLastIn t last

-- what is lent for a page: two arrays, and the numbers that tell how many rows are in them and whether more are left
pub record Lent : Type 0 where
  pub points : List ℤ
  pub values : List ℕ
  pub count : ℕ
  pub more : ℕ

abbrev pub lent : List ℤ → List ℕ → ℕ → ℕ → Lent
lent points values count more = record { points = points; values = values; count = count; more = more }

-- 1 where rows are left, and 0 where none are
abbrev pub some_left : List Row → ℕ
some_left [] = 0
some_left (r ∷ rows) = 1

-- The first rows, as many as there is room for, in what was lent.
pub record IsListed (dims : ℕ) (rows : List Row) (before after : Lent) : Type 0 where
  pub room : ℕ
  pub fits : IsRoom dims (length before.points) (length before.values) room
  pub points : after.points ≡ overlaid (points_of (take room rows)) before.points
  pub values : after.values ≡ overlaid (values_of (take room rows)) before.values
  pub count : after.count ≡ length (take room rows)
  pub more : after.more ≡ some_left (drop room rows)

-- A page of a window.
pub record IsWindow (t : AnyTable) (low high last : List ℤ) (before after : Lent) (answer : ℕ) : Type 0 where
  pub known : IsOneOf (code.done ∷ code.no_point ∷ []) answer
  pub no_point : (answer ≡ code.no_point) ↔ (AreCorners t low high last → ⊥)
  pub listed : answer ≡ code.done → IsListed t.dims (rest t.tree.width (cursor_at low high last) t.tree.table) before after
  pub kept : answer ≢ code.done → after ≡ before
