-- The inverses of edits, and the tables that they lead back to.
use Rattle.std.specs.Prelude.{◌≡◌, ℕ, ◌+◌, ◌-◌, ◌*◌, Bool, false, not, if◌then◌else◌, List, [], ◌∷◌, take, length, ℤ, None, IsSome, ⊤}
use Rattle.ph_specs.specs.Coordinate.{same_point, IsPoint}
use Rattle.ph_specs.specs.Table.{Row, find, put, del, move}
use Rattle.ph_specs.specs.WorkSets.{path}
use Rattle.ph_table.specs.declared.table.Put.{Put}
use Rattle.ph_table.specs.declared.table.Put.TheVariants.{New, Old}
use Rattle.ph_tree.specs.declared.moves.Moved.{Moved}
use Rattle.ph_tree.specs.declared.moves.Moved.TheVariants.{Done, Absent, Taken}
use Rattle.ph_undo.specs.declared.inverse.Inverse.{Inverse}
use Rattle.ph_undo.specs.declared.inverse.Inverse.TheVariants.{Remove, Restore, Return}

-- whether a move that was answered so took a row to another point
abbrev pub is_move : List ℤ → List ℤ → Moved → Bool
is_move p q Done = not (same_point p q)
is_move p q Absent = false
is_move p q Taken = false

module _ {D : ℕ} where
  -- the table that an inverse leads to
  abbrev pub undone : ℕ → List Row → Inverse D → List Row
  undone width table (Remove p) = del table p
  undone width table (Restore p v) = put width table p v
  undone width table (Return p q) = move width table p q

  -- the tables that inverses lead to, one behind another
  abbrev pub past_of : ℕ → List Row → List (Inverse D) → List (List Row)
  past_of width table [] = []
  past_of width table (s ∷ inverses) = undone width table s ∷ past_of width (undone width table s) inverses

  -- the points of an inverse are points of the table
  abbrev pub IsInverse : ℕ → Inverse D → Type 0
  IsInverse width (Remove p) = IsPoint width D p
  IsInverse width (Restore p v) = IsPoint width D p
  IsInverse width (Return p q) = IsPoint width D p × IsPoint width D q

  -- an inverse changes the table: the row that it takes away or moves is there, and none stands where it moves to
  abbrev pub IsChange : List Row → Inverse D → Type 0
  IsChange table (Remove p) = IsSome (find table p)
  IsChange table (Restore p v) = ⊤
  IsChange table (Return p q) = IsSome (find table p) × (find table q ≡ None)

  -- each inverse changes the table that those before it lead to
  abbrev pub AreChanges : ℕ → List Row → List (Inverse D) → Type 0
  AreChanges width table [] = ⊤
  AreChanges width table (s ∷ inverses) = IsChange table s × AreChanges width (undone width table s) inverses

  -- the most nodes that are visited to do an inverse: on the paths of its points, what the edit of the tree promises
  abbrev pub undo_visits : ℕ → ℕ → List Row → Inverse D → ℕ
  undo_visits width dims table (Remove p) = 2 * length (path width dims table p) - 1
  undo_visits width dims table (Restore p v) = 2 * length (path width dims table p) - 1
  undo_visits width dims table (Return p q) = 3 * length (path width dims table p) + 2 * length (path width dims table q)

  -- what takes a put back that was answered so
  abbrev pub put_inverse : List ℤ → Put → Inverse D
  put_inverse p New = Remove p
  put_inverse p (Old v) = Restore p v

  -- the inverses after a move that was answered so, with room for so many
  abbrev pub with_move : ℕ → List ℤ → List ℤ → Moved → List (Inverse D) → List (Inverse D)
  with_move room p q answer inverses = if is_move p q answer then take room (Return q p ∷ inverses) else inverses
