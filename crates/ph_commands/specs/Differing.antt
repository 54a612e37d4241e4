-- The most visits of edits that are taken back, told from the tables alone.
use Rattle.std.specs.Prelude.{ℕ, zero, suc, ◌+◌, ◌-◌, ◌*◌, ◌==◌, Bool, true, false, not, if◌then◌else◌, List, [], ◌∷◌, length, filter, Option, Some, None}
use Rattle.ph_specs.specs.Coordinate.{same_point}
use Rattle.ph_specs.specs.Table.{Row, find}
use Rattle.ph_specs.specs.WorkSets.{path}

-- whether two tables answer the same to a look-up
abbrev pub same_answer : Option ℕ → Option ℕ → Bool
same_answer None None = true
same_answer None (Some v) = false
same_answer (Some u) None = false
same_answer (Some u) (Some v) = u == v

-- the rows of a table at whose points another one has none, or another value
abbrev pub rows_changed : List Row → List Row → List Row
rows_changed table other = filter (λ r. not (same_answer (find table r.point) (find other r.point))) table

-- The visits of an edit by the rows that it changes and those that it makes: a removal or a put at the one point of these, or a move between two.
-- Where there is none it is a put of the value that stands at its point, which the tables do not tell.
abbrev pub visits_at : ℕ → ℕ → List Row → List Row → List Row → ℕ
visits_at width dims table [] [] = 2 * width - 1
visits_at width dims table (r ∷ rows) [] = 2 * length (path width dims table r.point) - 1
visits_at width dims table [] (s ∷ made) = 2 * length (path width dims table s.point) - 1
visits_at width dims table (r ∷ rows) (s ∷ made) =
    if same_point r.point s.point then 2 * length (path width dims table r.point) - 1
    else 3 * length (path width dims table r.point) + 2 * length (path width dims table s.point)

-- those of the edit that leads a table to another
abbrev pub step_visits : ℕ → ℕ → List Row → List Row → ℕ
step_visits width dims table before = visits_at width dims table (rows_changed table before) (rows_changed before table)

-- those of the first n steps that lead a table back to the ones from before its last edits
abbrev pub back_visits : ℕ → ℕ → List Row → List (List Row) → ℕ → ℕ
back_visits width dims table past zero = 0
back_visits width dims table [] (suc n) = 0
back_visits width dims table (before ∷ past) (suc n) = step_visits width dims table before + back_visits width dims before past n
