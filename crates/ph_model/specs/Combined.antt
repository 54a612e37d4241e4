-- The three set operations on tables as one: two tables side by side in Z-order, of which some rows are kept.
use Rattle.std.specs.Prelude.{◌≡◌, ℕ, List, [], ◌∷◌, ◌++◌, length, filter, ◌||◌, Bool, true, if◌then◌else◌}
use Rattle.std.specs.List.{AllByRecursion as Each}
use Rattle.ph_specs.specs.ZOrder.{before}
use Rattle.ph_specs.specs.Table.{Row, has}
use Rattle.ph_specs.specs.WorkSets.{Placed, holds_some}

-- all rows or none
abbrev pub chosen : Bool → List Row → List Row
chosen keep rows = if keep then rows else []

-- the rows that come before a row in Z-order, and those that come after it
abbrev pub earlier : ℕ → Row → List Row → List Row
earlier w x rows = filter (λ s. before w s.point x.point) rows

abbrev pub later : ℕ → Row → List Row → List Row
later w x rows = filter (λ s. before w x.point s.point) rows

-- which rows of two tables are kept: those at points of the first alone (`left`), those of the first at points of both (`both`),
-- and those at points of the second alone (`right`)
abbrev pub combined : ℕ → Bool → Bool → Bool → List Row → List Row → List Row
combined w left both right [] b = chosen right b
combined w left both right (x ∷ a) b =
    chosen right (earlier w x b) ++ (chosen (if has b x.point then both else left) (x ∷ []) ++ combined w left both right a (later w x b))

-- each row of the first list comes before each row of the second
abbrev pub AreParted : ℕ → List Row → List Row → Type 0
AreParted w xs ys = Each (λ x. Each (λ y. before w x.point y.point ≡ true) ys) xs

-- ---- work

-- how many of some nodes there are: all of them, or those whose region holds the point of some row
abbrev pub seen_nodes : ℕ → Bool → List Row → List Placed → ℕ
seen_nodes width all rows xs = length (filter (λ x. all || holds_some width rows x) xs)
