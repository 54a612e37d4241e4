-- The set operations on two trees.
use Rattle.std.specs.Prelude.{ℕ, ◌+◌, min, true, false, List, length}
use Rattle.ph_specs.specs.Sets.{union, common, minus}
use Rattle.ph_specs.specs.Table.{Row}
use Rattle.ph_specs.specs.WorkSets.{all_nodes, touch}
use Rattle.ph_set.specs.declared.operations.Operation.{Operation}
use Rattle.ph_set.specs.declared.operations.Operation.TheVariants.{Union, Common, Minus}
use Rattle.ph_set.specs.declared.plan.Plan.{Plan}

-- what each keeps of two trees of a width
abbrev pub plan_of : Operation → ℕ → Plan
plan_of Union width = record { width = width; left = true; both = true; right = true }
plan_of Common width = record { width = width; left = false; both = true; right = false }
plan_of Minus width = record { width = width; left = true; both = false; right = false }

-- its rows, of two tables of a width
abbrev pub rows_of : Operation → ℕ → List Row → List Row → List Row
rows_of Union width xs ys = union width xs ys
rows_of Common width xs ys = common xs ys
rows_of Minus width xs ys = minus xs ys

-- for how many of them room is taken, where the tables have so many rows: for as many as can be kept
abbrev pub room_of : Operation → ℕ → ℕ → ℕ
room_of Union m n = m + n
room_of Common m n = min m n
room_of Minus m n = m

-- how many nodes of their trees are visited for it
abbrev pub visits_of : Operation → ℕ → ℕ → List Row → List Row → ℕ
visits_of Union width dims xs ys = length (all_nodes width dims xs) + length (all_nodes width dims ys)
visits_of Common width dims xs ys = length (touch width dims xs ys) + length (touch width dims ys xs)
visits_of Minus width dims xs ys = length (all_nodes width dims xs) + length (touch width dims ys xs)
