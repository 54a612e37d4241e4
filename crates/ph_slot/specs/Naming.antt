-- The place of a name among entries in the order of their names.
use Rattle.std.specs.Prelude.{ℕ, suc, List, [], ◌∷◌, map, slice_set, insert, Result, Ok, Err}
use Rattle.std.specs.Ordering.{nat_cmp}
use Rattle.std.specs.Cmp.Lexicographic.{slice_cmp}
use Rattle.std.specs.FinMap.Entries.{by_order}
use Rattle.ph_specs.specs.Named.{Named}

-- one place farther
abbrev pub shifted : Result ℕ ℕ → Result ℕ ℕ
shifted (Ok i) = Ok (suc i)
shifted (Err i) = Err (suc i)

-- the place of the entry of this name, or that of the first whose name comes behind it
abbrev pub place : {X : Type 0} → List ℕ → Named X → Result ℕ ℕ
place name [] = Err 0
place name (e ∷ es) = by_order (slice_cmp nat_cmp name e.0) (Err 0) (Ok 0) (shifted (place name es))

-- a list by the names and the values of its elements
abbrev pub under : {A X : Type 0} → (A → List ℕ) → (A → X) → List A → Named X
under key value xs = map (λ a. (key a, value a)) xs

-- the list with an element at a place, in place of the one that stands at it or between two
abbrev pub entered_at : {A : Type 0} → Result ℕ ℕ → A → List A → List A
entered_at (Ok i) a xs = slice_set xs i a
entered_at (Err i) a xs = insert xs i a
