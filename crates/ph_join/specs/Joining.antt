-- What a join has still to list.
use Rattle.std.specs.Prelude.{◌≡◌, ℕ, zero, suc, ◌+◌, ◌%◌, ◌++◌, [], List, Option, Some, None}
use Rattle.std.specs.List.{AllByRecursion}
use Rattle.ph_specs.specs.Boxes.{AreBoxes}
use Rattle.ph_specs.specs.Coordinate.{IsPoint}
use Rattle.ph_specs.specs.Sets.{pairs}
use Rattle.ph_specs.specs.Table.{Row}
use Rattle.ph_specs.specs.WorkSets.{partner_visits}
use Rattle.ph_tree.specs.Tree.{TreeTable}
use Rattle.ph_window.specs.Window.{Listing}

-- the pairs that are left, how many nodes will be visited for them at most, and how many at least: the root of the first tree, before it is visited
pub record Joining : Type 0 where
  pub pairs : List (Row × Row)
  pub visits : ℕ
  pub owed : ℕ

-- the first of some nodes, if there is one
abbrev pub one_of : ℕ → ℕ
one_of zero = 0
one_of (suc n) = 1

-- those of the row at hand, if there is one
abbrev pub pairs_at : Option Joining → List (Row × Row)
pairs_at None = []
pairs_at (Some p) = p.pairs

abbrev pub visits_at : Option Joining → ℕ
visits_at None = 0
visits_at (Some p) = p.visits

-- and those of the rows behind it
abbrev pub joining : ℕ → Option Joining → Listing → TreeTable → Joining
joining d at firsts second =
    record { pairs = pairs_at at ++ pairs firsts.rows second.table; visits = visits_at at + (firsts.visits + partner_visits second.width d second.table firsts.rows); owed = one_of firsts.visits }

-- what a join keeps: points can be boxes, each row that is left of the first table is a point of the width, and each of the second is a box
pub record IsJoin (d : ℕ) (firsts : List Row) (second : TreeTable) : Type 0 where
  pub even : d % 2 ≡ 0
  pub points : AllByRecursion (λ r. IsPoint second.width d r.point) firsts
  pub boxes : AreBoxes second.table
