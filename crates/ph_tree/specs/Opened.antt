-- The nodes that a look-up opens.
use Rattle.std.specs.Prelude.{ℕ, ◌+◌, ◌==◌, if◌then◌else◌, List, ℤ, Option, Some, None}
use Rattle.ph_specs.specs.ZOrder.{address}
use Rattle.ph_specs.specs.Node.{Entries, end, point, child, PlainNode}
use Rattle.ph_specs.specs.Shape.{digits_between}
use Rattle.ph_specs.specs.DelTree.{same_digits}

-- how many nodes below entries at a level: a child at the point's address, and where the point shares its digits those below it
abbrev pub opened_below : ℕ → ℕ → Entries → List ℤ → ℕ
opened_below width level end p = 0
opened_below width level (point a body v rest) p = opened_below width level rest p
opened_below width level (child a body below chain rest) p =
    (if a == address width p level
    then 1 + (if same_digits body (digits_between width level below p) then opened_below width below chain p else 0)
    else 0) + opened_below width level rest p

-- how many nodes of a tree
abbrev pub opened_in : ℕ → Option PlainNode → List ℤ → ℕ
opened_in width None p = 0
opened_in width (Some n) p = 1 + opened_below width n.level n.chain p
