-- A plain node and a plain tree without a point.
use Rattle.std.specs.Prelude.{ℕ, List, ℤ, Option, Some, None}
use Rattle.ph_specs.specs.Node.{Entries, end, point, child, PlainNode}
use Rattle.ph_specs.specs.DelTree.{del_entries}

abbrev pub del_node : ℕ → PlainNode → List ℤ → PlainNode
del_node width n p = record { level = n.level; chain = del_entries width n.level n.chain p }

-- a root with these entries; there is none without an entry
abbrev pub root_of : ℕ → Entries → Option PlainNode
root_of level end = None
root_of level (point a body v rest) = Some (record { level = level; chain = point a body v rest })
root_of level (child a body below chain rest) = Some (record { level = level; chain = child a body below chain rest })

-- a plain tree without the point
abbrev pub del_tree : ℕ → ℕ → Option PlainNode → List ℤ → Option PlainNode
del_tree width dims None p = None
del_tree width dims (Some n) p = root_of n.level (del_entries width n.level n.chain p)
