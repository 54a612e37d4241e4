-- What is left of two nodes that are gone through side by side.
use Rattle.std.specs.Prelude.{◌≡◌, ℕ, ◌+◌, Bool, List, take}
use Rattle.ph_specs.specs.Node.{PlainNode}
use Rattle.ph_model.specs.EntryList.{Entry, node, entries}
use Rattle.ph_model.specs.PutTree.{digits_from}
use Rattle.ph_specs.specs.Table.{Row}
use Rattle.ph_specs.specs.WorkSets.{Placed}
use Rattle.ph_node.specs.Shown.{shown}
use Rattle.ph_set.specs.Meeting.{kept, work, kept_by, work_by}
use Rattle.ph_set.specs.Parts.{IsPart, rows_on, nodes_on}
use Rattle.ph_set.specs.declared.plan.Plan.{Plan}
use Rattle.ph_set.specs.declared.side.SideOf.{SideOf}

-- the digits that are known above the level of a node, and its entries
abbrev pub side_digits : ℕ → SideOf PlainNode → List ℕ
side_digits d s = take d s.digits.now

abbrev pub side_node : SideOf PlainNode → PlainNode
side_node s = shown s.node

abbrev pub side_entries : SideOf PlainNode → List Entry
side_entries s = entries (shown s.node)

-- the rows of the entries from one place on, and the nodes below them
abbrev pub side_rows : ℕ → ℕ → SideOf PlainNode → ℕ → List Row
side_rows w d s i = rows_on w (side_node s).level (side_digits d s) (side_entries s) i

abbrev pub side_nodes : ℕ → ℕ → SideOf PlainNode → ℕ → List Placed
side_nodes w d s i = nodes_on w (side_node s).level (side_digits d s) (side_entries s) i

-- what a plan keeps of the entries of two nodes from two places on, and how many nodes it opens below them for that
abbrev pub kept_from : Plan → ℕ → SideOf PlainNode → ℕ → SideOf PlainNode → ℕ → List Row
kept_from p d a i b j = kept p (side_rows p.width d a i) (side_rows p.width d b j)

abbrev pub work_from : Plan → ℕ → SideOf PlainNode → ℕ → SideOf PlainNode → ℕ → ℕ
work_from p d a i b j =
    work p (side_rows p.width d a i) (side_nodes p.width d a i) (side_rows p.width d b j) (side_nodes p.width d b j)

-- the same where the first node is of the left tree, or of the right one
abbrev pub kept_from_by : Plan → Bool → ℕ → SideOf PlainNode → ℕ → SideOf PlainNode → ℕ → List Row
kept_from_by p left d a i b j = kept_by p left (side_rows p.width d a i) (side_rows p.width d b j)

abbrev pub work_from_by : Plan → Bool → ℕ → SideOf PlainNode → ℕ → SideOf PlainNode → ℕ → ℕ
work_from_by p left d a i b j =
    work_by p left (side_rows p.width d a i) (side_nodes p.width d a i) (side_rows p.width d b j) (side_nodes p.width d b j)

-- two lawful nodes at one level, whose digits agree above it
pub record AreBeside (w d : ℕ) (a b : SideOf PlainNode) : Type 0 where
  pub left : IsPart w d (side_digits d a) (node (side_node a))
  pub right : IsPart w d (side_digits d b) (node (side_node b))
  pub level : (side_node b).level ≡ (side_node a).level
  pub agree : digits_from ((side_node a).level + 1) (side_digits d a) ≡ digits_from ((side_node a).level + 1) (side_digits d b)
