-- What a merge asks of a child, and a node with a child merged into it.
use Rattle.std.specs.Prelude.{◌≡◌, ℕ, zero, suc, ◌-◌, ◌<◌, List, [], ◌∷◌, length}
use Rattle.ph_specs.specs.Node.{PlainNode}
use Rattle.ph_model.specs.EntryList.{Entry, What, value, node, node_of, entries}
use Rattle.ph_specs.specs.TreeRows.{put_together}
use Rattle.ph_model.specs.Lawful.{HasZerosFrom}
use Rattle.ph_model.specs.EntryEdits.{what_at, merged}
use Rattle.ph_node.specs.Split.{body_at}

-- the level and the entries of a child; a value has none
abbrev pub level_held : What → ℕ
level_held (value v) = 0
level_held (node m) = m.level

abbrev pub entries_held : What → List Entry
entries_held (value v) = []
entries_held (node m) = entries m

-- of what an entry with this body holds in a node at a level: it is a child of two entries, and its level fits the entry
pub record IsPair (level : ℕ) (body : List ℕ) (w : What) : Type 0 where
  pub two : length (entries_held w) ≡ 2
  pub lower : level_held w < level
  pub zeros : HasZerosFrom (level_held w) body

-- the address of entry i
abbrev pub addr_at : List Entry → ℕ → ℕ
addr_at [] i = 0
addr_at (e ∷ es) zero = e.addr
addr_at (e ∷ es) (suc i) = addr_at es i

-- a body, then the address and the body of the child's entry beside entry j
abbrev pub body_beside : List ℕ → What → ℕ → List ℕ
body_beside body w j =
    put_together (level_held w) (addr_at (entries_held w) (1 - j)) body (body_at (entries_held w) (1 - j))

-- the node whose entry i holds what the child there holds beside its entry j
abbrev pub merge_node : PlainNode → ℕ → ℕ → PlainNode
merge_node n i j =
    node_of n.level (merged (entries n) i j (body_beside (body_at (entries n) i) (what_at (entries n) i) j))
