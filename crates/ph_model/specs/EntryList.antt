-- The entries of a plain node as a list, and its children.
use Rattle.std.specs.Prelude.{ℕ, List, [], ◌∷◌}
use Rattle.ph_specs.specs.Node.{Entries, end, point, child, PlainNode}

-- what an entry holds
pub data What : Type 0 where
  value : ℕ → What
  node : PlainNode → What

-- one entry by itself
pub record Entry : Type 0 where
  pub addr : ℕ
  pub body : List ℕ
  pub what : What

-- the entries as a list
abbrev pub listed : Entries → List Entry
listed end = []
listed (point a body v rest) = record { addr = a; body = body; what = value v } ∷ listed rest
listed (child a body level chain rest) =
    record { addr = a; body = body; what = node (record { level = level; chain = chain }) } ∷ listed rest

abbrev pub entries : PlainNode → List Entry
entries n = listed n.chain

-- an entry in front of others
abbrev pub in_front : ℕ → List ℕ → What → Entries → Entries
in_front a body (value v) rest = point a body v rest
in_front a body (node n) rest = child a body n.level n.chain rest

-- a list as entries
abbrev pub chained : List Entry → Entries
chained [] = end
chained (e ∷ es) = in_front e.addr e.body e.what (chained es)

-- the node of this level and these entries
abbrev pub node_of : ℕ → List Entry → PlainNode
node_of level es = record { level = level; chain = chained es }

-- the children themselves
abbrev pub child_nodes : Entries → List PlainNode
child_nodes end = []
child_nodes (point a body v rest) = child_nodes rest
child_nodes (child a body level chain rest) = record { level = level; chain = chain } ∷ child_nodes rest
