-- What an edit asks of an entry, and a node with an entry split.
use Rattle.std.specs.Prelude.{ℕ, zero, suc, ◌<◌, List, [], ◌∷◌}
use Rattle.ph_specs.specs.Node.{PlainNode}
use Rattle.ph_model.specs.EntryList.{Entry, What, value, node, node_of, entries}
use Rattle.ph_model.specs.PutTree.{split_place, body_address, body_below, body_above}
use Rattle.ph_model.specs.EntryEdits.{split_at}

abbrev pub IsNode : What → Type 0
IsNode (value v) = ⊥
IsNode (node n) = Unit {0}

abbrev pub IsValue : What → Type 0
IsValue (value v) = Unit {0}
IsValue (node n) = ⊥

-- of a child, that its level is below a place
abbrev pub IsBelow : ℕ → What → Type 0
IsBelow place (value v) = Unit {0}
IsBelow place (node n) = n.level < place

-- the body of entry i
abbrev pub body_at : List Entry → ℕ → List ℕ
body_at [] i = []
body_at (e ∷ es) zero = e.body
body_at (e ∷ es) (suc i) = body_at es i

-- the entry of a body below a place
abbrev pub entry_below : ℕ → List ℕ → What → Entry
entry_below place body what = record { addr = body_address place body; body = body_below place body; what = what }

-- the greatest place at which the body of entry i and another differ
abbrev pub part_place : PlainNode → ℕ → List ℕ → ℕ
part_place n i body = split_place n.level (body_at (entries n) i) body

-- the node with entry i split at a place: a child there holds what entry i held, and a point with this body
abbrev pub split_node : PlainNode → ℕ → ℕ → List ℕ → ℕ → PlainNode
split_node n i place body v =
    let old = body_at (entries n) i in
    node_of n.level (split_at (entries n) i place (body_above place body) (body_address place old) (body_below place old) (entry_below place body (value v)))
