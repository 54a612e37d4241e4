-- A child in its place, and the children of a node.
use Rattle.std.specs.Prelude.{List, [], ◌∷◌}
use Rattle.ph_specs.specs.Node.{PlainNode}
use Rattle.ph_node.specs.declared.node.ChildOf.{ChildOf}

abbrev pub in_child : {P : Type 0} → PlainNode → ChildOf P
in_child n = record { node = n }

abbrev pub nodes_of : {P : Type 0} → List (ChildOf P) → List PlainNode
nodes_of [] = []
nodes_of (s ∷ ss) = s.node ∷ nodes_of ss
