-- A node has these fields and no other.
use Rattle.std.proofs.Common.{◌≡◌, refl}
use Rattle.ph_node.specs.declared.node.NodeOf.TheInside.{Inside}

pub node_fields : (P : Type 0) (n : Inside P) → n ≡ record { block = n.block; dims = n.dims }
node_fields P n = refl
