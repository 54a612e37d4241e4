-- Each child is made of fewer nodes than the node that holds it.
use Rattle.std.specs.Prelude.{List, [], ◌∷◌, ◌+◌, ◌≤◌}
use Rattle.std.proofs.Common.{arith}
use denote.Param.Weighed.{most}
use Rattle.ph_model.specs.NodeSize.{node_size}
use Rattle.ph_node.specs.Children.{nodes_of}
use Rattle.ph_coord.specs.declared.dims.Dims.{Ghosts}
use Rattle.ph_node.specs.declared.node.ChildOf.{ChildOf}
use Rattle.ph_node.specs.declared.node.NodeOf.TheDeep.{deep-ChildOf}

pub most_nodes : (P : Type 0) (ds : Ghosts P) (ss : List (ChildOf P)) → most (deep-ChildOf P ds) ss ≤ most (λ n. node_size n + 1) (nodes_of ss)
most_nodes P ds [] = omega arith
most_nodes P ds (s ∷ ss) = omega (arith, most_nodes P ds ss)
