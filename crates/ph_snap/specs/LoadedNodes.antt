-- A node that was loaded, with all that is below it.
use Rattle.std.specs.Prelude.{◌≡◌, ◌+◌, ◌*◌, ◌≤◌, ℕ, List, [], ◌∷◌, length, drop}
use Rattle.ph_specs.specs.declared.Kind.{Kind}
use Rattle.ph_specs.specs.Load.{Place}
use Rattle.ph_specs.specs.Node.{PlainNode}
use Rattle.ph_model.specs.NodeSize.{node_size}
use Rattle.ph_snap.specs.Faults.{HaveNone}
use Rattle.ph_snap.specs.Reads.{ReadAs, points}

-- the records from one place of the bytes to another are those of a node and of all below it, without a fault
pub record IsLoadedNode (kind : Kind) (width dims : ℕ) (place : Place) (at : ℕ) (bytes : List ℕ) (before after : ℕ) (found : PlainNode) (end count : ℕ) : Type 0 where
  pub none : HaveNone kind width dims (place ∷ []) at bytes end
  pub node : ReadAs dims (drop at bytes) (found ∷ []) (drop end bytes)
  pub within : end ≤ length bytes
  -- it has so many rows, for which there are bytes
  pub rows : count ≡ points found
  pub few : at + 8 * points found ≤ end
  -- each node is a change, and for each there are bytes
  pub nodes : after ≡ before + node_size found
  pub cost : at + 16 * node_size found ≤ end
