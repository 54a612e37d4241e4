-- What the words and the children of a node keep, whatever is below the children.
use Rattle.std.specs.Prelude.{◌≡◌, ℕ, List, length}
use Rattle.ph_model.specs.Layout.{IsRecord}
use Rattle.ph_specs.specs.Node.{PlainNode}
use Rattle.ph_model.specs.NodeSize.{IsPacked, points_in}
use Rattle.ph_specs.specs.Pack.{layout}
use Rattle.ph_specs.specs.Record.{first_in, has_cube, unpacked, entries_in, values_in}
use Rattle.ph_node.specs.Kept.{IsNodeOf}

-- a record in the smaller layout, as its first word says
pub record IsLaidOut (dims : ℕ) (words : List ℕ) : Type 0 where
  pub tables : IsRecord (has_cube dims (first_in words)) dims words
  pub told : (first_in words).layout ≡ layout (has_cube dims (first_in words))

-- a record with a value for each point
pub record IsSource (dims : ℕ) (words : List ℕ) : Type 0 where
  pub laid : IsLaidOut dims words
  pub points : points_in (entries_in dims words) ≡ length (values_in dims words)

-- words and children that a node may have
pub record IsRecorded (dims : ℕ) (words : List ℕ) (children : List PlainNode) : Type 0 where
  pub laid : IsLaidOut dims words
  pub packed : IsPacked dims words children
  pub node : IsNodeOf dims (unpacked dims words children)
