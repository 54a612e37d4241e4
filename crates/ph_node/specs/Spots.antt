-- Where an entry stands.
use Rattle.std.specs.Prelude.{◌≡◌, ◌<◌, ℕ, List, Some, length, map, slice_get}
use Rattle.ph_specs.specs.Node.{PlainNode}
use Rattle.ph_model.specs.EntryList.{Entry, entries}
use Rattle.ph_node.specs.Merge.{addr_at}
use Rattle.ph_specs.specs.TreeRows.{put_together}
use Rattle.ph_model.specs.Layout.{read_address}
use Rattle.ph_specs.specs.Record.{first_in, entries_in}
use Rattle.ph_model.specs.PutTree.{body_above}
use Rattle.ph_node.specs.Recorded.{IsLaidOut}
use Rattle.ph_node.specs.Split.{body_at}
use Rattle.ph_node.specs.declared.spots.Spot.{Spot}

-- an entry stands there
pub record IsSpot (es : List Entry) (s : Spot) : Type 0 where
  pub within : s.place < length es
  pub address : s.addr ≡ addr_at es s.place

-- an entry of a record stands there
pub record IsSpotIn (dims : ℕ) (words : List ℕ) (s : Spot) : Type 0 where
  pub laid : IsLaidOut dims words
  pub within : s.place < (first_in words).entries
  pub address : slice_get (map read_address (entries_in dims words)) s.place ≡ Some s.addr

-- the digits that are known behind an entry of a node, where these are known above the node
abbrev pub joined_digits : PlainNode → Spot → List ℕ → List ℕ
joined_digits node spot known =
    put_together node.level spot.addr (body_above node.level known) (body_at (entries node) spot.place)
