-- Where an entry of a record stands, for those that are read in order.
use Rattle.std.specs.Prelude.{◌≡◌, ◌<◌, ℕ, List, Some, false, map, slice_get}
use Rattle.ph_model.specs.Layout.{read_address}
use Rattle.ph_specs.specs.Record.{first_in, entries_in}
use Rattle.ph_bits.specs.Packed.{rank_at}
use Rattle.ph_bits.specs.declared.entries.Mark.{Mark}
use Rattle.ph_node.specs.Recorded.{IsLaidOut}

-- an entry of a record stands there, behind so many points
pub record IsMarkIn (dims : ℕ) (words : List ℕ) (m : Mark) : Type 0 where
  pub laid : IsLaidOut dims words
  pub within : m.place < (first_in words).entries
  pub address : slice_get (map read_address (entries_in dims words)) m.place ≡ Some m.addr
  pub points : m.points ≡ rank_at false (entries_in dims words) m.place
