-- The entries of a node as items of a search.
use Rattle.std.specs.Prelude.{ℕ, ◌-◌, List, map}
use Rattle.ph_specs.specs.Coordinate.{coordinate}
use Rattle.ph_specs.specs.Table.{row}
use Rattle.ph_model.specs.EntryList.{Entry, What, value, node}
use Rattle.ph_model.specs.EntryEdits.{what_at}
use Rattle.ph_specs.specs.TreeRows.{put_together}
use Rattle.ph_model.specs.BallSearch.{placed_at}
use Rattle.ph_model.specs.BestFirst as best
use Rattle.ph_model.specs.BestFirst.{Item, found}
use Rattle.ph_node.specs.Merge.{addr_at}
use Rattle.ph_node.specs.Split.{body_at}

abbrev pub entry_at : List Entry → ℕ → Entry
entry_at es i = record { addr = addr_at es i; body = body_at es i; what = what_at es i }

abbrev pub what_item : ℕ → ℕ → List ℕ → What → Item
what_item w level known (value v) = found (row (map (coordinate w) known) v)
what_item w level known (node n) = best.node (placed_at w level known n)

-- an entry of a node at a level, behind digits that are known above it
abbrev pub entry_item : ℕ → ℕ → List ℕ → Entry → Item
entry_item w level above e = what_item w (level - 1) (put_together level e.addr above e.body) e.what
