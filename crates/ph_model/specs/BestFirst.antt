-- What a search for the nearest rows, best first, holds: the rows that it has listed, the nodes that it has opened, and a queue of nodes, by the
-- least distance of their regions, and of rows, by their own distance.
use Rattle.std.specs.Prelude.{ℕ, ◌-◌, List, [], ◌∷◌, map, replicate, ℤ, Option, Some, None}
use Rattle.ph_specs.specs.Coordinate.{offset, coordinate}
use Rattle.ph_specs.specs.Table.{Row, row}
use Rattle.ph_specs.specs.Node.{Entries, end, point, child, PlainNode}
use Rattle.ph_specs.specs.TreeRows.{put_together}
use Rattle.ph_specs.specs.Distance.{distance}
use Rattle.ph_specs.specs.Region.{least_distance}
use Rattle.ph_specs.specs.WorkSets.{Placed}
use Rattle.ph_model.specs.BallSearch.{placed_at}

-- what waits in the queue: a node in its region, or a row that was found
pub data Item : Type 0 where
  node : Placed → Item
  found : Row → Item

abbrev pub item_distance : ℕ → List ℤ → Item → ℕ
item_distance width q (node x) = least_distance width x.region q
item_distance width q (found r) = distance r.point q

-- the entries of a node as items, behind digits that are known above its level
abbrev pub items_below : ℕ → ℕ → List ℕ → Entries → List Item
items_below width level above end = []
items_below width level above (point a body v rest) =
    found (row (map (coordinate width) (put_together level a above body)) v) ∷ items_below width level above rest
items_below width level above (child a body below chain rest) =
    node (placed_at width (level - 1) (put_together level a above body) (record { level = below; chain = chain })) ∷ items_below width level above rest

abbrev pub items_of : ℕ → Placed → List Item
items_of width x = items_below width x.node.level (map (offset width) x.region.corner) x.node.chain

-- how far a search has come
pub record Search : Type 0 where
  pub listed : List Row
  pub opened : List Placed
  pub queue : List Item

-- the start: the root alone
abbrev pub root_queue : ℕ → ℕ → Option PlainNode → List Item
root_queue width dims None = []
root_queue width dims (Some n) = node (placed_at width (width - 1) (replicate dims 0) n) ∷ []

abbrev pub search_start : ℕ → ℕ → Option PlainNode → Search
search_start width dims t = record { listed = []; opened = []; queue = root_queue width dims t }
