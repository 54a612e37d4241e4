-- The rows of hits.
use Rattle.std.specs.Prelude.{List, map}
use Rattle.ph_specs.specs.Table.{Row}
use Rattle.ph_table.specs.Hits.{TableHit}

abbrev pub rows_hit : List TableHit → List Row
rows_hit hits = map (λ h. h.row) hits
