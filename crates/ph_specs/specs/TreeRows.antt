-- The rows that a plain tree holds.
use Rattle.std.specs.Prelude.{ℕ, suc, ◌+◌, ◌*◌, ◌/◌, ◌%◌, ◌^◌, List, [], ◌∷◌, ◌++◌, length, map, replicate, Option, Some, None}
use Rattle.ph_specs.specs.Coordinate.{coordinate}
use Rattle.ph_specs.specs.Table.{Row, row}
use Rattle.ph_specs.specs.Node.{Entries, end, point, child, PlainNode}

-- how many entries there are
abbrev pub count : Entries → ℕ
count end = 0
count (point a body v rest) = suc (count rest)
count (child a body level chain rest) = suc (count rest)

-- the digits known above a level, then the address at it, then the body below it: what is known behind an entry
abbrev pub put_together : ℕ → ℕ → List ℕ → List ℕ → List ℕ
put_together level a (x ∷ above) (y ∷ body) =
    (x + (a / 2 ^ length above) % 2 * 2 ^ level + y) ∷ put_together level a above body
put_together level a _ _ = []

-- the rows of entries at a level, behind digits that are known above it
abbrev pub rows_behind : ℕ → ℕ → List ℕ → Entries → List Row
rows_behind width level above end = []
rows_behind width level above (point a body v rest) =
    row (map (coordinate width) (put_together level a above body)) v ∷ rows_behind width level above rest
rows_behind width level above (child a body below chain rest) =
    rows_behind width below (put_together level a above body) chain ++ rows_behind width level above rest

-- the rows of a plain tree
abbrev pub rows : ℕ → ℕ → Option PlainNode → List Row
rows width dims None = []
rows width dims (Some n) = rows_behind width n.level (replicate dims 0) n.chain
