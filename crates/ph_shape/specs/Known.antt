-- What a walk down a tree knows, and what it gathers.
use Rattle.std.specs.Prelude.{◌≡◌, ℕ, List, [], ◌∷◌, length, map, Option, Some, None}
use denote.Ref.{Bor}
use Rattle.ph_specs.specs.Coordinate.{coordinate}
use Rattle.ph_specs.specs.Table.{Row, row}
use Rattle.ph_specs.specs.Node.{PlainNode}
use Rattle.ph_model.specs.EntryList.{Entry, What, value, node}
use Rattle.ph_specs.specs.TreeRows.{put_together, rows_behind, rows}
use Rattle.ph_model.specs.Lawful.{HasZerosFrom, IsLawful}
use Rattle.ph_shape.specs.Bodies.{AreBelow}

-- digits that are known above a level, and zeros from it down
pub record IsKnown (width dims level : ℕ) (digits : List ℕ) : Type 0 where
  pub long : length digits ≡ dims
  pub zeros : HasZerosFrom level digits
  pub small : AreBelow width digits

-- the rows of one entry
abbrev pub what_rows : ℕ → List ℕ → What → List Row
what_rows width digits (value v) = row (map (coordinate width) digits) v ∷ []
what_rows width digits (node n) = rows_behind width n.level digits n.chain

abbrev pub entry_rows : ℕ → ℕ → List ℕ → Entry → List Row
entry_rows width level above e = what_rows width (put_together level e.addr above e.body) e.what

-- a tree that is lent, if there is one
abbrev pub lent : Option (Bor PlainNode) → Option PlainNode
lent None = None
lent (Some n) = Some n.now

-- a tree is the one lawful tree that has these rows
abbrev pub IsOnly : ℕ → ℕ → List Row → Option PlainNode → Type 0
IsOnly width dims held tree =
    (t : Option PlainNode) → IsLawful width dims t → rows width dims t ≡ held → t ≡ tree
