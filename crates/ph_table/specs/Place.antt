-- Where a point stands among rows in Z-order.
use Rattle.std.specs.Prelude.{◌≡◌, ◌<◌, ◌≤◌, ℕ, true, false, List, length, insert, remove, slice_index_or, slice_set, slice_get, ℤ, None, option_map, Result, Ok, Err}
use Rattle.ph_specs.specs.ZOrder.{before}
use Rattle.ph_specs.specs.Table.{Row, row, find, put, del}

-- i rows come before the point, and no row from there on
pub record IsCut (width : ℕ) (rows : List Row) (p : List ℤ) (i : ℕ) : Type 0 where
  pub within : i ≤ length rows
  pub earlier : (k : ℕ) (d : Row) → k < i → before width (slice_index_or rows k d).point p ≡ true
  pub later : (k : ℕ) (d : Row) → i ≤ k → k < length rows → before width (slice_index_or rows k d).point p ≡ false

-- `Ok(i)`: row i stands at the point. `Err(i)`: no row does, and a new one goes in at i
abbrev pub IsPlace : ℕ → List Row → List ℤ → Result ℕ ℕ → Type 0
IsPlace width rows p (Ok i) =
    (i < length rows) × (find rows p ≡ option_map (λ r. r.value) (slice_get rows i))
    × ((v : ℕ) → put width rows p v ≡ slice_set rows i (row p v)) × (del rows p ≡ remove rows i)
IsPlace width rows p (Err i) =
    (i ≤ length rows) × (find rows p ≡ None) × ((v : ℕ) → put width rows p v ≡ insert rows i (row p v)) × (del rows p ≡ rows)
