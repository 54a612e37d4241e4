-- What an entry that was read stands for.
use Rattle.std.specs.Prelude.{◌≡◌, ℕ, ◌+◌, ◌-◌, ◌*◌, ◌^◌, ◌≤◌, List, length, map, take, drop, replicate, slice_get, Some, Bool, if◌then◌else◌}
use Rattle.ph_model.specs.NodeSize.{children_in, points_in}
use Rattle.ph_specs.specs.Record.{Read, read_point, read_child, read}
use Rattle.ph_bits.specs.Fields.{digits_row}
use Rattle.ph_bits.specs.declared.entries.Packed.{Packed}

abbrev pub read_of : ℕ → Packed → Read
read_of dims p = read p.child p.addr (take dims p.body)

-- the place of entry i among the points or among the children
abbrev pub rank_at : Bool → List Read → ℕ → ℕ
rank_at child rs i = if child then children_in (take i rs) else points_in (take i rs)

-- a body's numbers behind the fields are zeros
abbrev pub IsPadded : ℕ → List ℕ → Type 0
IsPadded dims body = drop dims body ≡ replicate (16 - dims) 0

abbrev pub read_body : Read → List ℕ
read_body (read_point a body) = body
read_body (read_child a body) = body

-- the body of entry i is the row of fields that begins at a digit of the words
pub record IsBodyAt (dims level : ℕ) (words : List ℕ) (rs : List Read) (i at : ℕ) : Type 0 where
  pub body : slice_get (map read_body rs) i ≡ Some (digits_row words at level dims)
  pub inside : at + dims * level ≤ 64 * length words
  pub near : at ≤ 2 ^ 62
