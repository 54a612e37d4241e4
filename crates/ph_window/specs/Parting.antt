-- Where two lists of numbers part.
use Rattle.std.specs.Prelude.{◌≡◌, ℕ, List, Bool, nat_lt, Option, Some, None}
use Rattle.ph_model.specs.PutTree.{body_address}
use Rattle.ph_digits.specs.Differences.{IsTopDifference}

-- the greatest place at which they differ, and whether the second has the greater address there
abbrev pub IsParting : List ℕ → List ℕ → Option (ℕ × Bool) → Type 0
IsParting xs ys None = xs ≡ ys
IsParting xs ys (Some r) =
    IsTopDifference xs ys r.0 × (r.1 ≡ nat_lt (body_address r.0 xs) (body_address r.0 ys))
