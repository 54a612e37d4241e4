-- The order in which rows are sorted: by the digits of the offsets of their coordinates.
use Rattle.std.specs.Prelude.{ℕ, zero, suc, ◌+◌, ◌*◌, ◌%◌, ◌^◌, Bool, false, if◌then◌else◌, List, [], ◌∷◌, length, map, ℤ}
use Rattle.std.specs.Int.{cast_unsigned, w64}
use Rattle.std.specs.Ordering.{is_lt}
use Rattle.ph_specs.specs.Coordinate.{half, same_point}
use Rattle.ph_model.specs.PutTree.{body_address}
use Rattle.ph_specs.specs.Table.{Row}
use Rattle.ph_digits.specs.WordOrder.{words_cmp}

-- the offset of a coordinate, and some number of as many digits for one that is none
abbrev pub any_offset : ℕ → ℤ → ℕ
any_offset width c = (cast_unsigned w64 c + half width) % 2 ^ width

-- whether a row is sorted before another
abbrev pub row_before : ℕ → Row → Row → Bool
row_before width a b = is_lt (words_cmp (map (any_offset width) a.point) (map (any_offset width) b.point))

-- the digits of numbers below a place as one number: the addresses, from the greatest place down
abbrev pub code_below : ℕ → List ℕ → ℕ
code_below zero xs = 0
code_below (suc place) xs = body_address place xs * 2 ^ (length xs * place) + code_below place xs

-- the code of a point: the digits of the offsets of its coordinates
abbrev pub code_of : ℕ → List ℤ → ℕ
code_of width p = code_below width (map (any_offset width) p)

-- whether the last of some rows is at a point
abbrev pub is_last : List Row → List ℤ → Bool
is_last [] p = false
is_last (r ∷ []) p = same_point r.point p
is_last (r ∷ s ∷ rows) p = is_last (s ∷ rows) p

-- rows without the last one, where that is at a point
abbrev pub without_last : List Row → List ℤ → List Row
without_last [] p = []
without_last (r ∷ []) p = if same_point r.point p then [] else r ∷ []
without_last (r ∷ s ∷ rows) p = r ∷ without_last (s ∷ rows) p
