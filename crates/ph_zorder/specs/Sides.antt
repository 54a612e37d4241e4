-- The masks of a window in a region, dimension by dimension, by the offsets of coordinates.
use Rattle.std.specs.Prelude.{ℕ, ◌+◌, ◌-◌, ◌*◌, ◌/◌, ◌^◌, Bool, true, ◌&&◌, List, ◌∷◌, Option, Some, None, nat_le, if◌then◌else◌}

-- the digits of an offset above a level, with zeros from the level down: where a region begins in a dimension
abbrev pub start_of : ℕ → ℕ → ℕ
start_of level x = x / 2 ^ (level + 1) * 2 ^ (level + 1)

-- whether the bounds and the region have an offset in common
abbrev pub meets_side : ℕ → ℕ → ℕ → ℕ → Bool
meets_side level x a b =
    (nat_le a b && nat_le a (start_of level x + (2 ^ (level + 1) - 1))) && nat_le (start_of level x) b

abbrev pub meets_sides : ℕ → List ℕ → List ℕ → List ℕ → Bool
meets_sides level (x ∷ corner) (a ∷ lo) (b ∷ hi) = meets_side level x a b && meets_sides level corner lo hi
meets_sides level _ _ _ = true

-- 1 where a bound has reached the upper half of the region
abbrev pub half_digit : ℕ → ℕ → ℕ → ℕ
half_digit level x b = if nat_le (start_of level x + 2 ^ level) b then 1 else 0

-- the number `start`, and behind it such a digit for each dimension
abbrev pub side_mask : ℕ → ℕ → List ℕ → List ℕ → ℕ
side_mask start level (x ∷ corner) (b ∷ bound) = side_mask (start * 2 + half_digit level x b) level corner bound
side_mask start level _ _ = start

-- the masks, behind digits of either that are there already
abbrev pub masks_behind : ℕ → ℕ → ℕ → List ℕ → List ℕ → List ℕ → Option (ℕ × ℕ)
masks_behind lower upper level corner lo hi =
    if meets_sides level corner lo hi then Some (side_mask lower level corner lo, side_mask upper level corner hi)
    else None

abbrev pub side_masks : ℕ → List ℕ → List ℕ → List ℕ → Option (ℕ × ℕ)
side_masks level corner lo hi = masks_behind 0 0 level corner lo hi
