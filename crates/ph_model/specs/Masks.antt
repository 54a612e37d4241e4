-- The masks of a window in a node: which parts of the node's region, by their addresses, the window meets.
use Rattle.std.specs.Prelude.{◌≡◌, ℕ, zero, suc, ◌/◌, ◌%◌, ◌+◌, ◌-◌, ◌*◌, ◌^◌, ◌<◌, ◌≤◌, IsTrue, Bool, false, ◌&&◌, ◌==◌}
use Rattle.std.specs.Prelude.{List, ◌∷◌, ℤ, Option, Some, None, nat_le, bit_and, bit_or, if◌then◌else◌}
use Rattle.ph_specs.specs.Coordinate.{offset}
use Rattle.ph_specs.specs.Region.{Region, prefix, meets_window}
use Rattle.ph_model.specs.Regions.{InBoth}
use Rattle.ph_specs.specs.ZOrder.{address}

-- where the upper half of a region begins in one dimension, as an offset: the least with the digit 1 at the level
abbrev pub middle : ℕ → ℕ → ℤ → ℕ
middle width level c = prefix width level c * 2 ^ (level + 1) + 2 ^ level

-- the number `start`, and behind it a digit for each dimension: 1 where the bound has reached the upper half
abbrev pub mask_from : ℕ → ℕ → ℕ → List ℤ → List ℤ → ℕ
mask_from start width level (c ∷ corner) (b ∷ bound) =
    mask_from (start * 2 + (if nat_le (middle width level c) (offset width b) then 1 else 0)) width level corner bound
mask_from start width level _ _ = start

abbrev pub mask : ℕ → Region → List ℤ → ℕ
mask width r bound = mask_from 0 width r.level r.corner bound

-- the lower and the upper mask of a region at its level. In a dimension the lower is 1 where the half with digit 0 cannot
-- meet the window, the upper is 1 where the half with digit 1 can. None where nothing of the region is in the window
abbrev pub masks : ℕ → Region → List ℤ → List ℤ → Option (ℕ × ℕ)
masks width r lo hi = if meets_window width r lo hi then Some (mask width r lo, mask width r hi) else None

-- whether an address has every digit of the lower mask and none that the upper mask has not
abbrev pub fits_masks : ℕ → ℕ → ℕ → Bool
fits_masks h lower upper = (bit_or h lower == h) && (bit_and h upper == h)

-- whether the part of the region with this address meets the window
abbrev pub fits_some : Option (ℕ × ℕ) → ℕ → Bool
fits_some None h = false
fits_some (Some m) h = fits_masks h m.0 m.1

-- a point of the part of a region with an address, between two corners
abbrev pub InPart : ℕ → ℕ → Region → ℕ → List ℤ → List ℤ → List ℤ → Type 0
InPart w d r h lo hi p = InBoth w d r lo hi p × (address w p r.level ≡ h)

-- the next address that fits behind one that does, of so many digits: it is to be used only below the upper mask
abbrev pub next_address : ℕ → ℕ → ℕ → ℕ → ℕ
next_address dims h lower upper = bit_or (bit_and (bit_or h (2 ^ dims - 1 - upper) + 1) upper) lower

-- an address with one more digit behind it
abbrev pub then_last : ℕ → Option ℕ → Option ℕ
then_last digit None = None
then_last digit (Some k) = Some (k * 2 + digit)

-- the least address above any number that fits, of so many digits, if there is one: the last digit rises where it can, and
-- else the digits in front of it go on
abbrev pub next_fitting : ℕ → ℕ → ℕ → ℕ → Option ℕ
next_fitting zero h lower upper = None
next_fitting (suc dims) h lower upper =
    if fits_masks (h / 2) (lower / 2) (upper / 2) && (h % 2 == 0 && upper % 2 == 1)
    then Some (h + 1)
    else then_last (lower % 2) (next_fitting dims (h / 2) (lower / 2) (upper / 2))

-- the least number above h that fits; it, or that there is none
pub record IsNext (h lower upper k : ℕ) : Type 0 where
  pub later : h < k
  pub fitting : IsTrue (fits_masks k lower upper)
  pub least : (j : ℕ) → h < j → IsTrue (fits_masks j lower upper) → k ≤ j

abbrev pub IsNextOf : ℕ → ℕ → ℕ → Option ℕ → Type 0
IsNextOf h lower upper None = (j : ℕ) → h < j → IsTrue (fits_masks j lower upper) → ⊥
IsNextOf h lower upper (Some k) = IsNext h lower upper k
