-- How far an offset lies from a region, and the points of a region in a window.
use Rattle.std.specs.Prelude.{◌≡◌, ℕ, ◌+◌, ◌-◌, ◌*◌, ◌/◌, ◌^◌, List, ℤ, true}
use Rattle.ph_specs.specs.Coordinate.{IsPoint}
use Rattle.ph_specs.specs.Window.{is_between}
use Rattle.ph_specs.specs.Region.{Region, is_in}

-- how far an offset lies from those that have the digits of a known one above a level
abbrev pub gap : ℕ → ℕ → ℕ → ℕ
gap level known x =
    let low = known / 2 ^ (level + 1) * 2 ^ (level + 1) in
    (low - x) + (x - (low + (2 ^ (level + 1) - 1)))

-- a point of a region, between two corners
abbrev pub InBoth : ℕ → ℕ → Region → List ℤ → List ℤ → List ℤ → Type 0
InBoth w d r lo hi p = IsPoint w d p × (is_in w r p ≡ true) × (is_between lo hi p ≡ true)
