-- What the fields of a record spell.
use Rattle.std.specs.Prelude.{◌≡◌, ◌≤◌, ℕ, ℤ, ◌^◌, Bool, true, false, List, Option, Some, None, is_some, pos, filter_map}
use Rattle.std.specs.List.{list_all}
use Rattle.ph_specs.specs.Coordinate.{fits}
use Rattle.ph_specs.specs.Lines.{number}
use Rattle.ph_specs.specs.Command.{is_number_below}
use Rattle.ph_csv.specs.declared.fields.Coord.{Coord}
use Rattle.ph_csv.specs.declared.fields.Coord.TheVariants as coord
use Rattle.ph_csv.specs.declared.fields.Spelled.{Spelled}
use Rattle.ph_csv.specs.declared.fields.Spelled.TheVariants as spelled

-- no number, a number that no width has, or this one
abbrev pub IsCoord : List ℕ → Coord → Type 0
IsCoord text coord.Not = number text ≡ None
IsCoord text coord.Far = (c : ℤ) × (number text ≡ Some c) × ((w : ℕ) → w ≤ 62 → fits w c ≡ false)
IsCoord text (coord.Near c) = number text ≡ Some c

-- no value, or this one
abbrev pub IsValue : List ℕ → Option ℕ → Type 0
IsValue text None = is_number_below (2 ^ 64) (number text) ≡ false
IsValue text (Some v) = (number text ≡ Some (pos v)) × (is_number_below (2 ^ 64) (number text) ≡ true)

abbrev pub is_number : List ℕ → Bool
is_number text = is_some (number text)

-- not all numbers, numbers that no width has all of, or numbers that were kept
abbrev pub AreCoords : List (List ℕ) → List ℤ → Spelled → Type 0
AreCoords fields kept spelled.Not = list_all is_number fields ≡ false
AreCoords fields kept spelled.Far = (list_all is_number fields ≡ true) × ((w : ℕ) → w ≤ 62 → list_all (fits w) (filter_map number fields) ≡ false)
AreCoords fields kept spelled.Near = (list_all is_number fields ≡ true) × (kept ≡ filter_map number fields)
