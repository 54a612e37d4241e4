-- Rows on their way into a node, and the entry of a node that holds a group of them.
use Rattle.std.specs.Prelude.{◌≡◌, ◌≢◌, ℕ, ◌<◌, ◌≤◌, List, [], ◌∷◌, length, take, drop, true}
use Rattle.std.specs.List.{AllByRecursion as Each}
use Rattle.ph_specs.specs.Coordinate.{is_point}
use Rattle.ph_specs.specs.Table.{Row}
use Rattle.ph_model.specs.Order.{IsRising}
use Rattle.ph_specs.specs.Node.{PlainNode}
use Rattle.ph_model.specs.EntryList.{Entry, value, node}
use Rattle.ph_specs.specs.Shape.{row_address, digits_below, digits_between}

-- rows that have one address at a place
abbrev pub HaveAddress : ℕ → ℕ → ℕ → List Row → Type 0
HaveAddress width place a rows = Each (λ r. row_address width place r ≡ a) rows

-- the same, whatever the address is
abbrev pub AreAlike : ℕ → ℕ → List Row → Type 0
AreAlike width place [] = Unit {0}
AreAlike width place (r ∷ rows) = HaveAddress width place (row_address width place r) rows

-- rows at points, in Z-order, that have one address at each place from one on
pub record IsGroup (width dims from : ℕ) (rows : List Row) : Type 0 where
  pub points : Each (λ r. is_point width dims r.point ≡ true) rows
  pub rise : IsRising width rows
  pub alike : (k : ℕ) → from ≤ k → k < width → AreAlike width k rows

-- rows whose first has another address
abbrev pub FirstDiffers : ℕ → ℕ → ℕ → List Row → Type 0
FirstDiffers width place a [] = Unit {0}
FirstDiffers width place a (r ∷ rows) = a ≢ row_address width place r

-- how many rows in front have an address at a place
pub record IsCut (width place a : ℕ) (rows : List Row) (n : ℕ) : Type 0 where
  pub within : n ≤ length rows
  pub front : HaveAddress width place a (take n rows)
  pub next : FirstDiffers width place a (drop n rows)

-- the entry of a group of rows: one row is a point, and more are a child
abbrev pub group_entry : ℕ → ℕ → (List Row → PlainNode) → List Row → Entry
group_entry width place below [] = record { addr = 0; body = []; what = value 0 }
group_entry width place below (r ∷ []) =
    record { addr = row_address width place r; body = digits_below width place r.point; what = value r.value }
group_entry width place below (r ∷ s ∷ more) =
    let n = below (r ∷ s ∷ more) in
    record { addr = row_address width place r; body = digits_between width place n.level r.point; what = node n }
