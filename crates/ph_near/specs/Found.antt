-- Rows that were found, and which of two comes first.
use Rattle.std.specs.Prelude.{◌≡◌, ℕ, List, map, ℤ}
use Rattle.std.specs.declared.cmp.Ordering.{Ordering}
use Rattle.std.specs.Ordering.{nat_cmp, on, then_cmp}
use Rattle.std.specs.Cmp.{IsTotalOrder, then_total, on_total, nat_cmp_total}
use Rattle.ph_specs.specs.Coordinate.{coordinate}
use Rattle.ph_specs.specs.Distance.{distance}
use Rattle.ph_model.specs.Lawful.{IsBody}
use Rattle.ph_specs.specs.Table.{Row, row}
use Rattle.ph_model.specs.BestFirst as best
use Rattle.ph_model.specs.BestFirst.{Item}
use Rattle.ph_digits.specs.WordOrder.{words_cmp, words_total}
use Rattle.ph_near.specs.declared.found.Found.{Found}

-- which of two rows comes first: the nearer, then the first in Z-order
module _ {d : ℕ} where
  abbrev pub found_cmp : Found d → Found d → Ordering
  found_cmp = then_cmp (on (λ f. f.distance) nat_cmp) (on (λ f. f.known) words_cmp)

  pub found_total : IsTotalOrder found_cmp
  found_total = then_total (on_total (λ f. f.distance) nat_cmp_total) (on_total (λ f. f.known) words_total)

abbrev pub row_of : {d : ℕ} → ℕ → Found d → Row
row_of w f = row (map (coordinate w) f.known) f.value

abbrev pub rows_of : {d : ℕ} → ℕ → List (Found d) → List Row
rows_of w fs = map (row_of w) fs

-- the row in the words of the search
abbrev pub found_item : {d : ℕ} → ℕ → Found d → Item
found_item w f = best.found (row_of w f)

-- it has its own distance from q
pub record IsFound (w d : ℕ) (q : List ℤ) (f : Found d) : Type 0 where
  pub far : f.distance ≡ distance (map (coordinate w) f.known) q
  pub known : IsBody d w f.known
