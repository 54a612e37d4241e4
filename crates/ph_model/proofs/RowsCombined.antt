-- A worked row: two tables side by side, of which the rows of one side are kept.
use Rattle.std.proofs.Common.{◌≡◌, ℕ, true, false, [], ◌∷◌, refl, pos}
use Rattle.ph_specs.specs.Table.{Row, row}
use Rattle.ph_model.specs.Combined.{combined}

at : ℕ → ℕ → ℕ → Row
at x y v = row (pos x ∷ pos y ∷ []) v

set_operations_combined : combined 32 true false true (at 0 0 1 ∷ at 1 1 2 ∷ []) (at 1 1 9 ∷ at 2 2 3 ∷ []) ≡ at 0 0 1 ∷ at 2 2 3 ∷ []
unfolding at
set_operations_combined = refl
