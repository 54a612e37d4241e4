-- The table of some rows, by computation.
use Rattle.std.proofs.Common.{◌≡◌, ℕ, [], ◌∷◌, refl, length, false}
use Rattle.std.specs.Prelude.{pos, negsuc}
use Rattle.ph_specs.specs.Sets.{table_of}
use Rattle.ph_specs.specs.Table.{Row, row, is_rising}
use Rattle.ph_specs.specs.WorkSets.{all_nodes}

abbrev at : ℕ → ℕ → ℕ → Row
at x y v = row (pos x ∷ pos y ∷ []) v

-- of two rows at one point the last stays, and the others stand in Z-order
last-stays : table_of 32 (at 1 1 5 ∷ at 0 0 6 ∷ at 1 1 7 ∷ []) ≡ at 0 0 6 ∷ at 1 1 7 ∷ []
last-stays = refl

-- a coordinate below zero comes first
below-zero : table_of 32 (row (pos 0 ∷ []) 1 ∷ row (negsuc 0 ∷ []) 2 ∷ row (pos 0 ∷ []) 3 ∷ []) ≡ row (negsuc 0 ∷ []) 2 ∷ row (pos 0 ∷ []) 3 ∷ []
below-zero = refl

no-rows : table_of 32 [] ≡ []
no-rows = refl

one-point : table_of 8 (at 3 4 1 ∷ at 3 4 2 ∷ at 3 4 3 ∷ []) ≡ at 3 4 3 ∷ []
one-point = refl

-- these rows are two nodes: one split at the highest place, which has one address, and one at the lowest
two-nodes : length (all_nodes 32 2 (at 0 0 6 ∷ at 1 1 7 ∷ [])) ≡ 2
two-nodes = refl

not-rising : is_rising 32 (at 1 1 5 ∷ at 0 0 6 ∷ []) ≡ false
not-rising = refl
