-- What is taken, and what is visited for it, where a tree's own rows are kept or not.
use Rattle.std.proofs.Common.{◌≡◌, ℕ, Bool, true, false, List, [], length, ◌∙◌, ap}
use Rattle.ph_specs.specs.Table.{Row}
use Rattle.ph_specs.specs.WorkSets.{Placed}
use Rattle.ph_model.specs.Combined.{chosen, seen_nodes}
use Rattle.ph_set.proofs.Sights.{seen-all, seen-nothing}

-- all of them
pub spent-all : (w : ℕ) (keep : Bool) (xs : List Placed) → keep ≡ true → seen_nodes w keep [] xs ≡ length xs
spent-all w keep xs k = ap (λ t. seen_nodes w t [] xs) k ∙ seen-all w [] xs

pub chosen-all : (keep : Bool) (rows : List Row) → keep ≡ true → chosen keep rows ≡ rows
chosen-all keep rows k = ap (λ t. chosen t rows) k

-- none of them
pub spent-none : (w : ℕ) (keep : Bool) (xs : List Placed) → keep ≡ false → seen_nodes w keep [] xs ≡ 0
spent-none w keep xs k = ap (λ t. seen_nodes w t [] xs) k ∙ seen-nothing w xs

pub chosen-none : (keep : Bool) (rows : List Row) → keep ≡ false → chosen keep rows ≡ []
chosen-none keep rows k = ap (λ t. chosen t rows) k
