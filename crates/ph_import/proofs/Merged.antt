-- The rows of a table with others behind them, as a table.
use Rattle.std.proofs.Common.{◌≡◌, ℕ, zero, suc, ◌+◌, ◌*◌, ◌≤◌, true, List, [], ◌∷◌, ◌++◌, length, refl, sym, ap, ◌∙◌, arith}
use Rattle.std.specs.List.{AllByRecursion as Each}
use Rattle.std.proofs.lemmas.Bool.{and_parts}
use Rattle.std.proofs.lemmas.List.Sums.{fold-append}
use Rattle.ph_specs.specs.Coordinate.{IsPoint}
use Rattle.ph_specs.specs.Table.{Row, IsTable}
use Rattle.ph_specs.specs.Sets.{put_all, table_of}
use Rattle.ph_specs.specs.Shape.{shape}
use Rattle.ph_specs.specs.WorkSets.{all_nodes}
use Rattle.ph_specs.proofs.laws.Points.{ArePoints, table-points}
use Rattle.ph_model.specs.Combined.{combined}
use Rattle.ph_model.proofs.laws.SetOperations.{union-combined}
use Rattle.ph_tree.proofs.NodeComparisons.{length-nodes}
use Rattle.ph_tree.proofs.Sizes.{nodes-few}
use Rattle.ph_import.specs.Imported.{most_visits}

alone : (w : ℕ) (table : List Row) → combined w true true true table [] ≡ table
alone w [] = refl
alone w (r ∷ table) = ap (λ rows. r ∷ rows) (alone w table)

-- a table is what its rows make
own-table : (w d : ℕ) (table : List Row) → 1 ≤ w → IsTable w d table → table_of w table ≡ table
own-table w d table wide h = sym (union-combined w d table [] wide (table-points w d table h) (and_parts _ _ h).0 tt refl) ∙ alone w table

-- and with others behind them what these make of it
pub merged : (w d : ℕ) (table rows : List Row) → 1 ≤ w → IsTable w d table → table_of w (table ++ rows) ≡ put_all w table rows
merged w d table rows wide h = fold-append _ [] table rows ∙ ap (λ t. put_all w t rows) (own-table w d table wide h)

-- all of them at points
pub points-both : (w d : ℕ) (table rows : List Row) → IsTable w d table → Each (λ r. IsPoint w d r.point) rows → Each (λ r. IsPoint w d r.point) (table ++ rows)
points-both w d table rows h k = behind table (table-points w d table h)
  where
    behind : (xs : List Row) → ArePoints w d xs → Each (λ r. IsPoint w d r.point) (xs ++ rows)
    behind [] e = k
    behind (x ∷ xs) e = (e.0, behind xs e.1)

-- ---- visits

-- a table has no more nodes than rows
pub nodes-few_rows : (w d : ℕ) (table : List Row) → 1 ≤ w → IsTable w d table → length (all_nodes w d table) ≤ length table
nodes-few_rows w d table wide h = omega (arith, length-nodes w d (shape w table), nodes-few w d table (shape w table) wide h refl)

four : (w n : ℕ) → 1 ≤ w → n ≤ 4 * w * n
four zero n h = absurd (omega (arith, h))
four (suc w) n h = let e : 4 * suc w * n ≡ 4 * n + 4 * w * n = grind arith in omega (arith, e)

-- rows are few beside as many rows that come into a table that has some
pub rows-within : (w n : ℕ) (table : List Row) → 1 ≤ w → length table ≤ n → length table ≤ most_visits w table n
rows-within w n [] wide less = omega arith
rows-within w n (r ∷ table) wide less = omega (arith, four w n wide, less)
