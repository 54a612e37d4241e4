-- How far a search for the nearest rows has come.
use Rattle.std.specs.Prelude.{◌≡◌, ℕ, ◌+◌, ◌≤◌, ◌⊎◌, List, [], ◌++◌, length, map, ℤ}
use Rattle.std.specs.BinaryHeap.{IsUpperBound}
use Rattle.std.specs.List.{AllByRecursion as Each}
use Rattle.ph_model.specs.BestFirst.{Item, item_distance}
use Rattle.ph_specs.specs.Table.{Row, IsTable}
use Rattle.ph_specs.specs.WorkSets.{Placed}
use Rattle.ph_model.proofs.lemmas.Searching.{nodes_in}
use Rattle.ph_model.proofs.laws.BestFirst.{IsSearching}
use Rattle.ph_near.specs.declared.found.Found.{Found}
use Rattle.ph_near.specs.Found.{found_cmp, found_item, IsFound}
use Rattle.ph_near.specs.Ranking.{IsBeyond}

-- what waits, what n rows are nearer than, the rows that are ranked, and those that n rows come before
abbrev pub all_items : {d : ℕ} → ℕ → List Item → List Item → List (Found d) → List (Found d) → List Item
all_items w line far rows over = line ++ (far ++ map (found_item w) (rows ++ over))

-- the search for the n nearest rows of a table has these rows ranked, and these items wait
pub record IsNearing {d : ℕ} (w n : ℕ) (q : List ℤ) (table : List Row) (rows : List (Found d)) (line : List Item) (before now : ℕ) : Type 0 where
  pub wide : 1 ≤ w
  pub narrow : w ≤ 62
  pub lawful : IsTable w d table
  pub opened : List Placed
  pub far : List Item
  pub over : List (Found d)
  pub searching : IsSearching w d n q table (record { listed = []; opened = opened; queue = all_items w line far rows over })
  pub found : Each (IsFound w d q) (rows ++ over)
  pub few : length rows ≤ n
  pub full : ((far ≡ []) × (over ≡ [])) ⊎ (n ≤ length rows)
  pub beyond : Each (λ i. IsBeyond n rows (item_distance w q i)) far
  pub last : Each (λ y. IsUpperBound found_cmp y rows) over
  pub visits : now ≡ before + length opened

-- a search that has come so far comes farther with no visit
pub record IsKept {d : ℕ} (w n : ℕ) (q : List ℤ) (rows : List (Found d)) (line : List Item) (new_rows : List (Found d)) (new_line : List Item) : Type 0 where
  pub nearing : (table : List Row) (before now : ℕ) → IsNearing w n q table rows line before now → IsNearing w n q table new_rows new_line before now
  pub nodes : length (nodes_in w new_line) ≤ length (nodes_in w line)
