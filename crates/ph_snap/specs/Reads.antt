-- The nodes of records, whatever stands behind them, and how many rows they have.
use Rattle.std.specs.Prelude.{◌≡◌, ◌≤◌, ◌+◌, ℕ, List, [], ◌∷◌, ◌++◌, length}
use Rattle.ph_specs.specs.Node.{Entries, end, point, child, PlainNode}
use Rattle.ph_specs.specs.SavedTable.{read_nodes}
use Rattle.ph_model.specs.NodeSize.{node_size}

-- bytes are read as these nodes and what the rest is read as
abbrev pub ReadAs : ℕ → List ℕ → List PlainNode → List ℕ → Type 0
ReadAs dims bytes ns rest =
    (n : ℕ) (more : List PlainNode × List ℕ)
    → ((most : ℕ) → length rest ≤ most → read_nodes most dims n rest ≡ more)
    → (most : ℕ) → length bytes ≤ most → read_nodes most dims (length ns + n) bytes ≡ (ns ++ more.0, more.1)

-- the point entries of a node and of all below it
abbrev pub points_below : Entries → ℕ
points_below end = 0
points_below (point a body v rest) = 1 + points_below rest
points_below (child a body level chain rest) = points_below chain + points_below rest

abbrev pub points : PlainNode → ℕ
points n = points_below n.chain

abbrev pub all_points : List PlainNode → ℕ
all_points [] = 0
all_points (n ∷ ns) = points n + all_points ns

-- nodes with all below them
abbrev pub all_sizes : List PlainNode → ℕ
all_sizes [] = 0
all_sizes (n ∷ ns) = node_size n + all_sizes ns
