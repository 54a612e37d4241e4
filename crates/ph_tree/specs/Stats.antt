-- What is counted of nodes one after another, and the sizes of a tree as those of the definitions.
use Rattle.std.specs.Prelude.{ℕ, ◌+◌, ◌-◌, ◌*◌, ◌^◌, ◌≤◌, Bool, if◌then◌else◌, List, length}
use Rattle.std.specs.List.{sum_by, count_by}
use Rattle.ph_specs.specs.Node.{PlainNode, flat}
use Rattle.ph_specs.specs.Pack.{is_cube, pack}
use Rattle.ph_specs.specs.Stats.{Stats as Sizes}
use Rattle.ph_tree.specs.declared.stats.Counts.{Counts}
use Rattle.ph_tree.specs.declared.stats.Stats.{Stats}

abbrev pub stats_of : Stats → Sizes
stats_of s =
    record { rows = s.rows; nodes = s.nodes; linear = s.linear; cube = s.cube; words = s.words }

abbrev pub no_counts : Counts
no_counts = record { nodes = 0; cube = 0; words = 0 }

-- whether a node's record is in the cube layout
abbrev pub is_cube_node : ℕ → PlainNode → Bool
is_cube_node dims n = is_cube dims n.level (length (flat n.chain))

-- one node more, by its layout and the words of its record
abbrev pub with_node : Counts → Bool → ℕ → Counts
with_node c cube words =
    record { nodes = c.nodes + 1; cube = c.cube + (if cube then 1 else 0); words = c.words + words }

-- some nodes more
abbrev pub counted : ℕ → Counts → List PlainNode → Counts
counted dims c ns =
    record {
      nodes = c.nodes + length ns;
      cube = c.cube + count_by (is_cube_node dims) ns;
      words = c.words + sum_by (λ n. length (pack dims n)) ns;
    }

-- no more cube nodes than nodes, and few enough words for 128 bits as long as there are no more than 2^64 nodes
pub record IsFew (c : Counts) : Type 0 where
  pub cube : c.cube ≤ c.nodes
  pub words : c.words ≤ (2 ^ 64 - 1) * c.nodes
