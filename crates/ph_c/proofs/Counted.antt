-- A table has no fewer rows than its tree has nodes.
use Rattle.std.proofs.Common.{◌≡◌, ℕ, ◌^◌, ◌<◌, ◌≤◌, List, length, refl, ap, arith}
use Rattle.std.proofs.lemmas.List.Sums.{count_by-le-length}
use Rattle.ph_specs.specs.Node.{nodes, flat}
use Rattle.ph_specs.specs.Pack.{is_cube}
use Rattle.ph_specs.specs.Shape.{shape}
use Rattle.ph_specs.specs.Stats.{stats}
use Rattle.ph_specs.specs.Table.{Row, IsTable}
use Rattle.ph_tree.proofs.Sizes.{nodes-few}
use Rattle.ph_tree.specs.Stats.{stats_of}
use Rattle.ph_tree.specs.declared.stats.Stats.{Stats}

-- each size but the words is a number of 64 bits
pub record AreFew (s : Stats) : Type 0 where
  pub nodes : s.nodes < 2 ^ 64
  pub linear : s.linear < 2 ^ 64
  pub cube : s.cube < 2 ^ 64

pub sizes-few : (w dims : ℕ) (table : List Row) (s : Stats) → 1 ≤ w → IsTable w dims table → length table < 2 ^ 64 → stats_of s ≡ stats w dims table → AreFew s
sizes-few w dims table s wide is short are =
    let few = nodes-few w dims table (shape w table) wide is refl in
    let cubes = count_by-le-length (λ n. is_cube dims n.level (length (flat n.chain))) (nodes (shape w table)) in
    record {
      nodes = omega (arith, few, short, ap (λ x. x.nodes) are);
      linear = omega (arith, few, short, ap (λ x. x.linear) are);
      cube = omega (arith, few, short, cubes, ap (λ x. x.cube) are);
    }
