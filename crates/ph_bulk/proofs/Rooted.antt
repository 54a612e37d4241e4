-- The root of a table's shape, and how many nodes it is made of.
use Rattle.std.proofs.Common.{◌≡◌, ℕ, ◌+◌, ◌-◌, ◌≤◌, List, [], ◌∷◌, length, map, refl, sym, ◌∙◌, ap, subst, arith}
use Rattle.std.specs.Prelude.{Option, Some}
use Rattle.std.proofs.lemmas.List.{length-append}
use Rattle.ph_specs.specs.TreeRows.{count, rows}
use Rattle.ph_model.specs.Lawful.{IsLawful, IsLawfulFrom}
use Rattle.ph_specs.specs.Node.{Entries, end, point, child, PlainNode, nodes, nodes_below}
use Rattle.ph_model.specs.NodeSize.{node_size, nodes_in}
use Rattle.ph_specs.specs.Shape.{shape}
use Rattle.ph_specs.specs.Table.{Row, IsTable}
use Rattle.ph_specs.specs.WorkSets.{all_nodes}
use Rattle.ph_model.proofs.laws.TableShape.{table-shape}
use Rattle.ph_tree.proofs.NodeComparisons.{length-nodes}
use Rattle.ph_shape.specs.Groups.{IsGroup}
use Rattle.ph_shape.proofs.Made.{map-same}
use Rattle.ph_shape.proofs.Steps.{table-group}
use Rattle.ph_bulk.specs.Parts.{node_made}

below : (e : Entries) → length (nodes_below e) ≡ nodes_in e
below end = refl
below (point a body v rest) = below rest
below (child a body level chain rest) =
    omega (arith, length-append (nodes_below chain) (nodes_below rest), below chain, below rest)

-- what the root of a table's shape is
pub record IsRoot (w dims place : ℕ) (table : List Row) (n : PlainNode) : Type 0 where
  pub shape_is : shape w table ≡ Some n
  pub lawful : IsLawful w dims (Some n)
  pub many : 1 ≤ count n.chain
  pub chain : IsLawfulFrom dims place 0 n.chain
  pub rows_are : rows w dims (Some n) ≡ table
  pub size : length (all_nodes w dims table) ≡ node_size n

root-shape : (w bits : ℕ) (table : List Row) → bits ≡ w → 1 ≤ length table → shape w table ≡ Some (node_made w (bits - 1) (map (λ r. r) table))
root-shape w bits [] e l = absurd (let no : ⊥ = omega (arith, l) in no)
root-shape w bits (r ∷ table) e l =
    ap {B = Option PlainNode} (λ b. Some (node_made w (b - 1) (r ∷ table))) (sym e) ∙
    ap {B = Option PlainNode} (λ t. Some (node_made w (bits - 1) t)) (sym (map-same (r ∷ table)))

pub root-is : (w dims bits : ℕ) (table : List Row) → bits ≡ w → 1 ≤ w → 1 ≤ length table → IsTable w dims table →
    IsRoot w dims (bits - 1) table (node_made w (bits - 1) (map (λ r. r) table))
root-is w dims bits table e positive l h =
    let n : PlainNode = node_made w (bits - 1) (map (λ r. r) table) in
    let s = root-shape w bits table e l in
    let t = table-shape w dims table positive h in
    let k : IsLawful w dims (Some (node_made w (bits - 1) (map (λ r. r) table))) = subst (IsLawful w dims) s t.0 in
    record {
      shape_is = s;
      lawful = k;
      many = k.1;
      chain = k.2;
      rows_are = subst (λ o. rows w dims o ≡ table) s t.1;
      size = length-nodes w dims (shape w table) ∙ ap (λ o. length (nodes o)) s ∙ (let m : length (nodes (Some n)) ≡ node_size n = omega (arith, below n.chain) in m);
    }

pub root-group : (w dims bits : ℕ) (table : List Row) → bits ≡ w → 1 ≤ w → IsTable w dims table → IsGroup w dims (bits - 1 + 1) (map (λ r. r) table)
root-group w dims bits table e positive h =
    let k : w ≡ bits - 1 + 1 = omega (arith, e, positive) in
    subst (λ m. IsGroup w dims m (map (λ r. r) table)) k (subst (IsGroup w dims w) (sym (map-same table)) (table-group w dims table h))
