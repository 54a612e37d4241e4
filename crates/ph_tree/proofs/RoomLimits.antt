-- How much room a node takes, by its words and its children, and at most.
use Rattle.std.proofs.Common.{◌≡◌, ℕ, ◌+◌, ◌*◌, ◌/◌, ◌^◌, ◌≤◌, List, length, ap, sym, ◌∙◌, arith}
use Rattle.std.proofs.Math.Nat.{mul-le-mul}
use Rattle.std.proofs.Math.Pow.{pow_mono}
use Rattle.ph_specs.specs.TreeRows.{count}
use Rattle.ph_model.specs.Lawful.{IsLawfulFrom}
use Rattle.ph_specs.specs.Node.{PlainNode, flat}
use Rattle.ph_specs.specs.Pack.{children, linear_digits, pack}
use Rattle.ph_model.proofs.lemmas.LayoutTables.{entries-few}
use Rattle.ph_model.proofs.laws.Layouts.{rising}
use Rattle.ph_model.proofs.laws.Unpacked.{child_nodes}
use Rattle.ph_node.specs.Children.{nodes_of}
use Rattle.ph_node.specs.declared.node.ChildOf.{ChildOf}
use Rattle.ph_tree.specs.Rooms.{room_of_entries}
use Rattle.ph_tree.proofs.NodeComparisons.{length-children, length-nodes_of}
use Rattle.ph_tree.proofs.NodeRooms.{least_digits, least-few, length-flat, room-are}

pub room-of : {P : Type 0} (dims : ℕ) (n : PlainNode) (ws : List ℕ) (ss : List (ChildOf P)) → ws ≡ pack dims n →
    nodes_of ss ≡ child_nodes n.chain → length ws + length ss ≡ room_of_entries dims n.level n.chain
room-of dims n ws ss w c =
    let kids : length ss ≡ children (flat n.chain) = sym (length-nodes_of ss) ∙ ap (λ u. length u) c ∙ length-children n.chain in
    ap (λ k. length ws + k) kids ∙ ap (λ u. length u + children (flat n.chain)) w

linear-few : (dims level n : ℕ) → dims ≤ 16 → level ≤ 61 → n ≤ 2 ^ 16 → linear_digits dims level n ≤ 2 ^ 16 * 993
linear-few dims level n few low most =
    let body : dims * level ≤ 16 * 61 = mul-le-mul few low in
    let one : 1 + dims + dims * level ≤ 993 = omega (arith, body, few) in
    mul-le-mul most one

pub few-entries : (dims : ℕ) (n : PlainNode) → dims ≤ 16 → IsLawfulFrom dims n.level 0 n.chain → count n.chain ≤ 2 ^ 16
few-entries dims n few lawful =
    let most : length (flat n.chain) + 0 ≤ 2 ^ dims = entries-few dims n.level 0 (flat n.chain) (omega arith) (rising dims n.level 0 n.chain lawful) in
    let wide : 2 ^ dims ≤ 2 ^ 16 = pow_mono few in
    omega (arith, most, wide, length-flat n.chain)

below_limit : (room digits entries : ℕ) → room ≡ 1 + (digits + 63) / 64 + entries → digits ≤ 2 ^ 16 * 993 → entries ≤ 2 ^ 16 → room ≤ 2 ^ 20 + 2 ^ 16
below_limit room digits entries e d n = omega arith

pub room-few : (dims : ℕ) (n : PlainNode) → dims ≤ 16 → IsLawfulFrom dims n.level 0 n.chain → n.level ≤ 61 → room_of_entries dims n.level n.chain ≤ 2 ^ 20 + 2 ^ 16
room-few dims n few lawful low =
    let entries : count n.chain ≤ 2 ^ 16 = few-entries dims n few lawful in
    let digits : least_digits dims n.level (count n.chain) ≤ 2 ^ 16 * 993 =
    omega (arith, least-few dims n.level (count n.chain), linear-few dims n.level (count n.chain) few low entries) in
    below_limit (room_of_entries dims n.level n.chain) (least_digits dims n.level (count n.chain)) (count n.chain)
    (room-are dims n.level 0 n.chain (rising dims n.level 0 n.chain lawful)) digits entries
