-- Nodes that are counted one after another, and how many nodes a tree has.
use Rattle.std.proofs.Common.{◌≡◌, ℕ, ◌+◌, ◌<◌, ◌≤◌, List, [], ◌∷◌, ◌++◌, length, take, drop, refl, sym, ◌∙◌, ap, arith, zero-add, length-append, take-append-drop}
use Rattle.std.specs.Prelude.{◌-◌, Option, Some, None, replicate, get_or, if◌then◌else◌}
use Rattle.std.specs.List.{flat_map, sum_by, count_by}
use Rattle.std.proofs.lemmas.List.{take_more, append-nil}
use Rattle.std.proofs.lemmas.List.Concat.{flat_map-append}
use Rattle.std.proofs.lemmas.List.Sums.{sum_by-append}
use Rattle.ph_specs.specs.TreeRows.{put_together, rows, rows_behind, count}
use Rattle.ph_model.specs.Lawful.{IsLawful, IsLawfulFrom}
use Rattle.ph_specs.specs.Node.{Entries, end, point, child, PlainNode, nodes, nodes_below}
use Rattle.ph_specs.specs.Pack.{pack}
use Rattle.ph_specs.specs.Shape.{shape}
use Rattle.ph_specs.specs.Stats.{stats}
use Rattle.ph_specs.specs.Table.{Row, IsTable}
use Rattle.ph_model.proofs.laws.TableShape.{table-shape}
use Rattle.ph_model.proofs.laws.Unpacked.{child_nodes}
use Rattle.ph_node.specs.Children.{nodes_of}
use Rattle.ph_node.specs.declared.node.ChildOf.{ChildOf}
use Rattle.ph_tree.specs.declared.stats.Counts.{Counts}
use Rattle.ph_tree.specs.Stats.{is_cube_node, counted, no_counts}

-- ---- one node after another

pub counted-append : (dims : ℕ) (c : Counts) (xs ys : List PlainNode) → counted dims (counted dims c xs) ys ≡ counted dims c (xs ++ ys)
counted-append dims c xs ys =
    let n : (c.nodes + length xs) + length ys ≡ c.nodes + length (xs ++ ys) = omega (arith, length-append xs ys) in
    let p : (c.cube + count_by (is_cube_node dims) xs) + count_by (is_cube_node dims) ys ≡
    c.cube + count_by (is_cube_node dims) (xs ++ ys) =
    omega (arith, sum_by-append (λ m. if is_cube_node dims m then 1 else 0) xs ys) in
    let w : (c.words + sum_by (λ m. length (pack dims m)) xs) + sum_by (λ m. length (pack dims m)) ys ≡
    c.words + sum_by (λ m. length (pack dims m)) (xs ++ ys) =
    omega (arith, sum_by-append (λ m. length (pack dims m)) xs ys) in
    λ i. record { nodes = n i; cube = p i; words = w i }

-- ---- the nodes below a node

abbrev pub trees : {P : Type 0} → List (ChildOf P) → List PlainNode
trees ss = flat_map (λ s. nodes (Some s.node)) ss

pub below-children : {P : Type 0} (ss : List (ChildOf P)) (n m : PlainNode) → nodes_of ss ≡ child_nodes n.chain → n ≡ m → trees ss ≡ nodes_below m.chain
below-children {P} ss n m h e =
    by_nodes ss ∙ ap (flat_map (λ k. nodes (Some k))) h ∙ by_children n.chain ∙ ap (λ k. nodes_below k.chain) e
  where
    by_nodes : (ss : List (ChildOf P)) → trees ss ≡ flat_map (λ k. nodes (Some k)) (nodes_of ss)
    by_nodes [] = refl
    by_nodes (s ∷ ss) = ap (λ ns. nodes (Some s.node) ++ ns) (by_nodes ss)

    by_children : (e : Entries) → flat_map (λ k. nodes (Some k)) (child_nodes e) ≡ nodes_below e
    by_children end = refl
    by_children (point a body v rest) = by_children rest
    by_children (child a body level chain rest) =
        ap (λ ns. nodes (Some (record { level = level; chain = chain })) ++ ns) (by_children rest)

-- one child more
pub trees-more : {P : Type 0} (ss : List (ChildOf P)) (i : ℕ) (s : ChildOf P) → i < length ss → s ≡ get_or ss i s →
    trees (take (i + 1) ss) ≡ trees (take i ss) ++ nodes (Some s.node)
trees-more ss i s l e =
    ap trees (take_more ss i s l ∙ ap (λ x. take i ss ++ x ∷ []) (sym e)) ∙ flat_map-append (λ x. nodes (Some x.node))
    (take i ss) (s ∷ []) ∙ ap (λ ns. trees (take i ss) ++ ns) (append-nil (nodes (Some s.node)))

-- some first children have no more nodes than all
trees-few : {P : Type 0} (ss : List (ChildOf P)) (i : ℕ) → length (trees (take i ss)) ≤ length (trees ss)
trees-few ss i =
    let e : length (trees (take i ss ++ drop i ss)) ≡ length (trees ss) = ap (λ ts. length (trees ts)) (take-append-drop i ss) in
    omega (arith, e, ap length (flat_map-append (λ s. nodes (Some s.node)) (take i ss) (drop i ss)), length-append (trees (take i ss)) (trees (drop i ss)))

-- the nodes of one child, with those of the children before it
pub child-room : {P : Type 0} (ss : List (ChildOf P)) (i : ℕ) (s : ChildOf P) → i < length ss → s ≡ get_or ss i s →
    length (trees (take i ss)) + length (nodes (Some s.node)) ≤ length (trees ss)
child-room ss i s l e =
    omega (arith, ap length (trees-more ss i s l e), length-append (trees (take i ss)) (nodes (Some s.node)), trees-few ss (i + 1))

-- ---- no more nodes than rows

-- nodes and entries together: a child has two entries or more
below-rows : (w dims level least : ℕ) (above : List ℕ) (e : Entries) → IsLawfulFrom dims level least e →
    length (nodes_below e) + count e ≤ length (rows_behind w level above e)
below-rows w dims level least above end h = omega arith
below-rows w dims level least above (point a body v rest) h = omega (arith, below-rows w dims level (a + 1) above rest h.3)
below-rows w dims level least above (child a body below chain rest) h =
    omega (
      arith,
      below-rows w dims below 0 (put_together level a above body) chain h.6,
      below-rows w dims level (a + 1) above rest h.7,
      h.5,
      length-append (nodes_below chain) (nodes_below rest),
      length-append (rows_behind w below (put_together level a above body) chain) (rows_behind w level above rest),
    )

nodes-rows : (w dims : ℕ) (t : Option PlainNode) → IsLawful w dims t → length (nodes t) ≤ length (rows w dims t)
nodes-rows w dims None h = omega arith
nodes-rows w dims (Some n) h = omega (arith, below-rows w dims n.level 0 (replicate dims 0) n.chain h.2, h.1)

-- ---- whole trees

-- a table has no fewer rows than its tree has nodes
pub nodes-few : (w dims : ℕ) (table : List Row) (t : Option PlainNode) → 1 ≤ w → IsTable w dims table → t ≡ shape w table → length (nodes t) ≤ length table
nodes-few w dims table t h k e =
    let s = table-shape w dims table h k in
    omega (arith, ap (λ u. length (nodes u)) e, nodes-rows w dims (shape w table) s.0, ap (λ (rs : List Row). length rs) s.1)

-- what is counted of a tree are its sizes
pub sizes-counted : (w dims n : ℕ) (table : List Row) (t : Option PlainNode) (c : Counts) → n ≡ length table →
    t ≡ shape w table → c ≡ counted dims no_counts (nodes t) →
    record { rows = n; nodes = c.nodes; linear = c.nodes - c.cube; cube = c.cube; words = c.words } ≡ stats w dims table
sizes-counted w dims n table t c l e h =
    let k : c ≡ counted dims no_counts (nodes (shape w table)) = h ∙ ap (λ u. counted dims no_counts (nodes u)) e in
    let all : c.nodes ≡ length (nodes (shape w table)) = ap (λ x. x.nodes) k ∙ zero-add _ in
    let cubes : c.cube ≡ count_by (is_cube_node dims) (nodes (shape w table)) = ap (λ x. x.cube) k ∙ zero-add _ in
    let words : c.words ≡ sum_by (λ m. length (pack dims m)) (nodes (shape w table)) = ap (λ x. x.words) k ∙ zero-add _ in
    λ i. record { rows = l i; nodes = all i; linear = all i - cubes i; cube = cubes i; words = words i }
