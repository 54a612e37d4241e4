-- How many rows and nodes a tree has, by its records.
use Rattle.std.proofs.Common.{◌≡◌, ℕ, ◌+◌, ◌-◌, ◌*◌, ◌^◌, ◌≤◌, Bool, true, false, List, [], ◌∷◌, ◌++◌, length, replicate, refl, sym, ◌∙◌, arith, Some}
use Rattle.std.proofs.lemmas.List.{length-append, length-drop}
use Rattle.ph_specs.specs.declared.Kind.{Kind}
use Rattle.ph_specs.specs.Digits.{words_for}
use Rattle.ph_specs.specs.Node.{Entries, end, point, child, PlainNode, nodes, nodes_below}
use Rattle.ph_model.specs.NodeSize.{nodes_in, node_size}
use Rattle.ph_specs.specs.TreeRows.{rows, rows_behind, put_together}
use Rattle.std.specs.Prelude.{if◌then◌else◌}
use Rattle.std.proofs.lemmas.Nat.{pow_pos}
use Rattle.std.proofs.Math.Nat.{mul-le-mul_left}
use Rattle.ph_specs.specs.Pack.{linear_digits, cube_digits}
use Rattle.ph_specs.specs.Load.{Place, root, under, least_entries}
use Rattle.ph_specs.specs.Record.{Read, read_point, read_child, has_cube, table_digits, filled, first_in, entries_in, values_in, unpacked}
use Rattle.ph_model.proofs.lemmas.Counted.{kids, spots, spots-kids}
use Rattle.ph_model.proofs.lemmas.FoundTree.{Passed}
use Rattle.ph_model.proofs.laws.RecordAgain.{entries-count}
use Rattle.ph_snap.specs.Reads.{points_below, points, all_points, all_sizes}

-- ---- rows

behind : (width level : ℕ) (above : List ℕ) (e : Entries) → length (rows_behind width level above e) ≡ points_below e
behind width level above end = refl
behind width level above (point a body v rest) = omega (arith, behind width level above rest)
behind width level above (child a body below chain rest) =
    omega (
      arith,
      length-append (rows_behind width below (put_together level a above body) chain)
          (rows_behind width level above rest),
      behind width below (put_together level a above body) chain,
      behind width level above rest,
    )

pub rows-points : (width dims : ℕ) (n : PlainNode) → length (rows width dims (Some n)) ≡ points n
rows-points width dims n = behind width n.level (replicate dims 0) n.chain

-- ---- nodes

below : (e : Entries) → length (nodes_below e) ≡ nodes_in e
below end = refl
below (point a body v rest) = below rest
below (child a body level chain rest) =
    omega (arith, length-append (nodes_below chain) (nodes_below rest), below chain, below rest)

pub nodes-size : (n : PlainNode) → length (nodes (Some n)) ≡ node_size n
nodes-size n = omega (arith, below n.chain)

-- ---- a record and its children

filled-counts : (es : List Read) (vs : List ℕ) (ns : List PlainNode) → kids es ≡ length ns → spots es ≡ length vs →
    (points_below (filled es vs ns) ≡ spots es + all_points ns) × (nodes_in (filled es vs ns) ≡ all_sizes ns)
filled-counts [] vs [] h k = (refl, refl)
filled-counts [] vs (n ∷ ns) h k = absurd (omega (arith, h))
filled-counts (read_point a body ∷ es) [] ns h k = absurd (omega (arith, k))
filled-counts (read_point a body ∷ es) (v ∷ vs) ns h k =
    let r : (points_below (filled es vs ns) ≡ spots es + all_points ns) × (nodes_in (filled es vs ns) ≡ all_sizes ns) = filled-counts es vs ns h (omega (arith, k)) in
    (omega (arith, r.0), r.1)
filled-counts (read_child a body ∷ es) vs [] h k = absurd (omega (arith, h))
filled-counts (read_child a body ∷ es) vs (n ∷ ns) h k =
    let r : (points_below (filled es vs ns) ≡ spots es + all_points ns) × (nodes_in (filled es vs ns) ≡ all_sizes ns) = filled-counts es vs ns (omega (arith, h)) k in
    (omega (arith, r.0), omega (arith, r.1))

pub record AreCounted (dims : ℕ) (words : List ℕ) (cs : List PlainNode) : Type 0 where
  pub rows : points (unpacked dims words cs) ≡ ((first_in words).entries - (first_in words).children) + all_points cs
  pub nodes : node_size (unpacked dims words cs) ≡ 1 + all_sizes cs
  pub long : 2 + ((first_in words).entries - (first_in words).children) ≤ length words

-- tables have a digit
some-linear : (n d b : ℕ) → 1 ≤ n → 1 ≤ linear_digits d b n
some-linear n d b l = let m : n * 1 ≤ n * (1 + d + d * b) = mul-le-mul_left n (omega arith) in omega (arith, m)

some-cube : (d b : ℕ) → 1 ≤ cube_digits d b
some-cube d b =
    let m : 2 ^ d * 1 ≤ 2 ^ d * (2 + d * b) = mul-le-mul_left (2 ^ d) (omega arith) in omega (arith, m, pow_pos d)

some-digits : (t : Bool) (n d b : ℕ) → 1 ≤ n → 1 ≤ (if t then cube_digits d b else linear_digits d b n)
some-digits true n d b l = some-cube d b
some-digits false n d b l = some-linear n d b l

some-entries : (p : Place) → 1 ≤ least_entries p
some-entries root = omega arith
some-entries (under l d) = omega arith

pub unpacked-counts : (kind : Kind) (width dims : ℕ) (place : Place) (words : List ℕ) (cs : List PlainNode) →
    Passed kind width dims place words → length cs ≡ (first_in words).children → AreCounted dims words cs
unpacked-counts kind width dims place [] cs p m = absurd (omega (arith, p.long))
unpacked-counts kind width dims place (w ∷ rest) cs p m =
    let es : List Read = entries_in dims (w ∷ rest) in
    let c : (length (entries_in dims (w ∷ rest)) ≡ (first_in (w ∷ rest)).entries) ×
    (kids (entries_in dims (w ∷ rest)) ≡ (first_in (w ∷ rest)).children) = entries-count kind width dims place w
    rest p.long p.small p.first p.rest in
    let size : ℕ = 1 + words_for (table_digits dims (first_in (w ∷ rest))) in
    let v : spots (entries_in dims (w ∷ rest)) ≡ length (values_in dims (w ∷ rest)) = omega (arith, spots-kids es, c.0, c.1, p.long, length-drop size (w ∷ rest)) in
    let r = filled-counts es (values_in dims (w ∷ rest)) cs (c.1 ∙ sym m) v in
    record {
      rows = omega (arith, r.0, spots-kids es, c.0, c.1);
      nodes = omega (arith, r.1);
      long = omega (
        arith,
        p.long,
        some-digits (has_cube dims (first_in (w ∷ rest))) (first_in (w ∷ rest)).entries
            dims (first_in (w ∷ rest)).level (omega (arith, p.first.least, some-entries place)),
      );
    }

-- ---- lists of nodes

pub points-more : (ns : List PlainNode) (n : PlainNode) → all_points (ns ++ n ∷ []) ≡ all_points ns + points n
points-more [] n = omega arith
points-more (m ∷ ns) n = omega (arith, points-more ns n)

pub sizes-more : (ns : List PlainNode) (n : PlainNode) → all_sizes (ns ++ n ∷ []) ≡ all_sizes ns + node_size n
sizes-more [] n = omega arith
sizes-more (m ∷ ns) n = omega (arith, sizes-more ns n)
