-- What holds of a search for the nearest rows, best first, from step to step, and what that says of the nodes that it has opened.
use Rattle.std.proofs.Common.{◌≡◌, ℕ, zero, suc, ◌+◌, ◌-◌, ◌≤◌, inl, inr, refl, sym, ◌∙◌, ap, subst, arith, true, false, Bool, cond, List}
use Rattle.std.proofs.Common.{[], ◌∷◌, ◌++◌, length, replicate, length-append}
use Rattle.std.specs.Prelude.{ℤ, Option, Some, None, nat_le, slice_get}
use Rattle.std.specs.List.{AllByRecursion as Each, filter, sum_by}
use Rattle.std.specs.List.Sorted.{IsPermutation}
use Rattle.std.proofs.lemmas.List.{append-nil}
use Rattle.std.proofs.lemmas.List.Sorted.{IsPermutation-refl, IsPermutation-trans, IsPermutation-append_right, length_permutation, sum_by-IsPermutation}
use Rattle.std.proofs.lemmas.List.Sums.{sum_by-append, sum_by-cons}
use Rattle.ph_specs.specs.Table.{Row, IsTable}
use Rattle.ph_specs.specs.Node.{PlainNode}
use Rattle.ph_specs.specs.Shape.{shape}
use Rattle.ph_specs.specs.TreeRows.{rows, rows_behind}
use Rattle.ph_model.specs.Lawful.{IsLawful}
use Rattle.ph_specs.specs.Distance.{distance, ranked}
use Rattle.ph_specs.specs.Region.{least_distance}
use Rattle.ph_specs.specs.WorkSets.{Placed, placed, placed_below, all_nodes, reach, no_farther}
use Rattle.ph_model.specs.Nearness.{is_nearer, IsNearerThan, IsRanked}
use Rattle.ph_model.specs.BallSearch.{placed_at}
use Rattle.ph_model.specs.BestFirst.{Item, node, root_queue, Search, search_start}
use Rattle.ph_model.proofs.lemmas.Joined.{offsets-coordinate}
use Rattle.ph_specs.proofs.lemmas.Members.{Each-each, In}
use Rattle.ph_specs.proofs.lemmas.Gathered.{gathered-permutation, Each-permutation}
use Rattle.ph_model.proofs.lemmas.Searching.{rows_of, nodes_of, rows_in, nodes_in, IsItem}
use Rattle.ph_model.proofs.laws.TableShape.{table-shape}
use Rattle.ph_model.proofs.laws.BallSearch.{root-above}

-- what holds of a search for the n nearest rows of a table at each step
pub record IsSearching (w dims n : ℕ) (q : List ℤ) (table : List Row) (s : Search) : Type 0 where
  -- the rows are those listed and those under the queue
  pub rows_left : IsPermutation table (s.listed ++ rows_in w s.queue)
  -- the nodes are those opened and those under the queue
  pub nodes_left : IsPermutation (all_nodes w dims table) (s.opened ++ nodes_in w s.queue)
  pub is_ranked : IsRanked w q s.listed
  pub nearer : Each (λ r. IsNearerThan w q r (rows_in w s.queue)) s.listed
  pub lawful : Each (IsItem w dims) s.queue
  pub reached : Each (λ x. In x (reach w dims table q n)) s.opened

-- the order in the queue does not matter
pub searching-order : (w dims n : ℕ) (q : List ℤ) (table : List Row) (s : Search) (items : List Item) →
    IsPermutation s.queue items → IsSearching w dims n q table s → IsSearching w dims n q table (record s { queue = items })
searching-order w dims n q table s items p h =
    let r : IsPermutation (rows_in w s.queue) (rows_in w items) = gathered-permutation (rows_of w) s.queue items p in
    record {
      rows_left = IsPermutation-trans table (s.listed ++ rows_in w s.queue) (s.listed ++ rows_in w items) h.rows_left
          (IsPermutation-append_right s.listed (rows_in w s.queue) (rows_in w items) r);
      nodes_left = IsPermutation-trans (all_nodes w dims table) (s.opened ++ nodes_in w s.queue)
          (s.opened ++ nodes_in w items) h.nodes_left
          (IsPermutation-append_right s.opened (nodes_in w s.queue) (nodes_in w items)
          (gathered-permutation (nodes_of w) s.queue items p));
      is_ranked = h.is_ranked;
      nearer = Each-each s.listed (λ x k. Each-permutation (λ y. is_nearer w q x y ≡ true) (rows_in w s.queue) (rows_in w items) r k) h.nearer;
      lawful = Each-permutation (IsItem w dims) s.queue items p h.lawful;
      reached = h.reached;
    }

-- ---- the start

root-rows : (w dims : ℕ) (t : Option PlainNode) → rows_in w (root_queue w dims t) ≡ rows w dims t
root-rows w dims None = refl
root-rows w dims (Some n) =
    append-nil (rows_of w (node (placed_at w (w - 1) (replicate dims 0) n))) ∙ ap (λ k. rows_behind w n.level k n.chain) (offsets-coordinate w (replicate dims 0))

root-nodes : (w dims : ℕ) (t : Option PlainNode) → nodes_in w (root_queue w dims t) ≡ placed w dims t
root-nodes w dims None = refl
root-nodes w dims (Some n) =
    append-nil (nodes_of w (node (placed_at w (w - 1) (replicate dims 0) n))) ∙
    ap {B = List Placed} (λ k. placed_at w (w - 1) (replicate dims 0) n ∷ placed_below w n.level k n.chain)
    (offsets-coordinate w (replicate dims 0))

root-lawful : (w dims : ℕ) (t : Option PlainNode) → IsLawful w dims t → Each (IsItem w dims) (root_queue w dims t)
root-lawful w dims None h = tt
root-lawful w dims (Some n) h =
    (record { known = replicate dims 0; corner = refl; above = root-above w dims n; lawful = h.2; level = omega (arith, h.0) }, tt)

pub searching-start : (w dims n : ℕ) (q : List ℤ) (table : List Row) → 1 ≤ w → IsTable w dims table → IsSearching w dims n q table (search_start w dims (shape w table))
searching-start w dims n q table l t =
    let s : IsLawful w dims (shape w table) × (rows w dims (shape w table) ≡ table) = table-shape w dims table l t in
    record {
      rows_left = subst (IsPermutation table) (sym (root-rows w dims (shape w table) ∙ s.1)) (IsPermutation-refl table);
      nodes_left = subst (IsPermutation (all_nodes w dims table)) (sym (root-nodes w dims (shape w table))) (IsPermutation-refl (all_nodes w dims table));
      is_ranked = tt;
      nearer = tt;
      lawful = root-lawful w dims (shape w table) s.0;
      reached = tt;
    }

-- ---- the end

kept : {X : Type 0} (p : X → Bool) (x : X) (xs : List X) → In x (filter p xs) → p x ≡ true
kept p x [] h = absurd h
kept {X} p x (y ∷ ys) h = by_test (p y) refl h (kept p x ys)
  where
    by_test : (b : Bool) → p y ≡ b → In x (cond b (y ∷ filter p ys) (filter p ys)) → (In x (filter p ys) → p x ≡ true) → p x ≡ true
    by_test true e (inl k) f = ap p k ∙ e
    by_test true e (inr k) f = f k
    by_test false e k f = f k

abbrev passing : {X : Type 0} (p : X → Bool) → X → ℕ
passing p x = cond (p x) 1 0

length-kept : {X : Type 0} (p : X → Bool) (xs : List X) → length (filter p xs) ≡ sum_by (passing p) xs
length-kept p [] = refl
length-kept {X} p (x ∷ xs) = by_test (p x) refl (length-kept p xs) ∙ sym (sum_by-cons (passing p) x xs)
  where
    by_test : (b : Bool) → p x ≡ b → length (filter p xs) ≡ sum_by (passing p) xs → length (cond b (x ∷ filter p xs) (filter p xs)) ≡ passing p x + sum_by (passing p) xs
    by_test true e ih = let a : passing p x ≡ 1 = ap {B = ℕ} (λ t. cond t 1 0) e in omega (arith, a, ih)
    by_test false e ih = let a : passing p x ≡ 0 = ap {B = ℕ} (λ t. cond t 1 0) e in omega (arith, a, ih)

all-pass : {X : Type 0} (p : X → Bool) (xs : List X) → Each (λ x. p x ≡ true) xs → sum_by (passing p) xs ≡ length xs
all-pass p [] h = refl
all-pass p (x ∷ xs) h =
    let a : passing p x ≡ 1 = ap {B = ℕ} (λ t. cond t 1 0) h.0 in
    omega (arith, sum_by-cons (passing p) x xs, a, all-pass p xs h.1)

few-pass : {X : Type 0} (p : X → Bool) (all xs rest : List X) → IsPermutation all (xs ++ rest) → Each (λ x. p x ≡ true) xs → length xs ≤ length (filter p all)
few-pass p all xs rest h k =
    let s : sum_by (passing p) (xs ++ rest) ≡ sum_by (passing p) all = sum_by-IsPermutation (passing p) all (xs ++ rest) h in
    omega (arith, s, sum_by-append (passing p) xs rest, all-pass p xs k, length-kept p all)

-- no more nodes are opened than the reach has
pub searching-few : (w dims n : ℕ) (q : List ℤ) (table : List Row) (s : Search) → IsSearching w dims n q table s → length s.opened ≤ length (reach w dims table q n)
searching-few w dims n q table s h = by_count n h.reached
  where
    by_row : (o : Option Row) → Each (λ x. In x (no_farther w dims table q o)) s.opened → length s.opened ≤ length (no_farther w dims table q o)
    by_row None k =
        omega (arith, length_permutation (all_nodes w dims table) (s.opened ++ nodes_in w s.queue) h.nodes_left, length-append s.opened (nodes_in w s.queue))
    by_row (Some r) k =
        few-pass (λ y. nat_le (least_distance w y.region q) (distance r.point q)) (all_nodes w dims table) s.opened (nodes_in w s.queue) h.nodes_left
        (Each-each s.opened (λ x i. kept (λ y. nat_le (least_distance w y.region q) (distance r.point q)) x (all_nodes w dims table) i) k)

    by_count : (m : ℕ) → Each (λ x. In x (reach w dims table q m)) s.opened → length s.opened ≤ length (reach w dims table q m)
    by_count zero k = by_none s.opened k
      where
        by_none : (xs : List Placed) → Each (λ x. ⊥) xs → length xs ≤ 0
        by_none [] k' = omega arith
        by_none (x ∷ xs) k' = absurd k'.0
    by_count (suc m) k = by_row (slice_get (ranked q table) m) k
