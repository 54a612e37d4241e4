-- A node is opened while it may have one of the nearest rows, so it is one of the reach.
use Rattle.std.proofs.Common.{◌≡◌, ◌⊎◌, inl, inr, ℕ, zero, suc, ◌+◌, ◌<◌, ◌≤◌, refl, sym, ◌∙◌, ap, subst, arith, Bool, true, false}
use Rattle.std.proofs.Common.{cond, List, [], ◌∷◌, ◌++◌, length, map, append_assoc, length-append, lt-ltb, le-ltb, le-leb}
use Rattle.std.specs.Prelude.{ℤ, Option, Some, None, nat_lt, nat_le, slice_get}
use Rattle.std.specs.List.{AllByRecursion as Each, sum_by}
use Rattle.std.specs.List.Sorted.{IsPermutation}
use Rattle.std.specs.BinaryHeap.{lt_by_cmp}
use Rattle.std.proofs.lemmas.List.Sorted.{sum_by-IsPermutation}
use Rattle.std.proofs.lemmas.List.Sums.{sum_by-append, sum_by-cons}
use Rattle.std.proofs.lemmas.Bool.{cases_lt}
use Rattle.ph_specs.specs.Coordinate.{is_point}
use Rattle.ph_specs.specs.Table.{Row, IsTable}
use Rattle.ph_specs.specs.Distance.{distance, ranked}
use Rattle.ph_specs.specs.Region.{least_distance}
use Rattle.ph_model.specs.Nearness.{is_nearer, IsRanked}
use Rattle.ph_specs.specs.WorkSets.{Placed, all_nodes, reach, no_farther}
use Rattle.ph_model.specs.BestFirst.{Item, node, item_distance, items_of}
use Rattle.ph_model.proofs.lemmas.Joined.{offsets}
use Rattle.ph_specs.proofs.lemmas.Members.{Each-each, Each-parts, In, In-right, Each-in}
use Rattle.ph_model.proofs.lemmas.RowsBehind.{Each-append}
use Rattle.ph_specs.proofs.lemmas.Gathered.{gathered-append, members-permutation, Each-permutation, In-filter}
use Rattle.ph_model.proofs.lemmas.Searching.{rows_of as rows_held, nodes_of, rows_in, nodes_in, rows-items, nodes-items, IsItem, items_of-lawful, item-bound}
use Rattle.ph_model.proofs.laws.BestFirst.{IsSearching, searching-few}
use Rattle.ph_specs.proofs.laws.Points.{ArePoints, table-points}
use Rattle.ph_specs.proofs.laws.Ranked.{ranked-permutation}
use Rattle.ph_model.proofs.laws.Nearest.{nearer-le, ranked-ranked}
use Rattle.std.proofs.lemmas.Bool.{and_parts}
use Rattle.ph_specs.specs.Table.{is_rising}
use Rattle.ph_near.specs.declared.found.Found.{Found}
use Rattle.ph_near.specs.Found.{found_cmp, row_of, found_item, IsFound}
use Rattle.ph_near.specs.Ranking.{IsWanted}
use Rattle.ph_near.specs.Nearing.{all_items, IsNearing}
use Rattle.ph_near.proofs.FoundOrder.{no-farther}

-- ---- rows below items that are far

-- the points of a search are those of its table
pub searched-points : (w d n : ℕ) (q : List ℤ) (table : List Row) (opened : List Placed) (items : List Item) →
    IsTable w d table → IsSearching w d n q table (record { listed = []; opened = opened; queue = items }) →
    ArePoints w d (rows_in w items)
searched-points w d n q table opened items t h =
    Each-permutation (λ x. is_point w d x.point ≡ true) table (rows_in w items) h.rows_left (table-points w d table t)

pub rows-far : (w d t : ℕ) (q : List ℤ) (items : List Item) → Each (λ j. t ≤ item_distance w q j) items →
    Each (IsItem w d) items → ArePoints w d (rows_in w items) → Each (λ r. t ≤ distance r.point q) (rows_in w items)
rows-far w d t q [] h k f = tt
rows-far w d t q (i ∷ items) h k f =
    let g : ArePoints w d (rows_held w i) × ArePoints w d (rows_in w items) = Each-parts (λ s. is_point w d s.point ≡ true) (rows_held w i) (rows_in w items) f in
    Each-append (λ r. t ≤ distance r.point q) (rows_held w i) (rows_in w items)
    (Each-each (rows_held w i) (λ r m. omega (arith, m, h.0)) (item-bound w d q i k.0 g.0))
    (rows-far w d t q items h.1 k.1 g.1)

-- ---- how many rows are nearer than t

abbrev nearer_by : List ℤ → ℕ → Row → ℕ
nearer_by q t r = cond (nat_lt (distance r.point q) t) 1 0

one : (q : List ℤ) (t : ℕ) (r : Row) → distance r.point q < t → nearer_by q t r ≡ 1
one q t r l = ap {B = ℕ} (λ b. cond b 1 0) (lt-ltb (distance r.point q) t l)

none : (q : List ℤ) (t : ℕ) (r : Row) → t ≤ distance r.point q → nearer_by q t r ≡ 0
none q t r l = ap {B = ℕ} (λ b. cond b 1 0) (le-ltb (distance r.point q) t l)

one-most : (q : List ℤ) (t : ℕ) (r : Row) → nearer_by q t r ≤ 1
one-most q t r = by_test (nat_lt (distance r.point q) t)
  where
    by_test : (b : Bool) → cond b 1 0 ≤ 1
    by_test true = omega arith
    by_test false = omega arith

none-nearer : (q : List ℤ) (t : ℕ) (rows : List Row) → Each (λ r. t ≤ distance r.point q) rows → sum_by (nearer_by q t) rows ≡ 0
none-nearer q t [] h = refl
none-nearer q t (r ∷ rows) h = omega (arith, sum_by-cons (nearer_by q t) r rows, none q t r h.0, none-nearer q t rows h.1)

-- so many as stand in front of one that is nearer, and that one
front-nearer : (w : ℕ) (q : List ℤ) (t m : ℕ) (rows : List Row) (r : Row) → IsRanked w q rows →
    slice_get rows m ≡ Some r → distance r.point q < t → suc m ≤ sum_by (nearer_by q t) rows
front-nearer w q t zero [] r h e l = absurd (let no : None ≡ Some r = e in cc)
front-nearer w q t (suc m) [] r h e l = absurd (let no : None ≡ Some r = e in cc)
front-nearer w q t zero (s ∷ rows) r h e l =
    let f : Some s ≡ Some r = e in
    let same : s ≡ r = cc in
    omega (arith, sum_by-cons (nearer_by q t) s rows, one q t s (subst (λ x. distance x.point q < t) (sym same) l))
front-nearer w q t (suc m) (s ∷ rows) r h e l =
    let near : distance s.point q ≤ distance r.point q = nearer-le w q s r (Each-in (λ x. is_nearer w q s x ≡ true) r rows h.0 (got m rows r e)) in
    omega (arith, sum_by-cons (nearer_by q t) s rows, one q t s (omega (arith, near, l)), front-nearer w q t m rows r h.1 e l)
  where
    got : (k : ℕ) (xs : List Row) (x : Row) → slice_get xs k ≡ Some x → In x xs
    got zero [] x e = absurd (let no : None ≡ Some x = e in cc)
    got (suc k) [] x e = absurd (let no : None ≡ Some x = e in cc)
    got zero (y ∷ ys) x e = inl (let f : Some y ≡ Some x = e in let g : y ≡ x = cc in sym g)
    got (suc k) (y ∷ ys) x e = inr (got k ys x e)

-- the rows that are ranked
found-most : {d : ℕ} (w : ℕ) (q : List ℤ) (t : ℕ) (fs : List (Found d)) → sum_by (nearer_by q t) (rows_in w (map (found_item w) fs)) ≤ length fs
found-most w q t [] = omega arith
found-most w q t (f ∷ fs) =
    omega (arith, sum_by-cons (nearer_by q t) (row_of w f) (rows_in w (map (found_item w) fs)), one-most q t (row_of w f), found-most w q t fs)

found-less : {d : ℕ} (w : ℕ) (q : List ℤ) (t : ℕ) (fs : List (Found d)) (f : Found d) → Each (IsFound w d q) fs →
    In f fs → t ≤ f.distance → sum_by (nearer_by q t) (rows_in w (map (found_item w) fs)) < length fs
found-less w q t [] f h i l = absurd i
found-less {d} w q t (g ∷ fs) f h (inl e) l =
    let far : t ≤ g.distance = subst (λ (x : Found d). t ≤ x.distance) e l in
    omega (arith, sum_by-cons (nearer_by q t) (row_of w g) (rows_in w (map (found_item w) fs)), none q t (row_of w g) (omega (arith, far, h.0.far)), found-most w q t fs)
found-less w q t (g ∷ fs) f h (inr i) l =
    omega (arith, sum_by-cons (nearer_by q t) (row_of w g) (rows_in w (map (found_item w) fs)), one-most q t (row_of w g), found-less w q t fs f h.1 i l)

-- ---- a node is opened

-- the rows and the nodes of an opened node's items are those of the node
rows-opened : (w : ℕ) (x : Placed) (others : List Item) → rows_in w (items_of w x ++ others) ≡ rows_in w (node x ∷ others)
rows-opened w x others =
    gathered-append (rows_held w) (items_of w x) others ∙ ap (λ ys. ys ++ rows_in w others) (rows-items w x.node.level (offsets w x.region.corner) x.node.chain)

nodes-opened : (w : ℕ) (x : Placed) (others : List Item) → x ∷ nodes_in w (items_of w x ++ others) ≡ nodes_in w (node x ∷ others)
nodes-opened w x others =
    ap {B = List Placed} (λ ys. x ∷ ys)
    (gathered-append (nodes_of w) (items_of w x) others ∙ ap (λ ys. ys ++ nodes_in w others)
    (nodes-items w x.node.level (offsets w x.region.corner) x.node.chain))

module _ {w d n : ℕ} {q : List ℤ} {table : List Row} {rows : List (Found d)} {x : Placed} {others : List Item}
    {before now : ℕ} (h : IsNearing w n q table rows (node x ∷ others) before now)
    (want : IsWanted n rows (least_distance w x.region q))
    (first : Each (λ j. least_distance w x.region q ≤ item_distance w q j) others) where
  abbrev least : ℕ
  least = least_distance w x.region q

  abbrev ranked_items : List Item
  ranked_items = map (found_item w) rows

  abbrev over_items : List Item
  over_items = map (found_item w) h.over

  -- what else n rows are nearer than is no nearer than the node
  far-far : Each (λ j. least_distance w x.region q ≤ item_distance w q j) h.far
  far-far = by_want want h.full
    where
      by_want : IsWanted n rows (least_distance w x.region q) → ((h.far ≡ []) × (h.over ≡ [])) ⊎ (n ≤ length rows) →
          Each (λ j. least_distance w x.region q ≤ item_distance w q j) h.far
      by_want u (inl e) = subst (λ is. Each (λ j. least_distance w x.region q ≤ item_distance w q j) is) (sym e.0) tt
      by_want (inl l) (inr m) = absurd (omega (arith, l, m))
      by_want (inr f) (inr m) = Each-each h.far (λ i b. omega (arith, f.2, Each-in (λ (g : Found d). g.distance < item_distance w q i) f.0 rows b.nearer f.1)) h.beyond

  over-far : Each (λ (y : Found d). least_distance w x.region q ≤ y.distance) h.over
  over-far = by_want want h.full
    where
      by_want : IsWanted n rows (least_distance w x.region q) → ((h.far ≡ []) × (h.over ≡ [])) ⊎ (n ≤ length rows) →
          Each (λ (y : Found d). least_distance w x.region q ≤ y.distance) h.over
      by_want u (inl e) = subst (λ ys. Each (λ (y : Found d). least_distance w x.region q ≤ y.distance) ys) (sym e.1) tt
      by_want (inl l) (inr m) = absurd (omega (arith, l, m))
      by_want (inr f) (inr m) = Each-each h.over
          (λ y u. omega (
            arith,
            f.2,
            no-farther f.0 y
                (Each-in (λ (g : Found d). lt_by_cmp found_cmp y g ≡ false) f.0 rows u f.1),
          )) h.last

  found-parts : Each (IsFound w d q) rows × Each (IsFound w d q) h.over
  found-parts = Each-parts (IsFound w d q) rows h.over h.found

  over-items : Each (λ j. least_distance w x.region q ≤ item_distance w q j) (map (found_item w) h.over)
  over-items = by_list h.over over-far found-parts.1
    where
      by_list : (ys : List (Found d)) → Each (λ (y : Found d). least_distance w x.region q ≤ y.distance) ys →
          Each (IsFound w d q) ys → Each (λ j. least_distance w x.region q ≤ item_distance w q j) (map (found_item w) ys)
      by_list [] f g = tt
      by_list (y ∷ ys) f g = (omega (arith, f.0, g.0.far), by_list ys f.1 g.1)

  abbrev queue : List Item
  queue = all_items w (node x ∷ others) h.far rows h.over

  points : ArePoints w d (rows_in w (all_items w (node x ∷ others) h.far rows h.over))
  points = searched-points w d n q table h.opened queue h.lawful h.searching

  split : (f : List ℤ) → map (found_item w) (rows ++ h.over) ≡ map (found_item w) rows ++ map (found_item w) h.over
  split f = by_list rows
    where
      by_list : (xs : List (Found d)) → map (found_item w) (xs ++ h.over) ≡ map (found_item w) xs ++ map (found_item w) h.over
      by_list [] = refl
      by_list (y ∷ ys) = ap {B = List Item} (λ t. found_item w y ∷ t) (by_list ys)

  abbrev count : List Item → ℕ
  count items = sum_by (nearer_by q (least_distance w x.region q)) (rows_in w items)

  count-append : (xs ys : List Item) → sum_by (nearer_by q (least_distance w x.region q)) (rows_in w (xs ++ ys)) ≡
      sum_by (nearer_by q (least_distance w x.region q)) (rows_in w xs) + sum_by
      (nearer_by q (least_distance w x.region q)) (rows_in w ys)
  count-append xs ys =
      ap (sum_by (nearer_by q (least_distance w x.region q))) (gathered-append (rows_held w) xs ys) ∙
      sum_by-append (nearer_by q (least_distance w x.region q)) (rows_in w xs) (rows_in w ys)

  count-far : (items : List Item) → Each (λ j. least_distance w x.region q ≤ item_distance w q j) items →
      Each (IsItem w d) items → ArePoints w d (rows_in w items) →
      sum_by (nearer_by q (least_distance w x.region q)) (rows_in w items) ≡ 0
  count-far items f k p = none-nearer q (least_distance w x.region q) (rows_in w items) (rows-far w d (least_distance w x.region q) q items f k p)

  -- fewer than n rows are nearer than the node
  few-nearer : sum_by (nearer_by q (least_distance w x.region q)) table < n
  few-nearer =
      let lawful-line = Each-parts (IsItem w d) (node x ∷ others) (h.far ++ map (found_item w) (rows ++ h.over)) h.searching.lawful in
      let lawful-far = Each-parts (IsItem w d) h.far (map (found_item w) (rows ++ h.over)) lawful-line.1 in
      let lawful-over = Each-parts (IsItem w d) ranked_items over_items (subst (λ is. Each (IsItem w d) is) (split q) lawful-far.1) in
      let points-line = Each-parts (λ s. is_point w d s.point ≡ true) (rows_in w (node x ∷ others))
      (rows_in w (h.far ++ map (found_item w) (rows ++ h.over)))
      (subst (ArePoints w d) (gathered-append (rows_held w) (node x ∷ others)
      (h.far ++ map (found_item w) (rows ++ h.over))) points) in
      let points-far = Each-parts (λ s. is_point w d s.point ≡ true) (rows_in w h.far)
      (rows_in w (map (found_item w) (rows ++ h.over)))
      (subst (ArePoints w d) (gathered-append (rows_held w) h.far (map (found_item w) (rows ++ h.over))) points-line.1) in
      let points-over = Each-parts (λ s. is_point w d s.point ≡ true) (rows_in w ranked_items) (rows_in w over_items)
      (subst (ArePoints w d) (ap (rows_in w) (split q) ∙ gathered-append (rows_held w) ranked_items over_items)
      points-far.1) in
      let all : count queue ≡ sum_by (nearer_by q (least_distance w x.region q)) table =
      sum_by-IsPermutation (nearer_by q least) table (rows_in w queue) h.searching.rows_left in
      let a : count queue ≡ count (node x ∷ others) + count (h.far ++ map (found_item w) (rows ++ h.over)) =
      count-append (node x ∷ others) (h.far ++ map (found_item w) (rows ++ h.over)) in
      let b : count (h.far ++ map (found_item w) (rows ++ h.over)) ≡
      count h.far + count (map (found_item w) (rows ++ h.over)) = count-append h.far (map (found_item w) (rows ++ h.over)) in
      let c : count (map (found_item w) (rows ++ h.over)) ≡ count ranked_items + count over_items = ap count (split q) ∙ count-append ranked_items over_items in
      let z : count (node x ∷ others) ≡ 0 = count-far (node x ∷ others) (omega arith, first) lawful-line.0 points-line.0 in
      let y : count h.far ≡ 0 = count-far h.far far-far lawful-far.0 points-far.0 in
      let v : count over_items ≡ 0 = count-far over_items over-items lawful-over.1 points-over.1 in
      omega (arith, all, a, b, c, z, y, v, ranked-few want)
    where
      ranked-few : IsWanted n rows (least_distance w x.region q) → sum_by (nearer_by q (least_distance w x.region q)) (rows_in w (map (found_item w) rows)) < n
      ranked-few (inl l) = omega (arith, l, found-most w q (least_distance w x.region q) rows)
      ranked-few (inr f) = omega (arith, h.few, found-less w q (least_distance w x.region q) rows f.0 found-parts.0 f.1 f.2)

  there : In x (all_nodes w d table)
  there = (members-permutation (all_nodes w d table) (h.opened ++ nodes_in w queue) h.searching.nodes_left).1 x (In-right x h.opened (nodes_in w queue) (inl refl))

  rises : is_rising w table ≡ true
  rises = (and_parts (is_rising w table) _ h.lawful).0

  in-reach : In x (reach w d table q n)
  in-reach = by_count n few-nearer
    where
      by_row : (m : ℕ) (o : Option Row) → slice_get (ranked q table) m ≡ o →
          sum_by (nearer_by q (least_distance w x.region q)) table < suc m → In x (no_farther w d table q o)
      by_row m None u k = there
      by_row m (Some r) u k =
          In-filter (λ y. nat_le (least_distance w y.region q) (distance r.point q)) x (all_nodes w d table)
          (le-leb (least_distance w x.region q) (distance r.point q)
          (by_case (cases_lt (distance r.point q) (least_distance w x.region q)))) there
        where
          by_case : (distance r.point q < least_distance w x.region q) ⊎
              (least_distance w x.region q ≤ distance r.point q) → least_distance w x.region q ≤ distance r.point q
          by_case (inr l) = l
          by_case (inl l) =
              absurd (omega (
                arith,
                k,
                sum_by-IsPermutation (nearer_by q (least_distance w x.region q)) table
                    (ranked q table) (ranked-permutation q table),
                front-nearer w q (least_distance w x.region q) m (ranked q table) r (ranked-ranked w q table rises) u l,
              ))

      by_count : (m : ℕ) → sum_by (nearer_by q (least_distance w x.region q)) table < m → In x (reach w d table q m)
      by_count zero k = absurd (omega (arith, k))
      by_count (suc m) k = by_row m (slice_get (ranked q table) m) refl k

  -- ---- the search behind it

  abbrev left : List Item
  left = others ++ (h.far ++ map (found_item w) (rows ++ h.over))

  opened-searching : IsSearching w d n q table
      (record {
        listed = [];
        opened = h.opened ++ x ∷ [];
        queue = items_of w x ++
            (others ++ (h.far ++ map (found_item w) (rows ++ h.over)));
      })
  opened-searching =
      let a : (h.opened ++ x ∷ []) ++ nodes_in w (items_of w x ++ left) ≡ h.opened ++ nodes_in w (node x ∷ left) =
      append_assoc h.opened (x ∷ []) (nodes_in w (items_of w x ++ left)) ∙ ap (λ ys. h.opened ++ ys) (nodes-opened w x left) in
      record {
        rows_left = subst (λ ys. IsPermutation table ys) (sym (rows-opened w x left)) h.searching.rows_left;
        nodes_left = subst (IsPermutation (all_nodes w d table)) (sym a) h.searching.nodes_left;
        is_ranked = tt;
        nearer = tt;
        lawful = Each-append (IsItem w d) (items_of w x) left (items_of-lawful w d x h.searching.lawful.0) h.searching.lawful.1;
        reached = Each-append (λ y. In y (reach w d table q n)) h.opened (x ∷ []) h.searching.reached (in-reach, tt);
      }

  pub nearing-opened : {later : ℕ} → later ≡ now + 1 → IsNearing w n q table rows (items_of w x ++ others) before later
  nearing-opened {later} t = record {
    wide = h.wide;
    narrow = h.narrow;
    lawful = h.lawful;
    opened = h.opened ++ x ∷ [];
    far = h.far;
    over = h.over;
    searching = subst (λ is. IsSearching w d n q table
        (record { listed = []; opened = h.opened ++ x ∷ []; queue = is }))
        (sym (append_assoc (items_of w x) others (h.far ++ map (found_item w) (rows ++ h.over)))) opened-searching;
    found = h.found;
    few = h.few;
    full = h.full;
    beyond = h.beyond;
    last = h.last;
    visits = omega (arith, t, h.visits, length-append h.opened (x ∷ []));
  }

-- how many nodes are left
pub fewer-nodes : (w : ℕ) (x : Placed) (others : List Item) → length (nodes_in w (items_of w x ++ others)) + 1 ≡ length (nodes_in w (node x ∷ others))
fewer-nodes w x others = omega (arith, ap length (nodes-opened w x others))

module _ {w d n : ℕ} {q : List ℤ} {table : List Row} {rows : List (Found d)} {line : List Item} {before now : ℕ} (h : IsNearing w n q table rows line before now) where
  -- no more nodes are visited than the reach has
  pub few_visits : now ≤ before + length (reach w d table q n)
  few_visits =
      omega (arith, h.visits, searching-few w d n q table (record { listed = []; opened = h.opened; queue = all_items w line h.far rows h.over }) h.searching)
