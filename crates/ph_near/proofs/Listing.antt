-- The rows that are ranked at the end are the nearest ones of the table.
use Rattle.std.proofs.Common.{◌≡◌, ◌⊎◌, inl, inr, ℕ, suc, ◌<◌, ◌≤◌, refl, sym, ◌∙◌, ap, subst, arith, true, false, List, [], ◌∷◌, ◌++◌, length, map, append_assoc}
use Rattle.std.specs.Prelude.{ℤ}
use Rattle.std.specs.List.{AllByRecursion as Each}
use Rattle.std.specs.List.Sorted.{IsPermutation}
use Rattle.std.specs.BinaryHeap.{IsUpperBound, lt_by_cmp}
use Rattle.std.proofs.lemmas.Bool.{and_parts}
use Rattle.std.proofs.lemmas.List.{map-append}
use Rattle.std.proofs.lemmas.List.Sorted.{IsPermutation-trans, IsPermutation-append_comm, IsPermutation-append_left}
use Rattle.std.proofs.lemmas.List.Sorted.{IsPermutation-append_right, IsPermutation-map, length_permutation}
use Rattle.ph_specs.specs.Coordinate.{is_point}
use Rattle.ph_specs.specs.Table.{Row, is_rising}
use Rattle.ph_specs.specs.Distance.{near}
use Rattle.ph_model.specs.Nearness.{is_nearer, IsNearerThan, IsRanked}
use Rattle.ph_model.specs.BestFirst.{Item, item_distance}
use Rattle.ph_specs.proofs.lemmas.Members.{Each-each, Each-parts, In, Each-in, Each-from_in}
use Rattle.ph_model.proofs.lemmas.RowsBehind.{Each-append}
use Rattle.ph_specs.proofs.lemmas.Gathered.{gathered-append, gathered-permutation, members-permutation, Each-permutation}
use Rattle.ph_model.proofs.lemmas.Searching.{rows_of as rows_held, rows_in, IsItem}
use Rattle.ph_specs.proofs.laws.Points.{ArePoints, table-points}
use Rattle.ph_model.proofs.laws.Nearest.{rising-of, nearer-less, nearest-near}
use Rattle.ph_table.specs.Hits.{TableHit, hits_of}
use Rattle.ph_near.specs.declared.found.Found.{Found}
use Rattle.ph_near.specs.Found.{found_cmp, row_of, rows_of, found_item, IsFound}
use Rattle.ph_near.specs.Ranking.{IsBeyond, hit_of, IsListed}
use Rattle.ph_near.specs.Nearing.{all_items, IsNearing}
use Rattle.ph_near.proofs.FoundOrder.{sorted-ranked}
use Rattle.ph_near.proofs.Reached.{rows-far}

-- nothing waits, or n rows are nearer than all that does
abbrev pub IsEnded : {d : ℕ} → ℕ → ℕ → List ℤ → List (Found d) → List Item → Type 0
IsEnded w n q rows line = (line ≡ []) ⊎ ((n ≤ length rows) × Each (λ i. IsBeyond n rows (item_distance w q i)) line)

found-rows : {d : ℕ} (w : ℕ) (fs : List (Found d)) → rows_in w (map (found_item w) fs) ≡ rows_of w fs
found-rows w [] = refl
found-rows w (f ∷ fs) = ap {B = List Row} (λ t. row_of w f ∷ t) (found-rows w fs)

hits-are : {d : ℕ} (w : ℕ) (q : List ℤ) (fs : List (Found d)) → Each (IsFound w d q) fs → map (hit_of w) fs ≡ hits_of q (rows_of w fs)
hits-are w q [] h = refl
hits-are w q (f ∷ fs) h = λ i. record { row = row_of w f; distance = h.0.far i } ∷ hits-are w q fs h.1 i

module _ {w d n : ℕ} {q : List ℤ} {table : List Row} {rows : List (Found d)} {line : List Item} {before now : ℕ}
    (h : IsNearing w n q table rows line before now) (end : IsEnded w n q rows line) {hits : List TableHit}
    (l : IsListed w rows hits) where
  abbrev queue : List Item
  queue = all_items w line h.far rows h.over

  abbrev behind : List Item
  behind = line ++ h.far

  abbrev kept : List (Found d)
  kept = l.sorted ++ h.over

  moved : IsPermutation (all_items w line h.far rows h.over) (map (found_item w) (l.sorted ++ h.over) ++ (line ++ h.far))
  moved =
      subst (λ xs. IsPermutation xs (map (found_item w) (l.sorted ++ h.over) ++ (line ++ h.far))) (append_assoc line h.far (map (found_item w) (rows ++ h.over)))
      (IsPermutation-trans ((line ++ h.far) ++ map (found_item w) (rows ++ h.over))
      ((line ++ h.far) ++ map (found_item w) kept) (map (found_item w) kept ++ (line ++ h.far))
      (IsPermutation-append_right (line ++ h.far) (map (found_item w) (rows ++ h.over)) (map (found_item w) kept)
      (IsPermutation-map (found_item w) (rows ++ h.over) kept (IsPermutation-append_left h.over rows l.sorted l.moved)))
      (IsPermutation-append_comm (line ++ h.far) (map (found_item w) kept)))

  rows-are : rows_in w (map (found_item w) (l.sorted ++ h.over) ++ (line ++ h.far)) ≡ rows_of w l.sorted ++ (rows_of w h.over ++ rows_in w (line ++ h.far))
  rows-are =
      gathered-append (rows_held w) (map (found_item w) kept) behind
      ∙ ap (λ t. t ++ rows_in w behind) (found-rows w kept ∙ map-append (row_of w) l.sorted h.over)
      ∙ append_assoc (rows_of w l.sorted) (rows_of w h.over) (rows_in w behind)

  all-rows : IsPermutation table (rows_of w l.sorted ++ (rows_of w h.over ++ rows_in w (line ++ h.far)))
  all-rows =
      subst (IsPermutation table) rows-are
      (IsPermutation-trans table (rows_in w queue) (rows_in w (map (found_item w) kept ++ behind))
      h.searching.rows_left (gathered-permutation (rows_held w) queue (map (found_item w) kept ++ behind) moved))

  rises : is_rising w table ≡ true
  rises = (and_parts (is_rising w table) _ h.lawful).0

  found-all : Each (IsFound w d q) rows × Each (IsFound w d q) h.over
  found-all = Each-parts (IsFound w d q) rows h.over h.found

  found-sorted : Each (IsFound w d q) l.sorted
  found-sorted = Each-permutation (IsFound w d q) rows l.sorted l.moved found-all.0

  last-sorted : Each (λ y. IsUpperBound found_cmp y l.sorted) h.over
  last-sorted = Each-each h.over (λ y k. Each-permutation (λ (z : Found d). lt_by_cmp found_cmp y z ≡ false) rows l.sorted l.moved k) h.last

  ranked : IsRanked w q (rows_of w l.sorted) × Each (λ r. IsNearerThan w q r (rows_of w h.over)) (rows_of w l.sorted)
  ranked =
      sorted-ranked q h.narrow table h.wide (rising-of w table rises) (table-points w d table h.lawful) [] l.sorted
      h.over (rows_in w (line ++ h.far)) all-rows found-sorted found-all.1 l.order last-sorted

  -- all else is beyond n rows
  beyond-all : Each (λ i. IsBeyond n rows (item_distance w q i)) (line ++ h.far)
  beyond-all = by_end end
    where
      by_end : IsEnded w n q rows line → Each (λ i. IsBeyond n rows (item_distance w q i)) (line ++ h.far)
      by_end (inl e) = subst (λ is. Each (λ i. IsBeyond n rows (item_distance w q i)) (is ++ h.far)) (sym e) h.beyond
      by_end (inr k) = Each-append (λ i. IsBeyond n rows (item_distance w q i)) line h.far k.1 h.beyond

  lawful-behind : Each (IsItem w d) (line ++ h.far)
  lawful-behind =
      let a = Each-parts (IsItem w d) line (h.far ++ map (found_item w) (rows ++ h.over)) h.searching.lawful in
      let b = Each-parts (IsItem w d) h.far (map (found_item w) (rows ++ h.over)) a.1 in Each-append (IsItem w d) line h.far a.0 b.0

  points-behind : ArePoints w d (rows_in w (line ++ h.far))
  points-behind =
      let a = Each-parts (λ x. is_point w d x.point ≡ true) (rows_of w l.sorted)
      (rows_of w h.over ++ rows_in w behind)
      (Each-permutation (λ x. is_point w d x.point ≡ true) table
      (rows_of w l.sorted ++ (rows_of w h.over ++ rows_in w behind)) all-rows (table-points w d table h.lawful)) in
      (Each-parts (λ x. is_point w d x.point ≡ true) (rows_of w h.over) (rows_in w behind) a.1).1

  one-nearer : (f : Found d) → IsFound w d q f → In f rows → IsNearerThan w q (row_of w f) (rows_in w (line ++ h.far))
  one-nearer f k i =
      let far : Each (λ j. suc f.distance ≤ item_distance w q j) (line ++ h.far) =
      Each-each (line ++ h.far) (λ j b. omega
      (arith, Each-in (λ (g : Found d). g.distance < item_distance w q j) f rows b.nearer i)) beyond-all in
      Each-each (rows_in w behind) (λ r m. nearer-less w q (row_of w f) r (omega (arith, m, k.far)))
      (rows-far w d (suc f.distance) q behind far lawful-behind points-behind)

  all-nearer : Each (λ r. IsNearerThan w q r (rows_in w (line ++ h.far))) (rows_of w l.sorted)
  all-nearer = by_list l.sorted found-sorted (Each-from_in (λ f. In f rows) l.sorted (λ f i. (members-permutation rows l.sorted l.moved).1 f i))
    where
      by_list : (fs : List (Found d)) → Each (IsFound w d q) fs → Each (λ f. In f rows) fs → Each (λ r. IsNearerThan w q r (rows_in w (line ++ h.far))) (rows_of w fs)
      by_list [] k i = tt
      by_list (f ∷ fs) k i = (one-nearer f k.0 i.0, by_list fs k.1 i.1)

  abbrev rest : List Row
  rest = rows_of w h.over ++ rows_in w (line ++ h.far)

  nearer-rest : Each (λ r. IsNearerThan w q r (rows_of w h.over ++ rows_in w (line ++ h.far))) (rows_of w l.sorted)
  nearer-rest = by_list (rows_of w l.sorted) ranked.1 all-nearer
    where
      by_list : (rs : List Row) → Each (λ r. IsNearerThan w q r (rows_of w h.over)) rs →
          Each (λ r. IsNearerThan w q r (rows_in w (line ++ h.far))) rs →
          Each (λ r. IsNearerThan w q r (rows_of w h.over ++ rows_in w (line ++ h.far))) rs
      by_list [] f g = tt
      by_list (r ∷ rs) f g = (Each-append (λ s. is_nearer w q r s ≡ true) (rows_of w h.over) (rows_in w behind) f.0 g.0, by_list rs f.1 g.1)

  long : length (rows_of w l.sorted) ≡ length rows
  long = mapped l.sorted ∙ length_permutation rows l.sorted l.moved
    where
      mapped : (fs : List (Found d)) → length (rows_of w fs) ≡ length fs
      mapped [] = refl
      mapped (f ∷ fs) = ap suc (mapped fs)

  enough : (length (rows_of w l.sorted) ≡ n) ⊎ ((length (rows_of w l.sorted) ≤ n) × ((rows_of w h.over ++ rows_in w (line ++ h.far)) ≡ []))
  enough = by_end end h.full
    where
      by_end : IsEnded w n q rows line → ((h.far ≡ []) × (h.over ≡ [])) ⊎ (n ≤ length rows) →
          (length (rows_of w l.sorted) ≡ n) ⊎
          ((length (rows_of w l.sorted) ≤ n) × ((rows_of w h.over ++ rows_in w (line ++ h.far)) ≡ []))
      by_end e (inr m) = inl (omega (arith, long, m, h.few))
      by_end (inr k) (inl f) = inl (omega (arith, long, k.0, h.few))
      by_end (inl e) (inl f) = inr (
        omega (arith, long, h.few),
        ap (λ ys. rows_of w ys ++ rows_in w (line ++ h.far)) f.1 ∙ ap (λ is. rows_in w (is ++ h.far)) e ∙ ap (rows_in w) f.0,
      )

  pub nearing-listed : hits ≡ hits_of q (near q n table)
  nearing-listed =
      l.listed ∙ hits-are w q l.sorted found-sorted
      ∙ ap (hits_of q) (nearest-near w q n table (rows_of w l.sorted) rises
      (record { rest = rest; same_rows = all-rows; ranked = ranked.0; nearer = nearer-rest; enough = enough }))
