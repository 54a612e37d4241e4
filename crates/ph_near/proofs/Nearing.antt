-- Steps of a search for the nearest rows that visit nothing.
use Rattle.std.proofs.Common.{◌≡◌, ◌⊎◌, inl, inr, ℕ, ◌≤◌, sym, ◌∙◌, ap, subst, arith, List, [], ◌∷◌, ◌++◌, length, map, append_assoc, length-append}
use Rattle.std.specs.Prelude.{ℤ}
use Rattle.std.specs.List.{AllByRecursion as Each}
use Rattle.std.specs.List.Sorted.{IsPermutation}
use Rattle.std.specs.BinaryHeap.{IsUpperBound}
use Rattle.std.proofs.lemmas.List.Sorted.{IsPermutation-refl, IsPermutation-sym, IsPermutation-trans, IsPermutation-middle}
use Rattle.std.proofs.lemmas.List.Sorted.{IsPermutation-append_left, IsPermutation-append_right, IsPermutation-map, length_permutation}
use Rattle.ph_model.specs.BestFirst.{Item, item_distance}
use Rattle.ph_specs.specs.Table.{Row}
use Rattle.ph_specs.proofs.lemmas.Members.{Each-each}
use Rattle.ph_model.proofs.lemmas.RowsBehind.{Each-append}
use Rattle.ph_specs.proofs.lemmas.Gathered.{Each-permutation, gathered-permutation}
use Rattle.ph_model.proofs.lemmas.Searching.{nodes_in, nodes_of}
use Rattle.ph_model.proofs.laws.BestFirst.{searching-order}
use Rattle.ph_near.specs.declared.found.Found.{Found}
use Rattle.ph_near.specs.Found.{found_cmp, found_item, IsFound}
use Rattle.ph_near.specs.Ranking.{IsAdded, IsBeyond}
use Rattle.ph_near.specs.Nearing.{all_items, IsNearing, IsKept}

-- an item that stands first goes behind others
behind : {X : Type 0} (x : X) (xs ys : List X) → IsPermutation (x ∷ (xs ++ ys)) (xs ++ x ∷ ys)
behind x xs ys = IsPermutation-sym (xs ++ x ∷ ys) (x ∷ (xs ++ ys)) (IsPermutation-middle xs x ys)

fewer : (w : ℕ) (xs ys : List Item) → IsPermutation xs ys → length (nodes_in w ys) ≤ length (nodes_in w xs)
fewer w xs ys p =
    omega (arith, length_permutation (nodes_in w xs) (nodes_in w ys) (gathered-permutation (nodes_of w) xs ys p))

module _ {w d n : ℕ} {q : List ℤ} {table : List Row} {rows : List (Found d)} {before now : ℕ} where
  -- what waits in another order
  nearing-moved : {line : List Item} (other : List Item) → IsPermutation line other →
      IsNearing w n q table rows line before now → IsNearing w n q table rows other before now
  nearing-moved {line} other p h = record {
    wide = h.wide;
    narrow = h.narrow;
    lawful = h.lawful;
    opened = h.opened;
    far = h.far;
    over = h.over;
    searching = searching-order w d n q table
        (record { listed = []; opened = h.opened; queue = all_items w line h.far rows h.over })
        (all_items w other h.far rows h.over)
        (IsPermutation-append_left (h.far ++ map (found_item w) (rows ++ h.over)) line other p) h.searching;
    found = h.found;
    few = h.few;
    full = h.full;
    beyond = h.beyond;
    last = h.last;
    visits = h.visits;
  }

  -- an item that n rows are nearer than
  nearing-dropped : (i : Item) (line : List Item) → IsBeyond n rows (item_distance w q i) →
      IsNearing w n q table rows (i ∷ line) before now → IsNearing w n q table rows line before now
  nearing-dropped i line b h = record {
    wide = h.wide;
    narrow = h.narrow;
    lawful = h.lawful;
    opened = h.opened;
    far = i ∷ h.far;
    over = h.over;
    searching = searching-order w d n q table
        (record { listed = []; opened = h.opened; queue = all_items w (i ∷ line) h.far rows h.over })
        (all_items w line (i ∷ h.far) rows h.over) (behind i line (h.far ++ map (found_item w) (rows ++ h.over))) h.searching;
    found = h.found;
    few = h.few;
    full = inr b.full;
    beyond = (b, h.beyond);
    last = h.last;
    visits = h.visits;
  }

  -- a row that is ranked
  module _ (x : Found d) (i : Item) (line : List Item) {new : List (Found d)} (f : IsFound w d q x)
      (e : i ≡ found_item w x) (a : IsAdded n x rows new) (h : IsNearing w n q table rows (i ∷ line) before now) where
    moved : IsPermutation (x ∷ (rows ++ h.over)) (new ++ (a.out ++ h.over))
    moved =
        subst (IsPermutation ((x ∷ rows) ++ h.over)) (append_assoc new a.out h.over) (IsPermutation-append_left h.over (x ∷ rows) (new ++ a.out) a.moved)

    abbrev found_items : List Item
    found_items = map (found_item w) (rows ++ h.over)

    items-moved : IsPermutation (found_item w x ∷ (line ++ (h.far ++ map (found_item w) (rows ++ h.over))))
        (line ++ (h.far ++ map (found_item w) (new ++ (a.out ++ h.over))))
    items-moved =
        IsPermutation-trans (found_item w x ∷ (line ++ (h.far ++ found_items)))
        (line ++ (found_item w x ∷ (h.far ++ found_items))) (line ++ (h.far ++ map (found_item w) (new ++ (a.out ++ h.over))))
        (behind (found_item w x) line (h.far ++ found_items))
        (IsPermutation-append_right line (found_item w x ∷ (h.far ++ found_items)) (h.far ++ map (found_item w) (new ++ (a.out ++ h.over)))
        (IsPermutation-trans (found_item w x ∷ (h.far ++ found_items)) (h.far ++ (found_item w x ∷ found_items)) (h.far ++ map (found_item w) (new ++ (a.out ++ h.over)))
        (behind (found_item w x) h.far found_items)
        (IsPermutation-append_right h.far (found_item w x ∷ found_items) (map (found_item w) (new ++ (a.out ++ h.over)))
        (IsPermutation-map (found_item w) (x ∷ (rows ++ h.over)) (new ++ (a.out ++ h.over)) moved))))

    still-full : ((h.far ≡ []) × ((a.out ++ h.over) ≡ [])) ⊎ (n ≤ length new)
    still-full = by_full h.full a.full
      where
        by_full : ((h.far ≡ []) × (h.over ≡ [])) ⊎ (n ≤ length rows) → (a.out ≡ []) ⊎ (n ≤ length new) → ((h.far ≡ []) × ((a.out ++ h.over) ≡ [])) ⊎ (n ≤ length new)
        by_full (inl k) (inl o) = inl (k.0, ap (λ ys. ys ++ h.over) o ∙ k.1)
        by_full (inl k) (inr l) = inr l
        by_full (inr l) o = inr (omega (arith, l, a.grows))

    still-last : Each (λ y. IsUpperBound found_cmp y new) h.over
    still-last = by_full h.full
      where
        by_full : ((h.far ≡ []) × (h.over ≡ [])) ⊎ (n ≤ length rows) → Each (λ y. IsUpperBound found_cmp y new) h.over
        by_full (inl k) = subst (λ ys. Each (λ y. IsUpperBound found_cmp y new) ys) (sym k.1) tt
        by_full (inr l) = Each-each h.over (λ y k. a.still_last y l k) h.last

    nearing-added : IsNearing w n q table new line before now
    nearing-added = record {
      wide = h.wide;
      narrow = h.narrow;
      lawful = h.lawful;
      opened = h.opened;
      far = h.far;
      over = a.out ++ h.over;
      searching = searching-order w d n q table
          (record { listed = []; opened = h.opened; queue = all_items w (i ∷ line) h.far rows h.over })
          (all_items w line h.far new (a.out ++ h.over))
          (subst (λ i. IsPermutation (i ∷ (line ++ (h.far ++ map (found_item w) (rows ++ h.over))))
          (line ++ (h.far ++ map (found_item w) (new ++ (a.out ++ h.over))))) (sym e) items-moved) h.searching;
      found = Each-permutation (IsFound w d q) (x ∷ (rows ++ h.over)) (new ++ (a.out ++ h.over)) moved (f, h.found);
      few = a.few;
      full = still-full;
      beyond = Each-each h.far (λ i k. a.still_beyond (item_distance w q i) k) h.beyond;
      last = Each-append (λ y. IsUpperBound found_cmp y new) a.out h.over a.last still-last;
      visits = h.visits;
    }

-- ---- the same of any search

module _ {w d n : ℕ} {q : List ℤ} {rows : List (Found d)} where
  pub kept-moved : (line other : List Item) → IsPermutation line other → IsKept w n q rows line rows other
  kept-moved line other p = record { nearing = λ table before now h. nearing-moved other p h; nodes = fewer w line other p }

  pub kept-all : (line : List Item) → IsKept w n q rows line rows line
  kept-all line = kept-moved line line (IsPermutation-refl line)

  pub kept-dropped : (i : Item) (line : List Item) → IsBeyond n rows (item_distance w q i) → IsKept w n q rows (i ∷ line) rows line
  kept-dropped i line b = record { nearing = λ table before now h. nearing-dropped i line b h; nodes = omega (arith, length-append (nodes_of w i) (nodes_in w line)) }

  pub kept-added : (x : Found d) (i : Item) (line : List Item) {new : List (Found d)} → IsFound w d q x →
      i ≡ found_item w x → IsAdded n x rows new → IsKept w n q rows (i ∷ line) new line
  kept-added x i line f e a = record {
    nearing = λ table before now h. nearing-added x i line f e a h;
    nodes = omega (arith, length-append (nodes_of w i) (nodes_in w line));
  }

  pub kept-then : {line mid line' : List Item} {some new : List (Found d)} → IsKept w n q rows line some mid →
      IsKept w n q some mid new line' → IsKept w n q rows line new line'
  kept-then h k = record { nearing = λ table before now t. k.nearing table before now (h.nearing table before now t); nodes = omega (arith, h.nodes, k.nodes) }
