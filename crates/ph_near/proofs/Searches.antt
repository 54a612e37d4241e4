-- The search for the nearest rows, node by node.
use Rattle.std.proofs.Common.{◌≡◌, inl, inr, ℕ, zero, suc, ◌+◌, ◌-◌, ◌<◌, ◌≤◌, ◌^◌, refl, sym, ◌∙◌, ap, subst, arith, List, [], ◌∷◌, ◌++◌, length, get_or, replicate}
use Rattle.std.specs.Prelude.{ℤ, Some, Result, Ok, Err, IfOk}
use Rattle.std.specs.List.{AllByRecursion as Each}
use Rattle.std.specs.List.Sorted.{IsPermutation}
use Rattle.std.proofs.lemmas.List.Sorted.{IsPermutation-map, length_permutation}
use Rattle.ph_specs.specs.Node.{PlainNode}
use Rattle.ph_specs.specs.Table.{Row, IsTable}
use Rattle.ph_specs.specs.TreeRows.{rows}
use Rattle.ph_model.specs.Lawful.{IsAbove, IsBody, IsLawfulFrom, IsLawful}
use Rattle.ph_specs.specs.Region.{least_distance}
use Rattle.ph_model.specs.BallSearch.{placed_at}
use Rattle.ph_model.specs.BestFirst.{node, item_distance, items_of, root_queue}
use Rattle.ph_specs.proofs.lemmas.Gathered.{Each-permutation, gathered-permutation}
use Rattle.ph_model.proofs.lemmas.Searching.{nodes_in, nodes_of}
use Rattle.ph_model.proofs.laws.BallSearch.{root-above}
use Rattle.ph_model.proofs.laws.BestFirst.{IsSearching, searching-start}
use Rattle.ph_model.proofs.laws.LawfulRows.{rows-table}
use Rattle.ph_model.proofs.laws.Unique.{shape-rows}
use Rattle.ph_node.specs.Shown.{shown}
use Rattle.ph_near.specs.declared.found.Found.{Found}
use Rattle.ph_near.specs.declared.opening.OpenedOf.{OpenedOf}
use Rattle.ph_near.specs.declared.waiting.Waiting.{Waiting}
use Rattle.ph_near.specs.Nearing.{IsNearing}
use Rattle.ph_near.specs.Opening.{IsOpened, opened_items, place_item, IsEntered, opened_at, item_at, line_of, IsWaiting, AreWaiting}
use Rattle.ph_near.specs.Ranking.{IsBeyond, IsWanted}
use Rattle.ph_near.specs.Waiting.{IsNext}
use Rattle.ph_near.proofs.Entries.{zeros-body, entered-items}
use Rattle.ph_near.proofs.Listing.{IsEnded}
use Rattle.ph_near.proofs.Nearing.{kept-moved}
use Rattle.ph_near.proofs.Reached.{nearing-opened, fewer-nodes}

-- ---- the root

module _ (w d n : ℕ) (q : List ℤ) (r : PlainNode) (before : ℕ) (wide : 1 ≤ w) (narrow : w ≤ 62) (h : IsLawful w d (Some r)) where
  nearing-start : IsNearing {d = d} w n q (rows w d (Some r)) [] (node (placed_at w (w - 1) (replicate d 0) r) ∷ []) before before
  nearing-start =
      let t : IsTable w d (rows w d (Some r)) = rows-table w d (Some r) wide h in
      record {
        wide = wide;
        narrow = narrow;
        lawful = t;
        opened = [];
        far = [];
        over = [];
        searching = subst (λ u. IsSearching w d n q (rows w d (Some r))
            (record { listed = []; opened = []; queue = root_queue w d u })) (shape-rows w d (Some r) h)
            (searching-start w d n q (rows w d (Some r)) wide t);
        found = tt;
        few = omega arith;
        full = inl (refl, refl);
        beyond = tt;
        last = tt;
        visits = omega arith;
      }

  module _ (top : OpenedOf PlainNode d) (s : shown top.node ≡ r) (k : top.known ≡ replicate d 0) where
    pub top-opened : IsOpened w d top
    top-opened = record {
      level = subst (λ m. m.level < w) (sym s) (omega (arith, h.0, wide));
      lawful = subst (λ m. IsLawfulFrom d m.level 0 m.chain) (sym s) h.2;
      above = subst (λ m. IsAbove d m.level top.known) (sym s) (subst (IsAbove d r.level) (sym k) (root-above w d r));
      known = subst (IsBody d w) (sym k) (zeros-body d w);
    }

    pub top-nearing : {later : ℕ} → 1 ≤ n → later ≡ before + 1 → IsNearing {d = d} w n q (rows w d (Some r)) [] (opened_items w top ++ []) before later
    top-nearing {later} l t =
        subst (λ is. IsNearing {d = d} w n q (rows w d (Some r)) [] (is ++ []) before later)
        ((λ i. items_of w (placed_at w (w - 1) (sym k i) (sym s i))) ∙ entered-items w top (w - 1))
        (nearing-opened {rows = []} nearing-start (inl (omega (arith, l))) tt t)

-- ---- the nearest child that waits

pub index-at : {d : ℕ} (os : List (OpenedOf PlainNode d)) (k : ℕ) (x : OpenedOf PlainNode d) → k < length os → x ≡ get_or os k x → x ≡ opened_at os k
index-at os k x l e = e ∙ any os k l
  where
    any : (xs : List (OpenedOf PlainNode _)) (k : ℕ) → k < length xs → get_or xs k x ≡ opened_at xs k
    any [] k l = absurd (omega (arith, l))
    any (y ∷ ys) zero l = refl
    any (y ∷ ys) (suc k) l = any ys k (omega (arith, l))

pub opened-there : {w d : ℕ} (os : List (OpenedOf PlainNode d)) (k : ℕ) → k < length os → Each (IsOpened w d) os → IsOpened w d (opened_at os k)
opened-there [] k l h = absurd (omega (arith, l))
opened-there (y ∷ ys) zero l h = h.0
opened-there (y ∷ ys) (suc k) l h = opened-there ys k (omega (arith, l)) h.1

module _ {d : ℕ} (w : ℕ) (q : List ℤ) (os : List (OpenedOf PlainNode d)) {limit : ℕ} {old new : List Waiting}
    {item : Waiting} (next : IsNext limit old item new) (waits : AreWaiting w q os old) where
  pub next-waits : IsWaiting w q os item × AreWaiting w q os new
  next-waits = Each-permutation (IsWaiting w q os) old (item ∷ new) next.moved waits

  line-moved : IsPermutation (line_of w os old) (item_at w os item ∷ line_of w os new)
  line-moved = IsPermutation-map (item_at w os) old (item ∷ new) next.moved

  module _ (from o : OpenedOf PlainNode d) (read : from ≡ get_or os item.opened from) (e : IsEntered w from item.place o) where
    there : from ≡ opened_at os item.opened
    there = index-at os item.opened from next-waits.0.opened read

    item-is : item_at w os item ≡ node (placed_at w ((shown from.node).level - 1) o.known (shown o.node))
    item-is = ap (λ u. place_item w u item.place) (sym there) ∙ e

    far : item.distance ≡ least_distance w (placed_at w ((shown from.node).level - 1) o.known (shown o.node)).region q
    far = next-waits.0.child.far ∙ ap (item_distance w q) item-is

    first : Each (λ j. least_distance w (placed_at w ((shown from.node).level - 1) o.known (shown o.node)).region q ≤ item_distance w q j) (line_of w os new)
    first = by_list new next.first next-waits.1
      where
        by_list : (is : List Waiting) → Each (λ i. item.distance ≤ i.distance) is → AreWaiting w q os is →
            Each (λ j. least_distance w (placed_at w ((shown from.node).level - 1) o.known (shown o.node)).region q ≤
            item_distance w q j) (line_of w os is)
        by_list [] f k = tt
        by_list (i ∷ is) f k = (omega (arith, f.0, far, k.0.child.far), by_list is f.1 k.1)

    moved : IsPermutation (line_of w os old) (node (placed_at w ((shown from.node).level - 1) o.known (shown o.node)) ∷ line_of w os new)
    moved = subst (λ i. IsPermutation (line_of w os old) (i ∷ line_of w os new)) item-is line-moved

    pub next-nearing : {n : ℕ} {table : List Row} {rows : List (Found d)} {before now later : ℕ} →
        IsNearing w n q table rows (line_of w os old) before now → ((t : ℕ) → t ≤ limit → IsWanted n rows t) →
        later ≡ now + 1 → IsNearing w n q table rows (opened_items w o ++ line_of w os new) before later
    next-nearing {n} {table} {rows} {before} {now} {later} h want t =
        subst (λ is. IsNearing w n q table rows (is ++ line_of w os new) before later) (entered-items w o ((shown from.node).level - 1))
        (nearing-opened ((kept-moved (line_of w os old)
        (node (placed_at w ((shown from.node).level - 1) o.known (shown o.node)) ∷ line_of w os new)
        moved).nearing table before now h)
        (want (least_distance w (placed_at w ((shown from.node).level - 1) o.known (shown o.node)).region q)
        (omega (arith, far, next.within))) first t)

    pub next-fewer : length (nodes_in w (opened_items w o ++ line_of w os new)) < length (nodes_in w (line_of w os old))
    next-fewer =
        let same : length (nodes_in w (items_of w (placed_at w ((shown from.node).level - 1) o.known (shown o.node))
        ++ line_of w os new)) ≡ length (nodes_in w (opened_items w o ++ line_of w os new)) =
        ap (λ is. length (nodes_in w (is ++ line_of w os new))) (entered-items w o ((shown from.node).level - 1)) in
        omega (
          arith,
          same,
          fewer-nodes w (placed_at w ((shown from.node).level - 1) o.known (shown o.node))
              (line_of w os new),
          length_permutation (nodes_in w (line_of w os old))
              (nodes_in w (node (placed_at w ((shown from.node).level - 1) o.known (shown o.node)) ∷ line_of w os new))
              (gathered-permutation (nodes_of w) (line_of w os old)
              (node (placed_at w ((shown from.node).level - 1) o.known (shown o.node)) ∷ line_of w os new) moved),
        )

-- ---- the end

pub ended : {d n : ℕ} (w : ℕ) (q : List ℤ) (rows : List (Found d)) (os : List (OpenedOf PlainNode d)) (limit : ℕ)
    (items : List Waiting) → ((t : ℕ) → limit < t → t < 2 ^ 128 → IsBeyond n rows t) → AreWaiting w q os items →
    Each (λ i. limit < i.distance) items → IsEnded w n q rows (line_of w os items)
ended w q rows os limit [] b h f = inl refl
ended {d} {n} w q rows os limit (x ∷ items) b h f = inr ((b x.distance f.0 h.0.child.small).full, all (x ∷ items) h f)
  where
    all : (is : List Waiting) → AreWaiting w q os is → Each (λ i. limit < i.distance) is → Each (λ j. IsBeyond n rows (item_distance w q j)) (line_of w os is)
    all [] h f = tt
    all (i ∷ is) h f = (subst (IsBeyond n rows) h.0.child.far (b i.distance f.0 h.0.child.small), all is h.1 f.1)

pub if-ok : {T E : Type 0} {P Q : T → Type 0} (r : Result T E) → ((x : T) → P x → Q x) → IfOk r P → IfOk r Q
if-ok (Ok x) f h = f x h
if-ok (Err e) f h = h
