-- The entries of opened nodes.
use Rattle.std.proofs.Common.{◌≡◌, inl, inr, ℕ, zero, suc, ◌+◌, ◌-◌, ◌<◌, ◌≤◌, ◌^◌, refl, sym, ◌∙◌, ap, subst}
use Rattle.std.proofs.Common.{arith, true, false, List, [], ◌∷◌, ◌++◌, length, map, drop, replicate}
use Rattle.std.specs.Prelude.{ℤ, Some, slice_get}
use Rattle.std.specs.List.{AllByRecursion as Each}
use Rattle.std.specs.List.Sorted.{IsPermutation}
use Rattle.std.proofs.Math.Pow.{pow_mono}
use Rattle.std.proofs.lemmas.Nat.{pow_pos}
use Rattle.std.proofs.lemmas.List.{get_or_append_left}
use Rattle.std.proofs.lemmas.List.Sorted.{IsPermutation-sym, IsPermutation-trans, IsPermutation-middle, IsPermutation-append_right, IsPermutation-map}
use Rattle.ph_specs.specs.Coordinate.{coordinate}
use Rattle.ph_specs.specs.Table.{row}
use Rattle.ph_specs.specs.Node.{Entries, end, point, child, PlainNode}
use Rattle.ph_model.specs.EntryList.{Entry, What, value, node, listed, entries}
use Rattle.ph_model.specs.EntryEdits.{what_at}
use Rattle.ph_specs.specs.TreeRows.{put_together}
use Rattle.ph_model.specs.Lawful.{IsAbove, IsBody, HasZerosFrom, IsLawfulFrom, IsLawfulEntry, IsLawfulWhat}
use Rattle.ph_model.specs.PutTree.{body_above}
use Rattle.ph_model.specs.BallSearch.{placed_at}
use Rattle.ph_model.specs.BestFirst as best
use Rattle.ph_model.specs.BestFirst.{Item, found, items_below, items_of, item_distance}
use Rattle.ph_model.proofs.lemmas.Joined.{offsets-coordinate, length-put_together, above-child}
use Rattle.ph_specs.proofs.lemmas.Gathered.{Each-permutation}
use Rattle.ph_model.proofs.laws.EntryLists.{entry-lawful}
use Rattle.ph_model.proofs.laws.LawfulRows.{put_together-small}
use Rattle.ph_digits.proofs.Cuts.{above-zeros}
use Rattle.ph_node.specs.Apart.{squares_apart}
use Rattle.ph_node.specs.Kinds.{is_node}
use Rattle.ph_node.specs.Merge.{addr_at}
use Rattle.ph_node.specs.Shown.{shown}
use Rattle.ph_node.specs.Split.{body_at}
use Rattle.ph_node.specs.Spots.{IsSpot, joined_digits}
use Rattle.ph_node.specs.declared.spots.Spot.{Spot}
use Rattle.ph_near.specs.declared.found.Found.{Found}
use Rattle.ph_near.specs.declared.opening.OpenedOf.{OpenedOf}
use Rattle.ph_near.specs.declared.waiting.Waiting.{Waiting}
use Rattle.ph_near.specs.Far.{corner_of, gaps_above, entry_gap}
use Rattle.ph_near.specs.Found.{found_item, IsFound}
use Rattle.ph_near.specs.Halves.{AreHalves, AreSmall, halves_sum}
use Rattle.ph_near.specs.declared.corners.Corners.{Corners}
use Rattle.ph_near.specs.declared.halves.Halves.{Halves}
use Rattle.ph_near.specs.Nearing.{IsKept}
use Rattle.ph_near.specs.Opening.{IsOpened, opened_items, place_item, IsEntered, opened_at, IsNewest, item_at, line_of, IsChild, IsWaiting, AreWaiting, IsTried, IsTreated}
use Rattle.ph_near.specs.Queue.{entry_at, what_item, entry_item}
use Rattle.ph_near.proofs.FarRegions.{entry-distance, entry-small}
use Rattle.ph_near.proofs.HalfGaps.{row-least, child-least, halves-gaps}
use Rattle.ph_near.proofs.Nearing.{kept-moved, kept-dropped, kept-added}

pub small-wide : (w : ℕ) (xs : List ℕ) → w ≤ 62 → Each (λ x. x < 2 ^ w) xs → Each (λ x. x < 2 ^ 62) xs
small-wide w [] l h = tt
small-wide w (x ∷ xs) l h = (omega (arith, h.0, pow_mono {i = w} {j = 62} l), small-wide w xs l h.1)

-- nothing is known of the root
pub zeros-body : (d w : ℕ) → IsBody d w (replicate d 0)
zeros-body zero w = (refl, tt)
zeros-body (suc d) w = (ap suc (zeros-body d w).0, (pow_pos w, (zeros-body d w).1))

-- ---- the entries of a node

pub items-more : (w level i : ℕ) (above : List ℕ) (e : Entries) → i < length (listed e) →
    drop i (items_below w level above e) ≡ entry_item w level above (entry_at (listed e) i) ∷
    drop (i + 1) (items_below w level above e)
items-more w level i above e l =
    by_entries i above e l ∙ ap (λ j. entry_item w level above (entry_at (listed e) i) ∷ drop j (items_below w level above e)) (let s : suc i ≡ i + 1 = omega arith in s)
  where
    by_entries : (i : ℕ) (above : List ℕ) (e : Entries) → i < length (listed e) →
        drop i (items_below w level above e) ≡ entry_item w level above (entry_at (listed e) i) ∷
        drop (suc i) (items_below w level above e)
    by_entries i above end l = absurd (omega (arith, l))
    by_entries zero above (point a body v rest) l = refl
    by_entries zero above (child a body below chain rest) l = refl
    by_entries (suc i) above (point a body v rest) l = by_entries i above rest (omega (arith, l))
    by_entries (suc i) above (child a body below chain rest) l = by_entries i above rest (omega (arith, l))

pub items-none : (w level i : ℕ) (above : List ℕ) (e : Entries) → length (listed e) ≤ i → drop i (items_below w level above e) ≡ []
items-none w level zero above end l = refl
items-none w level (suc i) above end l = refl
items-none w level zero above (point a body v rest) l = absurd (omega (arith, l))
items-none w level zero above (child a body below chain rest) l = absurd (omega (arith, l))
items-none w level (suc i) above (point a body v rest) l = items-none w level i above rest (omega (arith, l))
items-none w level (suc i) above (child a body below chain rest) l = items-none w level i above rest (omega (arith, l))

entry-there : (es : List Entry) (i : ℕ) → i < length es → slice_get es i ≡ Some (entry_at es i)
entry-there [] i l = absurd (omega (arith, l))
entry-there (x ∷ es) zero l = refl
entry-there (x ∷ es) (suc i) l = entry-there es i (omega (arith, l))

-- ---- one entry

module _ {w d : ℕ} (o : OpenedOf PlainNode d) (h : IsOpened w d o) (i : ℕ) (there : i < length (entries (shown o.node))) where
  abbrev level : ℕ
  level = (shown o.node).level

  abbrev body : List ℕ
  body = body_at (entries (shown o.node)) i

  abbrev what : What
  what = what_at (entries (shown o.node)) i

  abbrev joined : List ℕ
  joined = put_together (shown o.node).level (addr_at (entries (shown o.node)) i) o.known (body_at (entries (shown o.node)) i)

  entry-is : IsLawfulEntry d (shown o.node).level (entry_at (entries (shown o.node)) i)
  entry-is =
      entry-lawful d level 0 i (shown o.node).chain (entry_at (entries (shown o.node)) i) h.lawful (entry-there (entries (shown o.node)) i there)

  pub entry-body : IsBody d (shown o.node).level (body_at (entries (shown o.node)) i)
  entry-body = entry-is.body

  long : length o.known ≡ length (body_at (entries (shown o.node)) i)
  long = h.above.long ∙ sym entry-body.0

  pub joined-body : IsBody d w (put_together (shown o.node).level (addr_at (entries (shown o.node)) i) o.known (body_at (entries (shown o.node)) i))
  joined-body = (
    length-put_together level (addr_at (entries (shown o.node)) i) o.known body long ∙ h.above.long,
    put_together-small w level (addr_at (entries (shown o.node)) i) o.known body h.level h.above.zeros h.known.1 entry-body.1,
  )

  -- the digits that are joined
  pub joined-is : (s : Spot) → IsSpot (entries (shown o.node)) s → s.place ≡ i →
      joined_digits (shown o.node) s o.known ≡ put_together (shown o.node).level (addr_at (entries (shown o.node)) i)
      o.known (body_at (entries (shown o.node)) i)
  joined-is s a e =
      ap (λ t. put_together level t (body_above level o.known) (body_at (entries (shown o.node)) s.place)) a.address
      ∙ ap (λ k. put_together level (addr_at (entries (shown o.node)) k) (body_above level o.known) (body_at (entries (shown o.node)) k)) e
      ∙ ap (λ t. put_together level (addr_at (entries (shown o.node)) i) t body) (sym (above-zeros level o.known h.above.zeros))

  module _ (center : List ℕ) (q : IsBody d w center) where
    -- how far it is
    pub place-distance : entry_gap (shown o.node).level
        (put_together (shown o.node).level (addr_at (entries (shown o.node)) i) o.known
        (body_at (entries (shown o.node)) i)) center (what_at (entries (shown o.node)) i) ≡
        item_distance w (map (coordinate w) center) (place_item w o i)
    place-distance = entry-distance w level joined center what (omega (arith, h.level)) q.1

    pub place-small : w ≤ 62 → d ≤ 16 → item_distance w (map (coordinate w) center) (place_item w o i) < 2 ^ 128
    place-small narrow few =
        subst (λ n. n < 2 ^ 128) place-distance
        (entry-small level joined center what (omega (arith, joined-body.0, few)) (small-wide w joined narrow joined-body.1) (small-wide w center narrow q.1))

    abbrev least : ℕ
    least = gaps_above (shown o.node).level (corner_of (shown o.node).level (addr_at (entries (shown o.node)) i) o.known) center

    above-is : put_together (shown o.node).level (addr_at (entries (shown o.node)) i)
        (body_above (shown o.node).level o.known) (body_at (entries (shown o.node)) i) ≡ joined
    above-is = ap (λ t. put_together level (addr_at (entries (shown o.node)) i) t body) (sym (above-zeros level o.known h.above.zeros))

    -- no nearer than its address tells
    pub place-least : gaps_above (shown o.node).level
        (corner_of (shown o.node).level (addr_at (entries (shown o.node)) i) o.known) center ≤ item_distance w
        (map (coordinate w) center) (place_item w o i)
    place-least = subst (λ n. least ≤ n) place-distance (by_kind what entry-is.held)
      where
        by_kind : (t : What) → IsLawfulWhat d level body t → least ≤ entry_gap level joined center t
        by_kind (value v) k =
            subst (λ n. least ≤ n) (ap (λ t. squares_apart t center) above-is)
            (row-least level (addr_at (entries (shown o.node)) i) o.known body center (sym long) entry-body.1)
        by_kind (node n) k =
            let e = child-least level (addr_at (entries (shown o.node)) i) o.known body center (omega (arith, k.0))
            (sym long) entry-body.1 ∙ ap (λ t. entry_gap level t center (node n)) above-is in omega (arith, e)

    -- of a child just as far
    pub place-child : is_node (what_at (entries (shown o.node)) i) ≡ true →
        gaps_above (shown o.node).level (corner_of (shown o.node).level (addr_at (entries (shown o.node)) i) o.known)
        center ≡ item_distance w (map (coordinate w) center) (place_item w o i)
    place-child c = by_kind what entry-is.held c ∙ place-distance
      where
        by_kind : (t : What) → IsLawfulWhat d level body t → is_node t ≡ true → least ≡ entry_gap level joined center t
        by_kind (value v) k c = absurd (let no : false ≡ true = c in cc)
        by_kind (node n) k c =
            child-least level (addr_at (entries (shown o.node)) i) o.known body center (omega (arith, k.0)) (sym long)
            entry-body.1 ∙ ap (λ t. entry_gap level t center (node n)) above-is

    -- a row that was found
    pub place-found : {v : ℕ} (f : Found d) → f.known ≡ joined →
        f.distance ≡ item_distance w (map (coordinate w) center) (found (row (map (coordinate w) f.known) f.value)) →
        f.value ≡ v → value v ≡ what_at (entries (shown o.node)) i → IsFound w d (map (coordinate w) center) f ×
        (place_item w o i ≡ found_item w f)
    place-found f e k u t = (
      record { far = k; known = subst (IsBody d w) (sym e) joined-body },
      ap (what_item w (level - 1) joined) (sym t) ∙ (λ j. found (row (map (coordinate w) (sym e j)) (sym u j))),
    )

  -- a child of a lawful node
  module _ (n : PlainNode) (e : node n ≡ what_at (entries (shown o.node)) i) where
    held : (n.level < (shown o.node).level) × HasZerosFrom n.level (body_at (entries (shown o.node)) i) × IsLawfulFrom d n.level 0 n.chain
    held =
        let k : IsLawfulWhat d level body (node n) = subst (IsLawfulWhat d level body) (sym e) entry-is.held in (k.0, k.1, k.3)

    pub child-lower : n.level < (shown o.node).level
    child-lower = held.0

    pub child-zeros : HasZerosFrom n.level (body_at (entries (shown o.node)) i)
    child-zeros = held.1

    pub child-opened : (new : OpenedOf PlainNode d) → shown new.node ≡ n → new.known ≡ joined → IsOpened w d new × IsEntered w o i new
    child-opened new s k = (
      record {
        level = subst (λ m. m.level < w) (sym s) (omega (arith, held.0, h.level));
        lawful = subst (λ m. IsLawfulFrom d m.level 0 m.chain) (sym s) held.2;
        above = subst (λ m. IsAbove d m.level new.known) (sym s)
            (subst (IsAbove d n.level) (sym k)
            (above-child d level n.level (addr_at (entries (shown o.node)) i) o.known body held.0 h.above entry-body held.1));
        known = subst (IsBody d w) (sym k) joined-body;
      },
      ap (what_item w (level - 1) joined) (sym e) ∙ (λ j. best.node (placed_at w (level - 1) (sym k j) (sym s j))),
    )

-- the entries of a child that was entered are what its item opens to
pub entered-items : {d : ℕ} (w : ℕ) (o : OpenedOf PlainNode d) (place : ℕ) → items_of w (placed_at w place o.known (shown o.node)) ≡ opened_items w o
entered-items w o place =
    ap (λ ks. items_below w (shown o.node).level ks (shown o.node).chain) (offsets-coordinate w o.known)

-- the least distance that the corners tell
pub corners-told : {d : ℕ} (c : Corners d) (l addr : ℕ) (known center : List ℕ) → c.level ≡ l → c.known ≡ known → c.center ≡ center →
    gaps_above c.level (corner_of c.level addr c.known) c.center ≡ gaps_above l (corner_of l addr known) center
corners-told c l addr known center e f h = λ i. gaps_above (e i) (corner_of (e i) addr (f i)) (h i)

-- the least distance that the halves tell
pub least-told : {d : ℕ} (level addr : ℕ) (known center : List ℕ) (h : Halves d) → length known ≡ d →
    length center ≡ d → AreHalves level known center h → AreSmall h →
    halves_sum addr h.low h.high ≡ gaps_above level (corner_of level addr known) center
least-told level addr known center h l m k s =
    halves-gaps level addr h.low h.high known center (s.lows ∙ sym l) (s.highs ∙ sym l) (m ∙ sym l)
    (λ i t. k.low i (omega (arith, t, l))) (λ i t. k.high i (omega (arith, t, l)))

-- ---- more nodes are opened

module _ {d : ℕ} (w : ℕ) (q : List ℤ) (os : List (OpenedOf PlainNode d)) (o : OpenedOf PlainNode d) where
  later-at : (k : ℕ) → k < length os → opened_at (os ++ o ∷ []) k ≡ opened_at os k
  later-at k l = get_or_append_left os (o ∷ []) _ k l

  pub later-waits : (items : List Waiting) → AreWaiting w q os items → AreWaiting w q (os ++ o ∷ []) items
  later-waits [] h = tt
  later-waits (x ∷ items) h = (
    record {
      opened = omega (arith, h.0.opened, longer os);
      child = subst (λ t. IsChild w q t x) (sym (later-at x.opened h.0.opened)) h.0.child;
    },
    later-waits items h.1,
  )
    where
      longer : (xs : List (OpenedOf PlainNode d)) → length xs ≤ length (xs ++ o ∷ [])
      longer [] = omega arith
      longer (y ∷ ys) = omega (arith, longer ys)

  pub later-line : (items : List Waiting) → AreWaiting w q os items → line_of w (os ++ o ∷ []) items ≡ line_of w os items
  later-line [] h = refl
  later-line (x ∷ items) h =
      λ j. place_item w (later-at x.opened h.0.opened j) x.place ∷ later-line items h.1 j

-- the node that was opened last
pub newest : {d : ℕ} (os : List (OpenedOf PlainNode d)) (o : OpenedOf PlainNode d) → IsNewest (os ++ o ∷ []) o
newest [] o = record { some = omega arith; at = refl }
newest (x ∷ os) o = record {
  some = omega (arith, (newest os o).some);
  at = behind (os ++ o ∷ []) (newest os o).some (newest os o).at;
}
  where
    behind : (xs : List (OpenedOf PlainNode _)) → 1 ≤ length xs → opened_at xs (length xs - 1) ≡ o → opened_at (x ∷ xs) (length (x ∷ xs) - 1) ≡ o
    behind [] l e = absurd (omega (arith, l))
    behind (y ∷ ys) l e = ap (opened_at (x ∷ y ∷ ys)) (let k : length (x ∷ y ∷ ys) - 1 ≡ suc (length (y ∷ ys) - 1) = omega arith in k) ∙ e

-- ---- an entry is treated

module _ {w d n : ℕ} {q : List ℤ} (os : List (OpenedOf PlainNode d)) (at : ℕ) (o : OpenedOf PlainNode d) (place : ℕ)
    {old new : List (Found d)} {was now : List Waiting} (inside : (at < length os) × (opened_at os at ≡ o))
    (t : IsTreated n w q at o place old new was now) where
  pub treated-kept : (others : List Item) → IsKept w n q old (place_item w o place ∷ (others ++ line_of w os was)) new (others ++ line_of w os now)
  treated-kept others = by_case t
    where
      tried : (line line' : List Waiting) → line' ≡ line → IsTried n w q (place_item w o place) old new →
          IsKept w n q old (place_item w o place ∷ (others ++ line_of w os line)) new (others ++ line_of w os line')
      tried line line' e (inl k) =
          subst (λ is. IsKept w n q old (place_item w o place ∷ (others ++ line_of w os line)) new (others ++ line_of w os is)) (sym e)
          (subst (λ fs. IsKept w n q old (place_item w o place ∷ (others ++ line_of w os line)) fs (others ++ line_of w os line)) (sym k.0)
          (kept-dropped (place_item w o place) (others ++ line_of w os line) k.1))
      tried line line' e (inr k) =
          subst (λ is. IsKept w n q old (place_item w o place ∷ (others ++ line_of w os line)) new (others ++ line_of w os is)) (sym e)
          (kept-added k.0 (place_item w o place) (others ++ line_of w os line) k.1 k.2 k.3)

      by_case : IsTreated n w q at o place old new was now → IsKept w n q old (place_item w o place ∷ (others ++ line_of w os was)) new (others ++ line_of w os now)
      by_case (inl k) = tried was now k.0 k.1
      by_case (inr k) =
          let x : Waiting = k.1.0 in
          let here : item_at w os k.1.0 ≡ place_item w o place = (λ j. place_item w (opened_at os (k.1.1 j)) (k.1.2 j)) ∙ ap (λ u. place_item w u place) inside.1 in
          let moved : IsPermutation (place_item w o place ∷ line_of w os was) (line_of w os now) =
          subst (λ y. IsPermutation (y ∷ line_of w os was) (line_of w os now)) here
          (IsPermutation-map (item_at w os) (x ∷ was) now k.1.4) in
          subst (λ fs. IsKept w n q old (place_item w o place ∷ (others ++ line_of w os was)) fs (others ++ line_of w os now)) (sym k.0)
          (kept-moved (place_item w o place ∷ (others ++ line_of w os was)) (others ++ line_of w os now)
          (IsPermutation-trans (place_item w o place ∷ (others ++ line_of w os was)) (others ++ place_item w o place ∷ line_of w os was) (others ++ line_of w os now)
          (IsPermutation-sym (others ++ place_item w o place ∷ line_of w os was)
          (place_item w o place ∷ (others ++ line_of w os was))
          (IsPermutation-middle others (place_item w o place) (line_of w os was)))
          (IsPermutation-append_right others (place_item w o place ∷ line_of w os was) (line_of w os now) moved)))

  pub treated-waits : AreWaiting w q os was → AreWaiting w q os now
  treated-waits h = by_case t
    where
      by_case : IsTreated n w q at o place old new was now → AreWaiting w q os now
      by_case (inl k) = subst (AreWaiting w q os) (sym k.0) h
      by_case (inr k) =
          Each-moved (k.1.0 ∷ was) now k.1.4 (
            record {
              opened = subst (λ m. m < length os) (sym k.1.1) inside.0;
              child = subst (λ u. IsChild w q u k.1.0) (sym (ap (opened_at os) k.1.1 ∙ inside.1)) k.1.3;
            },
            h,
          )
        where
          Each-moved : (xs ys : List Waiting) → IsPermutation xs ys → AreWaiting w q os xs → AreWaiting w q os ys
          Each-moved xs ys p e = Each-permutation (IsWaiting w q os) xs ys p e
