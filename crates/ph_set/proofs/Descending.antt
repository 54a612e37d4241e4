-- The steps of a descent of two trees: what is listed and which nodes are opened.
use Rattle.std.proofs.Common.{◌≡◌, ℕ, zero, suc, ◌+◌, ◌-◌, ◌<◌, ◌≤◌, Bool, List, [], ◌∷◌, ◌++◌, length, take, drop, inl, inr, refl, sym, ◌∙◌, ap, subst, arith}
use Rattle.std.specs.List.{AllByRecursion as Each}
use Rattle.std.proofs.lemmas.List.{drop-take}
use Rattle.std.proofs.lemmas.Bool.{cases_lt}
use Rattle.ph_specs.specs.Table.{Row}
use Rattle.ph_specs.specs.Node.{PlainNode}
use Rattle.ph_model.specs.EntryList.{Entry, What, value, node, entries}
use Rattle.ph_model.specs.Lawful.{IsAbove, IsLawfulEntry, IsLawfulWhat}
use Rattle.ph_specs.specs.Shape.{row_address}
use Rattle.ph_specs.specs.WorkSets.{Placed}
use Rattle.ph_model.proofs.lemmas.Joined.{from_place}
use Rattle.ph_specs.proofs.lemmas.Members.{Each-each}
use Rattle.ph_model.proofs.lemmas.RowsBehind.{IsUnder}
use Rattle.ph_model.proofs.laws.EntryLists.{entries-lawful, entry-lawful}
use Rattle.ph_model.proofs.laws.Paths.{placed_child}
use Rattle.ph_node.specs.Merge.{addr_at}
use Rattle.ph_path.proofs.Rising.{Rising, lawful-rising}
use Rattle.ph_model.specs.Combined.{seen_nodes}
use Rattle.ph_set.specs.Parts.{IsPart, openings, part_rows, part_nodes, rows_in, nodes_in, rows_on, nodes_on, behind, stretch}
use Rattle.ph_model.proofs.laws.Combined.{AreParted}
use Rattle.ph_set.proofs.Parting.{IsRowAt, entry_nodes, part-some, rows-first, rows-append, nodes-first, nodes-append}
use Rattle.ph_set.proofs.Parting.{behind-rows, rows-below, rows-from, entry-holds, parted-by, behind-part}
use Rattle.ph_set.proofs.Missed.{entry-missed, entries-missed}
use Rattle.ph_set.proofs.Sights.{AreMissed, seen-append, seen-first, seen-front, seen-back, seen-none}
use Rattle.ph_set.proofs.Walking.{entry_at, entry-there, whole-rows, whole-nodes, IsNext, rising-behind}
use Rattle.ph_set.proofs.Walking.{rising-front, IsCut, cut-entry, cut-between, stretch-step, stretch-front, stretch-rest}

Each-take : {X : Type 0} (P : X → Type 0) (k : ℕ) (xs : List X) → Each P xs → Each P (take k xs)
Each-take P k [] h = nothing k
  where
    nothing : (k : ℕ) → Each P (take k [])
    nothing zero = tt
    nothing (suc k) = tt
Each-take P zero (x ∷ xs) h = tt
Each-take P (suc k) (x ∷ xs) h = (h.0, Each-take P k xs h.1)

Each-drop : {X : Type 0} (P : X → Type 0) (k : ℕ) (xs : List X) → Each P xs → Each P (drop k xs)
Each-drop P zero xs h = h
Each-drop P (suc k) [] h = tt
Each-drop P (suc k) (x ∷ xs) h = Each-drop P k xs h.1

pub Each-stretch : (P : Entry → Type 0) (from to : ℕ) (es : List Entry) → Each P es → Each P (stretch from to es)
Each-stretch P from to es h = Each-take P (to - from) (drop from es) (Each-drop P from es h)

-- rows that lie in none of some nodes, around others
seen-within : (w : ℕ) (all : Bool) (us rs vs : List Row) (xs : List Placed) → AreMissed w xs us → AreMissed w xs vs →
    seen_nodes w all (us ++ (rs ++ vs)) xs ≡ seen_nodes w all rs xs
seen-within w all us rs vs xs h k = seen-back w all us (rs ++ vs) xs h ∙ seen-front w all rs vs xs k

-- ---- one node, and rows at one address in it

module _ (w d : ℕ) (ds : List ℕ) (n : PlainNode) (h : IsPart w d ds (node n)) where
  above : IsAbove d n.level ds
  above = record { long = h.long; zeros = h.held.1 }

  pub lawful : Each (IsLawfulEntry d n.level) (entries n)
  lawful = entries-lawful d n.level 0 n.chain h.held.2

  pub lawful-at : (i : ℕ) → i < length (entries n) → IsLawfulEntry d n.level (entry_at (entries n) i)
  lawful-at i l = entry-lawful d n.level 0 i n.chain (entry_at (entries n) i) h.held.2 (entry-there (entries n) i l)

  pub rising : Rising 0 (entries n)
  rising = lawful-rising d n.level 0 n.chain h.held.2

  -- an entry, of which some of the rows have the address
  pub entry-seen : (all : Bool) (e : Entry) (rs : List Row) → IsLawfulEntry d n.level e → 1 ≤ length rs →
      Each (IsRowAt w n.level e.addr ds) rs →
      seen_nodes w all rs (entry_nodes w n.level (behind n.level ds e) e.what) ≡ openings e.what + seen_nodes w all rs
      (part_nodes w (behind n.level ds e) e.what)
  entry-seen all e rs k some at = by_what e.what refl
    where
      by_what : (o : What) → e.what ≡ o → seen_nodes w all rs (entry_nodes w n.level (behind n.level ds e) o) ≡
          openings o + seen_nodes w all rs (part_nodes w (behind n.level ds e) o)
      by_what (value v) q = omega arith
      by_what (node m) q =
          let low : m.level < n.level = (subst (IsLawfulWhat d n.level e.body) q k.held).0 in
          seen-first w all rs (placed_child w n.level m.level (behind n.level ds e) m.chain) (part_nodes w (behind n.level ds e) (node m))
          (entry-holds w d n.level ds h.held.0 above h.small e m k q (omega (arith, low)) rs some at)

  -- the rows below a number of the addresses, and from one on
  below : (a : ℕ) (p : List Entry) → Each (IsLawfulEntry d n.level) p → Each (λ f. f.addr < a) p →
      Each (λ r. IsUnder w (n.level + 1) ds r × (row_address w n.level r < a)) (rows_in w n.level ds p)
  below a p k m =
      Each-each (rows_in w n.level ds p) (λ r q. (q.under, q.address)) (rows-below w d n.level ds h.held.0 above h.small a p k m)

  from : (a : ℕ) (p : List Entry) → Each (IsLawfulEntry d n.level) p → Each (λ f. a ≤ f.addr) p →
      Each (λ r. IsUnder w (n.level + 1) ds r × (a ≤ row_address w n.level r)) (rows_in w n.level ds p)
  from a p k m =
      Each-each (rows_in w n.level ds p) (λ r q. (q.under, q.address)) (rows-from w d n.level ds h.held.0 above h.small a p k m)

  -- the addresses of these
  pub below-at : (a : ℕ) (p : List Entry) → Each (IsLawfulEntry d n.level) p → Each (λ f. f.addr < a) p →
      Each (λ r. row_address w n.level r < a) (rows_in w n.level ds p)
  below-at a p k m = Each-each (rows_in w n.level ds p) (λ r q. q.1) (below a p k m)

  pub from-at : (a : ℕ) (p : List Entry) → Each (IsLawfulEntry d n.level) p → Each (λ f. a ≤ f.addr) p →
      Each (λ r. a ≤ row_address w n.level r) (rows_in w n.level ds p)
  from-at a p k m = Each-each (rows_in w n.level ds p) (λ r q. q.1) (from a p k m)

  -- rows from an address on, beside entries below it, and the other way round
  pub low-missed : (a : ℕ) (p : List Entry) → Each (IsLawfulEntry d n.level) p → Each (λ f. f.addr < a) p → (rows : List Row) →
      Each (λ r. a ≤ row_address w n.level r) rows → AreMissed w (nodes_in w n.level ds p) rows
  low-missed a p k m rows at =
      entries-missed w d n.level ds h.held.0 above h.small (λ b. b < a) (λ b. a ≤ b) (λ b f g. omega (arith, f, g)) p k m rows at

  pub high-missed : (a : ℕ) (p : List Entry) → Each (IsLawfulEntry d n.level) p → Each (λ f. a ≤ f.addr) p → (rows : List Row) →
      Each (λ r. row_address w n.level r < a) rows → AreMissed w (nodes_in w n.level ds p) rows
  high-missed a p k m rows at =
      entries-missed w d n.level ds h.held.0 above h.small (λ b. a ≤ b) (λ b. b < a) (λ b f g. omega (arith, f, g)) p k m rows at

  pub one-missed : (e : Entry) → IsLawfulEntry d n.level e → (rows : List Row) → Each (λ r. row_address w n.level r ≡ e.addr → ⊥) rows →
      AreMissed w (entry_nodes w n.level (behind n.level ds e) e.what) rows
  one-missed e k rows at = entry-missed w d n.level ds h.held.0 above h.small e k rows at

  module _ (a : ℕ) (ys : List Row) (at : Each (IsRowAt w n.level a ds) ys) where
    -- they lie in none of the nodes of entries in front of the address or behind it
    front-missed : (p : List Entry) → Each (IsLawfulEntry d n.level) p → Each (λ f. f.addr < a) p → AreMissed w (nodes_in w n.level ds p) ys
    front-missed p k m =
        low-missed a p k m ys (Each-each ys (λ r q. let e : row_address w n.level r ≡ a = q.address in omega (arith, e)) at)

    back-missed : (p : List Entry) → Each (IsLawfulEntry d n.level) p → Each (λ f. a + 1 ≤ f.addr) p → AreMissed w (nodes_in w n.level ds p) ys
    back-missed p k m =
        high-missed (a + 1) p k m ys (Each-each ys (λ r q. let e : row_address w n.level r ≡ a = q.address in omega (arith, e)) at)

    -- the rows of such entries have another address
    front-other : (p : List Entry) → Each (IsLawfulEntry d n.level) p → Each (λ f. f.addr < a) p →
        Each (λ r. row_address w n.level r ≡ a → ⊥) (rows_in w n.level ds p)
    front-other p k m =
        Each-each (rows_in w n.level ds p) (λ r q. λ e. let v : row_address w n.level r < a = q in let u : row_address w n.level r ≡ a = e in omega (arith, u, v))
        (below-at a p k m)

    back-other : (p : List Entry) → Each (IsLawfulEntry d n.level) p → Each (λ f. a + 1 ≤ f.addr) p →
        Each (λ r. row_address w n.level r ≡ a → ⊥) (rows_in w n.level ds p)
    back-other p k m =
        Each-each (rows_in w n.level ds p) (λ r q. λ e. let v : a + 1 ≤ row_address w n.level r = q in let u : row_address w n.level r ≡ a = e in omega (arith, u, v))
        (from-at (a + 1) p k m)

    pub front-parted : (p : List Entry) → Each (IsLawfulEntry d n.level) p → Each (λ f. f.addr < a) p → AreParted w (rows_in w n.level ds p) ys
    front-parted p k m =
        parted-by w n.level a ds (rows_in w n.level ds p) ys h.held.0 (below a p k m)
        (Each-each ys (λ r q. (q.under, (let e : row_address w n.level r ≡ a = q.address in omega (arith, e)))) at)

    pub back-parted : (p : List Entry) → Each (IsLawfulEntry d n.level) p → Each (λ f. a + 1 ≤ f.addr) p → AreParted w ys (rows_in w n.level ds p)
    back-parted p k m =
        parted-by w n.level (a + 1) ds ys (rows_in w n.level ds p) h.held.0
        (Each-each ys (λ r q. (q.under, (let e : row_address w n.level r ≡ a = q.address in omega (arith, e)))) at) (from (a + 1) p k m)

    -- at an entry that has the address
    module _ (i : ℕ) (l : i < length (entries n)) (e : addr_at (entries n) i ≡ a) (some : 1 ≤ length ys) where
      abbrev es : List Entry
      es = entries n

      abbrev here : Entry
      here = entry_at (entries n) i

      abbrev front : List Entry
      front = stretch 0 i (entries n)

      abbrev back : List Entry
      back = stretch (i + 1) (length (entries n)) (entries n)

      front-low : Each (λ f. f.addr < a) front
      front-low = subst (Each (λ f. f.addr < a)) (sym (stretch-front i es)) (subst (λ b. Each (λ f. f.addr < b) (take i es)) e (rising-front 0 es i rising l))

      back-high : Each (λ f. a + 1 ≤ f.addr) back
      back-high =
          subst (Each (λ f. a + 1 ≤ f.addr)) (sym (stretch-rest (i + 1) (length es) es (omega arith)))
          (subst (λ b. Each (λ f. b + 1 ≤ f.addr) (drop (i + 1) es)) e (rising-behind 0 es i rising l).1)

      pub over-rows : part_rows w ds (node n) ≡ rows_in w n.level ds front ++ (part_rows w (behind n.level ds here) here.what ++ rows_in w n.level ds back)
      over-rows =
          sym (whole-rows w ds n (length es) refl) ∙ ap (rows_in w n.level ds) (stretch-rest 0 (length es) es (omega arith) ∙ cut-entry i es l)
          ∙ rows-append w n.level ds front (here ∷ back) ∙ ap (λ t. rows_in w n.level ds front ++ t) (rows-first w n.level ds here back)

      over-nodes : part_nodes w ds (node n) ≡ nodes_in w n.level ds front ++ (entry_nodes w n.level (behind n.level ds here) here.what ++ nodes_in w n.level ds back)
      over-nodes =
          sym (whole-nodes w ds n (length es) refl) ∙ ap (nodes_in w n.level ds) (stretch-rest 0 (length es) es (omega arith) ∙ cut-entry i es l)
          ∙ nodes-append w n.level ds front (here ∷ back) ∙ ap (λ t. nodes_in w n.level ds front ++ t) (nodes-first w n.level ds here back)

      front-lawful : Each (IsLawfulEntry d n.level) front
      front-lawful = Each-stretch (IsLawfulEntry d n.level) 0 i es lawful

      back-lawful : Each (IsLawfulEntry d n.level) back
      back-lawful = Each-stretch (IsLawfulEntry d n.level) (i + 1) (length es) es lawful

      pub over-front : AreParted w (rows_in w n.level ds front) ys
      over-front = front-parted front front-lawful front-low

      pub over-back : AreParted w ys (rows_in w n.level ds back)
      over-back = back-parted back back-lawful back-high

      at-here : Each (IsRowAt w n.level here.addr ds) ys
      at-here = subst (λ b. Each (IsRowAt w n.level b ds) ys) (sym e) at

      -- the nodes that are opened: those of the entries in front, at the address and behind
      pub over-seen : (all : Bool) →
          seen_nodes w all ys (part_nodes w ds (node n)) ≡ seen_nodes w all ys (nodes_in w n.level ds front) +
          (openings here.what + seen_nodes w all ys (part_nodes w (behind n.level ds here) here.what)) + seen_nodes w
          all ys (nodes_in w n.level ds back)
      over-seen all =
          let a1 : seen_nodes w all ys (part_nodes w ds (node n)) ≡
          seen_nodes w all ys (nodes_in w n.level ds front) + seen_nodes w all ys
          (entry_nodes w n.level (behind n.level ds here) here.what ++ nodes_in w n.level ds back) =
          ap (seen_nodes w all ys) over-nodes ∙ seen-append w all ys (nodes_in w n.level ds front)
          (entry_nodes w n.level (behind n.level ds here) here.what ++ nodes_in w n.level ds back) in
          let a2 : seen_nodes w all ys (entry_nodes w n.level (behind n.level ds here) here.what ++
          nodes_in w n.level ds back) ≡ seen_nodes w all ys
          (entry_nodes w n.level (behind n.level ds here) here.what) + seen_nodes w all ys (nodes_in w n.level ds back) =
          seen-append w all ys (entry_nodes w n.level (behind n.level ds here) here.what) (nodes_in w n.level ds back) in
          let a3 : seen_nodes w all ys (entry_nodes w n.level (behind n.level ds here) here.what) ≡
          openings here.what + seen_nodes w all ys (part_nodes w (behind n.level ds here) here.what) =
          entry-seen all here ys (lawful-at i l) some at-here in
          omega (arith, a1, a2, a3)

      -- the work of a descent at the entry, with what lists the entries beside it. Other rows lie in some nodes only where they have the address
      pub over-work : (all other : Bool) (ms : List Placed)
          → ((rows : List Row) → Each (λ r. row_address w n.level r ≡ a → ⊥) rows → AreMissed w ms rows)
          → seen_nodes w all [] (nodes_in w n.level ds front) +
          (openings here.what + (seen_nodes w all ys (part_nodes w (behind n.level ds here) here.what) +
          seen_nodes w other (part_rows w (behind n.level ds here) here.what) ms)) + seen_nodes w all []
          (nodes_in w n.level ds back)
          ≡ seen_nodes w all ys (part_nodes w ds (node n)) + seen_nodes w other (part_rows w ds (node n)) ms
      over-work all other ms away =
          let b1 : seen_nodes w other (part_rows w ds (node n)) ms ≡ seen_nodes w other (part_rows w (behind n.level ds here) here.what) ms =
          ap (λ t. seen_nodes w other t ms) over-rows ∙
          seen-within w other (rows_in w n.level ds front) (part_rows w (behind n.level ds here) here.what) (rows_in w n.level ds back) ms
          (away (rows_in w n.level ds front) (front-other front front-lawful front-low)) (away (rows_in w n.level ds back) (back-other back back-lawful back-high)) in
          let b2 : seen_nodes w all ys (nodes_in w n.level ds front) ≡ seen_nodes w all []
          (nodes_in w n.level ds front) = seen-none w all ys (nodes_in w n.level ds front) (front-missed front front-lawful front-low) in
          let b3 : seen_nodes w all ys (nodes_in w n.level ds back) ≡ seen_nodes w all []
          (nodes_in w n.level ds back) = seen-none w all ys (nodes_in w n.level ds back) (back-missed back back-lawful back-high) in
          omega (arith, over-seen all, b1, b2, b3)

    -- where no entry has the address
    module _ (i : ℕ) (cut : IsCut a i (entries n)) where
      abbrev before : List Entry
      before = stretch 0 i (entries n)

      abbrev after : List Entry
      after = stretch i (length (entries n)) (entries n)

      pub none-rows : part_rows w ds (node n) ≡ rows_in w n.level ds before ++ rows_in w n.level ds after
      none-rows =
          sym (whole-rows w ds n (length (entries n)) refl) ∙
          ap (rows_in w n.level ds) (stretch-rest 0 (length (entries n)) (entries n) (omega arith) ∙
          cut-between i (entries n)) ∙ rows-append w n.level ds before after

      none-nodes : part_nodes w ds (node n) ≡ nodes_in w n.level ds before ++ nodes_in w n.level ds after
      none-nodes =
          sym (whole-nodes w ds n (length (entries n)) refl) ∙
          ap (nodes_in w n.level ds) (stretch-rest 0 (length (entries n)) (entries n) (omega arith) ∙
          cut-between i (entries n)) ∙ nodes-append w n.level ds before after

      before-lawful : Each (IsLawfulEntry d n.level) before
      before-lawful = Each-stretch (IsLawfulEntry d n.level) 0 i (entries n) lawful

      after-lawful : Each (IsLawfulEntry d n.level) after
      after-lawful = Each-stretch (IsLawfulEntry d n.level) i (length (entries n)) (entries n) lawful

      before-low : Each (λ f. f.addr < a) before
      before-low = subst (Each (λ f. f.addr < a)) (sym (stretch-front i (entries n))) cut.front

      after-high : Each (λ f. a + 1 ≤ f.addr) after
      after-high = subst (Each (λ f. a + 1 ≤ f.addr)) (sym (stretch-rest i (length (entries n)) (entries n) (omega arith))) cut.back

      pub none-front : AreParted w (rows_in w n.level ds before) ys
      none-front = front-parted before before-lawful before-low

      pub none-back : AreParted w ys (rows_in w n.level ds after)
      none-back = back-parted after after-lawful after-high

      pub none-work : (all : Bool) →
          seen_nodes w all [] (nodes_in w n.level ds before) + seen_nodes w all [] (nodes_in w n.level ds after) ≡
          seen_nodes w all ys (part_nodes w ds (node n))
      none-work all =
          let a1 : seen_nodes w all ys (part_nodes w ds (node n)) ≡
          seen_nodes w all ys (nodes_in w n.level ds before) + seen_nodes w all ys (nodes_in w n.level ds after) =
          ap (seen_nodes w all ys) none-nodes ∙ seen-append w all ys (nodes_in w n.level ds before) (nodes_in w n.level ds after) in
          let b2 : seen_nodes w all ys (nodes_in w n.level ds before) ≡ seen_nodes w all []
          (nodes_in w n.level ds before) = seen-none w all ys (nodes_in w n.level ds before) (front-missed before before-lawful before-low) in
          let b3 : seen_nodes w all ys (nodes_in w n.level ds after) ≡ seen_nodes w all []
          (nodes_in w n.level ds after) = seen-none w all ys (nodes_in w n.level ds after) (back-missed after after-lawful after-high) in
          omega (arith, a1, b2, b3)

      -- the rows of the node lie in none of the nodes at the address
      pub none-other : (other : Bool) (ms : List Placed) → ((rows : List Row) → Each (λ r. row_address w n.level r ≡ a → ⊥) rows → AreMissed w ms rows) →
          seen_nodes w other (part_rows w ds (node n)) ms ≡ seen_nodes w other [] ms
      none-other other ms away =
          ap (λ t. seen_nodes w other t ms) none-rows ∙
          seen-back w other (rows_in w n.level ds before) (rows_in w n.level ds after) ms
          (away (rows_in w n.level ds before) (front-other before before-lawful before-low)) ∙
          seen-none w other (rows_in w n.level ds after) ms (away (rows_in w n.level ds after) (back-other after after-lawful after-high))

-- ---- entries in stretches

pub stretch-split : (from mid to : ℕ) (es : List Entry) → from ≤ mid → mid ≤ to → stretch from to es ≡ stretch from mid es ++ stretch mid to es
stretch-split from mid to es l m = by_parts from (mid - from) (to - mid) mid to es (omega (arith, l)) (omega (arith, m))
  where
    split : (a b : ℕ) (xs : List Entry) → take (a + b) xs ≡ take a xs ++ take b (drop a xs)
    split zero b xs = let n : zero + b ≡ b = omega arith in ap (λ k. take k xs) n
    split (suc a) b [] = let n : suc a + b ≡ suc (a + b) = omega arith in ap (λ k. take {A = Entry} k []) n ∙ sym (empty b)
      where
        empty : (b : ℕ) → take {A = Entry} b [] ≡ []
        empty zero = refl
        empty (suc b) = refl
    split (suc a) b (x ∷ xs) = let n : suc a + b ≡ suc (a + b) = omega arith in ap (λ k. take k (x ∷ xs)) n ∙ ap {B = List Entry} (λ t. x ∷ t) (split a b xs)

    dropped : (a b : ℕ) (xs : List Entry) → drop (a + b) xs ≡ drop b (drop a xs)
    dropped zero b xs = let n : zero + b ≡ b = omega arith in ap (λ k. drop k xs) n
    dropped (suc a) zero [] = let n : suc a + zero ≡ suc a = omega arith in ap (λ k. drop {A = Entry} k []) n
    dropped (suc a) (suc b) [] = let n : suc a + suc b ≡ suc (a + suc b) = omega arith in ap (λ k. drop {A = Entry} k []) n
    dropped (suc a) b (x ∷ xs) = let n : suc a + b ≡ suc (a + b) = omega arith in ap (λ k. drop k (x ∷ xs)) n ∙ dropped a b xs

    by_parts : (from a b mid to : ℕ) (es : List Entry) → mid ≡ from + a → to ≡ mid + b → stretch from to es ≡ stretch from mid es ++ stretch mid to es
    by_parts from a b mid to es e f =
        let n : to - from ≡ a + b = omega (arith, e, f) in
        let o : a ≡ mid - from = omega (arith, e) in
        let p : b ≡ to - mid = omega (arith, f) in
        ap (λ k. take k (drop from es)) n ∙ split a b (drop from es)
        ∙ ap (λ t. take a (drop from es) ++ take b t) (sym (dropped from a es) ∙ ap (λ k. drop k es) (sym e))
        ∙ ap (λ k. take k (drop from es) ++ take b (drop mid es)) o ∙ ap (λ k. stretch from mid es ++ take k (drop mid es)) p

each-at : (P : Entry → Type 0) (j q : ℕ) (fs : List Entry) → Each P (take j fs) → q < j → q < length fs → P (entry_at fs q)
each-at P j q [] h l m = absurd (omega (arith, m))
each-at P zero q (f ∷ fs) h l m = absurd (omega (arith, l))
each-at P (suc j) zero (f ∷ fs) h l m = h.0
each-at P (suc j) (suc q) (f ∷ fs) h l m = each-at P j q fs h.1 (omega (arith, l)) (omega (arith, m))

-- a stretch in a front
each-front : (P : Entry → Type 0) (j q : ℕ) (fs : List Entry) → Each P (take q fs) → j ≤ q → Each P (stretch j q fs)
each-front P j q fs h l =
    let n : q ≡ j + (q - j) = omega (arith, l) in
    subst (Each P) (drop-take j (q - j) fs) (Each-drop P j (take (j + (q - j)) fs) (subst (λ k. Each P (take k fs)) n h))

-- the entries of a node from one place on
module _ (w c : ℕ) (ds : List ℕ) (es : List Entry) where
  pub rows-on : (i k : ℕ) → i ≤ k → k ≤ length es → rows_on w c ds es i ≡ rows_in w c ds (stretch i k es) ++ rows_on w c ds es k
  rows-on i k l m = ap (rows_in w c ds) (stretch-split i k (length es) es l m) ∙ rows-append w c ds (stretch i k es) (stretch k (length es) es)

  pub nodes-on : (i k : ℕ) → i ≤ k → k ≤ length es → nodes_on w c ds es i ≡ nodes_in w c ds (stretch i k es) ++ nodes_on w c ds es k
  nodes-on i k l m = ap (nodes_in w c ds) (stretch-split i k (length es) es l m) ∙ nodes-append w c ds (stretch i k es) (stretch k (length es) es)

  pub rows-next : (i : ℕ) → i < length es → rows_on w c ds es i ≡ part_rows w (behind c ds (entry_at es i)) (entry_at es i).what ++ rows_on w c ds es (i + 1)
  rows-next i l = ap (rows_in w c ds) (stretch-step i (length es) es l (omega arith)) ∙ rows-first w c ds (entry_at es i) (stretch (i + 1) (length es) es)

  pub nodes-next : (i : ℕ) → i < length es → nodes_on w c ds es i ≡ entry_nodes w c (behind c ds (entry_at es i)) (entry_at es i).what ++ nodes_on w c ds es (i + 1)
  nodes-next i l = ap (nodes_in w c ds) (stretch-step i (length es) es l (omega arith)) ∙ nodes-first w c ds (entry_at es i) (stretch (i + 1) (length es) es)

-- ---- two nodes at one level

turned : (w a c e : ℕ) (ds dt : List ℕ) → e ≡ c → from_place (c + 1) dt ≡ from_place (c + 1) ds → (r : Row) → IsRowAt w e a dt r → IsRowAt w c a ds r
turned w a c e ds dt same agree r =
    subst (λ k. IsRowAt w k a dt r → IsRowAt w c a ds r) (sym same) (λ q. record { under = q.under ∙ agree; address = q.address })

-- entry i of rising ones, and those behind it
rest-behind : (least : ℕ) (es : List Entry) (i : ℕ) → Rising least es → i < length es → Each (λ f. addr_at es i + 1 ≤ f.addr) (stretch (i + 1) (length es) es)
rest-behind least es i r l =
    subst (Each (λ f. addr_at es i + 1 ≤ f.addr)) (sym (stretch-rest (i + 1) (length es) es (omega arith))) (rising-behind least es i r l).1

rest-from : (least : ℕ) (es : List Entry) (i : ℕ) → Rising least es → i < length es → Each (λ f. addr_at es i ≤ f.addr) (stretch i (length es) es)
rest-from least es i r l =
    subst (Each (λ f. addr_at es i ≤ f.addr)) (sym (stretch-step i (length es) es l (omega arith)))
    (omega arith, Each-each (stretch (i + 1) (length es) es) (λ f g. let o : addr_at es i + 1 ≤ f.addr = g in omega (arith, o)) (rest-behind least es i r l))

-- what lies in front of an address that an entry is below is behind that entry
pub next-behind : (a i q : ℕ) (es : List Entry) → Rising 0 es → i < length es → addr_at es i < a → IsNext a q es → i < q
next-behind a i q es r l b h =
    elim (cases_lt i q) [
      | inl m ↦ omega (arith, m)
      | inr m ↦
          let x : q < length es = omega (arith, m, l) in
          let y : a ≤ addr_at es q = h.here x in
          let z : addr_at es q < addr_at es i + 1 = at-most (q + 1 - i) m in
          absurd (omega (arith, b, y, z))
    ]
  where
    at-most : (k : ℕ) → q ≤ i → addr_at es q < addr_at es i + 1
    at-most k m =
        elim (cases_lt q i) [
          | inl o ↦ let p : addr_at es q < addr_at es i = each-at (λ f. f.addr < addr_at es i) i q es
              (rising-front 0 es i r l) o (omega (arith, o, l)) in omega (arith, p)
          | inr o ↦ let e : q ≡ i = omega (arith, m, o) in subst (λ t. addr_at es t < addr_at es i + 1) (sym e) (omega arith)
        ]

module _ (w d : ℕ) (ds dt : List ℕ) (n m : PlainNode) (h : IsPart w d ds (node n)) (k : IsPart w d dt (node m))
    (same : m.level ≡ n.level) (agree : from_place (n.level + 1) dt ≡ from_place (n.level + 1) ds) where
  -- entries below an address, beside those of the other node from it on
  parted : (a : ℕ) (p q : List Entry) → Each (IsLawfulEntry d n.level) p → Each (IsLawfulEntry d m.level) q →
      Each (λ f. f.addr < a) p → Each (λ f. a ≤ f.addr) q → AreParted w (rows_in w n.level ds p) (rows_in w m.level dt q)
  parted a p q lp lq hp hq =
      parted-by w n.level a ds (rows_in w n.level ds p) (rows_in w m.level dt q) h.held.0 (below w d ds n h a p lp hp)
      (Each-each (rows_in w m.level dt q) (λ r u. turn r u) (from w d dt m k a q lq hq))
    where
      turn : (r : Row) → IsUnder w (m.level + 1) dt r × (a ≤ row_address w m.level r) → IsUnder w (n.level + 1) ds r × (a ≤ row_address w n.level r)
      turn r = subst (λ c. IsUnder w (c + 1) dt r × (a ≤ row_address w c r) → IsUnder w (n.level + 1) ds r ×
          (a ≤ row_address w n.level r)) (sym same) (λ u. (u.0 ∙ agree, u.1))

  -- an address at the level of the one is one at that of the other
  here-at : (P : ℕ → Type 0) (rows : List Row) → Each (λ r. P (row_address w m.level r)) rows → Each (λ r. P (row_address w n.level r)) rows
  here-at P rows = subst (λ c. Each (λ r. P (row_address w m.level r)) rows → Each (λ r. P (row_address w c r)) rows) same (λ u. u)

  there-at : (P : ℕ → Type 0) (rows : List Row) → Each (λ r. P (row_address w n.level r)) rows → Each (λ r. P (row_address w m.level r)) rows
  there-at P rows = subst (λ c. Each (λ r. P (row_address w c r)) rows → Each (λ r. P (row_address w m.level r)) rows) same (λ u. u)

  module _ (i j : ℕ) where
    abbrev lefts : List Row
    lefts = rows_on w n.level ds (entries n) i

    abbrev rights : List Row
    rights = rows_on w m.level dt (entries m) j

    -- entries that are passed up to an address of the other node
    module _ (q : ℕ) (l : i ≤ q) (lj : j < length (entries m)) (next : IsNext (addr_at (entries m) j) q (entries n)) where
      abbrev passed : List Row
      passed = rows_in w n.level ds (stretch i q (entries n))

      abbrev address : ℕ
      address = addr_at (entries m) j

      passed-lawful : Each (IsLawfulEntry d n.level) (stretch i q (entries n))
      passed-lawful = Each-stretch (IsLawfulEntry d n.level) i q (entries n) (lawful w d ds n h)

      passed-low : Each (λ f. f.addr < address) (stretch i q (entries n))
      passed-low = each-front (λ f. f.addr < address) i q (entries n) next.front l

      rights-lawful : Each (IsLawfulEntry d m.level) (stretch j (length (entries m)) (entries m))
      rights-lawful = Each-stretch (IsLawfulEntry d m.level) j (length (entries m)) (entries m) (lawful w d dt m k)

      rights-high : Each (λ f. address ≤ f.addr) (stretch j (length (entries m)) (entries m))
      rights-high = rest-from 0 (entries m) j (rising w d dt m k) lj

      pub passed-first : AreParted w passed rights
      passed-first =
          parted address (stretch i q (entries n)) (stretch j (length (entries m)) (entries m)) passed-lawful rights-lawful passed-low rights-high

      pub passed-rows : lefts ≡ passed ++ rows_on w n.level ds (entries n) q
      passed-rows = rows-on w n.level ds (entries n) i q l next.within

      -- the work of what is passed, and of the other node's entries beside what is left
      pub passed-work : (keep : Bool) →
          seen_nodes w keep [] (nodes_in w n.level ds (stretch i q (entries n))) + seen_nodes w keep rights
          (nodes_on w n.level ds (entries n) q) ≡ seen_nodes w keep rights (nodes_on w n.level ds (entries n) i)
      passed-work keep =
          let mine = nodes_in w n.level ds (stretch i q (entries n)) in
          let rest = nodes_on w n.level ds (entries n) q in
          let a : seen_nodes w keep rights (nodes_on w n.level ds (entries n) i) ≡ seen_nodes w keep rights mine + seen_nodes w keep rights rest =
          ap (seen_nodes w keep rights) (nodes-on w n.level ds (entries n) i q l next.within) ∙ seen-append w keep rights mine rest in
          let b : seen_nodes w keep rights mine ≡ seen_nodes w keep [] mine =
          seen-none w keep rights mine (low-missed w d ds n h address (stretch i q (entries n)) passed-lawful passed-low rights
          (here-at (λ c. address ≤ c) rights (from-at w d dt m k address (stretch j (length (entries m)) (entries m)) rights-lawful rights-high))) in
          omega (arith, a, b)

      pub passed-other : (keep : Bool) →
          seen_nodes w keep (rows_on w n.level ds (entries n) q) (nodes_on w m.level dt (entries m) j) ≡ seen_nodes w keep lefts (nodes_on w m.level dt (entries m) j)
      passed-other keep =
          let ms = nodes_on w m.level dt (entries m) j in
          sym (ap (λ t. seen_nodes w keep t ms) passed-rows ∙ seen-back w keep passed (rows_on w n.level ds (entries n) q) ms
          (high-missed w d dt m k address (stretch j (length (entries m)) (entries m)) rights-lawful rights-high passed
          (there-at (λ c. c < address) passed (below-at w d ds n h address (stretch i q (entries n)) passed-lawful passed-low))))

    -- two entries at one address
    module _ (li : i < length (entries n)) (lj : j < length (entries m)) (e : addr_at (entries m) j ≡ addr_at (entries n) i) where
      abbrev one : Entry
      one = entry_at (entries n) i

      abbrev other : Entry
      other = entry_at (entries m) j

      abbrev mine : List Row
      mine = part_rows w (behind n.level ds one) one.what

      abbrev theirs : List Row
      theirs = part_rows w (behind m.level dt other) other.what

      other-lawful : IsLawfulEntry d m.level other
      other-lawful = lawful-at w d dt m k j lj

      other-at : Each (IsRowAt w m.level other.addr dt) theirs
      other-at = behind-rows w d m.level dt k.held.0 (record { long = k.long; zeros = k.held.1 }) k.small other other-lawful

      -- the rows of the one entry lie at the address in the other node too
      one-at : Each (IsRowAt w n.level one.addr ds) theirs
      one-at = subst (λ b. Each (IsRowAt w n.level b ds) theirs) e (Each-each theirs (turned w other.addr n.level m.level ds dt same agree) other-at)

      other-some : 1 ≤ length theirs
      other-some = part-some w d (behind m.level dt other) other.what
          (behind-part w d m.level dt k.held.0 (record { long = k.long; zeros = k.held.1 }) k.small other other-lawful)

      pub theirs-first : AreParted w theirs (rows_on w n.level ds (entries n) (i + 1))
      theirs-first =
          back-parted w d ds n h one.addr theirs one-at (stretch (i + 1) (length (entries n)) (entries n))
          (Each-stretch (IsLawfulEntry d n.level) (i + 1) (length (entries n)) (entries n) (lawful w d ds n h)) (rest-behind 0 (entries n) i (rising w d ds n h) li)

      -- the other node's rows behind the address lie in no node of the one entry, and those at it in no node behind
      others-missed : AreMissed w (entry_nodes w n.level (behind n.level ds one) one.what) (rows_on w m.level dt (entries m) (j + 1))
      others-missed =
          let others = rows_on w m.level dt (entries m) (j + 1) in
          one-missed w d ds n h one (lawful-at w d ds n h i li) others
          (Each-each others (λ r v. λ u. let x : other.addr + 1 ≤ row_address w n.level r = v in let y : row_address w n.level r ≡ one.addr = u in omega (arith, x, y, e))
          (here-at (λ c. other.addr + 1 ≤ c) others
          (from-at w d dt m k (other.addr + 1) (stretch (j + 1) (length (entries m)) (entries m))
          (Each-stretch (IsLawfulEntry d m.level) (j + 1) (length (entries m)) (entries m) (lawful w d dt m k)) (rest-behind 0 (entries m) j (rising w d dt m k) lj))))

      theirs-missed : AreMissed w (nodes_on w n.level ds (entries n) (i + 1)) theirs
      theirs-missed =
          high-missed w d ds n h (one.addr + 1) (stretch (i + 1) (length (entries n)) (entries n))
          (Each-stretch (IsLawfulEntry d n.level) (i + 1) (length (entries n)) (entries n) (lawful w d ds n h)) (rest-behind 0 (entries n) i (rising w d ds n h) li)
          theirs (Each-each theirs (λ r q. let x : row_address w n.level r ≡ one.addr = q.address in omega (arith, x)) one-at)

      pub both-rows : rights ≡ theirs ++ rows_on w m.level dt (entries m) (j + 1)
      both-rows = rows-next w m.level dt (entries m) j lj

      -- the work of the one entry beside the other, and of what is left beside the other's rest
      pub both-work : (keep : Bool) →
          openings one.what + seen_nodes w keep theirs (part_nodes w (behind n.level ds one) one.what) + seen_nodes w
          keep (rows_on w m.level dt (entries m) (j + 1)) (nodes_on w n.level ds (entries n) (i + 1)) ≡ seen_nodes w
          keep rights (nodes_on w n.level ds (entries n) i)
      both-work keep =
          let nodes = entry_nodes w n.level (behind n.level ds one) one.what in
          let rest = nodes_on w n.level ds (entries n) (i + 1) in
          let others = rows_on w m.level dt (entries m) (j + 1) in
          let a : seen_nodes w keep rights (nodes_on w n.level ds (entries n) i) ≡ seen_nodes w keep rights nodes +
          seen_nodes w keep rights rest = ap (seen_nodes w keep rights)
          (nodes-next w n.level ds (entries n) i li) ∙ seen-append w keep rights nodes rest in
          let b : seen_nodes w keep theirs nodes ≡ openings one.what + seen_nodes w keep theirs
          (part_nodes w (behind n.level ds one) one.what) = entry-seen w d ds n h keep one theirs
          (lawful-at w d ds n h i li) other-some one-at in
          let c : seen_nodes w keep rights nodes ≡ seen_nodes w keep theirs nodes =
          ap (λ t. seen_nodes w keep t nodes) both-rows ∙ seen-front w keep theirs others nodes others-missed in
          let f : seen_nodes w keep rights rest ≡ seen_nodes w keep others rest =
          ap (λ t. seen_nodes w keep t rest) both-rows ∙ seen-back w keep theirs others rest theirs-missed in
          omega (arith, a, b, c, f)
