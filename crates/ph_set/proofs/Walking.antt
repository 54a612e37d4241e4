-- Entries of a node one by one.
use Rattle.std.proofs.Common.{◌≡◌, ◌≢◌, ℕ, zero, suc, ◌+◌, ◌-◌, ◌<◌, ◌≤◌, inl, inr, cond, not, Bool, true, false, ltb-false, List}
use Rattle.std.proofs.Common.{[], ◌∷◌, ◌++◌, length, take, drop, refl, sym, ◌∙◌, ap, subst, arith, length-append}
use Rattle.std.specs.Prelude.{Option, Some, None, slice_get, position, nat_le, nat_lt}
use Rattle.std.specs.List.{AllByRecursion as Each}
use Rattle.std.proofs.lemmas.List.{take-append-drop}
use Rattle.std.proofs.lemmas.Bool.{cases_lt, le-leb, lt-leb, eqb-false}
use Rattle.ph_specs.specs.Node.{PlainNode}
use Rattle.ph_model.specs.EntryList.{Entry, What, value, node, entries}
use Rattle.ph_model.specs.EntryEdits.{what_at, has_address}
use Rattle.ph_specs.specs.TreeRows.{put_together}
use Rattle.ph_model.specs.Lawful.{IsBody, IsLawfulEntry}
use Rattle.ph_model.proofs.laws.EntryLists.{chained-listed, entry-lawful}
use Rattle.ph_model.proofs.laws.EntryEdits.{IsAbsent, absent-by}
use Rattle.ph_specs.proofs.lemmas.Members.{Each-each}
use Rattle.ph_node.specs.Merge.{addr_at}
use Rattle.ph_node.specs.Places.{place_for}
use Rattle.ph_node.specs.Split.{body_at}
use Rattle.ph_node.specs.Spots.{IsSpot, joined_digits}
use Rattle.ph_node.specs.declared.spots.Spot.{Spot}
use Rattle.ph_path.proofs.Knowns.{above-whole, wider}
use Rattle.ph_path.proofs.Paths.{drop-at}
use Rattle.ph_path.proofs.Rising.{Rising}
use Rattle.ph_set.specs.Parts.{IsPart, height, part_rows, part_nodes, rows_in, nodes_in, behind, openings, stretch}
use Rattle.ph_set.proofs.Parting.{rows-first, nodes-first, entry_nodes, behind-part, behind-height}

-- entry i
abbrev pub entry_at : List Entry → ℕ → Entry
entry_at es i = record { addr = addr_at es i; body = body_at es i; what = what_at es i }

pub entry-there : (es : List Entry) (i : ℕ) → i < length es → slice_get es i ≡ Some (entry_at es i)
entry-there [] i l = absurd (omega (arith, l))
entry-there (x ∷ es) zero l = refl
entry-there (x ∷ es) (suc i) l = entry-there es i (omega (arith, l))

-- ---- stretches

pub stretch-step : (from to : ℕ) (es : List Entry) → from < to → to ≤ length es → stretch from to es ≡ entry_at es from ∷ stretch (from + 1) to es
stretch-step from to es l m =
    let d : drop from es ≡ entry_at es from ∷ drop (from + 1) es = drop-at es from (entry_at es from) (entry-there es from (omega (arith, l, m))) in
    let n : to - from ≡ suc (to - (from + 1)) = omega (arith, l) in
    ap (take (to - from)) d ∙ ap (λ k. take k (entry_at es from ∷ drop (from + 1) es)) n

pub stretch-none : (from to : ℕ) (es : List Entry) → to ≤ from → stretch from to es ≡ []
stretch-none from to es l = let n : to - from ≡ 0 = omega (arith, l) in ap (λ k. take k (drop from es)) n ∙ none (drop from es)
  where
    none : (xs : List Entry) → take 0 xs ≡ []
    none [] = refl
    none (x ∷ xs) = refl

pub take-whole : {X : Type 0} (k : ℕ) (xs : List X) → length xs ≤ k → take k xs ≡ xs
take-whole k [] l = nothing k
  where
    nothing : {X : Type 0} (k : ℕ) → take {A = X} k [] ≡ []
    nothing zero = refl
    nothing (suc k) = refl
take-whole {X = X} zero (x ∷ xs) l = absurd (omega (arith, l))
take-whole {X = X} (suc k) (x ∷ xs) l = ap {B = List X} (λ t. x ∷ t) (take-whole k xs (omega (arith, l)))

pub stretch-rest : (from to : ℕ) (es : List Entry) → length es ≤ to → stretch from to es ≡ drop from es
stretch-rest from to es l = take-whole (to - from) (drop from es) (short from to es l)
  where
    short : (from to : ℕ) (es : List Entry) → length es ≤ to → length (drop from es) ≤ to - from
    short zero to es l = omega (arith, l)
    short (suc from) to [] l = omega arith
    short (suc from) to (x ∷ es) l = let ih : length (drop from es) ≤ (to - 1) - from = short from (to - 1) es (omega (arith, l)) in omega (arith, ih, l)

-- ---- a whole node

pub whole-rows : (w : ℕ) (ds : List ℕ) (n : PlainNode) (k : ℕ) → k ≡ length (entries n) → rows_in w n.level ds (stretch 0 k (entries n)) ≡ part_rows w ds (node n)
whole-rows w ds n k e =
    ap (rows_in w n.level ds) (stretch-rest 0 k (entries n) (omega (arith, e))) ∙
    ap (λ c. part_rows w ds (node (record { level = n.level; chain = c }))) (chained-listed n.chain)

pub whole-nodes : (w : ℕ) (ds : List ℕ) (n : PlainNode) (k : ℕ) → k ≡ length (entries n) → nodes_in w n.level ds (stretch 0 k (entries n)) ≡ part_nodes w ds (node n)
whole-nodes w ds n k e =
    ap (nodes_in w n.level ds) (stretch-rest 0 k (entries n) (omega (arith, e))) ∙
    ap (λ c. part_nodes w ds (node (record { level = n.level; chain = c }))) (chained-listed n.chain)

-- ---- an entry that is looked at

pub wide-digits : (w d : ℕ) (ds : List ℕ) (o : What) → w ≤ 62 → IsPart w d ds o → IsBody d 62 ds
wide-digits w d ds o l h = wider d w 62 ds l (h.long, h.small)

module _ (w d : ℕ) (ds : List ℕ) (n : PlainNode) (h : IsPart w d ds (node n)) (s : Spot) (i : ℕ) (e : s.place ≡ i) (at : IsSpot (entries n) s) where
  pub entry-is : IsLawfulEntry d n.level (entry_at (entries n) i)
  entry-is = entry-lawful d n.level 0 i n.chain (entry_at (entries n) i) h.held.2
      (entry-there (entries n) i (let m : s.place < length (entries n) = at.within in omega (arith, m, e)))

  module _ (new : List ℕ) (o : What) (made : new ≡ joined_digits n s ds) (held : o ≡ what_at (entries n) s.place) where
    pub new-digits : new ≡ behind n.level ds (entry_at (entries n) i)
    new-digits =
        made ∙ ap (λ t. put_together n.level s.addr t (body_at (entries n) s.place)) (above-whole n.level ds h.held.1)
        ∙ ap (λ a. put_together n.level a ds (body_at (entries n) s.place)) at.address ∙ ap (λ k. behind n.level ds (entry_at (entries n) k)) e

    pub new-held : o ≡ (entry_at (entries n) i).what
    new-held = held ∙ ap (what_at (entries n)) e

    pub new-part : IsPart w d new o
    new-part =
        subst (λ t. IsPart w d t o) (sym new-digits) (subst (λ t. IsPart w d (behind n.level ds (entry_at (entries n) i)) t) (sym new-held)
        (behind-part w d n.level ds h.held.0 (record { long = h.long; zeros = h.held.1 }) h.small (entry_at (entries n) i) entry-is))

    pub new-height : height o ≤ n.level
    new-height =
        subst (λ t. height t ≤ n.level) (sym new-held)
        (behind-height w d n.level ds h.held.0 (record { long = h.long; zeros = h.held.1 }) h.small
        (entry_at (entries n) i) entry-is)

-- a part that was made of an entry is lawful, and from no higher place on are all of its digits known
pub new-lawful : (w d : ℕ) (ds : List ℕ) (n : PlainNode) → IsPart w d ds (node n) → (s : Spot) → IsSpot (entries n) s → (new : List ℕ) (o : What) →
    new ≡ joined_digits n s ds → o ≡ what_at (entries n) s.place → IsPart w d new o × (height o ≤ n.level)
new-lawful w d ds n h s at new o made held =
    (new-part w d ds n h s s.place refl at new o made held, new-height w d ds n h s s.place refl at new o made held)

-- the digits behind an entry, as a visit of it makes them
pub spot-behind : (w d : ℕ) (ds : List ℕ) (n : PlainNode) → IsPart w d ds (node n) → (s : Spot) → IsSpot (entries n) s
    → behind n.level ds (entry_at (entries n) s.place) ≡ joined_digits n s ds
spot-behind w d ds n h s at =
    ap (λ a. put_together n.level a ds (body_at (entries n) s.place)) (sym at.address) ∙
    ap (λ t. put_together n.level s.addr t (body_at (entries n) s.place)) (sym (above-whole n.level ds h.held.1))

-- the rows and the nodes of an entry in front of those of a stretch
pub step-rows : (w c from to : ℕ) (ds new : List ℕ) (o : What) (es : List Entry) → from < to → to ≤ length es → new ≡ behind c ds (entry_at es from)
    → o ≡ (entry_at es from).what → rows_in w c ds (stretch from to es) ≡ part_rows w new o ++ rows_in w c ds (stretch (from + 1) to es)
step-rows w c from to ds new o es l m e f =
    ap (rows_in w c ds) (stretch-step from to es l m) ∙ rows-first w c ds (entry_at es from) (stretch (from + 1) to es)
    ∙ ap (λ t. part_rows w t (entry_at es from).what ++ rows_in w c ds (stretch (from + 1) to es)) (sym e) ∙
    ap (λ t. part_rows w new t ++ rows_in w c ds (stretch (from + 1) to es)) (sym f)

pub entry-count : (w c : ℕ) (ds : List ℕ) (o : What) → length (entry_nodes w c ds o) ≡ openings o + length (part_nodes w ds o)
entry-count w c ds (value v) = refl
entry-count w c ds (node n) = omega arith

pub step-nodes : (w c from to : ℕ) (ds new : List ℕ) (o : What) (es : List Entry) → from < to → to ≤ length es → new ≡ behind c ds (entry_at es from)
    → o ≡ (entry_at es from).what
    → length (nodes_in w c ds (stretch from to es)) ≡ openings o + length (part_nodes w new o) + length (nodes_in w c ds (stretch (from + 1) to es))
step-nodes w c from to ds new o es l m e f =
    let a : length (nodes_in w c ds (stretch from to es)) ≡
    length (entry_nodes w c (behind c ds (entry_at es from)) (entry_at es from).what ++
    nodes_in w c ds (stretch (from + 1) to es)) =
    ap (λ t. length (nodes_in w c ds t)) (stretch-step from to es l m) ∙ ap (λ t. length t) (nodes-first w c ds (entry_at es from) (stretch (from + 1) to es)) in
    let b : length (entry_nodes w c (behind c ds (entry_at es from)) (entry_at es from).what) ≡ openings o + length (part_nodes w new o) =
    entry-count w c (behind c ds (entry_at es from)) (entry_at es from).what ∙
    ap (λ t. openings (entry_at es from).what + length (part_nodes w t (entry_at es from).what)) (sym e) ∙
    ap (λ t. openings t + length (part_nodes w new t)) (sym f) in
    omega (arith, a, b, length-append (entry_nodes w c (behind c ds (entry_at es from)) (entry_at es from).what) (nodes_in w c ds (stretch (from + 1) to es)))

-- ---- addresses rise

pub rising-from : (least : ℕ) (es : List Entry) → Rising least es → Each (λ e. least ≤ e.addr) es
rising-from least [] h = tt
rising-from least (e ∷ es) h = (
  h.0,
  Each-each es (λ f l. let m : e.addr + 1 ≤ f.addr = l in let n : least ≤ e.addr = h.0 in omega (arith, m, n))
      (rising-from (e.addr + 1) es h.1),
)

-- behind entry i, and in front of it
pub rising-behind : (least : ℕ) (es : List Entry) (i : ℕ) → Rising least es → i < length es
    → (least ≤ addr_at es i) × Each (λ f. addr_at es i + 1 ≤ f.addr) (drop (i + 1) es)
rising-behind least [] i h l = absurd (omega (arith, l))
rising-behind least (e ∷ es) zero h l = (h.0, rising-from (e.addr + 1) es h.1)
rising-behind least (e ∷ es) (suc i) h l =
    let ih : (e.addr + 1 ≤ addr_at es i) × Each (λ f. addr_at es i + 1 ≤ f.addr) (drop (i + 1) es) = rising-behind (e.addr + 1) es i h.1 (omega (arith, l)) in
    (omega (arith, ih.0, h.0), subst (λ k. Each (λ f. addr_at es i + 1 ≤ f.addr) (drop k (e ∷ es))) (let n : suc (i + 1) ≡ suc i + 1 = omega arith in n) ih.1)

pub rising-front : (least : ℕ) (es : List Entry) (i : ℕ) → Rising least es → i < length es → Each (λ f. f.addr < addr_at es i) (take i es)
rising-front least [] i h l = absurd (omega (arith, l))
rising-front least (e ∷ es) zero h l = tt
rising-front least (e ∷ es) (suc i) h l =
    let m : (e.addr + 1 ≤ addr_at es i) × Each (λ f. addr_at es i + 1 ≤ f.addr) (drop (i + 1) es) = rising-behind (e.addr + 1) es i h.1 (omega (arith, l)) in
    (omega (arith, m.0), rising-front (e.addr + 1) es i h.1 (omega (arith, l)))

-- an address that no entry has
pub record IsCut (a i : ℕ) (es : List Entry) : Type 0 where
  pub within : i ≤ length es
  pub front : Each (λ f. f.addr < a) (take i es)
  pub back : Each (λ f. a + 1 ≤ f.addr) (drop i es)

cut-absent : (a least : ℕ) (es : List Entry) → Rising least es → IsAbsent a es → IsCut a (place_for a es) es
cut-absent a least [] h n = record { within = omega arith; front = tt; back = tt }
cut-absent a least (e ∷ es) h n =
    elim (cases_lt e.addr a) [
      | inl l ↦
          let p : place_for a (e ∷ es) ≡ suc (place_for a es) = ap {B = ℕ} (λ b. cond (not b) (1 + place_for a es) 0)
          (lt-leb a e.addr l) ∙ (let o : 1 + place_for a es ≡ suc (place_for a es) = omega arith in o) in
          let ih : IsCut a (place_for a es) es = cut-absent a (e.addr + 1) es h.1 n.1 in
          let m : place_for a es ≤ length es = ih.within in
          subst (λ i. IsCut a i (e ∷ es)) (sym p) (record { within = omega (arith, m); front = (l, ih.front); back = ih.back })
      | inr l ↦
          let p : place_for a (e ∷ es) ≡ 0 = ap {B = ℕ} (λ b. cond (not b) (1 + place_for a es) 0) (le-leb a e.addr l) in
          let d : e.addr ≢ a = eqb-false e.addr a n.0 in
          subst (λ i. IsCut a i (e ∷ es)) (sym p)
          (record {
            within = omega arith;
            front = tt;
            back = (
              omega (arith, l, d),
              Each-each es
                  (λ f m. let k : e.addr + 1 ≤ f.addr = m in omega (arith, k, l)) (rising-from (e.addr + 1) es h.1),
            );
          })
    ]

pub cut-place : (a i least : ℕ) (es : List Entry) → Rising least es → None ≡ position (has_address a) es → i ≡ place_for a es → IsCut a i es
cut-place a i least es h n p = subst (λ k. IsCut a k es) (sym p) (cut-absent a least es h (absent-by a es (sym n)))

-- the first entry whose address is not below a number, or what is behind all entries
pub record IsNext (a q : ℕ) (es : List Entry) : Type 0 where
  pub within : q ≤ length es
  pub front : Each (λ f. f.addr < a) (take q es)
  pub here : q < length es → a ≤ addr_at es q

next-of : (a : ℕ) (es : List Entry) → IsNext a (place_for a es) es
next-of a [] = record { within = omega arith; front = tt; here = λ l. absurd (omega (arith, l)) }
next-of a (e ∷ es) =
    elim (cases_lt e.addr a) [
      | inl l ↦
          let p : place_for a (e ∷ es) ≡ suc (place_for a es) = ap {B = ℕ} (λ b. cond (not b) (1 + place_for a es) 0)
          (lt-leb a e.addr l) ∙ (let o : 1 + place_for a es ≡ suc (place_for a es) = omega arith in o) in
          let ih : IsNext a (place_for a es) es = next-of a es in
          let m : place_for a es ≤ length es = ih.within in
          subst (λ i. IsNext a i (e ∷ es)) (sym p) (record { within = omega (arith, m); front = (l, ih.front); here = λ u. ih.here (omega (arith, u)) })
      | inr l ↦
          let p : place_for a (e ∷ es) ≡ 0 = ap {B = ℕ} (λ b. cond (not b) (1 + place_for a es) 0) (le-leb a e.addr l) in
          subst (λ i. IsNext a i (e ∷ es)) (sym p) (record { within = omega arith; front = tt; here = λ u. omega (arith, l) })
    ]

-- where no entry has such an address
pub place-none : (a : ℕ) (es : List Entry) → position (λ e. nat_le a e.addr) es ≡ None → length es ≡ place_for a es
place-none a es h = by_test (nat_lt (place_for a es) (length es)) refl
  where
    by_test : (t : Bool) → nat_lt (place_for a es) (length es) ≡ t → length es ≡ place_for a es
    by_test true e =
        let no : ◌≡◌ {A = Option ℕ} (Some (place_for a es)) None = sym (ap {B = Option ℕ} (λ t. cond t (Some (place_for a es)) None) e) ∙ h in cc
    by_test false e =
        let l : length es ≤ place_for a es = ltb-false (place_for a es) (length es) e in
        let m : place_for a es ≤ length es = (next-of a es).within in
        omega (arith, l, m)

pub next-place : (a q : ℕ) (es : List Entry) → q ≡ place_for a es → IsNext a q es
next-place a q es e = subst (λ i. IsNext a i es) (sym e) (next-of a es)

-- all entries, cut at one of them or between two
pub stretch-front : (i : ℕ) (es : List Entry) → stretch 0 i es ≡ take i es
stretch-front i es = let n : i - 0 ≡ i = omega arith in ap (λ k. take k es) n

pub cut-entry : (i : ℕ) (es : List Entry) → i < length es → es ≡ stretch 0 i es ++ (entry_at es i ∷ stretch (i + 1) (length es) es)
cut-entry i es l =
    sym (take-append-drop i es) ∙ ap (λ t. take i es ++ t) (drop-at es i (entry_at es i) (entry-there es i l))
    ∙ ap {B = List Entry} (λ t. take i es ++ (entry_at es i ∷ t)) (sym (stretch-rest (i + 1) (length es) es (omega arith)))
    ∙ ap (λ t. t ++ (entry_at es i ∷ stretch (i + 1) (length es) es)) (sym (stretch-front i es))

pub cut-between : (i : ℕ) (es : List Entry) → es ≡ stretch 0 i es ++ stretch i (length es) es
cut-between i es =
    sym (take-append-drop i es) ∙ ap (λ t. take i es ++ t) (sym (stretch-rest i (length es) es (omega arith))) ∙
    ap (λ t. t ++ stretch i (length es) es) (sym (stretch-front i es))
