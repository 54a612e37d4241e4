-- The laws of parts of trees: where their rows lie, and which regions hold them.
use Rattle.std.proofs.Common.{◌≡◌, ℕ, ◌+◌, ◌^◌, ◌<◌, ◌≤◌, true, ◌||◌, List, [], ◌∷◌, ◌++◌, length, refl, sym, ◌∙◌, ap, subst, arith, append_assoc}
use Rattle.std.specs.List.{AllByRecursion as Each, list_any}
use Rattle.ph_specs.specs.Table.{Row}
use Rattle.ph_specs.specs.Node.{PlainNode}
use Rattle.ph_model.specs.EntryList.{Entry, What, value, node}
use Rattle.ph_model.specs.Lawful.{IsAbove, IsLawfulEntry, IsLawfulWhat}
use Rattle.ph_specs.specs.Region.{is_in}
use Rattle.ph_specs.specs.Shape.{row_address}
use Rattle.ph_specs.specs.WorkSets.{Placed, placed_below}
use Rattle.ph_model.proofs.lemmas.Grouped.{same_place}
use Rattle.ph_model.proofs.lemmas.Joined.{offsets, from_place, number_at, offsets-coordinate, address_from-is}
use Rattle.ph_model.proofs.lemmas.Joined.{same_from, from_place-put_together, above-child, length-put_together}
use Rattle.ph_specs.proofs.lemmas.Members.{Each-each}
use Rattle.ph_model.proofs.lemmas.RowsBehind.{IsUnder, Each-append, rows-under, under-address, address-put_together, count-rows}
use Rattle.ph_model.proofs.laws.LawfulRows.{before-at, put_together-small}
use Rattle.ph_model.proofs.laws.Paths.{placed_child, holding}
use Rattle.ph_specs.specs.WorkSets.{holds_some}
use Rattle.ph_set.specs.Parts.{part_rows, height, IsHeld, IsPart, rows_in, nodes_in, behind}
use Rattle.ph_model.proofs.laws.Combined.{AreParted}

-- ---- the rows of a part

-- they have the digits that are known of it
pub part-under : (w d : ℕ) (ds : List ℕ) (o : What) → IsPart w d ds o → Each (IsUnder w (height o) ds) (part_rows w ds o)
part-under w d ds (value v) h = (ap (from_place 0) (offsets-coordinate w ds), tt)
part-under w d ds (node n) h =
    rows-under w d n.level 0 ds n.chain (record { long = h.long; zeros = h.held.1 }) h.held.2

-- there is one
pub part-some : (w d : ℕ) (ds : List ℕ) (o : What) → IsPart w d ds o → 1 ≤ length (part_rows w ds o)
part-some w d ds (value v) h = omega arith
part-some w d ds (node n) h =
    omega (arith, h.held.3, count-rows w d n.level 0 ds n.chain h.held.2)

-- ---- rows that lie at one address, below the digits that are known above a level

pub record IsRowAt (w c a : ℕ) (ds : List ℕ) (r : Row) : Type 0 where
  pub under : IsUnder w (c + 1) ds r
  pub address : row_address w c r ≡ a

-- a lower part
pub part-at : (w d c : ℕ) (ds es : List ℕ) (o : What) → IsPart w d es o → height o ≤ c →
    from_place (c + 1) es ≡ from_place (c + 1) ds → Each (IsRowAt w c (number_at 0 c es) ds) (part_rows w es o)
part-at w d c ds es o h l e =
    Each-each (part_rows w es o)
    (λ r u. record { under = same_from (height o) (c + 1) (offsets w r.point) es (omega (arith, l)) u ∙ e; address = under-address w (height o) c es r l u })
    (part-under w d es o h)

-- ---- entries

pub rows-first : (w c : ℕ) (ds : List ℕ) (e : Entry) (es : List Entry) → rows_in w c ds (e ∷ es) ≡ part_rows w (behind c ds e) e.what ++ rows_in w c ds es
rows-first w c ds e es = by_what e.what
  where
    by_what : (o : What) → rows_in w c ds (record { addr = e.addr; body = e.body; what = o } ∷ es) ≡ part_rows w (behind c ds e) o ++ rows_in w c ds es
    by_what (value v) = refl
    by_what (node n) = refl

pub rows-append : (w c : ℕ) (ds : List ℕ) (xs ys : List Entry) → rows_in w c ds (xs ++ ys) ≡ rows_in w c ds xs ++ rows_in w c ds ys
rows-append w c ds [] ys = refl
rows-append w c ds (x ∷ xs) ys =
    rows-first w c ds x (xs ++ ys) ∙ ap (λ t. part_rows w (behind c ds x) x.what ++ t) (rows-append w c ds xs ys)
    ∙ sym (append_assoc (part_rows w (behind c ds x) x.what) (rows_in w c ds xs) (rows_in w c ds ys))
    ∙ ap (λ t. t ++ rows_in w c ds ys) (sym (rows-first w c ds x xs))

-- the node of an entry and those below it
abbrev pub entry_nodes : ℕ → ℕ → List ℕ → What → List Placed
entry_nodes w c known (value v) = []
entry_nodes w c known (node n) = placed_child w c n.level known n.chain ∷ placed_below w n.level known n.chain

pub nodes-first : (w c : ℕ) (ds : List ℕ) (e : Entry) (es : List Entry) → nodes_in w c ds (e ∷ es) ≡ entry_nodes w c (behind c ds e) e.what ++ nodes_in w c ds es
nodes-first w c ds e es = by_what e.what
  where
    by_what : (o : What) → nodes_in w c ds (record { addr = e.addr; body = e.body; what = o } ∷ es) ≡ entry_nodes w c (behind c ds e) o ++ nodes_in w c ds es
    by_what (value v) = refl
    by_what (node n) = refl

pub nodes-append : (w c : ℕ) (ds : List ℕ) (xs ys : List Entry) → nodes_in w c ds (xs ++ ys) ≡ nodes_in w c ds xs ++ nodes_in w c ds ys
nodes-append w c ds [] ys = refl
nodes-append w c ds (x ∷ xs) ys =
    nodes-first w c ds x (xs ++ ys) ∙ ap (λ t. entry_nodes w c (behind c ds x) x.what ++ t) (nodes-append w c ds xs ys)
    ∙ sym (append_assoc (entry_nodes w c (behind c ds x) x.what) (nodes_in w c ds xs) (nodes_in w c ds ys))
    ∙ ap (λ t. t ++ nodes_in w c ds ys) (sym (nodes-first w c ds x xs))

-- ---- the part behind an entry

module _ (w d c : ℕ) (ds : List ℕ) (l : c < w) (k : IsAbove d c ds) (s : Each (λ x. x < 2 ^ w) ds) where
  pub behind-part : (e : Entry) → IsLawfulEntry d c e → IsPart w d (behind c ds e) e.what
  behind-part e h =
      record {
        long = length-put_together c e.addr ds e.body (k.long ∙ sym h.body.0) ∙ k.long;
        small = put_together-small w c e.addr ds e.body l k.zeros s h.body.1;
        held = by_what e.what h.held;
      }
    where
      by_what : (o : What) → IsLawfulWhat d c e.body o → IsHeld w d (behind c ds e) o
      by_what (value v) m = tt
      by_what (node n) m =
          let i : IsAbove d n.level (behind c ds e) = above-child d c n.level e.addr ds e.body m.0 k h.body m.1 in
          (omega (arith, m.0, l), i.zeros, m.3, omega (arith, m.2))

  pub behind-height : (e : Entry) → IsLawfulEntry d c e → height e.what ≤ c
  behind-height e h = by_what e.what h.held
    where
      by_what : (o : What) → IsLawfulWhat d c e.body o → height o ≤ c
      by_what (value v) m = omega arith
      by_what (node n) m = omega (arith, m.0)

  pub behind-from : (e : Entry) → IsLawfulEntry d c e → from_place (c + 1) (behind c ds e) ≡ from_place (c + 1) ds
  behind-from e h = from_place-put_together c e.addr ds e.body (k.long ∙ sym h.body.0) k.zeros h.body.1

  pub behind-address : (e : Entry) → IsLawfulEntry d c e → number_at 0 c (behind c ds e) ≡ e.addr
  behind-address e h = address-put_together d c e.addr ds e.body k h.body h.address

  pub behind-rows : (e : Entry) → IsLawfulEntry d c e → Each (IsRowAt w c e.addr ds) (part_rows w (behind c ds e) e.what)
  behind-rows e h =
      subst (λ a. Each (IsRowAt w c a ds) (part_rows w (behind c ds e) e.what)) (behind-address e h)
      (part-at w d c ds (behind c ds e) e.what (behind-part e h) (behind-height e h) (behind-from e h))

  -- ---- entries at addresses below a number, and from it on

  pub record IsRowBelow (a : ℕ) (r : Row) : Type 0 where
    pub under : IsUnder w (c + 1) ds r
    pub address : row_address w c r < a

  pub record IsRowFrom (a : ℕ) (r : Row) : Type 0 where
    pub under : IsUnder w (c + 1) ds r
    pub address : a ≤ row_address w c r

  pub rows-below : (a : ℕ) (es : List Entry) → Each (IsLawfulEntry d c) es → Each (λ e. e.addr < a) es → Each (IsRowBelow a) (rows_in w c ds es)
  rows-below a [] h m = tt
  rows-below a (e ∷ es) h m =
      subst (Each (IsRowBelow a)) (sym (rows-first w c ds e es))
      (Each-append (IsRowBelow a) (part_rows w (behind c ds e) e.what) (rows_in w c ds es)
      (Each-each (part_rows w (behind c ds e) e.what)
      (λ r q. let g : row_address w c r ≡ e.addr = q.address in let n : e.addr < a = m.0 in
      record { under = q.under; address = omega (arith, g, n) }) (behind-rows e h.0))
      (rows-below a es h.1 m.1))

  pub rows-from : (a : ℕ) (es : List Entry) → Each (IsLawfulEntry d c) es → Each (λ e. a ≤ e.addr) es → Each (IsRowFrom a) (rows_in w c ds es)
  rows-from a [] h m = tt
  rows-from a (e ∷ es) h m =
      subst (Each (IsRowFrom a)) (sym (rows-first w c ds e es))
      (Each-append (IsRowFrom a) (part_rows w (behind c ds e) e.what) (rows_in w c ds es)
      (Each-each (part_rows w (behind c ds e) e.what)
      (λ r q. let g : row_address w c r ≡ e.addr = q.address in let n : a ≤ e.addr = m.0 in
      record { under = q.under; address = omega (arith, g, n) }) (behind-rows e h.0))
      (rows-from a es h.1 m.1))

  -- the region of the child of an entry holds each row at its address
  pub entry-holds : (e : Entry) (n : PlainNode) → IsLawfulEntry d c e → e.what ≡ node n → 1 ≤ c → (rs : List Row) →
      1 ≤ length rs → Each (IsRowAt w c e.addr ds) rs → holds_some w rs (placed_child w c n.level (behind c ds e) n.chain) ≡ true
  entry-holds e n h o p [] some at = absurd (omega (arith, some))
  entry-holds e n h o p (r ∷ rs) some at =
      let number : number_at 0 c (offsets w r.point) ≡ number_at 0 c (behind c ds e) = sym (address_from-is w 0 c r.point) ∙ at.0.address ∙ sym (behind-address e h) in
      let same : from_place c (offsets w r.point) ≡ from_place c (behind c ds e) = same_place 0 c (offsets w r.point)
      (behind c ds e) (at.0.under ∙ sym (behind-from e h)) number in
      ap (λ t. t || list_any (λ s. is_in w (placed_child w c n.level (behind c ds e) n.chain).region s.point) rs)
      (holding w c n.level (behind c ds e) n.chain r.point p same)

-- ---- rows whose digits tell which come first

pub parted-by : (w c a : ℕ) (ds : List ℕ) (rs ss : List Row) → c < w →
    Each (λ r. IsUnder w (c + 1) ds r × (row_address w c r < a)) rs →
    Each (λ s. IsUnder w (c + 1) ds s × (a ≤ row_address w c s)) ss → AreParted w rs ss
parted-by w c a ds rs ss l h k =
    Each-each rs
    (λ r p. Each-each ss
    (λ s q. before-at w c w r.point s.point l
    (λ j i. under-address w (c + 1) j ds r (omega (arith, i)) p.0 ∙
    sym (under-address w (c + 1) j ds s (omega (arith, i)) q.0))
    (let m : row_address w c r < a = p.1 in let n : a ≤ row_address w c s = q.1 in omega (arith, m, n)))
    k)
    h
