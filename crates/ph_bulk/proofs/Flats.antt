-- What is written of a part is the entry that it makes.
use Rattle.std.proofs.Common.{◌≡◌, ℕ, zero, suc, ◌+◌, ◌<◌, ◌≤◌, true, List, [], ◌∷◌, length, map, get_or, refl, sym, ◌∙◌, ap, subst, arith, lt-ltb}
use Rattle.std.specs.Prelude.{Option, Some, None, slice_get, IsTrue}
use Rattle.std.specs.List.{list_all, AllByRecursion as Each}
use Rattle.std.proofs.lemmas.Bool.{and_parts}
use Rattle.ph_specs.specs.TreeRows.{count}
use Rattle.ph_model.specs.Lawful.{IsLawfulFrom, IsLawfulWhat, IsLawfulEntry}
use Rattle.ph_specs.specs.Node.{Entries, PlainNode, flat}
use Rattle.ph_model.specs.EntryList.{Entry, node}
use Rattle.ph_model.specs.NodeSize.{node_size}
use Rattle.ph_specs.specs.Shape.{node_below}
use Rattle.ph_specs.specs.Table.{Row}
use Rattle.ph_specs.proofs.laws.Put.{and}
use Rattle.ph_shape.specs.Groups.{IsGroup, group_entry}
use Rattle.ph_bulk.specs.declared.parts.Part.{Part}
use Rattle.ph_bulk.specs.Parts.{rows_in, entry_in, chain_of, flat_entry, IsSplit, IsPart, node_made, made_flat, flat_in, can_write, is_ready}
use Rattle.ph_bulk.proofs.Chains.{flat-chained, held, what_size}

pub get-map-map : {X Y Z : Type 0} (k : Y → Z) (f : X → Y) (xs : List X) (i : ℕ) (x : X) → i < length xs →
    x ≡ get_or xs i x → slice_get (map k (map f xs)) i ≡ Some (k (f x))
get-map-map k f [] i x l e = absurd (let no : ⊥ = omega (arith, l) in no)
get-map-map {X} {Y} {Z} k f (y ∷ xs) zero x l e = ap {B = Option Z} (λ t. Some (k (f t))) (sym e)
get-map-map k f (y ∷ xs) (suc i) x l e = get-map-map k f xs i x (omega (arith, l)) e

-- ---- one part

flat-split : (w dims place : ℕ) (r : Row) (rs : List Row) (o : Option ℕ) → IsSplit w dims place (r ∷ rs) r o →
    made_flat w place (r ∷ rs) o ≡ flat_entry (group_entry w place (node_below w place) (r ∷ rs))
flat-split w dims place r rs None h = ap flat_entry (sym h)
flat-split w dims place r rs (Some t) h = ap flat_entry (sym h.2)

flat-rows : {R : Type 0} (f : R → Row) (w dims place : ℕ) (xs : List R) (o : Option ℕ) → 1 ≤ length xs →
    ((first : R) → first ≡ get_or xs 0 first → IsSplit w dims place (map f xs) (f first) o) →
    made_flat w place (map f xs) o ≡ flat_entry (group_entry w place (node_below w place) (map f xs))
flat-rows f w dims place [] o l h = absurd (let no : ⊥ = omega (arith, l) in no)
flat-rows f w dims place (x ∷ xs) o l h = flat-split w dims place (f x) (map f xs) o (h x refl)

flat-part : {R : Type 0} (f : R → Row) (w dims place : ℕ) (p : Part R) → IsPart f w dims place p → flat_in f w place p ≡ flat_entry (entry_in f w place p)
flat-part f w dims place p h = flat-rows f w dims place p.rows.now p.level h.some h.split

ready-split : (w dims place : ℕ) (r : Row) (rs : List Row) (o : Option ℕ) → IsGroup w dims place (r ∷ rs) →
    IsSplit w dims place (r ∷ rs) r o → can_write w dims place (r ∷ rs) o ≡ true
ready-split w dims place r rs None g h = and _ _ g.points.0 refl
ready-split w dims place r rs (Some t) g h = and _ _ g.points.0 (lt-ltb t place h.0)

ready-rows : {R : Type 0} (f : R → Row) (w dims place : ℕ) (xs : List R) (o : Option ℕ) → 1 ≤ length xs →
    IsGroup w dims place (map f xs) →
    ((first : R) → first ≡ get_or xs 0 first → IsSplit w dims place (map f xs) (f first) o) →
    can_write w dims place (map f xs) o ≡ true
ready-rows f w dims place [] o l g h = absurd (let no : ⊥ = omega (arith, l) in no)
ready-rows f w dims place (x ∷ xs) o l g h = ready-split w dims place (f x) (map f xs) o g (h x refl)

pub value-of : {R : Type 0} (f : R → Row) (w place : ℕ) (xs : List R) (o : Option ℕ) (x : R) (v : ℕ) → 1 ≤ length xs →
    x ≡ get_or xs 0 x → (made_flat w place (map f xs) o).value ≡ Some v → (f x).value ≡ v
value-of f w place [] o x v l e h = absurd (let no : ⊥ = omega (arith, l) in no)
value-of f w place (y ∷ xs) None x v l e h = ap (λ t. (f t).value) e ∙ some-is (f y).value v h
  where
    some-is : (a b : ℕ) → ◌≡◌ {A = Option ℕ} (Some a) (Some b) → a ≡ b
    some-is a b h = cc
value-of f w place (y ∷ xs) (Some t) x v l e h = cc

-- ---- all parts

pub flats : {R : Type 0} (f : R → Row) (w dims place : ℕ) (ps : List (Part R)) → Each (IsPart f w dims place) ps →
    map (flat_in f w place) ps ≡ flat (chain_of f w place ps)
flats {R} f w dims place ps h = each ps h ∙ sym (flat-chained (map (entry_in f w place) ps))
  where
    each : (qs : List (Part R)) → Each (IsPart f w dims place) qs → map (flat_in f w place) qs ≡ map flat_entry (map (entry_in f w place) qs)
    each [] k = refl
    each (q ∷ qs) k = λ i. flat-part f w dims place q k.0 i ∷ each qs k.1 i

pub all-ready : {R : Type 0} (f : R → Row) (w dims place : ℕ) (ps : List (Part R)) → Each (IsPart f w dims place) ps → IsTrue (list_all (is_ready f w dims place) ps)
all-ready f w dims place [] h = refl
all-ready f w dims place (p ∷ ps) h =
    and _ _ (ready-rows f w dims place p.rows.now p.level h.0.some h.0.group h.0.split) (all-ready f w dims place ps h.1)

-- a part that can be written has a row
can-first : {R : Type 0} (f : R → Row) (w dims place : ℕ) (xs : List R) (o : Option ℕ) → can_write w dims place (map f xs) o ≡ true → 1 ≤ length xs
can-first f w dims place [] o h = cc
can-first f w dims place (x ∷ xs) o h = omega arith

pub some-first : {R : Type 0} (f : R → Row) (w dims place : ℕ) (ps : List (Part R)) (i : ℕ) (p : Part R) →
    IsTrue (list_all (is_ready f w dims place) ps) → i < length ps → p ≡ get_or ps i p → 1 ≤ length p.rows.now
some-first f w dims place [] i p h l e = absurd (let no : ⊥ = omega (arith, l) in no)
some-first {R} f w dims place (q ∷ ps) zero p h l e =
    subst (λ (t : Part R). 1 ≤ length t.rows.now) (sym e) (can-first f w dims place q.rows.now q.level (and_parts _ _ h).0)
some-first f w dims place (q ∷ ps) (suc i) p h l e = some-first f w dims place ps i p (and_parts _ _ h).1 (omega (arith, l)) e

-- ---- all parts of a node

-- what is written of parts that make the entries of a node
pub written : {R : Type 0} (f : R → Row) (w dims place : ℕ) (ps : List (Part R)) (c : Entries) →
    Each (IsPart f w dims place) ps → chain_of f w place ps ≡ c → map (flat_in f w place) ps ≡ flat c
written f w dims place ps c h e = flats f w dims place ps h ∙ ap (λ (t : Entries). flat t) e

-- ---- the child of a part

abbrev made : ℕ → ℕ → List Row → Entry
made w place rows = group_entry w place (node_below w place) rows

none-held : (w dims place : ℕ) (rows : List Row) (first : Row) (o : Option ℕ) → IsSplit w dims place rows first o →
    ((t : ℕ) → o ≡ Some t → ⊥) → (held (made w place rows).what ≡ []) × (what_size (made w place rows).what ≡ 0)
none-held w dims place rows first None h n = (ap (λ (e : Entry). held e.what) h, ap (λ (e : Entry). what_size e.what) h)
none-held w dims place rows first (Some t) h n = absurd (n t refl)

pub record IsBelow (w dims place t : ℕ) (rows : List Row) : Type 0 where
  pub lower : t < place
  pub group : IsGroup w dims (t + 1) rows
  pub what : (made w place rows).what ≡ node (node_made w t rows)

some-held : (w dims place t : ℕ) (rows : List Row) (first : Row) → IsSplit w dims place rows first (Some t) → IsBelow w dims place t rows
some-held w dims place t rows first h = record { lower = h.0; group = h.1; what = ap (λ (e : Entry). e.what) h.2 }

first-of : {X : Type 0} (xs : List X) → 1 ≤ length xs → (x : X) × (x ≡ get_or xs 0 x)
first-of [] l = absurd (let no : ⊥ = omega (arith, l) in no)
first-of (x ∷ xs) l = (x, refl)

pub no-child : {R : Type 0} (f : R → Row) (w dims place : ℕ) (p : Part R) → IsPart f w dims place p →
    ((t : ℕ) → p.level ≡ Some t → ⊥) → (held (entry_in f w place p).what ≡ []) × (what_size (entry_in f w place p).what ≡ 0)
no-child f w dims place p h n =
    let x = first-of p.rows.now h.some in
    none-held w dims place (rows_in f p) (f x.0) p.level (h.split x.0 x.1) n

pub one-child : {R : Type 0} (f : R → Row) (w dims place t : ℕ) (p : Part R) → IsPart f w dims place p → p.level ≡ Some t → IsBelow w dims place t (rows_in f p)
one-child f w dims place t p h e =
    let x = first-of p.rows.now h.some in
    some-held w dims place t (rows_in f p) (f x.0) (subst (IsSplit w dims place (rows_in f p) (f x.0)) e (h.split x.0 x.1))

-- it is lawful where the entry is
pub record IsLawfulChild (dims : ℕ) (n : PlainNode) : Type 0 where
  pub many : 1 ≤ count n.chain
  pub lawful : IsLawfulFrom dims n.level 0 n.chain

pub child-lawful : (dims level : ℕ) (e : Entry) (n : PlainNode) → IsLawfulEntry dims level e → e.what ≡ node n → IsLawfulChild dims n
child-lawful dims level e n h is =
    let k : IsLawfulWhat dims level e.body (node n) = subst (IsLawfulWhat dims level e.body) is h.held in
    record { many = omega (arith, k.2); lawful = k.3 }

pub child-held : (e : Entry) (n : PlainNode) → e.what ≡ node n → (held e.what ≡ n ∷ []) × (what_size e.what ≡ node_size n)
child-held e n is = (ap held is, ap what_size is)
