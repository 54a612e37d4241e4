-- A record with another value in a point: one word.
use Rattle.std.proofs.Common.{◌≡◌, ℕ, zero, suc, ◌+◌, ◌<◌, List, [], ◌∷◌, ◌++◌, take, length, map, refl, ap, sym, ◌∙◌, arith, Bool, true, false, slice_set}
use Rattle.std.specs.Prelude.{Option, Some, None, ◌^◌, ◌==◌, if◌then◌else◌}
use Rattle.std.proofs.lemmas.List.{length-append}
use Rattle.ph_specs.specs.Digits.{Field, field, words_of}
use Rattle.ph_model.specs.EntryEdits.{what_at, with_what}
use Rattle.ph_specs.specs.Node.{PlainNode, Flat}
use Rattle.ph_model.specs.EntryList.{Entry, What, value, node, entries}
use Rattle.ph_specs.specs.Pack.{children, child_mark, value_in_front, first_word, layout, values, record_of, record_in, table}
use Rattle.ph_specs.specs.Pack.{linear_table, cube_table, bodies, at_address, places, place_kind, place_body, is_cube}
use Rattle.ph_node.specs.OneEdit.{value_of, held_nodes, nodes_held, flat_of, flats_of}
use Rattle.ph_node.specs.Split.{IsValue}
use Rattle.ph_node.proofs.Keeps.{still-what}
use Rattle.ph_node.proofs.Lent.{length-what}
use Rattle.ph_node.proofs.Lists.{Renewed}
use Rattle.ph_node.proofs.OldNodes.{IsOld}

-- the entries with another value in one, and the place of a point among the values
abbrev pub valued : List Flat → ℕ → ℕ → List Flat
valued [] i v = []
valued (f ∷ fs) zero v = record { addr = f.addr; body = f.body; value = Some v } ∷ fs
valued (f ∷ fs) (suc i) v = f ∷ valued fs i v

abbrev pub HasValue : Option ℕ → Type 0
HasValue (Some v) = Unit {0}
HasValue None = ⊥

abbrev pub IsPointAt : List Flat → ℕ → Type 0
IsPointAt [] i = ⊥
IsPointAt (f ∷ fs) zero = HasValue f.value
IsPointAt (f ∷ fs) (suc i) = IsPointAt fs i

-- ---- the words

length-valued : (fs : List Flat) (i v : ℕ) → length (valued fs i v) ≡ length fs
length-valued [] i v = refl
length-valued (f ∷ fs) zero v = refl
length-valued (f ∷ fs) (suc i) v = ap suc (length-valued fs i v)

-- a function of entries that does not see their values
module _ {A : Type 0} (s : Flat → A) (blind : (f : Flat) (v : ℕ) → HasValue f.value → s (record { addr = f.addr; body = f.body; value = Some v }) ≡ s f) where
  map-valued : (fs : List Flat) (i v : ℕ) → IsPointAt fs i → map s (valued fs i v) ≡ map s fs
  map-valued [] i v h = absurd h
  map-valued (f ∷ fs) zero v h = ap {B = List A} (λ y. y ∷ map s fs) (blind f v h)
  map-valued (f ∷ fs) (suc i) v h = ap {B = List A} (λ y. s f ∷ y) (map-valued fs i v h)

mark-same : (o : Option ℕ) (v : ℕ) → HasValue o → child_mark (Some v) ≡ child_mark o
mark-same (Some w) v h = refl
mark-same None v h = absurd h

children-valued : (fs : List Flat) (i v : ℕ) → IsPointAt fs i → children (valued fs i v) ≡ children fs
children-valued [] i v h = absurd h
children-valued (f ∷ fs) zero v h = ap (λ n. n + children fs) (mark-same f.value v h)
children-valued (f ∷ fs) (suc i) v h = ap (λ n. child_mark f.value + n) (children-valued fs i v h)

linear-valued : (d level : ℕ) (fs : List Flat) (i v : ℕ) → IsPointAt fs i → linear_table d level (valued fs i v) ≡ linear_table d level fs
linear-valued d level fs i v h =
    let a : map (λ e. field 1 (child_mark e.value)) (valued fs i v) ≡ map (λ e. field 1 (child_mark e.value)) fs =
    map-valued (λ e. field 1 (child_mark e.value)) (λ f v h. ap (λ n. field 1 n) (mark-same f.value v h)) fs i v h in
    let b : map (λ e. field d e.addr) (valued fs i v) ≡ map (λ e. field d e.addr) fs = map-valued (λ e. field d e.addr) (λ f v h. refl) fs i v h in
    let c : map (λ e. e.body) (valued fs i v) ≡ map (λ e. e.body) fs = map-valued (λ e. e.body) (λ f v h. refl) fs i v h in
    ap {B = List Field} (λ u. u ++ map (λ e. field d e.addr) (valued fs i v) ++ bodies level (map (λ e. e.body) (valued fs i v))) a
    ∙ ap {B = List Field} (λ u. map (λ e. field 1 (child_mark e.value)) fs ++ u ++ bodies level (map (λ e. e.body) (valued fs i v))) b
    ∙ ap {B = List Field} (λ u. map (λ e. field 1 (child_mark e.value)) fs ++ map (λ e. field d e.addr) fs ++ bodies level u) c

-- a function of what stands at an address that does not see its value
module _ {A : Type 0} (s : Option Flat → A) (blind : (f : Flat) (v : ℕ) → HasValue f.value →
    s (Some (record { addr = f.addr; body = f.body; value = Some v })) ≡ s (Some f)) where
  at-valued : (a : ℕ) (fs : List Flat) (i v : ℕ) → IsPointAt fs i → s (at_address a (valued fs i v)) ≡ s (at_address a fs)
  at-valued a [] i v h = absurd h
  at-valued a (f ∷ fs) zero v h =
      elim (f.addr == a) as (λ b. s (if b then Some (record { addr = f.addr; body = f.body; value = Some v }) else
      at_address a fs) ≡ s (if b then Some f else at_address a fs)) [
        | true ↦ blind f v h
        | false ↦ refl
      ]
  at-valued a (f ∷ fs) (suc i) v h =
      let ih : s (at_address a (valued fs i v)) ≡ s (at_address a fs) = at-valued a fs i v h in
      elim (f.addr == a) as (λ b. s (if b then Some f else at_address a (valued fs i v)) ≡ s (if b then Some f else at_address a fs)) [
        | true ↦ refl
        | false ↦ ih
      ]

  places-valued : (n a : ℕ) (fs : List Flat) (i v : ℕ) → IsPointAt fs i → map s (places n a (valued fs i v)) ≡ map s (places n a fs)
  places-valued zero a fs i v h = refl
  places-valued (suc n) a fs i v h =
      ap {B = List A} (λ y. y ∷ map s (places n (a + 1) (valued fs i v))) (at-valued a fs i v h)
      ∙ ap {B = List A} (λ y. s (at_address a fs) ∷ y) (places-valued n (a + 1) fs i v h)

cube-valued : (d level : ℕ) (fs : List Flat) (i v : ℕ) → IsPointAt fs i → cube_table d level (valued fs i v) ≡ cube_table d level fs
cube-valued d level fs i v h =
    let a : map place_kind (places (2 ^ d) 0 (valued fs i v)) ≡ map place_kind (places (2 ^ d) 0 fs) =
    places-valued place_kind (λ f v h. ap (λ n. field 2 (1 + n)) (mark-same f.value v h)) (2 ^ d) 0 fs i v h in
    let b : map (place_body d) (places (2 ^ d) 0 (valued fs i v)) ≡ map (place_body d) (places (2 ^ d) 0 fs) =
    places-valued (place_body d) (λ f v h. refl) (2 ^ d) 0 fs i v h in
    ap {B = List Field} (λ u. u ++ bodies level (map (place_body d) (places (2 ^ d) 0 (valued fs i v)))) a
    ∙ ap {B = List Field} (λ u. map place_kind (places (2 ^ d) 0 fs) ++ bodies level u) b

table-valued : (cube : Bool) (d level : ℕ) (fs : List Flat) (i v : ℕ) → IsPointAt fs i → table cube d level (valued fs i v) ≡ table cube d level fs
table-valued true d level fs i v h = cube-valued d level fs i v h
table-valued false d level fs i v h = linear-valued d level fs i v h

front-set : (o : Option ℕ) (xs ys zs : List ℕ) (v : ℕ) → xs ≡ slice_set ys (length zs) v →
    value_in_front o xs ≡ slice_set (value_in_front o ys) (length (value_in_front o zs)) v
front-set (Some w) xs ys zs v e = ap {B = List ℕ} (λ u. w ∷ u) e
front-set None xs ys zs v e = e

front-zero : (o : Option ℕ) (ys : List ℕ) (v : ℕ) → HasValue o → v ∷ ys ≡ slice_set (value_in_front o ys) 0 v
front-zero (Some w) ys v h = refl
front-zero None ys v h = absurd h

values-valued : (fs : List Flat) (i v : ℕ) → IsPointAt fs i → values (valued fs i v) ≡ slice_set (values fs) (length (values (take i fs))) v
values-valued [] i v h = absurd h
values-valued (f ∷ fs) zero v h = front-zero f.value (values fs) v h
values-valued (f ∷ fs) (suc i) v h = front-set f.value (values (valued fs i v)) (values fs) (values (take i fs)) v (values-valued fs i v h)

set-behind : (xs ys : List ℕ) (j k v : ℕ) → j ≡ length xs + k → slice_set (xs ++ ys) j v ≡ xs ++ slice_set ys k v
set-behind [] ys j k v e = ap (λ m. slice_set ys m v) (omega (arith, e))
set-behind (x ∷ xs) ys zero k v e = absurd (omega (arith, e))
set-behind (x ∷ xs) ys (suc j) k v e = ap {B = List ℕ} (λ u. x ∷ u) (set-behind xs ys j k v (omega (arith, e)))

record-valued : (cube : Bool) (d level : ℕ) (fs : List Flat) (i v place : ℕ) → IsPointAt fs i →
    place + length (values fs) ≡ length (record_in cube d level fs) + length (values (take i fs))
    → slice_set (record_in cube d level fs) place v ≡ record_in cube d level (valued fs i v)
record-valued cube d level fs i v zero h e =
    absurd (omega (arith, e, length-append (words_of (table cube d level fs)) (values fs)))
record-valued cube d level fs i v (suc place) h e =
    let l : length (words_of (table cube d level fs) ++ values fs) ≡ length (words_of (table cube d level fs)) +
    length (values fs) = length-append (words_of (table cube d level fs)) (values fs) in
    ap {B = List ℕ} (λ u. first_word level (layout cube) (length fs) (children fs) ∷ u)
    (set-behind (words_of (table cube d level fs)) (values fs) place (length (values (take i fs))) v (omega (arith, e, l)))
    ∙ ap {B = List ℕ} (λ u. first_word level (layout cube) (length fs) (children fs) ∷ words_of (table cube d level fs) ++ u) (sym (values-valued fs i v h))
    ∙ ap {B = List ℕ} (λ u. first_word level (layout cube) (length fs) (children fs) ∷ words_of u ++ values (valued fs i v)) (sym (table-valued cube d level fs i v h))
    ∙ ap {B = List ℕ} (λ u. first_word level (layout cube) (length fs) u ∷
    words_of (table cube d level (valued fs i v)) ++ values (valued fs i v)) (sym (children-valued fs i v h))
    ∙ ap {B = List ℕ} (λ u. first_word level (layout cube) u (children (valued fs i v)) ∷
    words_of (table cube d level (valued fs i v)) ++ values (valued fs i v)) (sym (length-valued fs i v))

-- ---- the node

value-held : (w : What) → IsValue w → HasValue (value_of w)
value-held (value v) h = tt
value-held (node n) h = absurd h

pub none-held : (w : What) → IsValue w → held_nodes w ≡ []
none-held (value v) h = refl
none-held (node n) h = absurd h

point-at : (es : List Entry) (i : ℕ) → i < length es → IsValue (what_at es i) → IsPointAt (map flat_of es) i
point-at [] i l h = absurd (omega (arith, l))
point-at (e ∷ es) zero l h = value-held e.what h
point-at (e ∷ es) (suc i) l h = point-at es i (omega (arith, l)) h

flats-what : (es : List Entry) (i v : ℕ) → valued (map flat_of es) i v ≡ map flat_of (with_what es i (value v))
flats-what [] i v = refl
flats-what (e ∷ es) zero v = refl
flats-what (e ∷ es) (suc i) v = ap {B = List Flat} (λ u. flat_of e ∷ u) (flats-what es i v)

nodes-what : (es : List Entry) (i v : ℕ) → IsValue (what_at es i) → nodes_held (with_what es i (value v)) ≡ nodes_held es
nodes-what [] i v h = refl
nodes-what (e ∷ es) zero v h = sym (ap (λ u. u ++ nodes_held es) (none-held e.what h))
nodes-what (e ∷ es) (suc i) v h = ap (λ u. held_nodes e.what ++ u) (nodes-what es i v h)

module _ (d : ℕ) (ws : List ℕ) (ns : List PlainNode) (t : PlainNode) (o : IsOld d ws ns t) (i v : ℕ)
    (l : i < length (entries t)) (h : IsValue (what_at (entries t) i)) where
  pub renewed : Renewed d t.level (valued (flats_of t) i v) ns (with_what (entries t) i (value v))
  renewed = record {
    flats = flats-what (entries t) i v;
    nodes = nodes-what (entries t) i v h ∙ o.nodes;
    kept = still-what d t.level (entries t) i (value v) o.kept;
    some = omega (arith, l, length-what (entries t) i (value v));
    bottom = o.bottom;
  }

  pub set_is : (place : ℕ) → place + length (values (flats_of t)) ≡ length (record_of d t.level (flats_of t)) + length
      (values (take i (flats_of t))) → slice_set ws place v ≡ record_of d t.level (valued (flats_of t) i v)
  set_is place e =
      let f : List Flat = flats_of t in
      ap (λ u. slice_set u place v) o.words
      ∙ record-valued (is_cube d t.level (length f)) d t.level f i v place (point-at (entries t) i l h) e
      ∙ ap (λ n. record_in (is_cube d t.level n) d t.level (valued f i v)) (sym (length-valued f i v))
