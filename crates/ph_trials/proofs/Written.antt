-- The entries of a node, as they are written.
use Rattle.std.proofs.Common.{◌≡◌, ℕ, ◌+◌, ◌*◌, ◌^◌, ◌<◌, ◌≤◌, List, [], ◌∷◌, length, map, refl, sym, ◌∙◌, ap, arith}
use Rattle.std.specs.Prelude.{Option, Some, None, Bool, true, false, slice_get}
use Rattle.std.specs.Option.{option_map}
use Rattle.std.proofs.lemmas.Option.{slice_get-map}
use Rattle.std.proofs.lemmas.List.{length-map}
use Rattle.std.proofs.Math.Nat.{mul-le-mul_left, pow-le-pow_right}
use denote.Ref.{Bor}
use Rattle.ph_specs.specs.Digits.{words_for}
use Rattle.ph_specs.specs.Node.{PlainNode, Flat}
use Rattle.ph_model.specs.EntryList.{Entry, What, value, node, entries}
use Rattle.ph_model.specs.Layout.{AreRising, unvalued}
use Rattle.ph_specs.specs.Pack.{linear_digits, cube_digits, values}
use Rattle.ph_specs.specs.Record.{read}
use Rattle.ph_model.proofs.lemmas.LayoutTables.{entries-few, children-few}
use Rattle.ph_node.specs.Kept.{AreKept, IsNodeOf}
use Rattle.ph_node.specs.Shown.{entry_of, what_of}
use Rattle.ph_node.specs.declared.reads.EntryOf.{EntryOf}
use Rattle.ph_node.specs.declared.reads.WhatOf.{WhatOf}
use Rattle.ph_node.specs.declared.reads.WhatOf.TheVariants.{Value, Child}
use Rattle.ph_node.specs.OneEdit.{value_of, flat_of, flats_of}

from : (dims level least : ℕ) (es : List Entry) → AreKept dims level least es → AreRising dims level least (map flat_of es)
from dims level least [] k = tt
from dims level least (e ∷ es) k = (k.0, k.1, k.2, from dims level (e.addr + 1) es k.3)

pub rising : (dims : ℕ) (n : PlainNode) → IsNodeOf dims n → AreRising dims n.level 0 (flats_of n)
rising dims n k = from dims n.level 0 (entries n) k.rise

-- what stands at a place
flat-at : (n : PlainNode) (i : ℕ) (e : Entry) → slice_get (entries n) i ≡ Some e → slice_get (flats_of n) i ≡ Some (flat_of e)
flat-at n i e h = slice_get-map flat_of (entries n) i ∙ ap (option_map flat_of) h

-- whether an entry holds a child
abbrev pub holds_child : What → Bool
holds_child (value v) = false
holds_child (node m) = true

kept : (e : Entry) → unvalued (flat_of e) ≡ read (holds_child e.what) e.addr e.body
kept e = by_what e.what
  where
    by_what : (w : What) → unvalued (record { addr = e.addr; body = e.body; value = value_of w }) ≡ read (holds_child w) e.addr e.body
    by_what (value v) = refl
    by_what (node m) = refl

pub read-at : (n : PlainNode) (i : ℕ) (e : Entry) → slice_get (entries n) i ≡ Some e →
    slice_get (map unvalued (flats_of n)) i ≡ Some (read (holds_child e.what) e.addr e.body)
read-at n i e h = slice_get-map unvalued (flats_of n) i ∙ ap (option_map unvalued) (flat-at n i e h) ∙ ap Some (kept e)

abbrev value_in : Flat → Option ℕ
value_in f = f.value

pub value-at : (n : PlainNode) (i : ℕ) (e : Entry) → slice_get (entries n) i ≡ Some e → slice_get (map (λ (f : Flat). f.value) (flats_of n)) i ≡ Some (value_of e.what)
value-at n i e h = slice_get-map value_in (flats_of n) i ∙ ap (option_map value_in) (flat-at n i e h)

some-same : (o : Option ℕ) (x v : ℕ) → o ≡ Some x → Some o ≡ Some (Some v) → x ≡ v
some-same o x v w h = cc

none-some : (o : Option ℕ) (v : ℕ) → o ≡ None → Some o ≡ Some (Some v) → ⊥
none-some o v w h = cc

-- the value of a point that was read
pub value-read : (n : PlainNode) (i dims : ℕ) (r : EntryOf PlainNode) (x v : ℕ) →
    slice_get (entries n) i ≡ Some (entry_of dims r) → r.what ≡ Value x →
    slice_get (map (λ (f : Flat). f.value) (flats_of n)) i ≡ Some (Some v) → x ≡ v
value-read n i dims r x v h w e =
    some-same (value_of (what_of r.what)) x v (ap (λ (u : WhatOf PlainNode). value_of (what_of u)) w) (sym (value-at n i (entry_of dims r) h) ∙ e)

-- a child that was read has none
pub child-read : (n : PlainNode) (i dims : ℕ) (r : EntryOf PlainNode) (m : Bor PlainNode) (v : ℕ) →
    slice_get (entries n) i ≡ Some (entry_of dims r) → r.what ≡ Child m →
    slice_get (map (λ (f : Flat). f.value) (flats_of n)) i ≡ Some (Some v) → ⊥
child-read n i dims r m v h w e =
    none-some (value_of (what_of r.what)) v (ap (λ (u : WhatOf PlainNode). value_of (what_of u)) w) (sym (value-at n i (entry_of dims r) h) ∙ e)

-- ---- room

module _ (dims : ℕ) (n : PlainNode) (k : IsNodeOf dims n) where
  long : length (flats_of n) ≡ length (entries n)
  long = length-map (entries n) flat_of

  pub few : length (entries n) ≤ 2 ^ dims
  few = omega (arith, long, entries-few dims n.level 0 (flats_of n) (omega arith) (rising dims n k))

  most : 2 ^ dims ≤ 65536
  most =
      let p : 0 < 2 = omega arith in
      let m : 2 ^ dims ≤ 2 ^ 16 = pow-le-pow_right p k.few in
      omega (arith, m)

  pub linear-few : linear_digits dims n.level (length (entries n)) ≤ 2 ^ 26
  linear-few =
      let count : ℕ = length (entries n) in
      let p : dims * n.level ≤ dims * 61 = mul-le-mul_left dims k.low in
      let q : count * (1 + dims + dims * n.level) ≤ count * 993 = mul-le-mul_left count (omega (arith, p, k.few)) in
      omega (arith, q, few, most)

  pub cube-few : cube_digits dims n.level ≤ 2 ^ 26
  cube-few =
      let p : dims * n.level ≤ dims * 61 = mul-le-mul_left dims k.low in
      let q : 2 ^ dims * (2 + dims * n.level) ≤ 2 ^ dims * 978 = mul-le-mul_left (2 ^ dims) (omega (arith, p, k.few)) in
      omega (arith, q, most)

  children : length (values (flats_of n)) ≤ length (entries n)
  children = omega (arith, long, children-few (flats_of n))

  -- by what calls gave
  module _ (d level count : ℕ) (ed : d ≡ dims) (el : level ≡ n.level) (ec : count ≡ length (entries n)) where
    pub count-few : count ≤ 2 ^ d
    count-few = rw (ec, ed) few

    pub count-small : count ≤ 65536
    count-small = omega (arith, ec, few, most)

    pub linear-small : linear_digits d level count ≤ 2 ^ 26
    linear-small = rw (ed, el, ec) linear-few

    pub cube-small : cube_digits d level ≤ 2 ^ 26
    cube-small = rw (ed, el) cube-few

    pub rise : AreRising dims level 0 (flats_of n)
    rise = rw el (rising dims n k)

    pub linear-room : (digits room : ℕ) → digits ≡ linear_digits d level count → room ≡ 1 + words_for digits + count →
        1 + words_for (linear_digits dims level (length (flats_of n))) + length (values (flats_of n)) ≤ room
    linear-room digits room e r =
        let a : digits ≡ linear_digits dims level count = e ∙ ap (λ x. linear_digits x level count) ed in
        let b : linear_digits dims level (length (flats_of n)) ≡ digits = ap (λ x. linear_digits dims level x) (long ∙ sym ec) ∙ sym a in
        let c : words_for (linear_digits dims level (length (flats_of n))) ≡ words_for digits = ap words_for b in
        omega (arith, c, r, ec, children)

    pub cube-room : (digits room : ℕ) → digits ≡ cube_digits d level → room ≡ 1 + words_for digits + count →
        1 + words_for (cube_digits dims level) + length (values (flats_of n)) ≤ room
    cube-room digits room e r =
        let b : cube_digits dims level ≡ digits = ap (λ x. cube_digits x level) (sym ed) ∙ sym e in
        let c : words_for (cube_digits dims level) ≡ words_for digits = ap words_for b in
        omega (arith, c, r, ec, children)
