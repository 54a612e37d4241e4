-- What one node says of a point, and what an edit makes of it, by the laws of the definitions.
use Rattle.std.proofs.Common.{◌≡◌, ◌≢◌, ℕ, zero, suc, ◌+◌, ◌*◌, ◌/◌, ◌%◌, ◌^◌, ◌<◌, List, [], ◌∷◌, length}
use Rattle.std.proofs.Common.{map, Bool, true, false, refl, arith, ap, sym, ◌∙◌, subst, inl, inr}
use Rattle.std.specs.Prelude.{ℤ, Some, None, slice_get, position, unwrap_or}
use Rattle.std.proofs.Math.Nat.{mod-lt, mod-eq_of_lt, div-eq_of_lt}
use Rattle.std.proofs.lemmas.Nat.{pow_pos}
use Rattle.std.specs.List.{AllByRecursion as Each}
use Rattle.std.proofs.lemmas.Bool.{cases_lt}
use Rattle.ph_digits.proofs.Cuts.{none_from}
use Rattle.ph_specs.specs.Coordinate.{offset}
use Rattle.ph_specs.specs.ZOrder.{address}
use Rattle.ph_specs.specs.Node.{Entries, end, point, child, PlainNode}
use Rattle.ph_model.specs.EntryList.{Entry, What, value, node, entries, listed, node_of}
use Rattle.ph_specs.specs.Shape.{digits_below, digits_between}
use Rattle.ph_model.specs.Lawful.{IsBody, HasZerosFrom, IsLawfulFrom}
use Rattle.ph_specs.specs.DelTree.{same_digits}
use Rattle.ph_model.specs.PutTree.{digits_from, split_place, body_address, body_below, body_above, put_node}
use Rattle.ph_model.specs.EntryEdits.{has_address, point_entry, inserted, holding, with_what, with_child, what_at, split_at}
use Rattle.ph_model.proofs.lemmas.PointDigits.{same_digits-true, same_digits-false}
use Rattle.ph_model.proofs.lemmas.Joined.{same_from}
use Rattle.ph_model.proofs.lemmas.Splits.{below-offsets}
use Rattle.ph_model.proofs.laws.EntryLists.{node_of-entries}
use Rattle.ph_model.proofs.laws.EntryEdits as laws
use Rattle.ph_model.proofs.laws.DelEntries.{IsLawfulChild, lawful-child}
use Rattle.ph_model.proofs.laws.SplitPlace.{split_place-has, split_place-whole, address-of-body, below-of-body}
use Rattle.ph_node.specs.Merge.{addr_at}
use Rattle.ph_node.specs.Split.{IsBelow, body_at, entry_below, part_place, split_node}
use Rattle.ph_node.specs.Spots.{IsSpot}
use Rattle.ph_node.specs.declared.spots.Spot.{Spot}
use Rattle.ph_node.proofs.Merges.{above-zeros}
use Rattle.ph_node.proofs.FoundSpots.{parts_at, parts_there}
use Rattle.ph_tree.specs.Step.{IsAt, IsApart, IsApartAt}

abbrev no_entry : Entry
no_entry = point_entry 0 [] 0

-- ---- reading

-- the entry that a search by the point's address comes to
pub at_entry : (w : ℕ) (p : List ℤ) (t : PlainNode) (level a : ℕ) (spot : Spot) → level ≡ t.level →
    a ≡ address w p level → Some spot.place ≡ position (has_address a) (entries t) → IsSpot (entries t) spot →
    IsAt w p t spot (parts_at (entries t) spot.place)
at_entry w p t level a spot l d f h =
    let g = parts_there (entries t) spot.place h.within in
    (g, laws.address-found a spot.place (entries t) (parts_at (entries t) spot.place) (sym f) g ∙ d ∙ ap (address w p) l, h.address)

-- a body beside the digits of a point, by its offsets
module _ (w level : ℕ) (p : List ℤ) (xs os : List ℕ) (r : Bool) (given : os ≡ map (offset w) p) where
  below_point : body_below level os ≡ digits_below w level p
  below_point = ap (body_below level) given ∙ sym (below-offsets w level p)

  pub same_below : r ≡ same_digits xs (body_below level os) → r ≡ true → xs ≡ digits_below w level p
  same_below f t = same_digits-true xs (body_below level os) (sym f ∙ t) ∙ below_point

  pub other_below : r ≡ same_digits xs (body_below level os) → r ≡ false → xs ≡ digits_below w level p → ⊥
  other_below f t s = same_digits-false xs (body_below level os) (sym f ∙ t) (s ∙ sym below_point)

  between_point : (low b : ℕ) → low ≡ b → body_above low (body_below level os) ≡ digits_between w level b p
  between_point low b d = ap (body_above low) below_point ∙ ap (λ k. digits_between w level k p) d

  pub same_between : (low b : ℕ) → low ≡ b → r ≡ same_digits xs (body_above low (body_below level os)) → r ≡ true → xs ≡ digits_between w level b p
  same_between low b d f t = same_digits-true xs (body_above low (body_below level os)) (sym f ∙ t) ∙ between_point low b d

  pub other_between : (low b : ℕ) → low ≡ b → r ≡ same_digits xs (body_above low (body_below level os)) → r ≡ false → xs ≡ digits_between w level b p → ⊥
  other_between low b d f t s =
      same_digits-false xs (body_above low (body_below level os)) (sym f ∙ t) (s ∙ sym (between_point low b d))

-- Fields below a level that have zeros from the place under it down are zeros, and so is what numbers have between the two.
pub gapless : (level low : ℕ) (xs os : List ℕ) → low + 1 ≡ level → Each (λ x. x < 2 ^ level) xs →
    HasZerosFrom low xs → length os ≡ length xs → xs ≡ body_above low (body_below level os)
gapless level low [] [] e b z l = refl
gapless level low [] (o ∷ os) e b z l = absurd (omega (arith, l))
gapless level low (x ∷ xs) [] e b z l = absurd (omega (arith, l))
gapless level low (x ∷ xs) (o ∷ os) e b z l =
    let n : ℕ = 2 ^ (low + 1) in
    let h : x ≡ 0 = sym (mod-eq_of_lt (subst (λ k. x < 2 ^ k) (sym e) b.0)) ∙ z.0 in
    let k : o % 2 ^ level / n ≡ 0 = div-eq_of_lt (subst (λ i. o % 2 ^ level < 2 ^ i) (sym e) (mod-lt o (pow_pos level))) in
    let nought : 0 ≡ 0 * n = omega arith in
    ap (λ y. y ∷ xs) (h ∙ nought ∙ ap (λ q. q * n) (sym k)) ∙ ap (λ ys. o % 2 ^ level / n * n ∷ ys) (gapless level low xs os e b.1 z.1 (omega (arith, l)))

-- ---- an entry of a lawful node

pub what_got : (xs : List Entry) (i : ℕ) (e : Entry) → slice_get xs i ≡ Some e → what_at xs i ≡ e.what
what_got [] i e h = cc
what_got (x ∷ xs) zero e h = ap (λ o. (unwrap_or o no_entry).what) h
what_got (x ∷ xs) (suc i) e h = what_got xs i e h

pub body_got : (xs : List Entry) (i : ℕ) (e : Entry) → slice_get xs i ≡ Some e → body_at xs i ≡ e.body
body_got [] i e h = cc
body_got (x ∷ xs) zero e h = ap (λ o. (unwrap_or o no_entry).body) h
body_got (x ∷ xs) (suc i) e h = body_got xs i e h

pub within : (xs : List Entry) (i : ℕ) (e : Entry) → slice_get xs i ≡ Some e → i < length xs
within [] i e h = cc
within (x ∷ xs) zero e h = omega arith
within (x ∷ xs) (suc i) e h = omega (arith, within xs i e h)

pub addr_got : (xs : List Entry) (i : ℕ) (e : Entry) → slice_get xs i ≡ Some e → addr_at xs i ≡ e.addr
addr_got [] i e h = cc
addr_got (x ∷ xs) zero e h = ap (λ o. (unwrap_or o no_entry).addr) h
addr_got (x ∷ xs) (suc i) e h = addr_got xs i e h

-- the spot of an entry that is there
pub spot_at : (w : ℕ) (p : List ℤ) (t : PlainNode) (spot : Spot) (x : Entry) → IsAt w p t spot x → IsSpot (entries t) spot
spot_at w p t spot x at = record {
  within = within (entries t) spot.place x at.0;
  address = at.2 ∙ sym (addr_got (entries t) spot.place x at.0);
}

same_what : (xs : List Entry) (i : ℕ) (e : Entry) → slice_get xs i ≡ Some e → with_what xs i e.what ≡ xs
same_what [] i e h = cc
same_what (x ∷ xs) zero e h = let q : x ≡ e = ap (λ o. unwrap_or o no_entry) h in ap (λ u. holding x u.what ∷ xs) (sym q)
same_what (x ∷ xs) (suc i) e h = ap {B = List Entry} (λ u. x ∷ u) (same_what xs i e h)

-- a child that is put back
pub put_back : (t : PlainNode) (i : ℕ) (x : Entry) (m : PlainNode) → slice_get (entries t) i ≡ Some x → x.what ≡ node m → with_child t i m ≡ t
put_back t i x m g q =
    ap (λ z. node_of t.level (with_what (entries t) i z)) (sym q) ∙ ap (node_of t.level) (same_what (entries t) i x g) ∙ node_of-entries t

node_in : PlainNode → What → PlainNode
node_in n (value v) = n
node_in n (node m) = m

pub same_node : (m n : PlainNode) (w : What) → w ≡ node m → w ≡ node n → m ≡ n
unfolding node_in
same_node m n w h k = ap (node_in m) (sym h ∙ k)

pub lawful-body : (dims b least : ℕ) (e : Entries) (i : ℕ) (x : Entry) → IsLawfulFrom dims b least e → slice_get (listed e) i ≡ Some x → IsBody dims b x.body
lawful-body dims b least end i x h g = cc
lawful-body dims b least (point a body v rest) zero x h g = subst (λ o. IsBody dims b (unwrap_or o no_entry).body) g h.2
lawful-body dims b least (point a body v rest) (suc i) x h g = lawful-body dims b (a + 1) rest i x h.3 g
lawful-body dims b least (child a body c chain rest) zero x h g = subst (λ o. IsBody dims b (unwrap_or o no_entry).body) g h.2
lawful-body dims b least (child a body c chain rest) (suc i) x h g = lawful-body dims b (a + 1) rest i x h.7 g

-- ---- a point joins

pub put_absent : (w : ℕ) (p : List ℤ) (t : PlainNode) (level a : ℕ) (body : List ℕ) (v : ℕ) → level ≡ t.level →
    a ≡ address w p level → body ≡ digits_below w level p → position (has_address (address w p level)) (entries t) ≡
    None → node_of t.level (inserted (point_entry a body v) (entries t)) ≡ put_node w t p v
put_absent w p t level a body v l d b n =
    ap (λ u. node_of t.level (inserted (point_entry u body v) (entries t))) (d ∙ ap (address w p) l)
    ∙ ap (λ u. node_of t.level (inserted (point_entry (address w p t.level) u v) (entries t))) (b ∙ ap (λ k. digits_below w k p) l)
    ∙ sym (laws.put_node-absent w t p v (subst (λ k. position (has_address (address w p k)) (entries t) ≡ None) l n))

-- ---- an entry is split

above-digits : (l : ℕ) (xs : List ℕ) → body_above l xs ≡ map (λ n. n * 2 ^ (l + 1)) (digits_from (l + 1) xs)
above-digits l [] = refl
above-digits l (x ∷ xs) = ap {B = List ℕ} (λ u. x / 2 ^ (l + 1) * 2 ^ (l + 1) ∷ u) (above-digits l xs)

above-same : (l : ℕ) (xs ys : List ℕ) → digits_from (l + 1) xs ≡ digits_from (l + 1) ys → body_above l xs ≡ body_above l ys
above-same l xs ys e = above-digits l xs ∙ ap (λ u. map (λ n. n * 2 ^ (l + 1)) u) e ∙ sym (above-digits l ys)

module _ (w dims : ℕ) (p : List ℤ) (t : PlainNode) (spot : Spot) (x : Entry) (at : IsAt w p t spot x)
    (ok : IsLawfulFrom dims t.level 0 t.chain) (new_body : IsBody dims t.level (digits_below w t.level p)) where
  abbrev new : List ℕ
  new = digits_below w t.level p

  old_body : IsBody dims t.level x.body
  old_body = lawful-body dims t.level 0 t.chain spot.place x ok at.0

  differs_by : (held : What) → x.what ≡ held → IsApart w p t.level x.body held → x.body ≢ digits_below w t.level p
  differs_by (value u) q a e = a e
  differs_by (node m) q a e =
      let c : IsLawfulChild dims t.level x m = lawful-child dims t.level 0 t.chain spot.place x m ok at.0 q in
      a (above-zeros m.level x.body c.zeros ∙ ap (body_above m.level) e)

  pub differs : IsApart w p t.level x.body x.what → x.body ≢ digits_below w t.level p
  differs a = differs_by x.what refl a

  module _ (apart : IsApart w p t.level x.body x.what) where
    abbrev place : ℕ
    place = split_place t.level x.body (digits_below w t.level p)

    has : (place < t.level) × (digits_from (place + 1) x.body ≡ digits_from (place + 1) new) × (digits_from place x.body ≡ digits_from place new → ⊥)
    has = split_place-has t.level x.body new (none_from dims t.level x.body new old_body new_body) (differs apart)

    above_by : (held : What) → x.what ≡ held → IsApart w p t.level x.body held → IsBelow place held
    above_by (value u) q a = tt
    above_by (node m) q a =
        let c : IsLawfulChild dims t.level x m = lawful-child dims t.level 0 t.chain spot.place x m ok at.0 q in
        elim (cases_lt m.level place) [
          | inl l ↦ l
          | inr g ↦ absurd (a (above-zeros m.level x.body c.zeros ∙ above-same m.level x.body new
              (same_from (place + 1) (m.level + 1) x.body new (omega (arith, g)) has.1)))
        ]

    pub above : IsBelow place (what_at (entries t) spot.place)
    above = subst (IsBelow place) (sym (what_got (entries t) spot.place x at.0)) (above_by x.what refl apart)

    put_by : (held : What) → x.what ≡ held → IsApart w p t.level x.body held → (v : ℕ) →
        put_node w t p v ≡ node_of t.level
        (split_at (entries t) spot.place place (digits_between w t.level place p) (body_address place x.body)
        (body_below place x.body) (point_entry (address w p place) (digits_below w place p) v))
    put_by (value u) q a v = laws.put_node-split_point w dims t spot.place x u place p v ok at.0 at.1 q a refl
    put_by (node m) q a v =
        let c : IsLawfulChild dims t.level x m = lawful-child dims t.level 0 t.chain spot.place x m ok at.0 q in
        laws.put_node-split_child w dims t spot.place x m place p v ok at.0 at.1 q a
        (split_place-whole w t.level m.level x.body p c.lower c.zeros (none_from dims t.level x.body new old_body new_body) a)

    pub put_split : (v : ℕ) → split_node t spot.place place (digits_below w t.level p) v ≡ put_node w t p v
    put_split v =
        ap (λ o. node_of t.level (split_at (entries t) spot.place place (digits_between w t.level place p)
        (body_address place o) (body_below place o) (entry_below place new (value v))))
        (body_got (entries t) spot.place x at.0)
        ∙ ap (λ n. node_of t.level (split_at (entries t) spot.place place (digits_between w t.level place p)
        (body_address place x.body) (body_below place x.body)
        (record { addr = n; body = body_below place new; what = value v }))) (address-of-body w t.level place p has.0)
        ∙ ap (λ (u : List ℕ). node_of t.level
        (split_at (entries t) spot.place place (digits_between w t.level place p) (body_address place x.body)
        (body_below place x.body) (record { addr = address w p place; body = u; what = value v })))
        (below-of-body w t.level place p (omega (arith, has.0)))
        ∙ sym (put_by x.what refl apart v)

-- all that a split asks, and what it makes
pub record Splits (w dims : ℕ) (p : List ℤ) (t : PlainNode) (spot : Spot) (body : List ℕ) : Type 0 where
  pub there : IsSpot (entries t) spot
  pub digits : IsBody dims t.level body
  pub apart : body_at (entries t) spot.place ≢ body
  pub over : IsBelow (part_place t spot.place body) (what_at (entries t) spot.place)
  pub put : (v : ℕ) → split_node t spot.place (part_place t spot.place body) body v ≡ put_node w t p v

pub splits : {w dims level : ℕ} {p : List ℤ} {t : PlainNode} {spot : Spot} {body : List ℕ} →
    IsLawfulFrom dims t.level 0 t.chain → IsApartAt w p t spot → level ≡ t.level → IsBody dims level body →
    body ≡ digits_below w level p → Splits w dims p t spot body
splits {w = w} {dims = dims} {p = p} {t = t} {spot = spot} {body = body} ok (x, at, a) l body_ok digits =
    let k : IsBody dims t.level body = subst (λ n. IsBody dims n body) l body_ok in
    let e : body ≡ digits_below w t.level p = digits ∙ ap (λ n. digits_below w n p) l in
    let here : body_at (entries t) spot.place ≡ x.body = body_got (entries t) spot.place x at.0 in
    let n : IsBody dims t.level (digits_below w t.level p) = subst (IsBody dims t.level) e k in
    let there : part_place t spot.place body ≡ split_place t.level x.body (digits_below w t.level p) =
    ap (λ u. split_place t.level u body) here ∙ ap (split_place t.level x.body) e in
    record {
      there = spot_at w p t spot x at;
      digits = k;
      apart = λ s. differs w dims p t spot x at ok n a (sym here ∙ s ∙ e);
      over = subst (λ i. IsBelow i (what_at (entries t) spot.place)) (sym there) (above w dims p t spot x at ok n a);
      put = λ v. ap (λ i. split_node t spot.place i body v) there ∙
          ap (λ u. split_node t spot.place (split_place t.level x.body (digits_below w t.level p)) u v) e ∙
          put_split w dims p t spot x at ok n a v;
    }
