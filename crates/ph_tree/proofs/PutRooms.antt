-- The room that a node takes into which a point is put.
use Rattle.std.proofs.Common.{◌≡◌, ℕ, ◌+◌, ◌<◌, ◌≤◌, List, cond, true, refl, arith, inl, inr, ltb-true, ltb-false, ◌⊎◌}
use Rattle.std.specs.Prelude.{ℤ, nat_lt}
use Rattle.ph_specs.specs.ZOrder.{address}
use Rattle.ph_specs.specs.Node.{Entries, end, point, child, flat}
use Rattle.ph_specs.specs.Shape.{digits_below, digits_between}
use Rattle.ph_specs.specs.Digits.{words_for}
use Rattle.ph_specs.specs.TreeRows.{count}
use Rattle.ph_model.specs.Lawful.{IsLawfulFrom}
use Rattle.ph_model.specs.Layout.{AreRising}
use Rattle.ph_specs.specs.DelTree.{same_digits}
use Rattle.ph_model.specs.PutTree.{split_place, with_point, put_entries}
use Rattle.ph_model.proofs.laws.Layouts.{rising}
use Rattle.ph_specs.proofs.laws.Put.{either}
use Rattle.ph_model.proofs.lemmas.PointDigits.{IsWhole, address-below}
use Rattle.ph_model.proofs.lemmas.Splits.{is-body-between, is-body-below}
use Rattle.ph_tree.specs.Rooms.{room_of_entries}
use Rattle.ph_tree.proofs.NodeRooms.{entry_digits, least_digits, least-more, words-sum, room-are}

-- entries that a put leaves
record Grown (dims level least : ℕ) (e new : Entries) : Type 0 where
  pub rising : AreRising dims level least (flat new)
  pub entries : count new ≤ count e + 1
  pub few : count e ≤ count new

-- by where one number lies against another
by_order : (x a : ℕ) (C : Entries → Type 0) (first later here : Entries) → (nat_lt x a ≡ true → C first) → (nat_lt a x ≡ true → C later) → C here →
    C (cond (nat_lt x a) first (cond (nat_lt a x) later here))
by_order x a C first later here less more same =
    elim (either (nat_lt x a)) [
      | inl s ↦ rw s (less s)
      | inr s ↦ elim (either (nat_lt a x)) [ inl t ↦ rw (s, t) (more t) | inr t ↦ rw (s, t) same ]
    ]

-- a point in front of entries
in-front : (w dims b least : ℕ) (e : Entries) (p : List ℤ) (v : ℕ) → IsWhole w dims p → least ≤ address w p b →
    AreRising dims b (address w p b + 1) (flat e) → Grown dims b least e (point (address w p b) (digits_below w b p) v e)
in-front w dims b least e p v h m k =
    record { rising = (m, address-below w dims b p h, is-body-below w dims b p h, k); entries = omega arith; few = omega arith }

grown : (w dims b least : ℕ) (e : Entries) (p : List ℤ) (v : ℕ) → IsWhole w dims p → AreRising dims b least (flat e) →
    least ≤ address w p b → Grown dims b least e (put_entries w b e p v)
grown w dims b least end p v h k m = in-front w dims b least end p v h m tt
grown w dims b least (point a body u rest) p v h k m =
    by_order (address w p b) a (Grown dims b least (point a body u rest)) _ _ _
    (λ first. let f : address w p b < a = ltb-true (address w p b) a first in
    rw first (in-front w dims b least (point a body u rest) p v h m (omega (arith, f), k.1, k.2, k.3)))
    (λ later. let f : a < address w p b = ltb-true a (address w p b) later in
    let ih : Grown dims b (a + 1) rest (put_entries w b rest p v) = grown w dims b (a + 1) rest p v h k.3 (omega (arith, f)) in
    record { rising = (k.0, k.1, k.2, ih.rising); entries = omega (arith, ih.entries); few = omega (arith, ih.few) })
    (elim (either (same_digits body (digits_below w b p))) [
      | inl alike ↦ rw alike (record { rising = k; entries = omega arith; few = omega arith })
      | inr unlike ↦
          let place : ℕ = split_place b body (digits_below w b p) in
          rw unlike (record { rising = (k.0, k.1, is-body-between w dims b place p h, k.3); entries = omega arith; few = omega arith })
    ])
grown w dims b least (child a body c chain rest) p v h k m =
    by_order (address w p b) a (Grown dims b least (child a body c chain rest)) _ _ _
    (λ first. let f : address w p b < a = ltb-true (address w p b) a first in
    rw first (in-front w dims b least (child a body c chain rest) p v h m (omega (arith, f), k.1, k.2, k.3)))
    (λ later. let f : a < address w p b = ltb-true a (address w p b) later in
    let ih : Grown dims b (a + 1) rest (put_entries w b rest p v) = grown w dims b (a + 1) rest p v h k.3 (omega (arith, f)) in
    record { rising = (k.0, k.1, k.2, ih.rising); entries = omega (arith, ih.entries); few = omega (arith, ih.few) })
    (elim (either (same_digits body (digits_between w b c p))) [
      | inl alike ↦ rw alike (record { rising = k; entries = omega arith; few = omega arith })
      | inr unlike ↦
          let place : ℕ = split_place b body (digits_between w b c p) in
          rw unlike (record { rising = (k.0, k.1, is-body-between w dims b place p h, k.3); entries = omega arith; few = omega arith })
    ])

-- a node that gets a point takes more by the words of an entry and of a value at most
pub put-room : (w dims b : ℕ) (e : Entries) (p : List ℤ) (v : ℕ) → IsWhole w dims p → IsLawfulFrom dims b 0 e →
    room_of_entries dims b (put_entries w b e p v) ≤ room_of_entries dims b e + words_for (entry_digits dims b) + 1
put-room w dims b e p v h ok =
    let old : AreRising dims b 0 (flat e) = rising dims b 0 e ok in
    let g : Grown dims b 0 e (put_entries w b e p v) = grown w dims b 0 e p v h old (omega arith) in
    let more : words_for (least_digits dims b (count (put_entries w b e p v))) ≤ words_for
    (least_digits dims b (count e)) + words_for (entry_digits dims b) =
    words-sum (least_digits dims b (count (put_entries w b e p v))) (least_digits dims b (count e))
    (entry_digits dims b) (least-more dims b (count (put_entries w b e p v)) (count e) g.entries) in
    omega (arith, room-are dims b 0 e old, room-are dims b 0 (put_entries w b e p v) g.rising, more, g.entries)

-- and has as many entries as before or one more
pub put-count : (w dims b : ℕ) (e : Entries) (p : List ℤ) (v : ℕ) → IsWhole w dims p → IsLawfulFrom dims b 0 e →
    (count (put_entries w b e p v) ≡ count e) ⊎ (count (put_entries w b e p v) ≡ count e + 1)
put-count w dims b e p v h ok =
    let g : Grown dims b 0 e (put_entries w b e p v) = grown w dims b 0 e p v h (rising dims b 0 e ok) (omega arith) in
    elim (either (nat_lt (count e) (count (put_entries w b e p v)))) [
      | inl s ↦ let l : count e < count (put_entries w b e p v) = ltb-true (count e) (count (put_entries w b e p v)) s in inr (omega (arith, l, g.entries))
      | inr s ↦ let l : count (put_entries w b e p v) ≤ count e = ltb-false (count e) (count (put_entries w b e p v)) s in inl (omega (arith, l, g.few))
    ]

-- ---- the node that a split makes

module _ (w k : ℕ) (p : List ℤ) (v : ℕ) where
  -- it has two entries
  pub point_counts : (a u : ℕ) (body : List ℕ) → count (with_point w k (point a body u end) p v) ≡ 2
  point_counts a u body = elim (either (nat_lt (address w p k) a)) [ inl s ↦ rw s refl | inr s ↦ rw s refl ]

  pub child_counts : (a c : ℕ) (body : List ℕ) (chain : Entries) → count (with_point w k (child a body c chain end) p v) ≡ 2
  child_counts a c body chain = elim (either (nat_lt (address w p k) a)) [ inl s ↦ rw s refl | inr s ↦ rw s refl ]
