-- The places of an address, and of the one behind it, among entries.
use Rattle.std.proofs.Common.{◌≡◌, ◌≢◌, ℕ, zero, suc, ◌+◌, ◌^◌, ◌<◌, ◌≤◌, List, [], ◌∷◌, length, not, cond, refl, ap, sym, ◌∙◌, subst, arith, inl, inr}
use Rattle.std.proofs.lemmas.Bool.{lt-leb, le-leb, eqb-false}
use Rattle.ph_specs.specs.Node.{PlainNode}
use Rattle.ph_model.specs.EntryList.{Entry, entries}
use Rattle.ph_model.proofs.laws.EntryEdits.{IsAbsent}
use Rattle.ph_linear.proofs.Entries.{split}
use Rattle.ph_node.specs.Kept.{AreKept}
use Rattle.ph_node.specs.Merge.{addr_at}
use Rattle.ph_node.specs.Places.{place_for}
use Rattle.ph_node.proofs.OldNodes.{IsOld}

place-first : (a : ℕ) (e : Entry) (es : List Entry) → a ≤ e.addr → place_for a (e ∷ es) ≡ 0
place-first a e es l = ap {B = ℕ} (λ b. cond (not b) (1 + place_for a es) 0) (le-leb a e.addr l)

place-later : (a : ℕ) (e : Entry) (es : List Entry) → e.addr < a → place_for a (e ∷ es) ≡ 1 + place_for a es
place-later a e es l = ap {B = ℕ} (λ b. cond (not b) (1 + place_for a es) 0) (lt-leb a e.addr l)

-- ---- an address that no entry has

pub place_absent : (a : ℕ) (es : List Entry) → IsAbsent a es → place_for a es ≡ place_for (a + 1) es
place_absent a [] n = refl
place_absent a (e ∷ es) n =
    elim (split a e.addr) [
      | inl l ↦ place-first a e es (omega (arith, l)) ∙ sym (place-first (a + 1) e es (omega (arith, l)))
      | inr l ↦
          let d : e.addr ≢ a = eqb-false e.addr a n.0 in
          place-later a e es (omega (arith, l, d)) ∙ ap (λ k. 1 + k) (place_absent a es n.1) ∙ sym (place-later (a + 1) e es (omega (arith, l)))
    ]

-- ---- the address of an entry

place-low : (d level a least : ℕ) (es : List Entry) → AreKept d level least es → a ≤ least → place_for a es ≡ 0
place-low d level a least [] k l = refl
place-low d level a least (e ∷ es) k l = place-first a e es (omega (arith, k.0, l))

at-entry : (d level least : ℕ) (es : List Entry) (i : ℕ) → AreKept d level least es → i < length es
    → (least ≤ addr_at es i) × (addr_at es i < 2 ^ d) × (i ≡ place_for (addr_at es i) es) × (i + 1 ≡ place_for (addr_at es i + 1) es)
at-entry d level least [] i k l = absurd (omega (arith, l))
at-entry d level least (e ∷ es) zero k l = (
  k.0,
  k.1,
  sym (place-first e.addr e es (omega arith)),
  sym (place-later (e.addr + 1) e es (omega arith) ∙
      ap (λ n. 1 + n) (place-low d level (e.addr + 1) (e.addr + 1) es k.3 (omega arith))),
)
at-entry d level least (e ∷ es) (suc i) k l =
    let r = at-entry d level (e.addr + 1) es i k.3 (omega (arith, l)) in
    let a : place_for (addr_at es i) (e ∷ es) ≡ 1 + place_for (addr_at es i) es = place-later (addr_at es i) e es (omega (arith, r.0)) in
    let b : place_for (addr_at es i + 1) (e ∷ es) ≡ 1 + place_for (addr_at es i + 1) es = place-later (addr_at es i + 1) e es (omega (arith, r.0)) in
    (omega (arith, r.0, k.0), r.1, omega (arith, a, r.2), omega (arith, b, r.3))

module _ (d : ℕ) (ws : List ℕ) (ns : List PlainNode) (t : PlainNode) (o : IsOld d ws ns t) (i : ℕ)
    (l : i < length (entries t)) (a : ℕ) (e : addr_at (entries t) i ≡ a) where
  pub address_low : a < 2 ^ d
  address_low = subst (λ x. x < 2 ^ d) e (at-entry d t.level 0 (entries t) i o.kept.rise l).1

  pub front_at : i ≡ place_for a (entries t)
  front_at = (at-entry d t.level 0 (entries t) i o.kept.rise l).2 ∙ ap (λ x. place_for x (entries t)) e

  pub behind_at : i + 1 ≡ place_for (a + 1) (entries t)
  behind_at = (at-entry d t.level 0 (entries t) i o.kept.rise l).3 ∙ ap (λ x. place_for (x + 1) (entries t)) e
