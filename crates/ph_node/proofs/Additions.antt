-- A node with a point more.
use Rattle.std.proofs.Common.{◌≡◌, ◌≢◌, ℕ, suc, ◌+◌, ◌^◌, ◌<◌, ◌≤◌, List, [], ◌∷◌, ◌++◌, length, map, refl, ap}
use Rattle.std.proofs.Common.{sym, ◌∙◌, arith, true, false, not, cond, lt-ltb, le-ltb, inl, inr}
use Rattle.std.specs.Prelude.{None, nat_le, nat_lt, position}
use Rattle.std.proofs.lemmas.Bool.{lt-leb, le-leb, eqb-false}
use Rattle.ph_model.specs.EntryEdits.{has_address, point_entry, inserted}
use Rattle.ph_model.specs.Lawful.{IsBody}
use Rattle.ph_specs.specs.Node.{PlainNode, Flat}
use Rattle.ph_model.specs.EntryList.{Entry, entries}
use Rattle.ph_model.proofs.laws.EntryEdits.{IsAbsent, absent-by}
use Rattle.ph_linear.proofs.Entries.{split}
use Rattle.ph_bits.specs.Edits.{edited}
use Rattle.ph_node.specs.OneEdit.{flat_of, flats_of, held_nodes, nodes_held}
use Rattle.ph_node.specs.Places.{place_for}
use Rattle.ph_node.proofs.Keeps.{still-inserted}
use Rattle.ph_node.proofs.Lists.{Renewed}
use Rattle.ph_node.proofs.OldNodes.{IsOld}
use Rattle.ph_node.proofs.Places.{place-le}

module _ (a : ℕ) (b : List ℕ) (v : ℕ) where
  -- as the record has it
  flats-more : (es : List Entry) → IsAbsent a es →
      edited (place_for a es) 0 1 (flat_of (point_entry a b v)) (map flat_of es) ≡ map flat_of (inserted (point_entry a b v) es)
  flats-more [] n = refl
  flats-more (e ∷ es) n =
      elim (split a e.addr) [
        | inl l ↦
            ap (λ s. edited (cond (not s) (1 + place_for a es) 0) 0 1 (flat_of (point_entry a b v)) (map flat_of (e ∷ es))) (le-leb a e.addr (omega (arith, l)))
            ∙ sym (ap (λ s. map flat_of (cond s (point_entry a b v ∷ e ∷ es) (e ∷ inserted (point_entry a b v) es))) (lt-ltb a e.addr l))
        | inr l ↦
            let d : e.addr ≢ a = eqb-false e.addr a n.0 in
            let k : 1 + place_for a es ≡ suc (place_for a es) = omega arith in
            ap (λ s. edited (cond (not s) (1 + place_for a es) 0) 0 1 (flat_of (point_entry a b v)) (map flat_of (e ∷ es))) (lt-leb a e.addr (omega (arith, l, d)))
            ∙ ap (λ s. edited s 0 1 (flat_of (point_entry a b v)) (map flat_of (e ∷ es))) k
            ∙ ap {B = List Flat} (λ u. flat_of e ∷ u) (flats-more es n.1)
            ∙ sym (ap (λ s. map flat_of (cond s (point_entry a b v ∷ e ∷ es) (e ∷ inserted (point_entry a b v) es))) (le-ltb a e.addr l))
      ]

  nodes-more : (es : List Entry) → nodes_held (inserted (point_entry a b v) es) ≡ nodes_held es
  nodes-more [] = refl
  nodes-more (e ∷ es) =
      elim (nat_lt a e.addr) as (λ s. nodes_held (cond s (point_entry a b v ∷ e ∷ es) (e ∷ inserted (point_entry a b v) es)) ≡ nodes_held (e ∷ es)) [
        | true ↦ refl
        | false ↦ ap (λ u. held_nodes e.what ++ u) (nodes-more es)
      ]

  some-more : (es : List Entry) → 1 ≤ length (inserted (point_entry a b v) es)
  some-more [] = omega arith
  some-more (e ∷ es) =
      elim (nat_lt a e.addr) as (λ s. 1 ≤ length (cond s (point_entry a b v ∷ e ∷ es) (e ∷ inserted (point_entry a b v) es))) [ true ↦ omega arith | false ↦ omega arith ]

  module _ (d : ℕ) (ws : List ℕ) (ns : List PlainNode) (t : PlainNode) (o : IsOld d ws ns t) (i : ℕ)
      (absent : position (has_address a) (entries t) ≡ None) (p : i ≡ place_for a (entries t)) (l : a < 2 ^ d)
      (h : IsBody d t.level b) where
    pub added : Renewed d t.level (edited i 0 1 (flat_of (point_entry a b v)) (flats_of t)) ns (inserted (point_entry a b v) (entries t))
    added =
        let n = absent-by a (entries t) absent in
        record {
          flats = ap (λ k. edited k 0 1 (flat_of (point_entry a b v)) (flats_of t)) p ∙ flats-more (entries t) n;
          nodes = nodes-more (entries t) ∙ o.nodes;
          kept = still-inserted d t.level (entries t) (point_entry a b v) l h n o.kept;
          some = some-more (entries t);
          bottom = o.bottom;
        }

    pub place_within : i ≤ length (entries t)
    place_within = omega (arith, p, place-le (λ e. nat_le a e.addr) (entries t))
