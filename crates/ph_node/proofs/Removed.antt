-- A node with an entry less.
use Rattle.std.proofs.Common.{◌≡◌, ℕ, zero, suc, ◌+◌, ◌<◌, ◌≤◌, List, [], ◌∷◌, ◌++◌, length, map, refl, ap, sym, ◌∙◌, subst, arith, lt-ltb, le-ltb, inl, inr}
use Rattle.std.specs.Prelude.{nat_lt, if◌then◌else◌}
use Rattle.ph_model.specs.EntryEdits.{what_at, without}
use Rattle.ph_specs.specs.Node.{PlainNode, Flat}
use Rattle.ph_model.specs.EntryList.{Entry, entries}
use Rattle.ph_specs.specs.Pack.{cube_digits, linear_digits}
use Rattle.ph_linear.proofs.Entries.{split}
use Rattle.ph_bits.specs.Edits.{edited, least_digits, words_wanted}
use Rattle.ph_node.specs.OneEdit.{held_nodes, nodes_held, flat_of, flats_of}
use Rattle.ph_node.specs.Split.{IsValue}
use Rattle.ph_node.proofs.Keeps.{still-without}
use Rattle.ph_node.proofs.Lists.{Renewed}
use Rattle.ph_node.proofs.OldNodes.{IsOld}
use Rattle.ph_node.proofs.Valued.{none-held}

flats-without : (es : List Entry) (i : ℕ) (x : Flat) → i < length es → edited i 1 0 x (map flat_of es) ≡ map flat_of (without es i)
flats-without [] i x l = absurd (omega (arith, l))
flats-without (e ∷ es) zero x l = refl
flats-without (e ∷ es) (suc i) x l = ap {B = List Flat} (λ u. flat_of e ∷ u) (flats-without es i x (omega (arith, l)))

nodes-without : (es : List Entry) (i : ℕ) → IsValue (what_at es i) → nodes_held (without es i) ≡ nodes_held es
nodes-without [] i h = refl
nodes-without (e ∷ es) zero h = sym (ap (λ u. u ++ nodes_held es) (none-held e.what h))
nodes-without (e ∷ es) (suc i) h = ap (λ u. held_nodes e.what ++ u) (nodes-without es i h)

length-without : (es : List Entry) (i : ℕ) → i < length es → length (without es i) + 1 ≡ length es
length-without [] i l = absurd (omega (arith, l))
length-without (e ∷ es) zero l = omega arith
length-without (e ∷ es) (suc i) l = omega (arith, length-without es i (omega (arith, l)))

-- ---- the words that it wants

least-of-two : (a b c : ℕ) → b ≤ c → (if nat_lt a b then a else b) ≤ (if nat_lt a c then a else c)
least-of-two a b c h =
    elim (split a b) [
      | inl l ↦ rw (lt-ltb a b l, lt-ltb a c (omega (arith, l, h))) (omega arith)
      | inr l ↦ elim (split a c) [
        | inl m ↦ rw (le-ltb a b l, lt-ltb a c m) (omega (arith, l))
        | inr m ↦ rw (le-ltb a b l, le-ltb a c m) h
      ]
    ]

pub shorter : (d level n p m q : ℕ) → n + 1 ≡ m → p ≤ q → words_wanted d level n p ≤ words_wanted d level m q
shorter d level n p m q e f =
    let l : linear_digits d level n ≤ linear_digits d level m = subst (λ k. linear_digits d level n ≤ linear_digits d level k) e (omega arith) in
    let h : least_digits d level n ≤ least_digits d level m = least-of-two (cube_digits d level) (linear_digits d level n) (linear_digits d level m) l in
    omega (arith, h, f)

-- ---- the node

module _ (d : ℕ) (ws : List ℕ) (ns : List PlainNode) (t : PlainNode) (o : IsOld d ws ns t) (i : ℕ) (x : Flat)
    (l : i < length (entries t)) (h : IsValue (what_at (entries t) i)) (m : 2 ≤ length (entries t)) where
  pub removed : Renewed d t.level (edited i 1 0 x (flats_of t)) ns (without (entries t) i)
  removed = record {
    flats = flats-without (entries t) i x l;
    nodes = nodes-without (entries t) i h ∙ o.nodes;
    kept = still-without d t.level (entries t) i o.kept;
    some = omega (arith, m, length-without (entries t) i l);
    bottom = o.bottom;
  }
