-- Bytes with no fault are the records of a lawful tree.
use Rattle.std.proofs.Common.{◌≡◌, ℕ, zero, suc, ◌+◌, ◌-◌, ◌*◌, ◌^◌, ◌<◌, ◌≤◌, refl, sym, ◌∙◌, ap, subst, arith}
use Rattle.std.proofs.Common.{List, [], ◌∷◌, ◌++◌, length, drop, Bool, true, false, eqb-true, leb-true}
use Rattle.std.specs.Prelude.{Option, Some, None, nat_le, ◌%◌, ◌==◌}
use Rattle.std.specs.List.{AllByRecursion as Each}
use Rattle.std.proofs.lemmas.List.{append_assoc}
use Rattle.ph_specs.specs.declared.Kind.{Kind}
use Rattle.ph_model.specs.Digits.{IsBytes}
use Rattle.ph_specs.specs.Node.{Entries, end, point, child, PlainNode, flat, nodes_below}
use Rattle.ph_model.specs.Lawful.{HasZerosFrom, IsAbove}
use Rattle.ph_specs.specs.Digits.{words_for, bytes_of}
use Rattle.ph_specs.specs.Pack.{pack}
use Rattle.ph_specs.specs.Record.{First, first_of, first_in, Read, read_point, read_child, table_digits, record_words, has_cube, entries_in, values_in, filled, unpacked}
use Rattle.ph_specs.specs.Snapshot.{packs}
use Rattle.ph_specs.specs.Load.{Fault, bad_short, bad_node, bad_extra, first_failed, Place, known, first_fits, rest_fits, has_zeros_from}
use Rattle.ph_specs.specs.Load.{words_in, next_first, next_record, record_fault, places_under, places_of, records_fault}
use Rattle.ph_model.proofs.lemmas.Joined.{length-put_together}
use Rattle.ph_specs.proofs.lemmas.Members.{Each-each}
use Rattle.ph_model.proofs.lemmas.RowsBehind.{Each-append}
use Rattle.ph_model.proofs.lemmas.Grouped.{Each-back}
use Rattle.ph_specs.proofs.lemmas.Tests.{each-test}
use Rattle.ph_model.proofs.lemmas.Counted.{kids}
use Rattle.ph_model.proofs.lemmas.ByteWords.{bytes-append, length-words_in, words-small, bytes-again}
use Rattle.ph_model.proofs.lemmas.TreePasses.{count-flat}
use Rattle.ph_model.proofs.lemmas.LawfulRead.{AreReads, tables-reads, Stands, AllStand, split-stand, length-stand, filled-lawful, filled-boxes}
use Rattle.ph_model.proofs.laws.Unpacked.{child_nodes}
use Rattle.ph_model.proofs.laws.RecordAgain.{IsFirst, IsRest, first-facts, rest-facts, numbers-many, numbers-fit}
use Rattle.ph_model.proofs.laws.RecordAgain.{entries-count, values-fit, node-reads, node-count, pack-unpacked, xs}

-- ---- tests with no fault

pub passed : (a : Bool) (f : Fault) (ts : List (Bool × Fault)) → first_failed ((a, f) ∷ ts) ≡ None → (a ≡ true) × (first_failed ts ≡ None)
passed true f ts h = (refl, h)
passed false f ts h = cc

pub neither : (o r : Option Fault) → elim o as (λ x. Option Fault) [ Some f ↦ Some f | None ↦ r ] ≡ None → (o ≡ None) × (r ≡ None)
neither None r h = (refl, h)
neither (Some f) r h = cc

-- ---- the next record

-- words of a record that pass all rules at a place
pub record Passed (kind : Kind) (width dims : ℕ) (place : Place) (words : List ℕ) : Type 0 where
  pub long : length words ≡ record_words dims (first_in words)
  pub small : Each (λ w. w < 2 ^ 64) words
  pub first : IsFirst width dims place (first_in words)
  pub rest : IsRest kind width dims place words

next-first : (dims : ℕ) (bytes : List ℕ) → first_in (next_record dims bytes) ≡ next_first bytes
next-first dims bytes =
    let f : First = next_first bytes in
    let e : record_words dims (next_first bytes) ≡
    suc (words_for (table_digits dims (next_first bytes)) +
    ((next_first bytes).entries - (next_first bytes).children)) = omega arith in
    ap (λ n. first_in (words_in n bytes)) e

pub next-passed : (kind : Kind) (width dims : ℕ) (place : Place) (at : ℕ) (bytes : List ℕ) → IsBytes bytes →
    record_fault kind width dims place at bytes ≡ None → Passed kind width dims place (next_record dims bytes) ×
    (bytes_of (next_record dims bytes) ++ drop (8 * record_words dims (next_first bytes)) bytes ≡ bytes)
next-passed kind width dims place at bytes b h =
    let n : ℕ = record_words dims (next_first bytes) in
    let t3 : List (Bool × Fault) = (rest_fits kind width dims place (next_record dims bytes), bad_node at) ∷ [] in
    let t2 : List (Bool × Fault) = (nat_le (8 * record_words dims (next_first bytes)) (length bytes), bad_short at) ∷ t3 in
    let t1 : List (Bool × Fault) = (first_fits width dims place (next_first bytes), bad_node at) ∷ t2 in
    let p : (nat_le 8 (length bytes) ≡ true) × (first_failed t1 ≡ None) = passed (nat_le 8 (length bytes)) (bad_short at) t1 h in
    let q : (first_fits width dims place (next_first bytes) ≡ true) × (first_failed t2 ≡ None) =
    passed (first_fits width dims place (next_first bytes)) (bad_node at) t2 p.1 in
    let r : (nat_le (8 * record_words dims (next_first bytes)) (length bytes) ≡ true) × (first_failed t3 ≡ None) =
    passed (nat_le (8 * record_words dims (next_first bytes)) (length bytes)) (bad_short at) t3 q.1 in
    let s : (rest_fits kind width dims place (next_record dims bytes) ≡ true) × (first_failed [] ≡ None) =
    passed (rest_fits kind width dims place (next_record dims bytes)) (bad_node at) [] r.1 in
    let l : 8 * record_words dims (next_first bytes) ≤ length bytes = leb-true (8 * n) (length bytes) r.0 in (
      record {
        long = length-words_in n bytes ∙ sym (ap (record_words dims) (next-first dims bytes));
        small = words-small n bytes b l;
        first = subst (IsFirst width dims place) (sym (next-first dims bytes)) (first-facts width dims place (next_first bytes) q.0);
        rest = rest-facts kind width dims place (next_record dims bytes) s.0;
      },
      bytes-again n bytes b l,
    )

-- ---- the node of a record

known-zeros : (level : ℕ) (digits : List ℕ) → has_zeros_from level digits ≡ true → HasZerosFrom level digits
known-zeros level digits h =
    Each-each digits (λ x p. eqb-true (x % 2 ^ (level + 1)) 0 p) (each-test (λ x. x % 2 ^ (level + 1) == 0) digits h)

-- what is known behind the children of what is read has a number for each dimension
under-long : (dims level least : ℕ) (above : List ℕ) (rs : List Read) → length above ≡ dims →
    AreReads dims level least rs → Each (λ p. length (known dims p) ≡ dims) (places_under level above rs)
under-long dims level least above [] l h = tt
under-long dims level least above (read_point a body ∷ rs) l h = under-long dims level (a + 1) above rs l h.3
under-long dims level least above (read_child a body ∷ rs) l h =
    (length-put_together level a above body (l ∙ sym h.2.0) ∙ l, under-long dims level (a + 1) above rs l h.3)

record-reads : (kind : Kind) (width dims : ℕ) (place : Place) (words : List ℕ) → Passed kind width dims place words →
    AreReads dims (first_in words).level 0 (entries_in dims words)
record-reads kind width dims place [] p = absurd (omega (arith, p.long))
record-reads kind width dims place (w ∷ rest) p =
    tables-reads (has_cube dims (first_of w)) dims (first_of w)
    (xs kind width dims place w rest p.long p.small p.first p.rest)
    (numbers-many kind width dims place w rest p.long p.small p.first p.rest)
    (numbers-fit kind width dims place w rest p.long p.small p.first p.rest) p.rest.tables

pub places-long : (kind : Kind) (width dims : ℕ) (place : Place) (words : List ℕ) →
    Passed kind width dims place words → length (known dims place) ≡ dims →
    Each (λ p. length (known dims p) ≡ dims) (places_of dims place words)
places-long kind width dims place words p l =
    under-long dims (first_in words).level 0 (known dims place) (entries_in dims words) l (record-reads kind width dims place words p)

-- the node of a record, over children that stand at its places: it stands at its own, and has these children and this record
pub record NodeIs (kind : Kind) (width dims : ℕ) (place : Place) (words : List ℕ) (cs : List PlainNode) : Type 0 where
  pub stands : Stands kind width dims place (unpacked dims words cs)
  pub has_children : child_nodes (unpacked dims words cs).chain ≡ cs
  pub packed : pack dims (unpacked dims words cs) ≡ words

pub node-is : (kind : Kind) (width dims : ℕ) (place : Place) (words : List ℕ) (cs : List PlainNode) →
    Passed kind width dims place words → length (known dims place) ≡ dims →
    AllStand kind width dims (places_of dims place words) cs → NodeIs kind width dims place words cs
node-is kind width dims place [] cs p l h = absurd (omega (arith, p.long))
node-is kind width dims place (w ∷ rest) cs p l h =
    let f : First = first_of w in
    let z : HasZerosFrom (first_of w).level (known dims place) = known-zeros f.level (known dims place) p.first.zeros in
    let i : IsAbove dims (first_of w).level (known dims place) = record { long = l; zeros = z } in
    let e : Entries = filled (entries_in dims (w ∷ rest)) (values_in dims (w ∷ rest)) cs in
    let ec : kids (entries_in dims (w ∷ rest)) ≡ (first_of w).children = (entries-count kind width dims place w rest p.long p.small p.first p.rest).1 in
    let m : length cs ≡ (first_of w).children = length-stand kind width dims f.level (known dims place) (entries_in dims (w ∷ rest)) cs h ∙ ec in
    let c : length (flat (filled (entries_in dims (w ∷ rest)) (values_in dims (w ∷ rest)) cs)) ≡
    (first_of w).entries = (node-count kind width dims place w rest p.long p.small p.first p.rest cs m).0 in
    record {
      stands = record {
        at_level = p.first.at_level;
        many = omega (arith, p.first.least, c, count-flat e);
        zeros = z;
        lawful = filled-lawful kind width dims f.level 0 (known dims place) (entries_in dims (w ∷ rest))
            (values_in dims (w ∷ rest)) cs i (record-reads kind width dims place (w ∷ rest) p)
            (values-fit kind width dims place w rest p.long p.small p.first p.rest) h;
        boxes = filled-boxes kind width dims f.level (known dims place) (entries_in dims (w ∷ rest)) (values_in dims (w ∷ rest)) cs p.rest.boxes h;
      };
      has_children = (node-reads kind width dims place w rest p.long p.small p.first p.rest cs m).2;
      packed = pack-unpacked kind width dims place w rest p.long p.small p.first p.rest cs m;
    }

-- ---- all records

-- each node with all that is below it, in preorder
abbrev pub trees : List PlainNode → List PlainNode
trees [] = []
trees (n ∷ ns) = n ∷ nodes_below n.chain ++ trees ns

trees-append : (xs ys : List PlainNode) → trees (xs ++ ys) ≡ trees xs ++ trees ys
trees-append [] ys = refl
trees-append (n ∷ ns) ys =
    ap {B = List PlainNode} (λ t. n ∷ nodes_below n.chain ++ t) (trees-append ns ys) ∙
    ap {B = List PlainNode} (λ t. n ∷ t) (sym (append_assoc (nodes_below n.chain) (trees ns) (trees ys)))

below-trees : (e : Entries) → nodes_below e ≡ trees (child_nodes e)
below-trees end = refl
below-trees (point a body v rest) = below-trees rest
below-trees (child a body c chain rest) =
    ap {B = List PlainNode} (λ t. record { level = c; chain = chain } ∷ nodes_below chain ++ t) (below-trees rest)

-- the words of a node in front of those of its children and of further nodes
in-front : (dims : ℕ) (words bytes rest : List ℕ) (n : PlainNode) (cs ms ns : List PlainNode) →
    bytes_of words ++ rest ≡ bytes → rest ≡ bytes_of (packs dims (trees ns)) → ns ≡ cs ++ ms →
    child_nodes n.chain ≡ cs → pack dims n ≡ words → bytes ≡ bytes_of (packs dims (trees (n ∷ ms)))
in-front dims words bytes rest n cs ms ns a r c k p =
    let t : trees ns ≡ nodes_below n.chain ++ trees ms = ap trees c ∙ trees-append cs ms ∙ ap (λ t. t ++ trees ms) (sym (below-trees n.chain ∙ ap trees k)) in
    sym a
    ∙ ap (λ t. bytes_of words ++ t) (r ∙ ap (λ t. bytes_of (packs dims t)) t)
    ∙ sym (bytes-append words (packs dims (nodes_below n.chain ++ trees ms)))
    ∙ ap (λ t. bytes_of (t ++ packs dims (nodes_below n.chain ++ trees ms))) (sym p)

-- bytes with no fault at places are the records of nodes that stand there
pub found : (most : ℕ) (kind : Kind) (width dims : ℕ) (ps : List Place) (at : ℕ) (bytes : List ℕ) →
    Each (λ p. length (known dims p) ≡ dims) ps → IsBytes bytes →
    records_fault most kind width dims ps at bytes ≡ None → (ns : List PlainNode) × AllStand kind width dims ps ns ×
    (bytes ≡ bytes_of (packs dims (trees ns)))
found most kind width dims [] at [] l b h = ([], tt, refl)
found most kind width dims [] at (x ∷ bytes) l b h = absurd (let z : Some (bad_extra at) ≡ None = h in cc)
found zero kind width dims (p ∷ ps) at bytes l b h = absurd (let z : Some (bad_short at) ≡ None = h in cc)
found (suc most) kind width dims (p ∷ ps) at bytes l b h =
    let size : ℕ = 8 * record_words dims (next_first bytes) in
    let words : List ℕ = next_record dims bytes in
    let s : (record_fault kind width dims p at bytes ≡ None) ×
    (records_fault most kind width dims (places_of dims p (next_record dims bytes) ++ ps)
    (at + 8 * record_words dims (next_first bytes)) (drop (8 * record_words dims (next_first bytes)) bytes) ≡
    None) = neither (record_fault kind width dims p at bytes)
    (records_fault most kind width dims (places_of dims p words ++ ps) (at + size) (drop size bytes)) h in
    let q : Passed kind width dims p (next_record dims bytes) ×
    (bytes_of (next_record dims bytes) ++ drop (8 * record_words dims (next_first bytes)) bytes ≡ bytes) =
    next-passed kind width dims p at bytes b s.0 in
    let long : Each (λ p. length (known dims p) ≡ dims) (places_of dims p (next_record dims bytes) ++ ps) =
    Each-append (λ p. length (known dims p) ≡ dims) (places_of dims p words) ps
    (places-long kind width dims p words q.0 l.0) l.1 in
    let b' : IsBytes (drop (8 * record_words dims (next_first bytes)) bytes) =
    Each-back (λ b. b < 2 ^ 8) (bytes_of words) (drop size bytes) (subst IsBytes (sym q.1) b) in
    let i : (ns : List PlainNode) × AllStand kind width dims (places_of dims p (next_record dims bytes) ++ ps) ns ×
    (drop (8 * record_words dims (next_first bytes)) bytes ≡ bytes_of (packs dims (trees ns))) =
    found most kind width dims (places_of dims p words ++ ps) (at + size) (drop size bytes) long b' s.1 in
    let j : (cs : List PlainNode) × (ms : List PlainNode) × (i.0 ≡ cs ++ ms) ×
    AllStand kind width dims (places_of dims p (next_record dims bytes)) cs × AllStand kind width dims ps ms =
    split-stand kind width dims (places_of dims p words) ps i.0 i.1 in
    let n : NodeIs kind width dims p (next_record dims bytes) j.0 = node-is kind width dims p words j.0 q.0 l.0 j.3 in (
      unpacked dims (next_record dims bytes) j.0 ∷ j.1,
      (n.stands, j.4),
      in-front dims words bytes (drop size bytes) (unpacked dims words j.0) j.0 j.1 i.0 q.1 i.2 j.2 n.has_children n.packed,
    )
