-- A record that was read, and the records of its children behind it.
use Rattle.std.proofs.Common.{◌≡◌, ℕ, ◌+◌, ◌*◌, ◌≤◌, sym, ◌∙◌, ap, subst, arith, List, [], ◌∷◌, ◌++◌, length, take, drop}
use Rattle.std.specs.Prelude.{None}
use Rattle.std.proofs.lemmas.List.{length-append, length-drop, drop-drop, take-append-drop}
use Rattle.ph_specs.specs.declared.Kind.{Kind}
use Rattle.ph_model.specs.Digits.{IsBytes}
use Rattle.ph_specs.specs.Node.{PlainNode}
use Rattle.ph_specs.specs.Record.{First, first_in, record_words, entries_in, unpacked}
use Rattle.ph_specs.specs.Load.{Place, known, next_first, next_record, record_fault, places_under, places_of}
use Rattle.ph_model.proofs.lemmas.FoundTree.{Passed, next-passed}
use Rattle.ph_model.proofs.laws.RecordAgain.{entries-count}
use Rattle.ph_snap.specs.Faults.{HaveFault, HaveNone}
use Rattle.ph_snap.specs.Reads.{ReadAs}
use Rattle.ph_snap.specs.declared.fault.LoadFault.{LoadFault}
use Rattle.ph_snap.proofs.EntryParts.{under-append, under-split}
use Rattle.ph_snap.proofs.NodeReads.{read-node}
use Rattle.ph_snap.proofs.RecordFaults.{next-first, fits-whole, words-many, kids-places, kids-count, none-node, fault-below}
use Rattle.ph_snap.proofs.Sizes.{AreCounted, unpacked-counts}
use Rattle.ph_snap.proofs.Stepping.{bytes-drop, take-whole}

entries-many : (kind : Kind) (width dims : ℕ) (p : Place) (words : List ℕ) → Passed kind width dims p words → length (entries_in dims words) ≡ (first_in words).entries
entries-many kind width dims p [] h = absurd (omega (arith, h.long))
entries-many kind width dims p (w ∷ rest) h =
    (entries-count kind width dims p w rest h.long h.small h.first h.rest).0

-- the words are the record that the bytes have at a place, and it keeps the rules of where it stands
pub record StandsAt (kind : Kind) (width dims : ℕ) (bytes : List ℕ) (p : Place) (at : ℕ) (words : List ℕ) : Type 0 where
  pub fits : IsBytes bytes
  pub begins : at ≤ length bytes
  pub none : record_fault kind width dims p at (drop at bytes) ≡ None
  pub same : words ≡ next_record dims (drop at bytes)

-- the places of the children among the first entries
abbrev stands : (dims : ℕ) (p : Place) (words : List ℕ) → ℕ → List Place
stands dims p words i = places_under (first_in words).level (known dims p) (take i (entries_in dims words))

module _ {kind : Kind} {width dims : ℕ} {bytes : List ℕ} {p : Place} {at : ℕ} {words : List ℕ} (k : StandsAt kind width dims bytes p at words) where
  is-passed : Passed kind width dims p words
  is-passed =
      subst (Passed kind width dims p) (sym k.same) (next-passed kind width dims p at (drop at bytes) (bytes-drop bytes at k.fits) k.none).0

  size : length words ≡ record_words dims (next_first (drop at bytes))
  size = ap length k.same ∙ words-many dims (drop at bytes)

  there : 8 * record_words dims (next_first (drop at bytes)) ≤ length (drop at bytes)
  there = fits-whole kind width dims p at (drop at bytes) (bytes-drop bytes at k.fits) k.none

  pub inside : at + 8 * length words ≤ length bytes
  inside =
      omega (arith, size, there, length-drop at bytes)

  pub many : length (entries_in dims words) ≡ (first_in words).entries
  many = entries-many kind width dims p words is-passed

  all-of : places_of dims p (next_record dims (drop at bytes)) ≡ places_under (first_in words).level (known dims p) (entries_in dims words)
  all-of = ap (places_of dims p) (sym k.same)

  whole : (i : ℕ) → (first_in words).entries ≤ i →
      places_under (first_in words).level (known dims p) (take i (entries_in dims words)) ≡
      places_of dims p (next_record dims (drop at bytes))
  whole i h =
      ap (places_under (first_in words).level (known dims p)) (take-whole (entries_in dims words) i (omega (arith, h, many))) ∙ sym all-of

  -- as many as there are children
  pub stands-many : (i : ℕ) → (first_in words).entries ≤ i →
      length (places_under (first_in words).level (known dims p) (take i (entries_in dims words))) ≡ (first_in words).children
  stands-many i h =
      ap (λ es. length (places_under (first_in words).level (known dims p) es)) (take-whole (entries_in dims words) i (omega (arith, h, many)))
      ∙ kids-places (first_in words).level (known dims p) (entries_in dims words)
      ∙ kids-count kind width dims p words is-passed

  -- and no more than that among the first ones
  pub stands-few : (i : ℕ) → length (places_under (first_in words).level (known dims p) (take i (entries_in dims words))) ≤ (first_in words).children
  stands-few i =
      let level : ℕ = (first_in words).level in
      let es = entries_in dims words in
      let e : places_under (first_in words).level (known dims p) (entries_in dims words) ≡ stands dims p words i ++
      places_under (first_in words).level (known dims p) (drop i (entries_in dims words)) =
      ap (places_under level (known dims p)) (sym (take-append-drop i es)) ∙ under-append level (known dims p)
      (take i es) (drop i es) in
      omega (
        arith,
        ap (λ (t : List Place). length t) e,
        length-append (stands dims p words i) (places_under level (known dims p) (drop i es)),
        kids-places level (known dims p) es,
        kids-count kind width dims p words is-passed,
      )

  pub all-none : (i end : ℕ) → (first_in words).entries ≤ i →
      HaveNone kind width dims (places_under (first_in words).level (known dims p) (take i (entries_in dims words)))
      (at + 8 * length words) bytes end → HaveNone kind width dims (p ∷ []) at bytes end
  all-none i end h n =
      none-node kind width dims bytes p at end k.none
      (subst (λ t. HaveNone kind width dims (places_of dims p (next_record dims (drop at bytes))) (at + 8 * t) bytes
      end) size (subst (λ t. HaveNone kind width dims t (at + 8 * length words) bytes end) (whole i h) n))

  pub child-fault : (i mid : ℕ) (q : Place) (f : LoadFault) →
      places_under (first_in words).level (known dims p) (take (i + 1) (entries_in dims words)) ≡
      places_under (first_in words).level (known dims p) (take i (entries_in dims words)) ++ q ∷ [] →
      HaveNone kind width dims (places_under (first_in words).level (known dims p) (take i (entries_in dims words)))
      (at + 8 * length words) bytes mid → HaveFault kind width dims (q ∷ []) mid bytes f →
      HaveFault kind width dims (p ∷ []) at bytes f
  child-fault i mid q f e n h =
      fault-below kind width dims bytes p at mid (stands dims p words i) _ q f k.none
      (all-of ∙ under-split (first_in words).level (known dims p) (entries_in dims words) i q e)
      (subst (λ t. HaveNone kind width dims (stands dims p words i) (at + 8 * t) bytes mid) size n)
      h

  pub read-all : (end : ℕ) (cs : List PlainNode) → length cs ≡ (first_in words).children →
      at + 8 * length words ≤ end → ReadAs dims (drop (at + 8 * length words) bytes) cs (drop end bytes) →
      ReadAs dims (drop at bytes) (unpacked dims words cs ∷ []) (drop end bytes)
  read-all end cs m e r =
      let n : ℕ = 8 * record_words dims (next_first (drop at bytes)) in
      let left : drop (at + 8 * length words) bytes ≡ drop (8 * record_words dims (next_first (drop at bytes)))
      (drop at bytes) = ap (λ t. drop (at + 8 * t) bytes) size ∙ sym (drop-drop n at bytes) in
      let c : length cs ≡ (next_first (drop at bytes)).children = m ∙
      ap (λ t. (first_in t).children) k.same ∙ ap (λ (f : First). f.children) (next-first dims (drop at bytes)) in
      subst (λ t. ReadAs dims (drop at bytes) (unpacked dims t cs ∷ []) (drop end bytes)) (sym k.same)
      (read-node dims (drop at bytes) (drop end bytes) cs
      (omega (arith, there))
      (omega (arith, length-drop end bytes, length-drop n (drop at bytes), length-drop at bytes, e, size))
      c
      (subst (λ t. ReadAs dims t cs (drop end bytes)) left r))

  pub counts : (cs : List PlainNode) → length cs ≡ (first_in words).children → AreCounted dims words cs
  counts cs m = unpacked-counts kind width dims p words cs is-passed m
