-- The faults of records one behind the other.
use Rattle.std.proofs.Common.{◌≡◌, ℕ, zero, suc, ◌+◌, ◌-◌, ◌*◌, ◌<◌, ◌≤◌, refl, sym, ◌∙◌, ap, subst, arith, List}
use Rattle.std.proofs.Common.{[], ◌∷◌, ◌++◌, length, drop, true, append_assoc}
use Rattle.std.specs.Prelude.{Option, Some, None}
use Rattle.std.proofs.lemmas.List.{length-append, length-drop, drop-drop}
use Rattle.std.proofs.lemmas.Bool.Decides.{nat_tests}
use Rattle.ph_specs.specs.declared.Kind.{Kind}
use Rattle.ph_specs.specs.Digits.{words_for, bytes_of}
use Rattle.ph_model.specs.Digits.{IsBytes}
use Rattle.ph_specs.specs.Record.{first_in, Read, read_point, read_child, table_digits, record_words, entries_in}
use Rattle.ph_specs.specs.Load.{Fault, Place, root, under, level_fits}
use Rattle.ph_specs.specs.Load.{words_in, next_first, next_record, record_fault, places_under, places_of, records_fault}
use Rattle.ph_model.proofs.lemmas.FoundTree.{Passed, next-passed}
use Rattle.ph_model.proofs.lemmas.ByteWords.{length-bytes, length-words_in}
use Rattle.ph_model.proofs.lemmas.Counted.{kids}
use Rattle.ph_model.proofs.laws.RecordAgain.{entries-count}
use Rattle.ph_snap.specs.Faults.{fault_of, IsGiven, IsLoadFault, faults, HaveFault, HaveNone}
use Rattle.ph_snap.specs.RecordPlaces.{ceiling}
use Rattle.ph_snap.specs.declared.fault.LoadFault.{LoadFault}

-- ---- one record with no fault

pub next-first : (dims : ℕ) (bytes : List ℕ) → first_in (next_record dims bytes) ≡ next_first bytes
next-first dims bytes =
    let e : record_words dims (next_first bytes) ≡
    suc (words_for (table_digits dims (next_first bytes)) +
    ((next_first bytes).entries - (next_first bytes).children)) = omega arith in
    ap (λ n. first_in (words_in n bytes)) e

pub words-many : (dims : ℕ) (bytes : List ℕ) → length (next_record dims bytes) ≡ record_words dims (next_first bytes)
words-many dims bytes = length-words_in (record_words dims (next_first bytes)) bytes

-- it is there whole
pub fits-whole : (kind : Kind) (width dims : ℕ) (place : Place) (n : ℕ) (bytes : List ℕ) → IsBytes bytes →
    record_fault kind width dims place n bytes ≡ None → 8 * record_words dims (next_first bytes) ≤ length bytes
fits-whole kind width dims place n bytes b h =
    omega (
      arith,
      ap length (next-passed kind width dims place n bytes b h).1,
      length-append (bytes_of (next_record dims bytes)) (drop (8 * record_words dims (next_first bytes)) bytes),
      length-bytes (next_record dims bytes),
      words-many dims bytes,
    )

pub kids-places : (level : ℕ) (above : List ℕ) (rs : List Read) → length (places_under level above rs) ≡ kids rs
kids-places level above [] = refl
kids-places level above (read_point a body ∷ rs) = kids-places level above rs
kids-places level above (read_child a body ∷ rs) = ap suc (kids-places level above rs)

pub kids-count : (kind : Kind) (width dims : ℕ) (place : Place) (words : List ℕ) →
    Passed kind width dims place words → kids (entries_in dims words) ≡ (first_in words).children
kids-count kind width dims place [] p = absurd (omega (arith, p.long))
kids-count kind width dims place (w ∷ rest) p = (entries-count kind width dims place w rest p.long p.small p.first p.rest).1

pub level-below : (width : ℕ) (place : Place) (level : ℕ) → 1 ≤ width → level_fits width place level ≡ true → level < ceiling width place
level-below width root level w h = grind (arith, nat_tests)
level-below width (under parent digits) level w h = grind (arith, nat_tests)

-- ---- the number of records does not matter

pub same-faults : (n m : ℕ) (kind : Kind) (width dims : ℕ) (ps : List Place) (from : ℕ) (bytes : List ℕ) →
    length bytes ≤ n → length bytes ≤ m →
    records_fault n kind width dims ps from bytes ≡ records_fault m kind width dims ps from bytes
same-faults zero zero kind width dims ps from bytes h k = refl
same-faults zero (suc m) kind width dims [] from [] h k = refl
same-faults zero (suc m) kind width dims (p ∷ ps) from [] h k = refl
same-faults zero (suc m) kind width dims ps from (x ∷ bytes) h k = absurd (omega arith)
same-faults (suc n) zero kind width dims [] from [] h k = refl
same-faults (suc n) zero kind width dims (p ∷ ps) from [] h k = refl
same-faults (suc n) zero kind width dims ps from (x ∷ bytes) h k = absurd (omega arith)
same-faults (suc n) (suc m) kind width dims [] from [] h k = refl
same-faults (suc n) (suc m) kind width dims [] from (x ∷ bytes) h k = refl
same-faults (suc n) (suc m) kind width dims (p ∷ ps) from bytes h k =
    let size : ℕ = 8 * record_words dims (next_first bytes) in
    let l : length (drop (8 * record_words dims (next_first bytes)) bytes) ≡ length bytes - 8 * record_words dims (next_first bytes) = length-drop size bytes in
    let more = same-faults n m kind width dims (places_of dims p (next_record dims bytes) ++ ps) (from + size) (drop size bytes) (omega (arith, l)) (omega (arith, l)) in
    let step : Option Fault → Option Fault → Option Fault = λ o r. elim o [ Some f ↦ Some f | None ↦ r ] in
    ap (λ r. step (record_fault kind width dims p from bytes) r) more

-- ---- records at places

abbrev fault_or : Option Fault → Option Fault → Option Fault
fault_or o later = elim o [ Some f ↦ Some f | None ↦ later ]

one-more : (kind : Kind) (width dims : ℕ) (p : Place) (ps : List Place) (from : ℕ) (bytes : List ℕ) →
    faults kind width dims (p ∷ ps) from bytes ≡ records_fault (suc (length bytes)) kind width dims (p ∷ ps) from bytes
one-more kind width dims p ps from bytes = same-faults (length bytes) (suc (length bytes)) kind width dims (p ∷ ps) from bytes (omega arith) (omega arith)

pub one-none : (kind : Kind) (width dims : ℕ) (p : Place) (ps : List Place) (from : ℕ) (bytes : List ℕ) →
    record_fault kind width dims p from bytes ≡ None →
    faults kind width dims (p ∷ ps) from bytes ≡
    faults kind width dims (places_of dims p (next_record dims bytes) ++ ps)
    (from + 8 * record_words dims (next_first bytes)) (drop (8 * record_words dims (next_first bytes)) bytes)
one-none kind width dims p ps from bytes h =
    let size : ℕ = 8 * record_words dims (next_first bytes) in
    let l : length (drop (8 * record_words dims (next_first bytes)) bytes) ≡ length bytes - 8 * record_words dims (next_first bytes) = length-drop size bytes in
    one-more kind width dims p ps from bytes
    ∙ ap (λ o. fault_or o (records_fault (length bytes) kind width dims (places_of dims p (next_record dims bytes) ++ ps) (from + size) (drop size bytes))) h
    ∙ (same-faults (length bytes) (length (drop size bytes)) kind width dims
    (places_of dims p (next_record dims bytes) ++ ps) (from + size) (drop size bytes) (omega (arith, l)) (omega arith))

module _ (kind : Kind) (width dims : ℕ) (bytes : List ℕ) where
  pub none-more : (ps : List Place) (p : Place) (n mid end : ℕ) → HaveNone kind width dims ps n bytes mid →
      HaveNone kind width dims (p ∷ []) mid bytes end → HaveNone kind width dims (ps ++ p ∷ []) n bytes end
  none-more ps p n mid end h k qs =
      ap (λ t. faults kind width dims t n (drop n bytes)) (append_assoc ps (p ∷ []) qs) ∙ h (p ∷ qs) ∙ k qs

  -- a record with no fault, and those below it
  pub none-node : (p : Place) (n end : ℕ) → record_fault kind width dims p n (drop n bytes) ≡ None →
      HaveNone kind width dims (places_of dims p (next_record dims (drop n bytes)))
      (n + 8 * record_words dims (next_first (drop n bytes))) bytes end → HaveNone kind width dims (p ∷ []) n bytes end
  none-node p n end h k qs =
      let size : ℕ = 8 * record_words dims (next_first (drop n bytes)) in
      one-none kind width dims p qs n (drop n bytes) h
      ∙ ap (λ t. faults kind width dims (places_of dims p (next_record dims (drop n bytes)) ++ qs) (n + size) t) (drop-drop size n bytes)
      ∙ k qs

  pub same-fault : (o q : Option Fault) (f : LoadFault) → o ≡ q → IsLoadFault q f → IsLoadFault o f
  same-fault o q f e h = subst (λ x. IsLoadFault x f) (sym e) h

  -- a record with no fault, above one that has one
  pub fault-below : (p : Place) (n mid : ℕ) (front back : List Place) (q : Place) (f : LoadFault) →
      record_fault kind width dims p n (drop n bytes) ≡ None → places_of dims p (next_record dims (drop n bytes)) ≡
      front ++ q ∷ back → HaveNone kind width dims front (n + 8 * record_words dims (next_first (drop n bytes))) bytes
      mid → HaveFault kind width dims (q ∷ []) mid bytes f → HaveFault kind width dims (p ∷ []) n bytes f
  fault-below p n mid front back q f h e k l qs =
      let size : ℕ = 8 * record_words dims (next_first (drop n bytes)) in
      same-fault _ _ f
      (one-none kind width dims p qs n (drop n bytes) h
      ∙ ap (λ t. faults kind width dims (places_of dims p (next_record dims (drop n bytes)) ++ qs) (n + size) t) (drop-drop size n bytes)
      ∙ ap (λ t. faults kind width dims t (n + size) (drop (n + size) bytes)) (ap (λ t. t ++ qs) e ∙ append_assoc front (q ∷ back) qs)
      ∙ k (q ∷ back ++ qs))
      (l (back ++ qs))
