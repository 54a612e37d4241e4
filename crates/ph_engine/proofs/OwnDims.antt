-- A check reads a snapshot by its own header, so it never tells that its dimensions are others.
use Rattle.std.proofs.Common.{◌≡◌, ◌+◌, ◌*◌, ℕ, zero, suc, arith, Bool, true, false, List, [], ◌∷◌, ◌++◌, length, drop, refl, ap, eq-eqb, leb-true}
use Rattle.std.specs.Prelude.{◌==◌, ◌&&◌, nat_le, if◌then◌else◌, slice_index, Option, Some, None}
use Rattle.ph_specs.specs.declared.Kind.{Kind}
use Rattle.ph_specs.specs.declared.Kind.TheVariants.{Points, Boxes}
use Rattle.ph_specs.specs.Load.{Fault, bad_magic, bad_header, bad_dims, bad_short, bad_node, bad_extra, Place, first_failed, header_tests_1}
use Rattle.ph_specs.specs.Load.{header_tests, has_magic, has_byte, is_flag, is_width, dims_fit, named_width, first_fits, rest_fits, record_fault}
use Rattle.ph_specs.specs.Load.{records_fault, next_first, next_record, places_of, places_at_start, body_fault, fault_by}
use Rattle.ph_specs.specs.Program.{check_line, named_kind, own_fault, words_unless, words_of_file}
use Rattle.ph_specs.specs.Record.{record_words}
use Rattle.ph_specs.specs.Refusals.{fetch}
use Rattle.ph_specs.specs.Reply.{Reply, line_of, reply_text}
use Rattle.ph_specs.specs.Snapshot.{kind_byte}
use Rattle.ph_specs.specs.State.{Files}
use Rattle.ph_specs.proofs.lemmas.Tests.{and-made}
use Rattle.ph_snap.specs.Faults.{IsLoadFault}
use Rattle.ph_snap.specs.Headers.{IsHeaderFault}
use Rattle.ph_snap.specs.declared.fault.LoadFault.{LoadFault}
use Rattle.ph_snap.specs.declared.fault.LoadFault.TheVariants as by

-- another fault than this, or none
abbrev IsOther : Option Fault → Type 0
IsOther first = first ≡ Some bad_dims → ⊥

-- ---- the records

four-other : (a b c d : Bool) (at : ℕ) → IsOther (first_failed ((a, bad_short at) ∷ (b, bad_node at) ∷ (c, bad_short at) ∷ (d, bad_node at) ∷ []))
four-other false b c d at e = cc
four-other true false c d at e = cc
four-other true true false d at e = cc
four-other true true true false at e = cc
four-other true true true true at e = cc

record-other : (kind : Kind) (width dims : ℕ) (place : Place) (at : ℕ) (bytes : List ℕ) → IsOther (record_fault kind width dims place at bytes)
record-other kind width dims place at bytes =
    four-other (nat_le 8 (length bytes)) (first_fits width dims place (next_first bytes))
    (nat_le (8 * record_words dims (next_first bytes)) (length bytes))
    (rest_fits kind width dims place (next_record dims bytes)) at

or-rest : (first rest : Option Fault) → IsOther first → IsOther rest → IsOther (elim first [ Some f ↦ Some f | None ↦ rest ])
or-rest (Some f) rest h k e = h e
or-rest None rest h k e = k e

records-other : (most : ℕ) (kind : Kind) (width dims : ℕ) (places : List Place) (at : ℕ) (bytes : List ℕ) → IsOther (records_fault most kind width dims places at bytes)
records-other zero kind width dims [] at [] e = cc
records-other (suc most) kind width dims [] at [] e = cc
records-other zero kind width dims [] at (b ∷ bytes) e = cc
records-other (suc most) kind width dims [] at (b ∷ bytes) e = cc
records-other zero kind width dims (p ∷ places) at bytes e = cc
records-other (suc most) kind width dims (p ∷ places) at bytes e =
    let size = 8 * record_words dims (next_first bytes) in
    or-rest (record_fault kind width dims p at bytes) _ (record-other kind width dims p at bytes)
    (records-other most kind width dims (places_of dims p (next_record dims bytes) ++ places) (at + size) (drop size bytes)) e

-- ---- the header

six-other : (a b c d e g : Bool) → (b ≡ true → g ≡ true) →
    IsOther (first_failed ((a, bad_magic) ∷ (b, bad_header 4) ∷ (c, bad_header 5) ∷ (d, bad_header 6) ∷
    (e, bad_header 7) ∷ (g, bad_dims) ∷ []))
six-other false b c d e g h k = cc
six-other true false c d e g h k = cc
six-other true true false d e g h k = cc
six-other true true true false e g h k = cc
six-other true true true true false g h k = cc
six-other true true true true true false h k = let clash : false ≡ true = h refl in cc
six-other true true true true true true h k = cc

flag-low : (bytes : List ℕ) → has_byte bytes 4 is_flag ≡ true → nat_le (slice_index bytes 4) 1 ≡ true
flag-low [] h = refl
flag-low (a ∷ []) h = refl
flag-low (a ∷ b ∷ []) h = refl
flag-low (a ∷ b ∷ c ∷ []) h = refl
flag-low (a ∷ b ∷ c ∷ d ∷ []) h = refl
flag-low (a ∷ b ∷ c ∷ d ∷ e ∷ bytes) h = h

kind-again : (n : ℕ) → nat_le n 1 ≡ true → (n == kind_byte (if n == 1 then Boxes else Points)) ≡ true
kind-again zero h = refl
kind-again (suc zero) h = refl
kind-again (suc (suc n)) h = absurd (omega (arith, leb-true (suc (suc n)) 1 h))

own-header : (bytes : List ℕ) (width own : ℕ) → width ≡ own → has_byte bytes 4 is_flag ≡ true →
    ((slice_index bytes 4 == kind_byte (named_kind bytes)) && (slice_index bytes 5 == slice_index bytes 5) &&
    (width == own)) ≡ true
own-header bytes width own e h =
    and-made _ _ (and-made _ _ (kind-again (slice_index bytes 4) (flag-low bytes h)) (eq-eqb (slice_index bytes 5) (slice_index bytes 5) refl)) (eq-eqb width own e)

own-other : (bytes : List ℕ) → IsOther (own_fault bytes)
own-other bytes = by-magic (has_magic 1 bytes) refl
  where
    by-magic : (m : Bool) → has_magic 1 bytes ≡ m →
        IsOther (elim m as (λ x. Option Fault) [
          | true ↦ fault_by (header_tests_1 (named_kind bytes) (slice_index bytes 5)
              (if m then 32 else slice_index bytes 6) bytes) (named_kind bytes) (if m then 32 else slice_index bytes 6)
              (slice_index bytes 5) (slice_index bytes 6) bytes
          | false ↦
              fault_by (header_tests (named_kind bytes) (slice_index bytes 5) (if m then 32 else slice_index bytes 6) bytes)
              (named_kind bytes) (if m then 32 else slice_index bytes 6) (slice_index bytes 5) (slice_index bytes 7) bytes
        ])
    by-magic true e =
        or-rest (first_failed (header_tests_1 (named_kind bytes) (slice_index bytes 5) 32 bytes))
        (body_fault (named_kind bytes) 32 (slice_index bytes 5) (slice_index bytes 6) bytes)
        (six-other (has_magic 1 bytes) (has_byte bytes 4 is_flag)
        (has_byte bytes 5 (dims_fit 8 (slice_index bytes 4))) (has_byte bytes 6 is_flag)
        (has_byte bytes 7 (λ b. b == 0)) _ (own-header bytes 32 32 refl))
        (records-other (length bytes) (named_kind bytes) 32 (slice_index bytes 5) (places_at_start (slice_index bytes 6)) 8 (drop 8 bytes))
    by-magic false e =
        or-rest (first_failed (header_tests (named_kind bytes) (slice_index bytes 5) (slice_index bytes 6) bytes))
        (body_fault (named_kind bytes) (slice_index bytes 6) (slice_index bytes 5) (slice_index bytes 7) bytes)
        (six-other (has_magic 2 bytes) (has_byte bytes 4 is_flag)
        (has_byte bytes 5 (dims_fit 16 (slice_index bytes 4))) (has_byte bytes 6 is_width)
        (has_byte bytes 7 is_flag) _ (own-header bytes (slice_index bytes 6) (slice_index bytes 6) refl))
        (records-other (length bytes) (named_kind bytes) (slice_index bytes 6) (slice_index bytes 5) (places_at_start (slice_index bytes 7)) 8 (drop 8 bytes))

-- ---- the line

line-other : (first : Option Fault) (kind : Kind) (dims width : ℕ) (bytes : List ℕ) → IsOther first →
    line_of (words_unless first kind dims width bytes) ≡ reply_text Reply.BadDims → ⊥
line-other (Some bad_magic) kind dims width bytes h e = let clash : 109 ≡ 100 = ap (λ l. slice_index l 4) e in omega (arith, clash)
line-other (Some (bad_header at)) kind dims width bytes h e = let clash : 104 ≡ 100 = ap (λ l. slice_index l 4) e in omega (arith, clash)
line-other (Some bad_dims) kind dims width bytes h e = h refl
line-other (Some (bad_short at)) kind dims width bytes h e = let clash : 115 ≡ 100 = ap (λ l. slice_index l 4) e in omega (arith, clash)
line-other (Some (bad_node at)) kind dims width bytes h e = let clash : 110 ≡ 100 = ap (λ l. slice_index l 4) e in omega (arith, clash)
line-other (Some (bad_extra at)) kind dims width bytes h e = let clash : 101 ≡ 100 = ap (λ l. slice_index l 4) e in omega (arith, clash)
line-other None Points dims width bytes h e = let clash : 112 ≡ 98 = ap (λ l. slice_index l 0) e in omega (arith, clash)
line-other None Boxes dims width bytes h e = let clash : 111 ≡ 97 = ap (λ l. slice_index l 1) e in omega (arith, clash)

file-other : (found : Option (List ℕ)) → line_of (words_of_file found) ≡ reply_text Reply.BadDims → ⊥
file-other None e = let clash : 101 ≡ 98 = ap (λ l. slice_index l 0) e in omega (arith, clash)
file-other (Some bytes) e = line-other (own_fault bytes) (named_kind bytes) (slice_index bytes 5) (named_width bytes) bytes (own-other bytes) e

pub own-dims : (most : ℕ) (files : Files) (fault : Bool) (file : List ℕ) → check_line most files fault file ≡ reply_text Reply.BadDims → ⊥
own-dims most files true file e = let clash : 101 ≡ 98 = ap (λ l. slice_index l 0) e in omega (arith, clash)
own-dims most files false file e = file-other (fetch most files file) e

-- ---- the fault of a header

pub header-given : (bytes : List ℕ) (e : LoadFault) → IsHeaderFault bytes e → IsLoadFault (own_fault bytes) e
header-given bytes by.Magic h = h.first (named_kind bytes) (slice_index bytes 5) (named_width bytes)
header-given bytes (by.Header at) h = h.first (named_kind bytes) (slice_index bytes 5) (named_width bytes)
header-given bytes by.Dims h = absurd h.own
header-given bytes (by.Short at) h = absurd h.own
header-given bytes (by.Node at) h = absurd h.own
header-given bytes (by.Extra at) h = absurd h.own
header-given bytes by.NoMemory h = absurd h.own
