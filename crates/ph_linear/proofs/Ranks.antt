-- How many of the first kinds are children, as ones among their digits.
use Rattle.std.proofs.Common.{◌≡◌, ℕ, zero, suc, ◌+◌, ◌-◌, ◌*◌, ◌^◌, ◌<◌, ◌≤◌, refl, sym, ◌∙◌, ap, arith, List}
use Rattle.std.proofs.Common.{[], length, map, take, Bool, true, false, slice_index_or, get_or}
use Rattle.std.specs.Prelude.{◌==◌, if◌then◌else◌, Some, slice_get}
use Rattle.std.specs.Option.{option_map}
use Rattle.std.proofs.lemmas.Option.{slice_get-get_or, slice_get-map}
use Rattle.std.specs.List.{AllByRecursion as Each}
use Rattle.std.specs.Int.RustNames.{count_ones}
use Rattle.std.proofs.lemmas.Nat.{ones_cat}
use Rattle.ph_specs.specs.Digits.{words_for}
use Rattle.ph_model.specs.Digits.{digits_at}
use Rattle.ph_specs.specs.Pack.{linear_digits}
use Rattle.ph_specs.specs.Record.{first_in, Read, read}
use Rattle.ph_bits.specs.Fields.{ones_in}
use Rattle.ph_bits.specs.Packed.{rank_at}
use Rattle.ph_model.proofs.laws.TableFields.{both-counts}
use Rattle.ph_model.specs.Layout.{IsRecord, entries_as, read_address, is_child}
use Rattle.ph_model.specs.NodeSize.{children_in, points_in}
use Rattle.ph_model.proofs.laws.WordDigits.{digits-parts, digits-below}
use Rattle.ph_linear.specs.Linear.{kinds, addresses, bodies}
use Rattle.ph_linear.proofs.Columns.{length-kinds, length-addresses, kind-digits}
use Rattle.ph_linear.proofs.Entries.{no_read, read-at, length-read, address-read, kind-read, count-more}
use Rattle.ph_model.proofs.lemmas.ReadColumns.{length-parts}

one-digit : (k : ℕ) → k < 2 ^ 1 → count_ones k ≡ (if k == 1 then 1 else 0)
unfolding count_ones
one-digit zero l = refl
one-digit (suc zero) l = refl
one-digit (suc (suc k)) l = absurd (omega (arith, l))

pub children-ones : (dims : ℕ) (words : List ℕ) (i : ℕ) → IsRecord false dims words → Each (λ x. x < 2 ^ 64) words → i ≤ (first_in words).entries
    → children_in (take i (entries_as false dims words)) ≡ ones_in words 64 i
unfolding count_ones
children-ones dims words zero r h l = sym (ap count_ones (none (digits_at words 64 0) (digits-below words 64 0)))
  where
    none : (k : ℕ) → k < 2 ^ 0 → k ≡ 0
    none k l = omega (arith, l)
children-ones dims words (suc i) r h l =
    let n : ℕ = (first_in words).entries in
    let k : ℕ = slice_index_or (kinds dims words) i 0 in
    let e : slice_index_or (kinds dims words) i 0 ≡ digits_at words (64 + i) 1 = kind-digits dims words i r h l in
    let s : suc i ≡ i + 1 = omega arith in
    count-more (kinds dims words) (addresses dims words) (bodies dims words) n i (length-kinds dims words) (length-addresses dims words) (length-parts n dims _) l
    ∙ ap (λ t. t + (if k == 1 then 1 else 0)) (children-ones dims words i r h (omega (arith, l)))
    ∙ ap (λ t. ones_in words 64 i + (if t == 1 then 1 else 0)) e
    ∙ ap (λ t. ones_in words 64 i + t) (sym (one-digit (digits_at words (64 + i) 1) (digits-below words (64 + i) 1)))
    ∙ sym (ap count_ones (digits-parts words 64 i 1
    (inside n dims (first_in words).level (length words) i l (omega (arith, r.long)))) ∙
    ones_cat 1 (digits_at words 64 i) (digits_at words (64 + i) 1) (digits-below words (64 + i) 1))
    ∙ ap (λ t. ones_in words 64 t) (sym s)
  where
    inside : (n d b len i : ℕ) → i < n → 1 + words_for (linear_digits d b n) ≤ len → 64 + i + 1 ≤ 64 * len
    inside n d b len i l m = omega (arith, l, m)

-- there are as many entries as the first word says
pub many : (dims : ℕ) (words : List ℕ) → length (entries_as false dims words) ≡ (first_in words).entries
many dims words =
    length-read (kinds dims words) (addresses dims words) (bodies dims words) (first_in words).entries
    (length-kinds dims words) (length-addresses dims words) (length-parts (first_in words).entries dims _)

-- the points in front of an entry, beside the ones
pub points-ones : (dims : ℕ) (words : List ℕ) (i : ℕ) → IsRecord false dims words → Each (λ x. x < 2 ^ 64) words → i ≤ (first_in words).entries
    → ones_in words 64 i + points_in (take i (entries_as false dims words)) ≡ i
points-ones dims words i r h l =
    omega (arith, both-counts (entries_as false dims words) i (omega (arith, many dims words, l)), children-ones dims words i r h l)

-- the place of an entry among those of its kind, by the children in front of it
pub ranked : (t : Bool) (rs : List Read) (i k r : ℕ) → i ≤ length rs → children_in (take i rs) ≡ k → r ≡ (if t then k else i - k) → r ≡ rank_at t rs i
ranked true rs i k r l e f = f ∙ sym e
ranked false rs i k r l e f = omega (arith, f, e, both-counts rs i l)

-- entry i by the columns
pub entry-is : (dims : ℕ) (words : List ℕ) (i : ℕ) → i < (first_in words).entries →
    slice_get (entries_as false dims words) i ≡
    Some (read (slice_index_or (kinds dims words) i 0 == 1) (slice_index_or (addresses dims words) i 0)
    (get_or (bodies dims words) i []))
entry-is dims words i l =
    slice_get-get_or (entries_as false dims words) i no_read (omega (arith, many dims words, l))
    ∙ ap Some (read-at (kinds dims words) (addresses dims words) (bodies dims words) (first_in words).entries i
    (length-kinds dims words) (length-addresses dims words) (length-parts (first_in words).entries dims _) l)

pub address-is : (dims : ℕ) (words : List ℕ) (i : ℕ) → i < (first_in words).entries →
    slice_get (map read_address (entries_as false dims words)) i ≡ Some (slice_index_or (addresses dims words) i 0)
address-is dims words i l =
    slice_get-map read_address (entries_as false dims words) i ∙ ap (option_map read_address) (entry-is dims words i l) ∙ ap Some (address-read _ _ _)

pub kind-is : (dims : ℕ) (words : List ℕ) (i : ℕ) → i < (first_in words).entries →
    slice_get (map is_child (entries_as false dims words)) i ≡ Some (slice_index_or (kinds dims words) i 0 == 1)
kind-is dims words i l =
    slice_get-map is_child (entries_as false dims words) i ∙ ap (option_map is_child) (entry-is dims words i l) ∙ ap Some (kind-read _ _ _)
