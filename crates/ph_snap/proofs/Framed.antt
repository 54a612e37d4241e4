-- Words whose first word keeps its rules, and those whose tables keep theirs too.
use Rattle.std.proofs.Common.{◌≡◌, ℕ, ◌+◌, ◌^◌, ◌<◌, ◌≤◌, refl, sym, ◌∙◌, ap, subst, arith, List, length, Bool, true}
use Rattle.std.specs.Prelude.{◌||◌, ◌==◌, nat_lt}
use Rattle.std.proofs.lemmas.Bool.{and_parts}
use Rattle.std.proofs.lemmas.Bool.Decides.{nat_tests}
use Rattle.ph_specs.specs.Record.{First, first_in, has_cube, record_words}
use Rattle.ph_specs.specs.Load.{Place as Stand, root, under, known, least_entries, first_fits, has_zeros_from}
use Rattle.ph_model.proofs.laws.RecordAgain.{IsFirst, first-facts}
use Rattle.std.proofs.Common.{false}
use Rattle.ph_model.specs.Layout.{IsRecord, entries_as, digits_as}
use Rattle.ph_specs.specs.Record.{entries_in}
use Rattle.ph_linear.proofs.Ranks.{many}
use Rattle.ph_cube.proofs.Ranks.{length-entries}
use Rattle.ph_node.specs.Recorded.{IsLaidOut}
use Rattle.ph_snap.specs.declared.row_format.RowFormat.{RowFormat}
use Rattle.ph_snap.specs.declared.places.Place.{Place}
use Rattle.ph_snap.specs.declared.places.Place.TheVariants.{Root, Under}
use Rattle.ph_snap.specs.RowFormats.{IsRowFormat}
use Rattle.ph_snap.specs.Frames.{IsFramed}
use Rattle.ph_snap.specs.RecordPlaces.{place_of, ceiling, IsStanding}
use Rattle.ph_specs.specs.Digits.{words_for}
use Rattle.ph_specs.specs.Load.{next_first, next_record, words_in}
use Rattle.ph_snap.specs.declared.first.First.{First as First'}
use Rattle.ph_snap.specs.Frames.{said_by}
use Rattle.ph_snap.proofs.RecordFaults.{level-below, next-first, words-many}

some-entries : (p : Stand) → 1 ≤ least_entries p
some-entries root = omega arith
some-entries (under l d) = omega arith

pub under-ceiling : (width dims : ℕ) (p : Place) → IsStanding width dims p → ceiling width (place_of dims p) ≤ width
under-ceiling width dims Root h = omega arith
under-ceiling width dims (Under l k) h = omega (arith, h.0)

no-children : (level children : ℕ) → (nat_lt 0 level || (children == 0)) ≡ true → level ≡ 0 → children ≡ 0
no-children level children h e = grind (arith, nat_tests)

bottom : (width dims : ℕ) (p : Stand) (f : First) → first_fits width dims p f ≡ true → f.level ≡ 0 → f.children ≡ 0
bottom width dims p f h = no-children f.level f.children (and_parts _ _ (and_parts _ _ (and_parts _ _ (and_parts _ _ h).0).0).1).1

module _ (format : RowFormat) (place : Place) (k : IsRowFormat format) (s : IsStanding format.width format.dims place) where
  abbrev p : Stand
  p = place_of format.dims place

  module _ (f : First) (h : first_fits format.width format.dims (place_of format.dims place) f ≡ true) where
    pub low : f.level < ceiling format.width (place_of format.dims place)
    low =
        level-below format.width p f.level k.narrow (first-facts format.width format.dims p f h).at_level

    pub lower : f.level ≤ 61
    lower = omega (arith, low, under-ceiling format.width format.dims place s, k.wide)

    pub at_most : f.entries ≤ 2 ^ format.dims
    at_most = (first-facts format.width format.dims p f h).most

    pub few : f.children ≤ f.entries
    few = (first-facts format.width format.dims p f h).few

    pub clear : has_zeros_from f.level (known format.dims (place_of format.dims place)) ≡ true
    clear = (first-facts format.width format.dims p f h).zeros

  pub framed : (words : List ℕ) → first_fits format.width format.dims (place_of format.dims place) (first_in words) ≡ true →
      length words ≡ record_words format.dims (first_in words) → IsFramed format.dims words
  framed words h l =
      let f : First = first_in words in
      let i : IsFirst format.width format.dims p (first_in words) = first-facts format.width format.dims p f h in
      record {
        some = k.some;
        few = k.few;
        low = lower f h;
        least = omega (arith, i.least, some-entries p);
        most = i.most;
        kids = i.few;
        bottom = bottom format.width format.dims p f h;
        told = i.in_layout;
        long = l;
      }

-- it has as many entries as its first word says
pub laid-many : (dims : ℕ) (words : List ℕ) → IsLaidOut dims words → length (entries_in dims words) ≡ (first_in words).entries
laid-many dims words h = by (has_cube dims (first_in words)) refl
  where
    by : (t : Bool) → t ≡ has_cube dims (first_in words) → length (entries_as (has_cube dims (first_in words)) dims words) ≡ (first_in words).entries
    by true e = ap (λ t. length (entries_as t dims words)) (sym e) ∙ length-entries dims words (subst (λ t. IsRecord t dims words) (sym e) h.tables)
    by false e = ap (λ t. length (entries_as t dims words)) (sym e) ∙ many dims words

-- its tables are there whole
pub long-as : (dims : ℕ) (words : List ℕ) (t : Bool) → has_cube dims (first_in words) ≡ t → IsFramed dims words →
    1 + words_for (digits_as t dims (first_in words)) ≤ length words
long-as dims words t e h =
    subst (λ s. 1 + words_for (digits_as s dims (first_in words)) ≤ length words) e (omega (arith, h.long))

-- words whose first word was read, and keeps its rules where they stand
pub record IsFramedAt (format : RowFormat) (place : Place) (first : First') (words : List ℕ) : Type 0 where
  pub framed : IsFramed format.dims words
  pub same : said_by first ≡ first_in words
  pub clear : has_zeros_from (first_in words).level (known format.dims (place_of format.dims place)) ≡ true
  pub low : (first_in words).level < ceiling format.width (place_of format.dims place)

pub framed-at : (format : RowFormat) (place : Place) (rest : List ℕ) {words : List ℕ} {first : First'} {n : ℕ} → IsRowFormat format → IsStanding format.width format.dims place →
    said_by first ≡ next_first rest → n ≡ record_words format.dims (said_by first) → words ≡ words_in n rest →
    true ≡ first_fits format.width format.dims (place_of format.dims place) (said_by first) → IsFramedAt format place first words
framed-at format place rest {words} {first} k s f l w h =
    let record_is : words ≡ next_record format.dims rest = w ∙ ap (λ n. words_in n rest) (l ∙ ap (record_words format.dims) f) in
    let same : said_by first ≡ first_in words = f ∙ sym (next-first format.dims rest) ∙ ap first_in (sym record_is) in
    let fits : first_fits format.width format.dims (place_of format.dims place) (first_in words) ≡ true =
    sym (h ∙ ap (first_fits format.width format.dims (place_of format.dims place)) same) in
    record {
      framed = framed format place k s words fits
          (ap length record_is ∙ words-many format.dims rest ∙ ap (record_words format.dims) (sym f ∙ same));
      same = same;
      clear = clear format place k s (first_in words) fits;
      low = low format place k s (first_in words) fits;
    }
