-- A record that is written in a layout is a record of that layout, and has the entries that it was written of.
use Rattle.std.proofs.Common.{◌≡◌, ℕ, ◌+◌, ◌-◌, ◌*◌, ◌/◌, ◌%◌, ◌^◌, ◌<◌, ◌≤◌, sym, ◌∙◌, ap, subst, arith, List}
use Rattle.std.proofs.Common.{◌∷◌, ◌++◌, length, map, take, drop, Bool, true, false, mul-le-mul_left}
use Rattle.std.proofs.Math.Nat.{mul-div_cancel, mul-mod_left}
use Rattle.std.proofs.lemmas.Nat.{pow_pos, pow-add}
use Rattle.std.proofs.lemmas.List.{length-append}
use Rattle.ph_specs.specs.Node.{Entries, end, point, child, Flat, flat}
use Rattle.ph_model.specs.Lawful.{IsLawfulFrom}
use Rattle.ph_specs.specs.Digits.{Field, field, digits_of, number_of, words_for, words_of, read_fields}
use Rattle.ph_specs.specs.Pack.{table, layout, children, values, first_word, record_in}
use Rattle.ph_specs.specs.Record.{First, first_of, first_in, widths, tables_in, padding}
use Rattle.ph_model.specs.Layout.{digits_as, number_as, fields_as, tables_as, entries_as, values_as, IsRecord, unvalued, AreRising}
use Rattle.ph_specs.proofs.lemmas.Numbers.{numbers, read_fields-number, number_of-words_of, length-words_of}
use Rattle.ph_model.proofs.lemmas.Columns.{take-front, drop-front}
use Rattle.ph_model.proofs.lemmas.LayoutTables.{first, entries-few, children-few, table-digits, table-widths, table-fit, table-reads, tables-lawful}

-- lawful entries rise
pub rising : (dims level least : ℕ) (e : Entries) → IsLawfulFrom dims level least e → AreRising dims level least (flat e)
rising dims level least end h = tt
rising dims level least (point a body v rest) h = (h.0, h.1, h.2, rising dims level (a + 1) rest h.3)
rising dims level least (child a body c chain rest) h = (h.0, h.1, h.2, rising dims level (a + 1) rest h.7)

-- ---- the first word

-- numbers that fit the fields of a first word
pub record FitsFirst (level n kids : ℕ) : Type 0 where
  pub level_fits : level < 2 ^ 8
  pub entries_fit : n < 2 ^ 24
  pub children_fit : kids < 2 ^ 24

pub first_of-first_word : (level lay n kids : ℕ) → lay < 2 ^ 8 → FitsFirst level n kids → first_of (first_word level lay n kids) ≡ first level lay n kids
first_of-first_word level lay n kids l h =
    let a : first_word level lay n kids / 2 ^ 56 ≡ level = omega (arith, h.level_fits, l, h.entries_fit, h.children_fit) in
    let b : first_word level lay n kids / 2 ^ 48 % 2 ^ 8 ≡ lay = omega (arith, h.level_fits, l, h.entries_fit, h.children_fit) in
    let c : first_word level lay n kids / 2 ^ 24 % 2 ^ 24 ≡ n = omega (arith, h.level_fits, l, h.entries_fit, h.children_fit) in
    let d : first_word level lay n kids % 2 ^ 24 ≡ kids = omega (arith, h.level_fits, l, h.entries_fit, h.children_fit) in
    λ i. record { level = a i; layout = b i; entries = c i; children = d i }

dims-few : (dims : ℕ) → dims ≤ 16 → 2 ^ dims ≤ 2 ^ 16
dims-few dims l =
    let e : 2 ^ (dims + (16 - dims)) ≡ 2 ^ dims * 2 ^ (16 - dims) = pow-add 2 dims (16 - dims) in
    let s : dims + (16 - dims) ≡ 16 = omega (arith, l) in
    let f : 2 ^ (dims + (16 - dims)) ≡ 2 ^ 16 = ap (λ n. 2 ^ n) s in
    let m : 2 ^ dims * 1 ≤ 2 ^ dims * 2 ^ (16 - dims) = mul-le-mul_left (2 ^ dims) (pow_pos (16 - dims)) in
    omega (arith, e, f, m)

-- the numbers of entries that rise fit a first word
pub fits-first : (dims level : ℕ) (es : List Flat) → dims ≤ 16 → level < 2 ^ 8 → AreRising dims level 0 es → FitsFirst level (length es) (children es)
fits-first dims level es d l h =
    let n : length es + 0 ≤ 2 ^ dims = entries-few dims level 0 es (omega arith) h in
    record { level_fits = l; entries_fit = omega (arith, n, dims-few dims d); children_fit = omega (arith, n, dims-few dims d, children-few es) }

-- ---- the record

module _ (cube : Bool) (dims level : ℕ) (es : List Flat) (h : AreRising dims level 0 es) (fits : FitsFirst level (length es) (children es)) where
  abbrev tbl : List Field
  tbl = table cube dims level es

  abbrev words : List ℕ
  words = record_in cube dims level es

  abbrev f : First
  f = first level (layout cube) (length es) (children es)

  layout-small : (c : Bool) → layout c < 2 ^ 8
  layout-small true = omega arith
  layout-small false = omega arith

  pub first-made : first_in words ≡ f
  first-made = first_of-first_word level (layout cube) (length es) (children es) (layout-small cube) fits

  pub digits-made : digits_as cube dims f ≡ digits_of tbl
  digits-made = sym (table-digits cube dims level 0 es h)

  -- the number and the fields by the first word that is written
  pub number-written : number_of
      (map (field 64) (take (words_for (digits_as cube dims f)) (words_of tbl ++ values es))) ≡
      number_of tbl * 2 ^ padding (digits_as cube dims f)
  number-written =
      let l : length (words_of tbl) ≡ words_for (digits_as cube dims f) = length-words_of tbl ∙ sym (ap words_for digits-made) in
      ap (λ t. number_of (map (field 64) t)) (take-front (words_for (digits_as cube dims f)) (words_of tbl) (values es) l)
      ∙ number_of-words_of tbl (table-fit cube dims level 0 es h)
      ∙ ap (λ t. number_of tbl * 2 ^ padding t) (sym digits-made)

  pub fields-written : read_fields (digits_as cube dims f) (widths cube dims f)
      (number_of tbl * 2 ^ padding (digits_as cube dims f) / 2 ^ padding (digits_as cube dims f)) ≡ numbers tbl
  fields-written =
      ap (λ t. read_fields (digits_as cube dims f) (widths cube dims f) t) (mul-div_cancel (number_of tbl) (pow_pos (padding (digits_as cube dims f))))
      ∙ ap (λ t. read_fields t (widths cube dims f) (number_of tbl)) digits-made
      ∙ ap (λ t. read_fields (digits_of tbl) t (number_of tbl)) (sym (table-widths cube dims level 0 (layout cube) (children es) es h))
      ∙ read_fields-number 0 tbl (table-fit cube dims level 0 es h)

  number-made : number_as cube dims words ≡ number_of tbl * 2 ^ padding (digits_as cube dims f)
  number-made =
      ap (λ t. number_of (map (field 64) (take (words_for (digits_as cube dims t)) (words_of tbl ++ values es)))) first-made ∙ number-written

  pub fields-made : fields_as cube dims words ≡ numbers tbl
  fields-made =
      ap (λ t. read_fields (digits_as cube dims t) (widths cube dims t) (number_as cube dims words / 2 ^ padding (digits_as cube dims t))) first-made
      ∙ ap (λ t. read_fields (digits_as cube dims f) (widths cube dims f) (t / 2 ^ padding (digits_as cube dims f))) number-made
      ∙ fields-written

  pub entries-made : entries_as cube dims words ≡ map unvalued es
  entries-made =
      ap (λ t. (tables_in cube dims t (fields_as cube dims words)).entries) first-made
      ∙ ap (λ t. (tables_in cube dims f t).entries) fields-made
      ∙ table-reads cube dims level (layout cube) (children es) es h

  lawful-made : (tables_as cube dims words).is_lawful ≡ true
  lawful-made =
      ap (λ t. (tables_in cube dims t (fields_as cube dims words)).is_lawful) first-made
      ∙ ap (λ t. (tables_in cube dims f t).is_lawful) fields-made
      ∙ tables-lawful cube dims level (layout cube) es h

  padded-made : number_as cube dims words % 2 ^ padding (digits_as cube dims (first_in words)) ≡ 0
  padded-made =
      ap (λ t. number_as cube dims words % 2 ^ padding (digits_as cube dims t)) first-made
      ∙ ap (λ t. t % 2 ^ padding (digits_as cube dims f)) number-made
      ∙ mul-mod_left (number_of tbl) (2 ^ padding (digits_as cube dims f))

  pub values-made : values_as cube dims words ≡ values es
  values-made =
      let l : length (first_word level (layout cube) (length es) (children es) ∷ words_of tbl) ≡
      1 + words_for (digits_as cube dims f) = omega (arith, length-words_of tbl, ap words_for digits-made) in
      ap (λ t. drop (1 + words_for (digits_as cube dims t)) words) first-made
      ∙ drop-front (1 + words_for (digits_as cube dims f)) (first_word level (layout cube) (length es) (children es) ∷ words_of tbl) (values es) l

  pub long-made : length words ≡ 1 + words_for (digits_as cube dims (first_in words)) + ((first_in words).entries - (first_in words).children)
  long-made =
      let k : length (words_of tbl ++ values es) ≡ length (words_of tbl) + length (values es) = length-append (words_of tbl) (values es) in
      let n : length (values es) + children es ≡ length es = children-few es in
      let w : length words ≡ 1 + words_for (digits_as cube dims f) + (length es - children es) = omega (arith, k, n, length-words_of tbl, ap words_for digits-made) in
      w ∙ sym (ap (λ t. 1 + words_for (digits_as cube dims t) + (t.entries - t.children)) first-made)

  record-made : 1 ≤ dims → dims ≤ 16 → level ≤ 61 → 1 ≤ length es → (level ≡ 0 → children es ≡ 0) → IsRecord cube dims words
  record-made o l b n z =
      let q : length es + 0 ≤ 2 ^ dims = entries-few dims level 0 es (omega arith) h in
      record {
        some = o;
        few = l;
        low = subst (λ t. t.level ≤ 61) (sym first-made) b;
        least = subst (λ t. 1 ≤ t.entries) (sym first-made) n;
        most = subst (λ t. t.entries ≤ 2 ^ dims) (sym first-made) (omega (arith, q));
        kids = subst (λ t. t.children ≤ t.entries) (sym first-made) (omega (arith, children-few es));
        bottom = subst (λ t. t.level ≡ 0 → t.children ≡ 0) (sym first-made) z;
        long = long-made;
        tables = lawful-made;
        padded = padded-made;
      }

-- what the record of entries is, in a layout
pub record IsMade (cube : Bool) (dims level : ℕ) (es : List Flat) : Type 0 where
  pub is_record : IsRecord cube dims (record_in cube dims level es)
  pub first_is : first_in (record_in cube dims level es) ≡ first level (layout cube) (length es) (children es)
  pub entries_are : entries_as cube dims (record_in cube dims level es) ≡ map unvalued es
  pub values_are : values_as cube dims (record_in cube dims level es) ≡ values es

pub made : (cube : Bool) (dims level : ℕ) (es : List Flat) → 1 ≤ dims → dims ≤ 16 → level ≤ 61 → 1 ≤ length es →
    (level ≡ 0 → children es ≡ 0) → AreRising dims level 0 es → IsMade cube dims level es
made cube dims level es o l b n z h =
    let fits : FitsFirst level (length es) (children es) = fits-first dims level es l (omega (arith, b)) h in
    record {
      is_record = record-made cube dims level es h fits o l b n z;
      first_is = first-made cube dims level es h fits;
      entries_are = entries-made cube dims level es h fits;
      values_are = values-made cube dims level es h fits;
    }
