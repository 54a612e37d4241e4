-- A node whose own entries are lawful is read back from its record and its children.
use Rattle.std.proofs.Common.{◌≡◌, ℕ, ◌+◌, ◌-◌, ◌*◌, ◌/◌, ◌^◌, refl, ◌∙◌, ap, sym, List, length, Bool}
use Rattle.ph_specs.specs.Node.{Entries, end, point, child, PlainNode, flat}
pub use Rattle.ph_model.specs.EntryList.{child_nodes}
use Rattle.ph_specs.specs.Digits.{Field, number_of, words_for, read_fields}
use Rattle.ph_specs.specs.Pack.{is_cube, table, layout, children, values, record_of, pack}
use Rattle.ph_specs.specs.Record.{First, first_in, has_cube, record_words, table_digits, widths, padding, table_number, entries_in, values_in, filled, unpacked}
use Rattle.ph_model.specs.Layout.{digits_as, entries_as, values_as, AreRising}
use Rattle.ph_specs.proofs.lemmas.Numbers.{numbers}
use Rattle.ph_model.proofs.lemmas.Columns.{reads}
use Rattle.ph_model.proofs.lemmas.LayoutTables.{first}
use Rattle.ph_model.proofs.laws.Layouts.{FitsFirst, first-made, number-written, fields-written, entries-made, values-made, long-made}

-- entries that fit the record of their node
pub record IsPackable (dims level : ℕ) (e : Entries) : Type 0 where
  pub rises : AreRising dims level 0 (flat e)
  pub fits : FitsFirst level (length (flat e)) (children (flat e))
  pub bottom : level ≡ 0 → children (flat e) ≡ 0

module _ (dims level : ℕ) (e : Entries) (h : IsPackable dims level e) where
  abbrev cube : Bool
  cube = is_cube dims level (length (flat e))

  abbrev tbl : List Field
  tbl = table cube dims level (flat e)

  abbrev words : List ℕ
  words = record_of dims level (flat e)

  abbrev f : First
  f = first level (layout cube) (length (flat e)) (children (flat e))

  pub first-record : first_in words ≡ f
  first-record = first-made cube dims level (flat e) h.rises h.fits

  pub number : table_number dims f words ≡ number_of tbl * 2 ^ padding (table_digits dims f)
  number = number-written cube dims level (flat e) h.rises h.fits

  pub fields : read_fields (table_digits dims f) (widths cube dims f) (table_number dims f words / 2 ^ padding (table_digits dims f)) ≡ numbers tbl
  fields =
      ap (λ t. read_fields (table_digits dims f) (widths cube dims f) (t / 2 ^ padding (table_digits dims f))) number
      ∙ fields-written cube dims level (flat e) h.rises h.fits

  pub entries-record : entries_in dims words ≡ reads e
  entries-record =
      ap (λ t. entries_as (has_cube dims t) dims words) first-record ∙ entries-made cube dims level (flat e) h.rises h.fits

  pub values-record : values_in dims words ≡ values (flat e)
  values-record =
      ap (λ t. values_as (has_cube dims t) dims words) first-record ∙ values-made cube dims level (flat e) h.rises h.fits

  -- the record has the length that its first word gives
  pub record-length : length words ≡ record_words dims (first_in words)
  record-length =
      long-made cube dims level (flat e) h.rises h.fits
      ∙ ap (λ t. 1 + words_for (digits_as (has_cube dims t) dims (first_in words)) + ((first_in words).entries - (first_in words).children)) (sym first-record)

pub filled-reads : (e : Entries) → filled (reads e) (values (flat e)) (child_nodes e) ≡ e
filled-reads end = refl
filled-reads (point a body v rest) = ap {B = Entries} (λ t. point a body v t) (filled-reads rest)
filled-reads (child a body level chain rest) = ap {B = Entries} (λ t. child a body level chain t) (filled-reads rest)

-- a node is read back from its record and its children
pub unpacked-pack : (dims : ℕ) (n : PlainNode) → IsPackable dims n.level n.chain → unpacked dims (pack dims n) (child_nodes n.chain) ≡ n
unpacked-pack dims n h =
    let a : (first_in (pack dims n)).level ≡ n.level = ap (λ t. t.level) (first-record dims n.level n.chain h) in
    let b : filled (entries_in dims (pack dims n)) (values_in dims (pack dims n)) (child_nodes n.chain) ≡ n.chain =
    ap (λ t. filled t (values_in dims (pack dims n)) (child_nodes n.chain))
    (entries-record dims n.level n.chain h) ∙ ap (λ t. filled (reads n.chain) t (child_nodes n.chain))
    (values-record dims n.level n.chain h) ∙ filled-reads n.chain in
    λ i. record { level = a i; chain = b i }
