-- A record that passes the rules of the loader is the record of the node that it is read as.
use Rattle.std.proofs.Common.{◌≡◌, ℕ, suc, ◌+◌, ◌/◌, ◌%◌, ◌^◌, ◌<◌, ◌≤◌, sym, ◌∙◌, ap, subst, arith, List}
use Rattle.std.proofs.Common.{◌∷◌, ◌++◌, length, map, take, drop, Bool, true, eqb-true, leb-true}
use Rattle.std.specs.Prelude.{◌&&◌, ◌||◌, ◌==◌, nat_lt, nat_le}
use Rattle.std.specs.List.{AllByRecursion as Each}
use Rattle.std.proofs.lemmas.List.{length-drop, length-take-le, take-append-drop}
use Rattle.ph_specs.specs.declared.Kind.{Kind}
use Rattle.ph_specs.specs.Node.{Entries, PlainNode, flat}
use Rattle.ph_specs.specs.Digits.{field, number_of, words_for, words_of, read_fields}
use Rattle.ph_specs.specs.Pack.{is_cube, layout, first_word, table, children, values, record_in, pack}
use Rattle.ph_specs.specs.Record.{First, first_of, first_in, has_cube, table_digits, record_words, widths}
use Rattle.ph_specs.specs.Record.{tables_of, padding, table_number, entries_in, values_in, filled, unpacked}
use Rattle.ph_specs.specs.Load.{Place, known, level_fits, least_entries, first_fits, rest_fits, boxes_fit, has_zeros_from}
use Rattle.ph_specs.proofs.lemmas.Numbers.{Fit}
use Rattle.ph_model.proofs.lemmas.Columns.{reads}
use Rattle.ph_model.proofs.lemmas.Grouped.{Each-front, Each-back}
use Rattle.ph_specs.proofs.lemmas.Tests.{and-parts}
use Rattle.ph_model.proofs.lemmas.Counted.{kids, spots, spots-kids, length-reads, kids-reads}
use Rattle.ph_model.proofs.lemmas.ReadColumns.{length-read_fields, fit-read, filled-again}
use Rattle.ph_model.proofs.lemmas.TablesAgain.{words-again, total-widths, many_fields, length-widths, tables-count, tables-again}
use Rattle.ph_specs.proofs.laws.ReadBack.{fields_of}
use Rattle.ph_model.proofs.laws.Unpacked.{child_nodes}

-- ---- the rules as facts

-- a first word that passes its rules
pub record IsFirst (width dims : ℕ) (place : Place) (f : First) : Type 0 where
  pub at_level : level_fits width place f.level ≡ true
  pub least : least_entries place ≤ f.entries
  pub most : f.entries ≤ 2 ^ dims
  pub few : f.children ≤ f.entries
  pub in_layout : f.layout ≡ layout (has_cube dims f)
  pub zeros : has_zeros_from f.level (known dims place) ≡ true

pub first-facts : (width dims : ℕ) (place : Place) (f : First) → first_fits width dims place f ≡ true → IsFirst width dims place f
first-facts width dims place f h =
    let t1 : Bool = level_fits width place f.level && (nat_le (least_entries place) f.entries && nat_le f.entries (2 ^ dims)) in
    let t2 : Bool = t1 && (nat_le f.children f.entries && (nat_lt 0 f.level || (f.children == 0))) in
    let t3 : Bool = t2 && (f.layout == layout (has_cube dims f)) in
    let a : (t3 ≡ true) × (has_zeros_from f.level (known dims place) ≡ true) = and-parts t3 _ h in
    let b : (t2 ≡ true) × ((f.layout == layout (has_cube dims f)) ≡ true) = and-parts t2 _ a.0 in
    let c : (t1 ≡ true) × ((nat_le f.children f.entries && (nat_lt 0 f.level || (f.children == 0))) ≡ true) = and-parts t1 _ b.0 in
    let d : (level_fits width place f.level ≡ true) ×
    ((nat_le (least_entries place) f.entries && nat_le f.entries (2 ^ dims)) ≡ true) =
    and-parts (level_fits width place f.level) _ c.0 in
    let e : (nat_le (least_entries place) f.entries ≡ true) × (nat_le f.entries (2 ^ dims) ≡ true) = and-parts (nat_le (least_entries place) f.entries) _ d.1 in
    let g : (nat_le f.children f.entries ≡ true) × ((nat_lt 0 f.level || (f.children == 0)) ≡ true) = and-parts (nat_le f.children f.entries) _ c.1 in
    record {
      at_level = d.0;
      least = leb-true (least_entries place) f.entries e.0;
      most = leb-true f.entries (2 ^ dims) e.1;
      few = leb-true f.children f.entries g.0;
      in_layout = eqb-true f.layout (layout (has_cube dims f)) b.1;
      zeros = a.1;
    }

-- words behind it that pass theirs
pub record IsRest (kind : Kind) (width dims : ℕ) (place : Place) (words : List ℕ) : Type 0 where
  pub tables : (tables_of dims (first_in words) words).is_lawful ≡ true
  pub padded : table_number dims (first_in words) words % 2 ^ padding (table_digits dims (first_in words)) ≡ 0
  pub boxes : boxes_fit kind width (first_in words).level (known dims place) (entries_in dims words) ≡ true

pub rest-facts : (kind : Kind) (width dims : ℕ) (place : Place) (words : List ℕ) → rest_fits kind width dims place words ≡ true → IsRest kind width dims place words
rest-facts kind width dims place words h =
    let f : First = first_in words in
    let a : (((tables_of dims (first_in words) words).is_lawful &&
    (table_number dims (first_in words) words % 2 ^ padding (table_digits dims (first_in words)) == 0)) ≡ true) ×
    (boxes_fit kind width (first_in words).level (known dims place) (entries_in dims words) ≡ true) =
    and-parts ((tables_of dims (first_in words) words).is_lawful &&
    (table_number dims (first_in words) words % 2 ^ padding (table_digits dims (first_in words)) == 0)) _ h in
    let b : ((tables_of dims (first_in words) words).is_lawful ≡ true) ×
    ((table_number dims (first_in words) words % 2 ^ padding (table_digits dims (first_in words)) == 0) ≡ true) =
    and-parts (tables_of dims (first_in words) words).is_lawful _ a.0 in
    record { tables = b.0; padded = eqb-true (table_number dims f words % 2 ^ padding (table_digits dims f)) 0 b.1; boxes = a.1 }

-- ---- the first word

pub first_word-first_of : (w : ℕ) → w < 2 ^ 64 → first_word (first_of w).level (first_of w).layout (first_of w).entries (first_of w).children ≡ w
first_word-first_of w h = omega (arith, h)

-- ---- the record

module _ (kind : Kind) (width dims : ℕ) (place : Place) (w : ℕ) (rest : List ℕ)
    (l : length (w ∷ rest) ≡ record_words dims (first_of w)) (s : Each (λ x. x < 2 ^ 64) (w ∷ rest))
    (h : IsFirst width dims place (first_of w)) (k : IsRest kind width dims place (w ∷ rest)) where
  abbrev f : First
  f = first_of w

  abbrev words : List ℕ
  words = w ∷ rest

  abbrev cube : Bool
  cube = has_cube dims (first_of w)

  abbrev digits : ℕ
  digits = table_digits dims (first_of w)

  abbrev ts : List ℕ
  ts = take (words_for (table_digits dims (first_of w))) rest

  abbrev ws : List ℕ
  ws = widths (has_cube dims (first_of w)) dims (first_of w)

  -- the numbers of the tables' fields
  abbrev pub xs : List ℕ
  xs = read_fields (table_digits dims (first_of w)) (widths (has_cube dims (first_of w)) dims (first_of w))
      (table_number dims (first_of w) (w ∷ rest) / 2 ^ padding (table_digits dims (first_of w)))

  pub numbers-many : length xs ≡ many_fields (has_cube dims (first_of w)) dims (first_of w)
  numbers-many =
      length-read_fields digits ws (table_number dims f words / 2 ^ padding digits) ∙ length-widths cube dims f

  pub numbers-fit : Fit (fields_of (widths (has_cube dims (first_of w)) dims (first_of w)) xs)
  numbers-fit = fit-read digits ws (table_number dims f words / 2 ^ padding digits)

  pub entries-count : (length (entries_in dims (w ∷ rest)) ≡ (first_of w).entries) × (kids (entries_in dims (w ∷ rest)) ≡ (first_of w).children)
  entries-count = tables-count cube dims f xs numbers-many numbers-fit k.tables

  enough : words_for (table_digits dims (first_of w)) ≤ length rest
  enough = omega (arith, l)

  values-are : values_in dims (w ∷ rest) ≡ drop (words_for (table_digits dims (first_of w))) rest
  values-are =
      let e : 1 + words_for (table_digits dims (first_of w)) ≡ suc (words_for (table_digits dims (first_of w))) = omega arith in
      ap (λ t. drop t words) e

  pub values-many : spots (entries_in dims (w ∷ rest)) ≡ length (values_in dims (w ∷ rest))
  values-many =
      omega (arith, l, h.few, spots-kids (entries_in dims words), entries-count.0, entries-count.1, ap length values-are, length-drop (words_for digits) rest)

  words-fit : Each (λ x. x < 2 ^ 64) (take (words_for (table_digits dims (first_of w))) rest ++ drop (words_for (table_digits dims (first_of w))) rest)
  words-fit = subst (Each (λ x. x < 2 ^ 64)) (sym (take-append-drop (words_for digits) rest)) s.1

  pub values-fit : Each (λ x. x < 2 ^ 64) (values_in dims (w ∷ rest))
  values-fit = subst (Each (λ x. x < 2 ^ 64)) (sym values-are) (Each-back (λ x. x < 2 ^ 64) ts (drop (words_for digits) rest) words-fit)

  tables-are : words_of (fields_of (widths (has_cube dims (first_of w)) dims (first_of w)) xs) ≡ take (words_for (table_digits dims (first_of w))) rest
  tables-are =
      subst (λ d. length ts ≡ words_for d → number_of (map (field 64) ts) % 2 ^ padding d ≡ 0 →
      words_of (fields_of ws (read_fields d ws (number_of (map (field 64) ts) / 2 ^ padding d))) ≡ ts)
      (total-widths cube dims f) (λ m z. words-again ts ws m
      (Each-front (λ x. x < 2 ^ 64) ts (drop (words_for digits) rest) words-fit) z)
      (length-take-le (words_for digits) rest enough) k.padded

  module _ (cs : List PlainNode) (m : length cs ≡ (first_of w).children) where
    abbrev e : Entries
    e = filled (entries_in dims (w ∷ rest)) (values_in dims (w ∷ rest)) cs

    pub node-reads : (reads (filled (entries_in dims (w ∷ rest)) (values_in dims (w ∷ rest)) cs) ≡
        entries_in dims (w ∷ rest)) × (values
        (flat (filled (entries_in dims (w ∷ rest)) (values_in dims (w ∷ rest)) cs)) ≡ values_in dims (w ∷ rest)) ×
        (child_nodes (filled (entries_in dims (w ∷ rest)) (values_in dims (w ∷ rest)) cs) ≡ cs)
    node-reads = filled-again (entries_in dims words) (values_in dims words) cs values-many (entries-count.1 ∙ sym m)

    pub node-count : (length (flat (filled (entries_in dims (w ∷ rest)) (values_in dims (w ∷ rest)) cs)) ≡
        (first_of w).entries) × (children (flat (filled (entries_in dims (w ∷ rest)) (values_in dims (w ∷ rest)) cs))
        ≡ (first_of w).children)
    node-count =
        (sym (length-reads e) ∙ ap length node-reads.0 ∙ entries-count.0, sym (kids-reads e) ∙ ap kids node-reads.0 ∙ entries-count.1)

    -- the record is the record of the node that it is read as
    pub pack-unpacked : pack dims (unpacked dims (w ∷ rest) cs) ≡ w ∷ rest
    pack-unpacked =
        let lay : layout (has_cube dims (first_of w)) ≡ (first_of w).layout = sym h.in_layout in
        let hd : first_word (first_of w).level (layout (has_cube dims (first_of w)))
        (length (flat (filled (entries_in dims (w ∷ rest)) (values_in dims (w ∷ rest)) cs)))
        (children (flat (filled (entries_in dims (w ∷ rest)) (values_in dims (w ∷ rest)) cs))) ≡ w =
        ap (λ t. first_word f.level t (length (flat e)) (children (flat e))) lay ∙
        ap (λ t. first_word f.level f.layout t (children (flat e))) node-count.0 ∙
        ap (λ t. first_word f.level f.layout f.entries t) node-count.1 ∙ first_word-first_of w s.0 in
        let tb : words_of (table (has_cube dims (first_of w)) dims (first_of w).level
        (flat (filled (entries_in dims (w ∷ rest)) (values_in dims (w ∷ rest)) cs))) ≡
        take (words_for (table_digits dims (first_of w))) rest =
        ap words_of (tables-again cube dims f xs e numbers-many numbers-fit k.tables node-reads.0) ∙ tables-are in
        ap (λ n. record_in (is_cube dims f.level n) dims f.level (flat e)) node-count.0
        ∙ ap (λ t. t ∷ words_of (table cube dims f.level (flat e)) ++ values (flat e)) hd
        ∙ ap {B = List ℕ} (λ t. w ∷ t ++ values (flat e)) tb
        ∙ ap {B = List ℕ} (λ t. w ∷ ts ++ t) (node-reads.1 ∙ values-are)
        ∙ ap {B = List ℕ} (λ t. w ∷ t) (take-append-drop (words_for digits) rest)
