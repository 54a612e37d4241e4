-- A record is its first word, the table of its entries and their values.
use Rattle.std.proofs.Common.{◌≡◌, ℕ, suc, ◌+◌, ◌-◌, ◌*◌, ◌/◌, ◌%◌, ◌^◌, ◌≤◌, ◌<◌, refl, sym, ◌∙◌, ap, subst, arith, List, []}
use Rattle.std.proofs.Common.{◌∷◌, ◌++◌, length, map, take, drop, replicate, Bool, true, false, slice_index_or}
use Rattle.std.specs.Prelude.{Some, None, ◌==◌}
use Rattle.std.specs.List.{AllByRecursion as Each}
use Rattle.std.proofs.lemmas.List.{length-drop, length-take-le, length-replicate, take-append-drop}
use Rattle.ph_specs.specs.Digits.{field, number_of, words_for, words_of, read_fields}
use Rattle.ph_model.specs.Layout.{IsRecord, digits_as, number_as, fields_as, entries_as, values_as}
use Rattle.ph_specs.specs.Node.{end, PlainNode, Flat, flat}
use Rattle.ph_specs.specs.Pack.{table, values}
use Rattle.ph_specs.specs.Record.{First, first_in, widths, padding, filled, Read, read_point, read_child, read, read_linear, parts}
use Rattle.ph_specs.proofs.laws.ReadBack.{fields_of}
use Rattle.ph_model.proofs.laws.TableFields.{length-fields, each-drop}
use Rattle.ph_model.proofs.lemmas.Columns.{reads}
use Rattle.ph_model.proofs.lemmas.Counted.{kids, spots, spots-kids, length-reads}
use Rattle.ph_model.proofs.lemmas.Grouped.{Each-front}
use Rattle.ph_specs.proofs.lemmas.Numbers.{Fit}
use Rattle.ph_model.proofs.lemmas.ReadColumns.{fit-read, filled-again}
use Rattle.ph_model.proofs.lemmas.TablesAgain.{words-again, total-widths, length-widths, tables-count, tables-again, linear-bodies}
use Rattle.ph_specs.proofs.lemmas.Members.{Each-each}
use Rattle.ph_bits.specs.Edits.{flats}

-- ---- entries with values, as those of a node

flat-filled : (rs : List Read) (vs : List ℕ) (cs : List PlainNode) → spots rs ≡ length vs → kids rs ≡ length cs → flat (filled rs vs cs) ≡ flats rs vs
flat-filled [] vs cs h k = refl
flat-filled (read_point a b ∷ rs) [] cs h k = absurd (omega (arith, h))
flat-filled (read_point a b ∷ rs) (v ∷ vs) cs h k =
    ap {B = List Flat} (λ t. record { addr = a; body = b; value = Some v } ∷ t) (flat-filled rs vs cs (omega (arith, h)) k)
flat-filled (read_child a b ∷ rs) vs [] h k = absurd (omega (arith, k))
flat-filled (read_child a b ∷ rs) vs (c ∷ cs) h k = ap {B = List Flat} (λ t. record { addr = a; body = b; value = None } ∷ t) (flat-filled rs vs cs h (omega (arith, k)))

-- ---- the parts of a record

pub record IsTable (cube : Bool) (dims : ℕ) (words : List ℕ) (es : List Flat) : Type 0 where
  pub is : words ≡ slice_index_or words 0 0 ∷ words_of (table cube dims (first_in words).level es) ++ values_as cube dims words
  pub fit : Fit (table cube dims (first_in words).level es)
  pub small : Each (λ x. x < 2 ^ 64) (values_as cube dims words)
  pub many : length es ≡ (first_in words).entries
  pub valued : values es ≡ values_as cube dims words
  pub points : spots (entries_as cube dims words) ≡ length (values_as cube dims words)

module _ (cube : Bool) (dims w : ℕ) (rest : List ℕ) (r : IsRecord cube dims (w ∷ rest)) (h : Each (λ x. x < 2 ^ 64) (w ∷ rest)) where
  abbrev words : List ℕ
  words = w ∷ rest

  abbrev f : First
  f = first_in (w ∷ rest)

  abbrev digits : ℕ
  digits = digits_as cube dims (first_in (w ∷ rest))

  abbrev ws : List ℕ
  ws = widths cube dims (first_in (w ∷ rest))

  abbrev xs : List ℕ
  xs = fields_as cube dims (w ∷ rest)

  abbrev rs : List Read
  rs = entries_as cube dims (w ∷ rest)

  abbrev vs : List ℕ
  vs = values_as cube dims (w ∷ rest)

  abbrev es : List Flat
  es = flats (entries_as cube dims (w ∷ rest)) (values_as cube dims (w ∷ rest))

  abbrev ts : List ℕ
  ts = take (words_for (digits_as cube dims (first_in (w ∷ rest)))) rest

  nobody : PlainNode
  nobody = record { level = 0; chain = end }

  abbrev cs : List PlainNode
  cs = replicate (first_in (w ∷ rest)).children nobody

  numbers-fit : Fit (fields_of ws xs)
  numbers-fit = fit-read digits ws (number_as cube dims words / 2 ^ padding digits)

  counts : (length rs ≡ f.entries) × (kids rs ≡ f.children)
  counts = tables-count cube dims f xs (length-fields cube dims words ∙ length-widths cube dims f) numbers-fit r.tables

  values-are : values_as cube dims (w ∷ rest) ≡ drop (words_for (digits_as cube dims (first_in (w ∷ rest)))) rest
  values-are =
      let e : 1 + words_for (digits_as cube dims (first_in (w ∷ rest))) ≡ suc (words_for (digits_as cube dims (first_in (w ∷ rest)))) = omega arith in
      ap (λ t. drop t words) e

  values-many : spots (entries_as cube dims (w ∷ rest)) ≡ length (values_as cube dims (w ∷ rest))
  values-many =
      count (spots rs) (kids rs) (length rs) f.entries f.children (words_for digits) (length rest) (length vs)
      (spots-kids rs) counts.0 counts.1 r.kids r.long (ap length values-are ∙ length-drop (words_for digits) rest)
    where
      count : (s k l n c t m v : ℕ) → s + k ≡ l → l ≡ n → k ≡ c → c ≤ n → suc m ≡ 1 + t + (n - c) → v ≡ m - t → s ≡ v
      count s k l n c t m v a b d e g i = omega (arith, a, b, d, e, g, i)

  again : (reads (filled rs vs cs) ≡ rs) × (values (flat (filled rs vs cs)) ≡ vs)
  again =
      let q = filled-again rs vs cs values-many (counts.1 ∙ sym (length-replicate f.children nobody)) in (q.0, q.1)

  flat-are : flat (filled rs vs cs) ≡ es
  flat-are = flat-filled rs vs cs values-many (counts.1 ∙ sym (length-replicate f.children nobody))

  table-are : table cube dims f.level es ≡ fields_of ws xs
  table-are =
      ap (table cube dims f.level) (sym flat-are) ∙ tables-again cube dims f xs (filled rs vs cs)
      (length-fields cube dims words ∙ length-widths cube dims f) numbers-fit r.tables again.0

  enough : words_for digits ≤ length rest
  enough = long (words_for digits) (length rest) (f.entries - f.children) r.long
    where
      long : (t m k : ℕ) → suc m ≡ 1 + t + k → t ≤ m
      long t m k e = omega (arith, e)

  words-fit : Each (λ x. x < 2 ^ 64) ts
  words-fit = Each-front (λ x. x < 2 ^ 64) ts (drop (words_for digits) rest) (subst (Each (λ x. x < 2 ^ 64)) (sym (take-append-drop (words_for digits) rest)) h.1)

  words-are : words_of (fields_of ws xs) ≡ ts
  words-are =
      subst (λ d. length ts ≡ words_for d → number_of (map (field 64) ts) % 2 ^ padding d ≡ 0 →
      words_of (fields_of ws (read_fields d ws (number_of (map (field 64) ts) / 2 ^ padding d))) ≡ ts)
      (total-widths cube dims f) (λ m z. words-again ts ws m words-fit z)
      (length-take-le (words_for digits) rest enough) r.padded

  pub table-made : IsTable cube dims (w ∷ rest) (flats (entries_as cube dims (w ∷ rest)) (values_as cube dims (w ∷ rest)))
  table-made = record {
    is =
        sym
        (ap {B = List ℕ} (λ t. w ∷ t ++ vs) (ap words_of table-are ∙ words-are)
        ∙ ap {B = List ℕ} (λ t. w ∷ ts ++ t) values-are
        ∙ ap {B = List ℕ} (λ t. w ∷ t) (take-append-drop (words_for digits) rest));
    fit = subst Fit (sym table-are) numbers-fit;
    small = each-drop (1 + words_for digits) words h;
    many = ap length (sym flat-are) ∙ sym (length-reads (filled rs vs cs)) ∙ ap length again.0 ∙ counts.0;
    valued = ap values (sym flat-are) ∙ again.1;
    points = values-many;
  }

-- the table of any record
pub table-of : (cube : Bool) (dims : ℕ) (words : List ℕ) → IsRecord cube dims words → Each (λ x. x < 2 ^ 64) words →
    IsTable cube dims words (flats (entries_as cube dims words) (values_as cube dims words))
table-of cube dims [] r h = absurd (none (words_for (digits_as cube dims (first_in []))) _ r.long)
  where
    none : (t k : ℕ) → 0 ≡ 1 + t + k → ⊥
    none t k e = omega (arith, e)
table-of cube dims (w ∷ rest) r h = table-made cube dims w rest r h

-- ---- bodies

long-flats : (d : ℕ) (ks ads : List ℕ) (bs : List (List ℕ)) (us : List ℕ) → Each (λ b. length b ≡ d) bs →
    Each (λ (e : Flat). length e.body ≡ d) (flats (read_linear ks ads bs) us)
long-flats d [] ads bs us h = tt
long-flats d (k ∷ ks) [] bs us h = tt
long-flats d (k ∷ ks) (a ∷ ads) [] us h = tt
long-flats d (k ∷ ks) (a ∷ ads) (b ∷ bs) us h = one (k == 1) us (λ qs. long-flats d ks ads bs qs h.1)
  where
    one : (t : Bool) (us : List ℕ) →
        ((us : List ℕ) → Each (λ (e : Flat). length e.body ≡ d) (flats (read_linear ks ads bs) us)) →
        Each (λ (e : Flat). length e.body ≡ d) (flats (read t a b ∷ read_linear ks ads bs) us)
    one true us i = (h.0, i us)
    one false [] i = tt
    one false (u ∷ us) i = (h.0, i us)

pub long-bodies : (dims : ℕ) (words : List ℕ) → Each (λ (e : Flat). length e.body ≡ dims) (flats (entries_as false dims words) (values_as false dims words))
long-bodies dims words =
    let f : First = first_in words in
    let xs : List ℕ = fields_as false dims words in
    let l : length (fields_as false dims words) ≡
    (first_in words).entries + ((first_in words).entries + (first_in words).entries * dims) =
    length-fields false dims words ∙ length-widths false dims f in
    long-flats dims _ _ (parts f.entries dims (drop (f.entries + f.entries) xs)) (values_as false dims words)
    (Each-each (parts f.entries dims (drop (f.entries + f.entries) xs)) (λ b p. p.0)
    (linear-bodies dims f xs l (fit-read (digits_as false dims f) (widths false dims f)
    (number_as false dims words / 2 ^ padding (digits_as false dims f)))))
