-- The tables of a layout: what digits they take, what is read back from them, and that they keep the rules of the layout.
use Rattle.std.proofs.Common.{◌≡◌, ℕ, zero, suc, ◌+◌, ◌^◌, ◌≤◌, refl, sym, ◌∙◌, ap, arith, List, [], ◌∷◌, ◌++◌}
use Rattle.std.proofs.Common.{length, map, take, drop, replicate, Bool, true, false, lt-ltb, le-leb, eq-eqb}
use Rattle.std.specs.Prelude.{if◌then◌else◌, Option, Some, None, ◌&&◌, ◌||◌, ◌==◌, nat_lt, nat_le, count_by}
use Rattle.std.specs.List.{list_all}
use Rattle.std.proofs.lemmas.List.{append_assoc, length-append}
use Rattle.ph_specs.specs.Node.{Flat}
use Rattle.ph_specs.specs.Digits.{digits_of}
use Rattle.ph_specs.specs.Pack.{linear_digits, cube_digits, linear_table, cube_table, table, place_kind, place_body, child_mark, children, values, value_in_front}
use Rattle.ph_specs.specs.Record.{First, read_linear, read_cube, parts, widths, tables_in, rises_from, absent_are_zero}
use Rattle.ph_model.specs.Layout.{read_kept, unvalued, AreRising}
use Rattle.ph_specs.proofs.lemmas.Numbers.{Fit, numbers, field_widths}
use Rattle.ph_model.proofs.lemmas.Columns.{take-front, drop-front, concat_of, parts-concat, reads-linear, addr_column, mark_column, body_column}
use Rattle.ph_model.proofs.lemmas.Columns.{entries-bodies, length-bodies, linear-digits, linear-widths, linear-numbers, linear-fit}
use Rattle.ph_model.proofs.lemmas.Cubes.{all_places, kind_column, place_column, length-places, places-bodies}
use Rattle.ph_model.proofs.lemmas.Cubes.{cube-digits, cube-widths, cube-numbers, cube-fit, reads-cube}
use Rattle.ph_specs.proofs.lemmas.Tests.{and-made}
use Rattle.ph_model.proofs.lemmas.Counted.{kids, ones, ones-count, kids-cube}

-- ---- counts

abbrev pub first : ℕ → ℕ → ℕ → ℕ → First
first level lay n kids = record { level = level; layout = lay; entries = n; children = kids }

pub length-map' : {A B : Type 0} (f : A → B) (xs : List A) → length (map f xs) ≡ length xs
length-map' f [] = refl
length-map' f (x ∷ xs) = ap suc (length-map' f xs)

pub entries-few : (dims level least : ℕ) (es : List Flat) → least ≤ 2 ^ dims → AreRising dims level least es → length es + least ≤ 2 ^ dims
entries-few dims level least [] l h = omega (arith, l)
entries-few dims level least (e ∷ es) l h =
    omega (arith, h.0, entries-few dims level (e.addr + 1) es (omega (arith, h.1)) h.3)

pub children-few : (es : List Flat) → length (values es) + children es ≡ length es
children-few [] = refl
children-few (e ∷ es) = by_value e.value (children-few es)
  where
    by_value : (w : Option ℕ) → length (values es) + children es ≡ length es → length (value_in_front w (values es)) + (child_mark w + children es) ≡ suc (length es)
    by_value (Some v) h = omega (arith, h)
    by_value None h = omega (arith, h)

-- ---- what is read back

-- the table of a layout takes the digits that the layout's formula gives
pub table-digits : (cube : Bool) (dims level least : ℕ) (es : List Flat) → AreRising dims level least es →
    digits_of (table cube dims level es) ≡ (if cube then cube_digits dims level else linear_digits dims level (length es))
table-digits true dims level least es h = cube-digits dims level least es h
table-digits false dims level least es h = linear-digits dims level least es h

pub table-widths : (cube : Bool) (dims level least lay kids : ℕ) (es : List Flat) → AreRising dims level least es →
    field_widths (table cube dims level es) ≡
    widths cube dims (record { level = level; layout = lay; entries = length es; children = kids })
table-widths true dims level least lay kids es h = cube-widths dims level least es h
table-widths false dims level least lay kids es h = linear-widths dims level least es h

pub table-fit : (cube : Bool) (dims level least : ℕ) (es : List Flat) → AreRising dims level least es → Fit (table cube dims level es)
table-fit true dims level least es h = cube-fit dims level least es h
table-fit false dims level least es h = linear-fit dims level least es h

-- the columns that the numbers of a table are cut into
module _ (dims level : ℕ) (es : List Flat) (h : AreRising dims level 0 es) where
  abbrev m : ℕ
  m = 2 ^ dims

  abbrev ks : List ℕ
  ks = kind_column (all_places dims es)

  abbrev bs : List (List ℕ)
  bs = place_column dims (all_places dims es)

  length-ks : length ks ≡ 2 ^ dims
  length-ks =
      length-map' _ (map place_kind (all_places dims es)) ∙ length-map' place_kind (all_places dims es) ∙ length-places m 0 es

  length-bs : length bs ≡ 2 ^ dims
  length-bs = length-map' (place_body dims) (all_places dims es) ∙ length-places m 0 es

  cube-kinds : take (2 ^ dims) (numbers (cube_table dims level es)) ≡ ks
  cube-kinds = ap (take m) (cube-numbers dims level es) ∙ take-front m ks (concat_of bs) length-ks

  cube-bodies : parts (2 ^ dims) dims (drop (2 ^ dims) (numbers (cube_table dims level es))) ≡ bs
  cube-bodies =
      ap (λ t. parts m dims (drop m t)) (cube-numbers dims level es)
      ∙ ap (parts m dims) (drop-front m ks (concat_of bs) length-ks)
      ∙ ap (λ t. parts t dims (concat_of bs)) (sym length-bs)
      ∙ parts-concat dims level bs (places-bodies dims level 0 m 0 es h)

  abbrev n : ℕ
  n = length es

  behind-kinds : numbers (linear_table dims level es) ≡ mark_column es ++ (addr_column es ++ concat_of (body_column es))
  behind-kinds =
      linear-numbers dims level es ∙ append_assoc (mark_column es) (addr_column es) (concat_of (body_column es))

  linear-kinds : take (length es) (numbers (linear_table dims level es)) ≡ mark_column es
  linear-kinds =
      ap (take n) behind-kinds ∙ take-front n (mark_column es) (addr_column es ++ concat_of (body_column es)) (length-map' _ es)

  linear-addresses : take (length es) (drop (length es) (numbers (linear_table dims level es))) ≡ addr_column es
  linear-addresses =
      ap (λ t. take n (drop n t)) behind-kinds
      ∙ ap (take n) (drop-front n (mark_column es) (addr_column es ++ concat_of (body_column es)) (length-map' _ es))
      ∙ take-front n (addr_column es) (concat_of (body_column es)) (length-map' _ es)

  linear-bodies : parts (length es) dims (drop (length es + length es) (numbers (linear_table dims level es))) ≡ body_column es
  linear-bodies =
      let l : length (mark_column es ++ addr_column es) ≡ length es + length es =
      omega (
        arith,
        length-append (mark_column es) (addr_column es),
        length-map' (λ e. child_mark e.value) es,
        length-map' (λ e. e.addr) es,
      ) in
      ap (λ t. parts n dims (drop (n + n) t)) (linear-numbers dims level es)
      ∙ ap (parts n dims) (drop-front (n + n) (mark_column es ++ addr_column es) (concat_of (body_column es)) l)
      ∙ ap (λ t. parts t dims (concat_of (body_column es))) (sym (length-bodies es))
      ∙ parts-concat dims level (body_column es) (entries-bodies dims level 0 es h)

-- the entries that the numbers of a table make
pub table-reads : (cube : Bool) (dims level lay kids : ℕ) (es : List Flat) → AreRising dims level 0 es →
    (tables_in cube dims (record { level = level; layout = lay; entries = length es; children = kids })
    (numbers (table cube dims level es))).entries ≡ map unvalued es
table-reads true dims level lay kids es h =
    ap (λ t. read_cube 0 t (parts (2 ^ dims) dims (drop (2 ^ dims) (numbers (cube_table dims level es))))) (cube-kinds dims level es h)
    ∙ ap (λ t. read_cube 0 (kind_column (all_places dims es)) t) (cube-bodies dims level es h)
    ∙ reads-cube dims level (2 ^ dims) 0 0 es (omega arith) (omega arith) h
table-reads false dims level lay kids es h =
    let n : ℕ = length es in
    let xs : List ℕ = numbers (linear_table dims level es) in
    ap (λ t. read_linear t (take n (drop n xs)) (parts n dims (drop (n + n) xs))) (linear-kinds dims level es h)
    ∙ ap (λ t. read_linear (mark_column es) t (parts n dims (drop (n + n) xs))) (linear-addresses dims level es h)
    ∙ ap (λ t. read_linear (mark_column es) (addr_column es) t) (linear-bodies dims level es h)
    ∙ reads-linear es

-- ---- the rules

ones-marks : (es : List Flat) → ones (λ k. k == 1) (mark_column es) ≡ children es
ones-marks [] = refl
ones-marks (e ∷ es) = by_value e.value (ones-marks es)
  where
    by_value : (w : Option ℕ) → ones (λ k. k == 1) (mark_column es) ≡ children es → ones (λ k. k == 1) (child_mark w ∷ mark_column es) ≡ child_mark w + children es
    by_value (Some v) h = omega (arith, h)
    by_value None h = omega (arith, h)

kids-unvalued : (es : List Flat) → kids (map unvalued es) ≡ children es
kids-unvalued [] = refl
kids-unvalued (e ∷ es) = by_value e.value (kids-unvalued es)
  where
    by_value : (w : Option ℕ) → kids (map unvalued es) ≡ children es → kids (read_kept w e.addr e.body ∷ map unvalued es) ≡ child_mark w + children es
    by_value (Some v) h = omega (arith, h)
    by_value None h = omega (arith, h)

addresses-rise : (dims level least : ℕ) (es : List Flat) → AreRising dims level least es → rises_from least (addr_column es) ≡ true
addresses-rise dims level least [] h = refl
addresses-rise dims level least (e ∷ es) h =
    and-made (nat_le least e.addr) _ (le-leb least e.addr h.0) (addresses-rise dims level (e.addr + 1) es h.3)

kinds-small : (ps : List (Option Flat)) → list_all (λ k. nat_le k 2) (kind_column ps) ≡ true
kinds-small [] = refl
kinds-small (None ∷ ps) = kinds-small ps
kinds-small (Some e ∷ ps) = and-made (nat_le (1 + child_mark e.value) 2) _ (by_value e.value) (kinds-small ps)
  where
    by_value : (o : Option ℕ) → nat_le (1 + child_mark o) 2 ≡ true
    by_value None = refl
    by_value (Some v) = refl

zeros-zero : (n : ℕ) → list_all (λ x. x == 0) (replicate n 0) ≡ true
zeros-zero zero = refl
zeros-zero (suc n) = zeros-zero n

absent-zero : (dims : ℕ) (ps : List (Option Flat)) → absent_are_zero (kind_column ps) (place_column dims ps) ≡ true
absent-zero dims [] = refl
absent-zero dims (None ∷ ps) =
    and-made (list_all (λ x. x == 0) (replicate dims 0)) _ (zeros-zero dims) (absent-zero dims ps)
absent-zero dims (Some e ∷ ps) =
    and-made (nat_lt 0 (1 + child_mark e.value) || list_all (λ x. x == 0) e.body) _
    (ap (λ t. t || list_all (λ x. x == 0) e.body) (lt-ltb 0 (1 + child_mark e.value) (omega arith))) (absent-zero dims ps)

pub tables-lawful : (cube : Bool) (dims level lay : ℕ) (es : List Flat) → AreRising dims level 0 es →
    (tables_in cube dims (first level lay (length es) (children es)) (numbers (table cube dims level es))).is_lawful ≡ true
tables-lawful true dims level lay es h =
    let ps : List (Option Flat) = all_places dims es in
    let m : ℕ = 2 ^ dims in
    let ks : List ℕ = kind_column (all_places dims es) in
    let bs : List (List ℕ) = place_column dims (all_places dims es) in
    let r : read_cube 0 (kind_column (all_places dims es)) (place_column dims (all_places dims es)) ≡
    map unvalued es = reads-cube dims level m 0 0 es (omega arith) (omega arith) h in
    let c : (length (read_cube 0 (kind_column (all_places dims es)) (place_column dims (all_places dims es))) ≡
    ones (λ k. nat_lt 0 k) (kind_column (all_places dims es))) ×
    (kids (read_cube 0 (kind_column (all_places dims es)) (place_column dims (all_places dims es))) ≡
    ones (λ k. k == 2) (kind_column (all_places dims es))) =
    kids-cube 0 ks bs (length-bs dims level es h ∙ sym (length-ks dims level es h)) in
    let n : count_by (λ k. nat_lt 0 k) (kind_column (all_places dims es)) ≡ length es =
    sym (ones-count (λ k. nat_lt 0 k) ks) ∙ sym c.0 ∙ ap length r ∙ length-map' unvalued es in
    let q : count_by (λ k. k == 2) (kind_column (all_places dims es)) ≡ children es = sym (ones-count (λ k. k == 2) ks) ∙ sym c.1 ∙ ap kids r ∙ kids-unvalued es in
    ap (λ t. list_all (λ k. nat_le k 2) t && (count_by (λ k. nat_lt 0 k) t == length es) &&
    (count_by (λ k. k == 2) t == children es) &&
    absent_are_zero t (parts m dims (drop m (numbers (cube_table dims level es))))) (cube-kinds dims level es h)
    ∙ ap (λ t. list_all (λ k. nat_le k 2) ks && (count_by (λ k. nat_lt 0 k) ks == length es) &&
    (count_by (λ k. k == 2) ks == children es) && absent_are_zero ks t) (cube-bodies dims level es h)
    ∙ and-made (list_all (λ k. nat_le k 2) ks && (count_by (λ k. nat_lt 0 k) ks == length es) &&
    (count_by (λ k. k == 2) ks == children es)) _
    (and-made (list_all (λ k. nat_le k 2) ks && (count_by (λ k. nat_lt 0 k) ks == length es)) _
    (and-made (list_all (λ k. nat_le k 2) ks) _ (kinds-small ps) (eq-eqb _ _ n)) (eq-eqb _ _ q)) (absent-zero dims ps)
tables-lawful false dims level lay es h =
    let n : ℕ = length es in
    let ms : List ℕ = mark_column es in
    let c : count_by (λ k. k == 1) (mark_column es) ≡ children es = sym (ones-count (λ k. k == 1) ms) ∙ ones-marks es in
    ap (λ t. (count_by (λ k. k == 1) t == children es) && rises_from 0 (take n (drop n (numbers (linear_table dims level es))))) (linear-kinds dims level es h)
    ∙ ap (λ t. (count_by (λ k. k == 1) ms == children es) && rises_from 0 t) (linear-addresses dims level es h)
    ∙ and-made (count_by (λ k. k == 1) ms == children es) _ (eq-eqb _ _ c) (addresses-rise dims level 0 es h)
