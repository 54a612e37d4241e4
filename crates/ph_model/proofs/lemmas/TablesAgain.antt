-- Tables that pass their rules are the tables of what is read of them.
use Rattle.std.proofs.Common.{◌≡◌, ℕ, zero, suc, ◌+◌, ◌-◌, ◌*◌, ◌/◌, ◌%◌, ◌^◌, ◌<◌, sym, ◌∙◌, ap, subst, arith, List, [], ◌∷◌}
use Rattle.std.proofs.Common.{◌++◌, length, map, take, drop, replicate, Bool, true, false, eqb-true, leb-true}
use Rattle.std.specs.Prelude.{if◌then◌else◌, ◌&&◌, ◌==◌, nat_lt, nat_le, count_by}
use Rattle.std.specs.List.{AllByRecursion as Each, list_all}
use Rattle.std.proofs.lemmas.List.{append_assoc, length-append, length-replicate, length-drop, length-take-le, drop-drop, take-append-drop}
use Rattle.std.proofs.lemmas.Nat.{pow-add}
use Rattle.std.proofs.Math.Nat.{mod-eq_of_lt, lt_of_mul-lt-mul_right}
use Rattle.ph_specs.specs.Node.{Entries, flat}
use Rattle.ph_model.specs.Lawful.{IsBody}
use Rattle.ph_specs.specs.Digits.{Field, field, number_of, pieces, words_for, words_of, read_fields}
use Rattle.ph_specs.specs.Pack.{linear_digits, cube_digits, linear_table, cube_table, table}
use Rattle.ph_specs.specs.Record.{First, parts, widths, tables_in, padding, rises_from, absent_are_zero}
use Rattle.ph_specs.proofs.lemmas.Numbers.{Fit, number_of-small, words_for-enough}
use Rattle.ph_model.proofs.lemmas.Columns.{reads}
use Rattle.ph_specs.proofs.lemmas.Places.{quotient}
use Rattle.ph_specs.proofs.lemmas.Members.{Each-each}
use Rattle.ph_model.proofs.lemmas.Grouped.{Each-front, Each-back}
use Rattle.ph_specs.proofs.lemmas.Tests.{and-parts, each-test}
use Rattle.ph_model.proofs.lemmas.Counted.{kids, ones, ones-count, kids-linear, kids-cube}
use Rattle.ph_model.proofs.lemmas.ReadColumns.{fields-front, fields-last, parts-fields, length-parts, fit-numbers, linear-again, cube-again}
use Rattle.ph_specs.proofs.laws.ReadBack.{fields_of, total, digits-fields, number-read, digits-words, fit-words, pieces-number}

-- ---- words

-- the words of the fields that are read of words are these words again
pub words-again : (ts ws : List ℕ) → length ts ≡ words_for (total ws) → Each (λ x. x < 2 ^ 64) ts →
    number_of (map (field 64) ts) % 2 ^ padding (total ws) ≡ 0 →
    words_of (fields_of ws (read_fields (total ws) ws (number_of (map (field 64) ts) / 2 ^ padding (total ws)))) ≡ ts
words-again ts ws l s z =
    let d : ℕ = total ws in
    let x : ℕ = number_of (map (field 64) ts) in
    let y : ℕ = number_of (map (field 64) ts) / 2 ^ padding (total ws) in
    let fs : List Field = fields_of ws (read_fields (total ws) ws (number_of (map (field 64) ts) / 2 ^ padding (total ws))) in
    let q : number_of (map (field 64) ts) ≡ number_of (map (field 64) ts) / 2 ^ padding (total ws) * 2 ^ padding (total ws) = quotient x (2 ^ padding d) z in
    let c : 64 * length ts ≡ total ws + padding (total ws) = omega (arith, l, words_for-enough (total ws)) in
    let p : 2 ^ (64 * length ts) ≡ 2 ^ total ws * 2 ^ padding (total ws) = ap (λ t. 2 ^ t) c ∙ pow-add 2 d (padding d) in
    let b : number_of (map (field 64) ts) < 2 ^ (64 * length ts) = subst (λ t. number_of (map (field 64) ts) < 2 ^ t)
    (digits-words 64 ts) (number_of-small (map (field 64) ts) (fit-words 64 ts s)) in
    let m : number_of (map (field 64) ts) / 2 ^ padding (total ws) * 2 ^ padding (total ws) < 2 ^ total ws * 2 ^
    padding (total ws) = subst (λ t. t < 2 ^ d * 2 ^ padding d) q (subst (λ t. x < t) p b) in
    let k : number_of (map (field 64) ts) / 2 ^ padding (total ws) < 2 ^ total ws = lt_of_mul-lt-mul_right (2 ^ padding d) m in
    let n : number_of fs ≡ number_of (map (field 64) ts) / 2 ^ padding (total ws) = number-read ws y ∙ mod-eq_of_lt k in
    ap (λ t. pieces 64 (words_for t) (number_of fs * 2 ^ (64 * words_for t - t))) (digits-fields ws y d)
    ∙ ap (λ t. pieces 64 (words_for d) (t * 2 ^ padding d)) n
    ∙ ap (pieces 64 (words_for d)) (sym q)
    ∙ ap (λ t. pieces 64 t x) (sym l)
    ∙ pieces-number 64 ts s

-- ---- widths

total-append : (ws vs : List ℕ) → total (ws ++ vs) ≡ total ws + total vs
total-append [] vs = omega arith
total-append (w ∷ ws) vs = omega (arith, total-append ws vs)

total-replicate : (n w : ℕ) → total (replicate n w) ≡ n * w
total-replicate zero w = omega arith
total-replicate (suc n) w = omega (arith, total-replicate n w)

-- what adds up over lists, of the widths of a table
added-widths : (sum : List ℕ → ℕ) (many : ℕ → ℕ → ℕ) → ((ws vs : List ℕ) → sum (ws ++ vs) ≡ sum ws + sum vs) →
    ((n w : ℕ) → sum (replicate n w) ≡ many n w) → (cube : Bool) (dims : ℕ) (f : First) →
    sum (widths cube dims f) ≡ (if cube then many (2 ^ dims) 2 + many (2 ^ dims * dims) f.level
    else many f.entries 1 + many f.entries dims + many (f.entries * dims) f.level)
added-widths sum many append same true dims f =
    let m : ℕ = 2 ^ dims in
    omega (arith, append (replicate m 2) (replicate (m * dims) f.level), same m 2, same (m * dims) f.level)
added-widths sum many append same false dims f =
    let n : ℕ = f.entries in
    omega (
      arith,
      append (replicate n 1 ++ replicate n dims) (replicate (n * dims) f.level),
      append (replicate n 1) (replicate n dims),
      same n 1,
      same n dims,
      same (n * dims) f.level,
    )

pub total-widths : (cube : Bool) (dims : ℕ) (f : First) → total (widths cube dims f) ≡ (if cube then cube_digits dims f.level else linear_digits dims f.level f.entries)
total-widths true dims f = omega (arith, added-widths total (λ n w. n * w) total-append total-replicate true dims f)
total-widths false dims f = omega (arith, added-widths total (λ n w. n * w) total-append total-replicate false dims f)

-- the numbers of so many fields
abbrev pub many_fields : Bool → ℕ → First → ℕ
many_fields true dims f = 2 ^ dims + 2 ^ dims * dims
many_fields false dims f = f.entries + (f.entries + f.entries * dims)

pub length-widths : (cube : Bool) (dims : ℕ) (f : First) → length (widths cube dims f) ≡ many_fields cube dims f
length-widths true dims f = omega (arith, added-widths length (λ n w. n) (length-append {A = ℕ}) (length-replicate {A = ℕ}) true dims f)
length-widths false dims f = omega (arith, added-widths length (λ n w. n) (length-append {A = ℕ}) (length-replicate {A = ℕ}) false dims f)

-- ---- fields

linear-fields : (n dims level : ℕ) (xs : List ℕ) → length xs ≡ n + (n + n * dims) →
    fields_of (replicate n 1 ++ replicate n dims ++ replicate (n * dims) level) xs ≡ map (field 1) (take n xs) ++
    (map (field dims) (take n (drop n xs)) ++ map (field level) (drop (n + n) xs))
linear-fields n dims level xs l =
    let d : length (drop n xs) ≡ n + n * dims = omega (arith, l, length-drop n xs) in
    let e : length (drop n (drop n xs)) ≡ n * dims = omega (arith, d, length-drop n (drop n xs)) in
    ap (λ t. fields_of t xs) (append_assoc (replicate n 1) (replicate n dims) (replicate (n * dims) level))
    ∙ fields-front n 1 (replicate n dims ++ replicate (n * dims) level) xs (omega (arith, l))
    ∙ ap (λ t. map (field 1) (take n xs) ++ t) (fields-front n dims (replicate (n * dims) level) (drop n xs) (omega (arith, d)))
    ∙ ap (λ t. map (field 1) (take n xs) ++ (map (field dims) (take n (drop n xs)) ++ t))
    (fields-last (n * dims) level (drop n (drop n xs)) e ∙ ap (map (field level)) (drop-drop n n xs))

cube-fields : (m dims level : ℕ) (xs : List ℕ) → length xs ≡ m + m * dims →
    fields_of (replicate m 2 ++ replicate (m * dims) level) xs ≡ map (field 2) (take m xs) ++ map (field level) (drop m xs)
cube-fields m dims level xs l =
    let d : length (drop m xs) ≡ m * dims = omega (arith, l, length-drop m xs) in
    fields-front m 2 (replicate (m * dims) level) xs (omega (arith, l))
    ∙ ap (λ t. map (field 2) (take m xs) ++ t) (fields-last (m * dims) level (drop m xs) d)

pub parts-bodies : (dims level n : ℕ) (ys : List ℕ) → length ys ≡ n * dims → Each (λ y. y < 2 ^ level) ys → Each (IsBody dims level) (parts n dims ys)
parts-bodies dims level zero ys l h = tt
parts-bodies dims level (suc n) ys l h =
    let k : Each (λ y. y < 2 ^ level) (take dims ys ++ drop dims ys) = subst (Each (λ y. y < 2 ^ level)) (sym (take-append-drop dims ys)) h in (
      (length-take-le dims ys (omega (arith, l)), Each-front (λ y. y < 2 ^ level) (take dims ys) (drop dims ys) k),
      parts-bodies dims level n (drop dims ys) (omega (arith, l, length-drop dims ys))
          (Each-back (λ y. y < 2 ^ level) (take dims ys) (drop dims ys) k),
    )

-- ---- the two layouts

-- what the fields of a list of entries are
module _ (dims : ℕ) (f : First) (xs : List ℕ) (l : length xs ≡ f.entries + (f.entries + f.entries * dims)) (h : Fit (fields_of (widths false dims f) xs)) where
  abbrev n : ℕ
  n = f.entries

  pub linear-kinds : length (take f.entries xs) ≡ f.entries
  linear-kinds = length-take-le n xs (omega (arith, l))

  pub linear-addrs : length (take f.entries (drop f.entries xs)) ≡ f.entries
  linear-addrs = length-take-le n (drop n xs) (omega (arith, l, length-drop n xs))

  linear-rest : length (drop (f.entries + f.entries) xs) ≡ f.entries * dims
  linear-rest = omega (arith, l, length-drop (n + n) xs)

  fits : Fit (map (field 1) (take n xs) ++ (map (field dims) (take n (drop n xs)) ++ map (field f.level) (drop (n + n) xs)))
  fits = subst Fit (linear-fields n dims f.level xs l) h

  behind : Fit (map (field dims) (take n (drop n xs)) ++ map (field f.level) (drop (n + n) xs))
  behind = Each-back (λ g. g.number < 2 ^ g.width) (map (field 1) (take n xs)) _ fits

  pub linear-kinds-fit : Each (λ k. k < 2 ^ 1) (take f.entries xs)
  linear-kinds-fit = fit-numbers 1 (take n xs) (Each-front (λ g. g.number < 2 ^ g.width) (map (field 1) (take n xs)) _ fits)

  pub linear-addrs-fit : Each (λ a. a < 2 ^ dims) (take f.entries (drop f.entries xs))
  linear-addrs-fit = fit-numbers dims (take n (drop n xs)) (Each-front (λ g. g.number < 2 ^ g.width) (map (field dims) (take n (drop n xs))) _ behind)

  pub linear-bodies : Each (IsBody dims f.level) (parts f.entries dims (drop (f.entries + f.entries) xs))
  linear-bodies =
      parts-bodies dims f.level n (drop (n + n) xs) linear-rest
      (fit-numbers f.level (drop (n + n) xs)
      (Each-back (λ g. g.number < 2 ^ g.width) (map (field dims) (take n (drop n xs))) _ behind))

  pub linear-count : (length (tables_in false dims f xs).entries ≡ f.entries) × (kids (tables_in false dims f xs).entries ≡ count_by (λ k. k == 1) (take f.entries xs))
  linear-count =
      let c : (length (tables_in false dims f xs).entries ≡ length (take f.entries xs)) ×
      (kids (tables_in false dims f xs).entries ≡ ones (λ k. k == 1) (take f.entries xs)) =
      kids-linear (take n xs) (take n (drop n xs)) (parts n dims (drop (n + n) xs))
      (linear-addrs ∙ sym linear-kinds) (length-parts n dims (drop (n + n) xs) ∙ sym linear-kinds) in
      (c.0 ∙ linear-kinds, c.1 ∙ ones-count (λ k. k == 1) (take n xs))

  pub linear-table-again : (e : Entries) → reads e ≡ (tables_in false dims f xs).entries → linear_table dims f.level (flat e) ≡ fields_of (widths false dims f) xs
  linear-table-again e r =
      linear-again dims f.level e (take n xs) (take n (drop n xs)) (parts n dims (drop (n + n) xs)) linear-kinds-fit
      (linear-addrs ∙ sym linear-kinds) (length-parts n dims (drop (n + n) xs) ∙ sym linear-kinds) r
      ∙ ap (λ t. map (field 1) (take n xs) ++ (map (field dims) (take n (drop n xs)) ++ t)) (parts-fields f.level n dims (drop (n + n) xs) linear-rest)
      ∙ sym (linear-fields n dims f.level xs l)

-- what the fields of a full table are
module _ (dims : ℕ) (f : First) (xs : List ℕ) (l : length xs ≡ 2 ^ dims + 2 ^ dims * dims) (h : Fit (fields_of (widths true dims f) xs)) where
  abbrev m : ℕ
  m = 2 ^ dims

  pub cube-kinds : length (take (2 ^ dims) xs) ≡ 2 ^ dims
  cube-kinds = length-take-le m xs (omega (arith, l))

  cube-rest : length (drop (2 ^ dims) xs) ≡ 2 ^ dims * dims
  cube-rest = omega (arith, l, length-drop m xs)

  pub cube-bodies : Each (IsBody dims f.level) (parts (2 ^ dims) dims (drop (2 ^ dims) xs))
  cube-bodies =
      parts-bodies dims f.level m (drop m xs) cube-rest
      (fit-numbers f.level (drop m xs)
      (Each-back (λ g. g.number < 2 ^ g.width) (map (field 2) (take m xs)) _ (subst Fit (cube-fields m dims f.level xs l) h)))

  pub cube-count : (length (tables_in true dims f xs).entries ≡ count_by (λ k. nat_lt 0 k) (take (2 ^ dims) xs)) ×
      (kids (tables_in true dims f xs).entries ≡ count_by (λ k. k == 2) (take (2 ^ dims) xs))
  cube-count =
      let c : (length (tables_in true dims f xs).entries ≡ ones (λ k. nat_lt 0 k) (take (2 ^ dims) xs)) ×
      (kids (tables_in true dims f xs).entries ≡ ones (λ k. k == 2) (take (2 ^ dims) xs)) =
      kids-cube 0 (take m xs) (parts m dims (drop m xs)) (length-parts m dims (drop m xs) ∙ sym cube-kinds) in
      (c.0 ∙ ones-count (λ k. nat_lt 0 k) (take m xs), c.1 ∙ ones-count (λ k. k == 2) (take m xs))

  pub cube-table-again : (e : Entries) → list_all (λ k. nat_le k 2) (take (2 ^ dims) xs) ≡ true →
      absent_are_zero (take (2 ^ dims) xs) (parts (2 ^ dims) dims (drop (2 ^ dims) xs)) ≡ true →
      reads e ≡ (tables_in true dims f xs).entries → cube_table dims f.level (flat e) ≡ fields_of (widths true dims f) xs
  cube-table-again e k z r =
      cube-again dims f.level e (take m xs) (parts m dims (drop m xs))
      (Each-each (take m xs) (λ x p. leb-true x 2 p) (each-test (λ k. nat_le k 2) (take m xs) k))
      (Each-each (parts m dims (drop m xs)) (λ b p. p.0) cube-bodies)
      (length-parts m dims (drop m xs) ∙ sym cube-kinds) cube-kinds z r
      ∙ ap (λ t. map (field 2) (take m xs) ++ t) (parts-fields f.level m dims (drop m xs) cube-rest)
      ∙ sym (cube-fields m dims f.level xs l)

-- ---- either layout

-- what the tables of a cube are where they are lawful: no kind above 2, as many entries and children as the first word says, and nothing at an absent address
cube-lawful : (dims : ℕ) (f : First) (xs : List ℕ) → (tables_in true dims f xs).is_lawful ≡ true →
    (list_all (λ k. nat_le k 2) (take (2 ^ dims) xs) ≡ true) ×
    ((count_by (λ k. nat_lt 0 k) (take (2 ^ dims) xs) == f.entries) ≡ true) ×
    ((count_by (λ k. k == 2) (take (2 ^ dims) xs) == f.children) ≡ true) ×
    (absent_are_zero (take (2 ^ dims) xs) (parts (2 ^ dims) dims (drop (2 ^ dims) xs)) ≡ true)
cube-lawful dims f xs t =
    let a : ((list_all (λ k. nat_le k 2) (take (2 ^ dims) xs) &&
    (count_by (λ k. nat_lt 0 k) (take (2 ^ dims) xs) == f.entries) &&
    (count_by (λ k. k == 2) (take (2 ^ dims) xs) == f.children)) ≡ true) ×
    (absent_are_zero (take (2 ^ dims) xs) (parts (2 ^ dims) dims (drop (2 ^ dims) xs)) ≡ true) = and-parts _ _ t in
    let b : ((list_all (λ k. nat_le k 2) (take (2 ^ dims) xs) &&
    (count_by (λ k. nat_lt 0 k) (take (2 ^ dims) xs) == f.entries)) ≡ true) ×
    ((count_by (λ k. k == 2) (take (2 ^ dims) xs) == f.children) ≡ true) = and-parts _ _ a.0 in
    let c : (list_all (λ k. nat_le k 2) (take (2 ^ dims) xs) ≡ true) × ((count_by (λ k. nat_lt 0 k) (take (2 ^ dims) xs) == f.entries) ≡ true) = and-parts _ _ b.0 in
    (c.0, c.1, b.1, a.1)

-- the entries of lawful tables are as many as the first word says, and so are the children
pub tables-count : (cube : Bool) (dims : ℕ) (f : First) (xs : List ℕ) → length xs ≡ many_fields cube dims f →
    Fit (fields_of (widths cube dims f) xs) → (tables_in cube dims f xs).is_lawful ≡ true →
    (length (tables_in cube dims f xs).entries ≡ f.entries) × (kids (tables_in cube dims f xs).entries ≡ f.children)
tables-count true dims f xs l h t =
    let s = cube-lawful dims f xs t in
    ((cube-count dims f xs l h).0 ∙ eqb-true _ _ s.1, (cube-count dims f xs l h).1 ∙ eqb-true _ _ s.2)
tables-count false dims f xs l h t =
    let a : ((count_by (λ k. k == 1) (take f.entries xs) == f.children) ≡ true) × (rises_from 0 (take f.entries (drop f.entries xs)) ≡ true) = and-parts _ _ t in
    ((linear-count dims f xs l h).0, (linear-count dims f xs l h).1 ∙ eqb-true _ _ a.0)

-- the table of entries that are read of lawful tables
pub tables-again : (cube : Bool) (dims : ℕ) (f : First) (xs : List ℕ) (e : Entries) →
    length xs ≡ many_fields cube dims f → Fit (fields_of (widths cube dims f) xs) →
    (tables_in cube dims f xs).is_lawful ≡ true → reads e ≡ (tables_in cube dims f xs).entries →
    table cube dims f.level (flat e) ≡ fields_of (widths cube dims f) xs
tables-again true dims f xs e l h t r = let s = cube-lawful dims f xs t in cube-table-again dims f xs l h e s.0 s.3 r
tables-again false dims f xs e l h t r = linear-table-again dims f xs l h e r
