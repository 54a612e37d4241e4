-- A record without one of its entries: its columns and its values are moved together.
use Rattle.std.proofs.Common.{◌≡◌, ℕ, ◌+◌, ◌-◌, ◌*◌, ◌/◌, ◌^◌, ◌≤◌, ◌<◌, refl, sym, ◌∙◌, ap, arith, List, [], ◌∷◌, ◌++◌, length}
use Rattle.std.proofs.Common.{length-append, take, drop, replicate, slice_set, slice_index_or, Bool, true, false}
use Rattle.std.specs.Prelude.{if◌then◌else◌}
use Rattle.std.specs.List.{AllByRecursion as Each}
use Rattle.std.proofs.Math.Nat.{mul-le-mul_left, pow-le-pow_right}
use Rattle.std.proofs.lemmas.List.{take_at, drop-drop, length-drop, length-take-le}
use Rattle.std.proofs.lemmas.Slice.{drop-append-drop}
use Rattle.ph_specs.specs.Digits.{Field, field, number_of, digits_of, words_for, words_of}
use Rattle.ph_model.specs.Layout.{IsRecord, entries_as, values_as, AreRising}
use Rattle.ph_specs.specs.Node.{Flat}
use Rattle.ph_model.specs.NodeSize.{points_in}
use Rattle.ph_specs.specs.Pack.{bodies, children, values, first_word, linear_digits, linear_table, record_in}
use Rattle.ph_specs.specs.Record.{first_in}
use Rattle.ph_model.proofs.lemmas.LayoutTables.{children-few, table-digits}
use Rattle.ph_specs.proofs.lemmas.Numbers.{length-words_of}
use Rattle.ph_bits.specs.Edits.{edited_as}
use Rattle.ph_bits.specs.declared.edits.Edit.{Edit}
use Rattle.ph_linear.specs.Edited.{IsOutline, new_values}
use Rattle.ph_linear.specs.Resized.{IsClosable, points_less, values_closed, with_less}
use Rattle.ph_linear.specs.Runs.{start, run, AreColumnsOf, runs_around, runs_without, with_fields}
use Rattle.ph_linear.specs.declared.outlines.Outline.{Outline}
use Rattle.ph_linear.specs.declared.tables.Columns.{Columns}
use Rattle.ph_linear.proofs.EditedEntries.{length-new, values-put, points-within}
use Rattle.ph_linear.proofs.EditedRuns.{edited-number}
use Rattle.ph_linear.proofs.FieldWords.{words-equal}
use Rattle.ph_linear.proofs.PutRecords.{points-more}

-- how many digits are left of columns of n entries
sizes : (k kw a aw b bw n p : ℕ) → k ≡ 64 → kw ≡ 1 → a ≡ k + n * kw → b ≡ a + n * aw → p < n
    → k + p * kw - 64 + (a + p * aw - (k + (p + 1) * kw)) + (b + p * bw - (a + (p + 1) * aw)) + (b + n * bw - (b + (p + 1) * bw)) ≡ (n - 1) * (1 + aw + bw)
sizes k kw a aw b bw n p e1 e2 e3 e4 l =
    let q : ℕ = n - (p + 1) in
    let m : n ≡ p + 1 + (n - (p + 1)) = omega (arith, l) in
    let less : n - 1 ≡ p + (n - (p + 1)) = omega (arith, l) in
    let x1 : n * kw ≡ n = ap (λ t. n * t) e2 ∙ omega arith in
    let x2 : p * kw ≡ p = ap (λ t. p * t) e2 ∙ omega arith in
    let x3 : (p + 1) * kw ≡ p + 1 = ap (λ t. (p + 1) * t) e2 ∙ omega arith in
    let x4 : n * aw ≡ (p + 1 + (n - (p + 1))) * aw = ap (λ t. t * aw) m in
    let x5 : n * bw ≡ (p + 1 + (n - (p + 1))) * bw = ap (λ t. t * bw) m in
    let x6 : (n - 1) * (1 + aw + bw) ≡ (p + (n - (p + 1))) * (1 + aw + bw) = ap (λ t. t * (1 + aw + bw)) less in
    omega (arith, e1, e3, e4, x1, x2, x3, x4, x5, x6, m, less)

module _ (dims : ℕ) (words : List ℕ) (e : Edit) (r : IsRecord false dims words) (h : Each (λ x. x < 2 ^ 64) words)
    (l : e.place + e.less ≤ (first_in words).entries) (less : e.less ≡ 1) (more : e.more ≡ 0)
    (up : AreRising dims (first_in words).level 0 (edited_as false dims words e)) (cs : Columns)
    (cols : AreColumnsOf dims words cs) where
  abbrev n : ℕ
  n = (first_in words).entries

  abbrev es : List Flat
  es = edited_as false dims words e

  abbrev fs : List Field
  fs = runs_without words cs e.place

  abbrev gs : List Field
  gs = linear_table dims (first_in words).level (edited_as false dims words e)

  many-less : length (edited_as false dims words e) ≡ (first_in words).entries - 1
  many-less = length-new false dims words e r h l ∙ omega (arith, l, less, more)

  table-less : digits_of gs ≡ (n - 1) * (1 + dims + dims * (first_in words).level)
  table-less = table-digits false dims (first_in words).level 0 es up ∙ ap (linear_digits dims (first_in words).level) many-less

  place-low : e.place < (first_in words).entries
  place-low = omega (arith, l, less)

  -- ---- the columns

  pub without-digits : digits_of (runs_without words cs e.place) ≡ digits_of (linear_table dims (first_in words).level (edited_as false dims words e))
  without-digits =
      let c = cols.columns in
      let m : cs.bodies.count ≡ cs.kinds.count = c.bodies_many in
      let p : e.place < cs.kinds.count = omega (arith, place-low, cols.many) in
      let s = sizes cs.kinds.at cs.kinds.width cs.addresses.at cs.addresses.width cs.bodies.at cs.bodies.width
      cs.kinds.count e.place c.begin c.one c.addresses c.bodies p in
      let t : digits_of gs ≡ (n - 1) * (1 + dims + dims * (first_in words).level) = table-less in
      ap (λ k. digits_of (run words 64 (start cs.kinds e.place) ∷ run words (start cs.kinds (e.place + 1))
      (start cs.addresses e.place) ∷ run words (start cs.addresses (e.place + 1)) (start cs.bodies e.place) ∷
      run words (start cs.bodies (e.place + 1)) (start cs.bodies k) ∷ [])) m
      ∙ flat _ _ _ _ _ s
      ∙ ap (λ k. (k - 1) * (1 + cs.addresses.width + cs.bodies.width)) cols.many
      ∙ ap (λ k. (n - 1) * (1 + k + cs.bodies.width)) cols.addresses_wide
      ∙ ap (λ k. (n - 1) * (1 + dims + k)) cols.bodies_wide
      ∙ sym t
    where
      flat : (x y z w s : ℕ) → x + y + z + w ≡ s → x + (y + (z + (w + 0))) ≡ s
      flat x y z w s e = omega (arith, e)

  pub without-number : number_of (runs_without words cs e.place) ≡ number_of (linear_table dims (first_in words).level (edited_as false dims words e))
  without-number =
      let fk : Field = field cs.kinds.width (if e.entry.child then 1 else 0) in
      let fa : Field = field cs.addresses.width e.entry.addr in
      let row : List ℕ = take dims e.entry.body in
      sym
      (ap (λ t. number_of (runs_around words cs e.place (e.place + t) (replicate e.more fk) (replicate e.more fa)
      (bodies (first_in words).level (replicate e.more row)))) less
      ∙ ap (λ t. number_of (runs_around words cs e.place (e.place + 1) (replicate t fk) (replicate t fa) (bodies (first_in words).level (replicate t row)))) more)
      ∙ edited-number dims words e r h l cs cols

  -- ---- the values

  abbrev vs : List ℕ
  vs = values_as false dims words

  abbrev front : List ℕ
  front = slice_index_or words 0 0 ∷ words_of (runs_without words cs e.place)

  shorter : words_for (digits_of (runs_without words cs e.place)) ≤ words_for (linear_digits dims (first_in words).level (first_in words).entries)
  shorter =
      let s : digits_of fs ≡ (n - 1) * (1 + dims + dims * (first_in words).level) = without-digits ∙ table-less in
      let k : n - 1 ≤ n = omega arith in
      let m : (1 + dims + dims * (first_in words).level) * (n - 1) ≤ (1 + dims + dims * (first_in words).level) * n =
      mul-le-mul_left (1 + dims + dims * (first_in words).level) k in
      fewer (digits_of fs) (linear_digits dims (first_in words).level n) (omega (arith, s, m))
    where
      fewer : (x y : ℕ) → x ≤ y → (x + 63) / 64 ≤ (y + 63) / 64
      fewer x y l = omega (arith, l)

  pub closed-record : (o : Outline) (v : ℕ) (ws : List ℕ) → IsOutline false dims words e o →
      v ≡ 1 + words_for (digits_of (runs_without words cs e.place)) →
      ws ≡ with_fields (runs_without words cs e.place) words → length ws ≡ length words
      → IsClosable v o ws × (with_less v o ws ≡ record_in false dims (first_in words).level (edited_as false dims words e))
  closed-record o v ws k q is long =
      let many : length front ≡ v = omega (arith, q, length-words_of fs) in
      let low : v ≤ o.values = omega (arith, q, k.values, shorter) in
      let t : ℕ = 1 + words_for (digits_of fs) in
      let known : ws ≡ front ++ drop t words = is in
      let f1 : take v ws ≡ front = ap (take v) known ∙ take_at front (drop t words) v many in
      let behind : (i : ℕ) → v ≤ i → drop i ws ≡ drop i words =
      λ i m. ap (drop i) known ∙ drop-append-drop t words front i (omega (arith, m, q)) (many ∙ q) in
      let f2 : drop o.values ws ≡ vs = behind o.values low ∙ ap (λ i. drop i words) k.values in
      let f3 : drop (o.values + o.until) ws ≡ drop o.until vs = behind (o.values + o.until) (omega (arith, low)) ∙
      sym (drop-drop o.until o.values words) ∙ ap (λ i. drop o.until (drop i words)) k.values in
      let gone : new_values e ≡ [] = no-values e.entry.child in
      let put : take o.front vs ++ drop o.until vs ≡ values es =
      ap (λ xs. take o.front vs ++ (xs ++ drop o.until vs)) (sym gone) ∙ values-put false dims words e r h l vs o.front o.until refl k.front k.until in
      let all : values_closed v o ws ≡ front ++ values es =
      ap (λ xs. xs ++ (take o.front (drop o.values ws) ++ drop (o.values + o.until) ws)) f1
      ∙ ap (λ xs. front ++ (take o.front xs ++ drop (o.values + o.until) ws)) f2
      ∙ ap (λ xs. front ++ (take o.front vs ++ xs)) f3
      ∙ ap (λ xs. front ++ xs) put in
      let kept : o.until ≤ length vs = omega (arith, k.until, points-within false dims words e r h l (e.place + e.less)) in
      let size : length vs ≡ length words - o.values = length-drop _ words ∙ ap (λ i. length words - i) (sym k.values) in
      let inside : o.values + o.until ≤ length ws = inner o.values o.until (length vs) (length words) (length ws) kept size long (omega (arith, k.values, first-words)) in
      let order : o.front ≤ o.until =
      omega (
        arith,
        points-more (entries_as false dims words) e.place,
        ap (λ i. points_in (take (e.place + i) (entries_as false dims words))) less,
        k.front,
        k.until,
      ) in
      let points : points_less o ws ≡ length (values es) =
      count o.front o.until o.values (length vs) (length words) (length ws) (length (take o.front vs))
      (length (drop o.until vs)) (length (values es)) order kept size long inside
      (length-take-le o.front vs (omega (arith, order, kept))) (length-drop o.until vs)
      (sym (length-append (take o.front vs) (drop o.until vs)) ∙ ap length put) in
      let c : o.count - 1 ≡ length es = ap (λ i. i - 1) k.count ∙ sym many-less in
      let f = children-few es in
      let kids : o.count - 1 - points_less o ws ≡ children es = omega (arith, points, c, f) in (
        record {
          order = order;
          first = omega (arith, q);
          shorter = low;
          within = inside;
          some = omega (arith, k.count, r.least);
          points = omega (arith, points, c, f);
          few = omega (arith, k.count, r.most, most dims r.few);
          low = omega (arith, k.level, r.low);
        },
        ap (λ xs. slice_set xs 0 (first_word o.level 0 (o.count - 1) (o.count - 1 - points_less o ws))) all
            ∙ ap {B = List ℕ} (λ x. x ∷ words_of fs ++ values es)
            (ap (first_word o.level 0 (o.count - 1)) kids ∙ ap (λ i. first_word o.level 0 i (children es)) c ∙ ap (λ i. first_word i 0 (length es) (children es)) k.level)
            ∙ ap {B = List ℕ} (λ xs. first_word (first_in words).level 0 (length es) (children es) ∷ xs ++ values es) (words-equal fs gs without-digits without-number),
      )
    where
      no-values : (child : Bool) → (if child then [] else replicate e.more e.value) ≡ []
      no-values true = refl
      no-values false = ap (λ i. replicate i e.value) more

      first-words : 1 + words_for (linear_digits dims (first_in words).level (first_in words).entries) ≤ length words
      first-words = omega (arith, r.long)

      inner : (v u k n m : ℕ) → u ≤ k → k ≡ n - v → m ≡ n → v ≤ n → v + u ≤ m
      inner v u k n m a b c d = omega (arith, a, b, c, d)

      count : (f u v k n m x y z : ℕ) → f ≤ u → u ≤ k → k ≡ n - v → m ≡ n → v + u ≤ m → x ≡ f → y ≡ k - u → x + y ≡ z → f + (m - (v + u)) ≡ z
      count f u v k n m x y z a b c d e g i j = omega (arith, a, b, c, d, e, g, i, j)

      most : (d : ℕ) → d ≤ 16 → 2 ^ d ≤ 2 ^ 16
      most d l = let o : 0 < 2 = omega arith in pow-le-pow_right o l
