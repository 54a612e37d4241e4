-- A record with a new point entry: its columns and its values are moved apart.
use Rattle.std.proofs.Common.{◌≡◌, ℕ, suc, ◌+◌, ◌-◌, ◌*◌, ◌/◌, ◌^◌, ◌≤◌, ◌<◌, refl, sym, ◌∙◌, ap, arith, List, [], ◌∷◌, ◌++◌}
use Rattle.std.proofs.Common.{length, length-append, take, drop, replicate, slice_set, slice_index_or, Bool, false}
use Rattle.std.specs.Prelude.{if◌then◌else◌}
use Rattle.std.specs.List.{AllByRecursion as Each}
use Rattle.std.proofs.Math.Nat.{mul-le-mul_left}
use Rattle.std.proofs.lemmas.List.{append-nil, take-append-drop, length-drop, length-take-le}
use Rattle.ph_specs.specs.Digits.{Field, field, number_of, digits_of, words_for, words_of}
use Rattle.ph_model.specs.Digits.{digits_at}
use Rattle.ph_model.specs.Layout.{IsRecord, entries_as, values_as, AreRising}
use Rattle.ph_specs.specs.Node.{Flat}
use Rattle.ph_model.specs.NodeSize.{points_in}
use Rattle.ph_specs.specs.Pack.{bodies, body_fields, children, values, first_word, linear_digits, linear_table, record_in}
use Rattle.ph_specs.specs.Record.{first_in}
use Rattle.ph_model.proofs.laws.WordDigits.{digits-front}
use Rattle.ph_model.proofs.lemmas.LayoutTables.{children-few, table-digits}
use Rattle.ph_specs.proofs.lemmas.Numbers.{length-words_of}
use Rattle.ph_bits.specs.Edits.{edited_as}
use Rattle.ph_bits.specs.declared.edits.Edit.{Edit}
use Rattle.ph_linear.specs.Edited.{IsOutline, new_values}
use Rattle.ph_linear.specs.Runs.{start, run, runs_around, AreColumnsOf, digits_more, runs_with, with_fields}
use Rattle.ph_linear.specs.declared.outlines.Outline.{Outline}
use Rattle.ph_linear.specs.declared.tables.Columns.{Columns}
use Rattle.ph_linear.proofs.ClosedColumns.{ordered}
use Rattle.ph_linear.proofs.EditedEntries.{length-new, values-put, points-within}
use Rattle.ph_linear.proofs.FieldWords.{each-back, words-equal}
use Rattle.ph_linear.proofs.EditedRuns.{edited-number}
use Rattle.ph_linear.proofs.OpenedColumns.{with-digits}
use Rattle.ph_linear.proofs.Writing.{few}

-- how many digits there are of columns of n + 1 entries
sizes-more : (k kw a aw b bw n : ℕ) → k ≡ 64 → kw ≡ 1 → a ≡ k + n * kw → b ≡ a + n * aw → b + n * bw - 64 + 1 + aw + bw ≡ (n + 1) * (1 + aw + bw)
sizes-more k kw a aw b bw n e1 e2 e3 e4 =
    let x1 : n * kw ≡ n = ap (λ t. n * t) e2 ∙ omega arith in
    omega (arith, e1, e3, e4, x1)

module _ (dims : ℕ) (words : List ℕ) (e : Edit) (r : IsRecord false dims words) (h : Each (λ x. x < 2 ^ 64) words)
    (l : e.place + e.less ≤ (first_in words).entries) (less : e.less ≡ 0) (more : e.more ≡ 1)
    (point : e.entry.child ≡ false) (up : AreRising dims (first_in words).level 0 (edited_as false dims words e))
    (cs : Columns) (cols : AreColumnsOf dims words cs) where
  abbrev n : ℕ
  n = (first_in words).entries

  abbrev b : ℕ
  b = (first_in words).level

  abbrev es : List Flat
  es = edited_as false dims words e

  abbrev fs : List Field
  fs = runs_with words cs (first_in words).level dims e

  abbrev gs : List Field
  gs = linear_table dims (first_in words).level (edited_as false dims words e)

  pub many-more : length (edited_as false dims words e) ≡ (first_in words).entries + 1
  many-more = length-new false dims words e r h l ∙ omega (arith, l, less, more)

  place-low : e.place ≤ cs.kinds.count
  place-low = omega (arith, l, cols.many)

  -- ---- the columns

  pub more-digits : digits_more cs ≡ digits_of (linear_table dims (first_in words).level (edited_as false dims words e))
  more-digits =
      let c = cols.columns in
      let s = sizes-more cs.kinds.at cs.kinds.width cs.addresses.at cs.addresses.width cs.bodies.at cs.bodies.width cs.kinds.count c.begin c.one c.addresses c.bodies in
      let t : digits_of gs ≡ (n + 1) * (1 + dims + dims * b) = table-digits false dims b 0 es up ∙ ap (linear_digits dims b) many-more in
      ap (λ k. start cs.bodies k - 64 + 1 + cs.addresses.width + cs.bodies.width) c.bodies_many
      ∙ s
      ∙ ap (λ k. (k + 1) * (1 + cs.addresses.width + cs.bodies.width)) cols.many
      ∙ ap (λ k. (n + 1) * (1 + k + cs.bodies.width)) cols.addresses_wide
      ∙ ap (λ k. (n + 1) * (1 + dims + k)) cols.bodies_wide
      ∙ sym t

  one-of : (A : Type 0) (x : A) → replicate e.more x ≡ x ∷ []
  one-of A x = ap (λ t. replicate t x) more

  pub with-number : number_of (runs_with words cs (first_in words).level dims e) ≡ number_of (linear_table dims (first_in words).level (edited_as false dims words e))
  with-number =
      let z : e.place + e.less ≡ e.place = omega (arith, less) in
      let p = e.place in
      let fk : ℕ → Bool → Field = λ w t. field w (if t then 1 else 0) in
      let fa : Field = field cs.addresses.width e.entry.addr in
      let row : List ℕ = take dims e.entry.body in
      sym
      (ap (λ t. number_of (runs_around words cs p t (replicate e.more (fk cs.kinds.width e.entry.child)) (replicate e.more fa) (bodies b (replicate e.more row)))) z
      ∙ ap (λ t. number_of (runs_around words cs p p (replicate t (fk cs.kinds.width e.entry.child)) (replicate t fa) (bodies b (replicate t row)))) more
      ∙ ap (λ t. number_of (runs_around words cs p p (fk cs.kinds.width t ∷ []) (fa ∷ []) (bodies b (row ∷ [])))) point
      ∙ ap (λ t. number_of (runs_around words cs p p (field t 0 ∷ []) (fa ∷ []) (bodies b (row ∷ [])))) cols.columns.one
      ∙ ap (λ t. number_of (runs_around words cs p p (field 1 0 ∷ []) (fa ∷ []) t)) (append-nil (body_fields b row)))
      ∙ edited-number dims words e r h l cs cols

  -- ---- words that begin as the record does

  -- the table ends in front of the first value
  table-low : (o : Outline) → IsOutline false dims words e o → start cs.bodies cs.bodies.count ≤ 64 * o.values
  table-low o k =
      let c = cols.columns in
      let s = sizes-more cs.kinds.at cs.kinds.width cs.addresses.at cs.addresses.width cs.bodies.at cs.bodies.width cs.kinds.count c.begin c.one c.addresses c.bodies in
      let m : start cs.bodies cs.bodies.count ≡ start cs.bodies cs.kinds.count = ap (start cs.bodies) c.bodies_many in
      let w : (cs.kinds.count + 1) * (1 + cs.addresses.width + cs.bodies.width) ≡ (n + 1) * (1 + dims + dims * b) =
      ap (λ t. (t + 1) * (1 + cs.addresses.width + cs.bodies.width)) cols.many ∙
      ap (λ t. (n + 1) * (1 + t + cs.bodies.width)) cols.addresses_wide ∙ ap (λ t. (n + 1) * (1 + dims + t))
      cols.bodies_wide in
      let z : start cs.bodies cs.bodies.count ≤ 64 + linear_digits dims b n = omega (arith, s, m, w, cols.addresses_wide, cols.bodies_wide) in
      under (start cs.bodies cs.bodies.count) (linear_digits dims b n) o.values z k.values
    where
      under : (s d v : ℕ) → s ≤ 64 + d → v ≡ 1 + (d + 63) / 64 → s ≤ 64 * v
      under s d v l e = omega (arith, l, e)

  same-digits : (mid : List ℕ) (v a k : ℕ) → Each (λ x. x < 2 ^ 64) mid → v ≤ length words → v ≤ length mid →
      take v mid ≡ take v words → a + k ≤ 64 * v → digits_at mid a k ≡ digits_at words a k
  same-digits mid v a k f m1 m2 t i = first mid f m2 ∙ ap (λ xs. digits_at xs a k) t ∙ sym (first words h m1)
    where
      first : (xs : List ℕ) → Each (λ x. x < 2 ^ 64) xs → v ≤ length xs → digits_at xs a k ≡ digits_at (take v xs) a k
      first xs f m =
          ap (λ ys. digits_at ys a k) (sym (take-append-drop v xs)) ∙ digits-front (take v xs) (drop v xs) a k
          (omega (arith, i, length-take-le v xs m)) (each-back v xs f)

  same-run : (mid : List ℕ) (v x y : ℕ) → Each (λ x. x < 2 ^ 64) mid → v ≤ length words → v ≤ length mid →
      take v mid ≡ take v words → x ≤ y → y ≤ 64 * v → run mid x y ≡ run words x y
  same-run mid v x y f m1 m2 t i j = ap (λ z. field (y - x) z) (same-digits mid v x (y - x) f m1 m2 t (omega (arith, i, j)))

  same-runs : (o : Outline) (mid : List ℕ) → IsOutline false dims words e o → Each (λ x. x < 2 ^ 64) mid →
      o.values ≤ length words → o.values ≤ length mid → take o.values mid ≡ take o.values words →
      runs_with mid cs (first_in words).level dims e ≡ fs
  same-runs o mid k f m1 m2 t =
      let p = e.place in
      let u = ordered words cs p cols.columns place-low in
      let v = o.values in
      let low = table-low o k in
      let row : List Field = body_fields b (take dims e.entry.body) in
      let fk : Field = field 1 0 in
      let fa : Field = field cs.addresses.width e.entry.addr in
      let k0 : ℕ = start cs.kinds p in
      let a0 : ℕ = start cs.addresses p in
      let b0 : ℕ = start cs.bodies p in
      let b2 : ℕ = start cs.bodies cs.bodies.count in
      ap {B = List Field} (λ x. x ∷ fk ∷ run mid k0 a0 ∷ fa ∷ run mid a0 b0 ∷ row ++ run mid b0 b2 ∷ [])
      (same-run mid v 64 k0 f m1 m2 t u.kinds (omega (arith, u.addresses, u.bodies, u.until, low)))
      ∙ ap {B = List Field} (λ x. run words 64 k0 ∷ fk ∷ x ∷ fa ∷ run mid a0 b0 ∷ row ++ run mid b0 b2 ∷ [])
      (same-run mid v k0 a0 f m1 m2 t u.addresses (omega (arith, u.bodies, u.until, low)))
      ∙ ap {B = List Field} (λ x. run words 64 k0 ∷ fk ∷ run words k0 a0 ∷ fa ∷ x ∷ row ++ run mid b0 b2 ∷ [])
      (same-run mid v a0 b0 f m1 m2 t u.bodies (omega (arith, u.until, low)))
      ∙ ap {B = List Field} (λ x. run words 64 k0 ∷ fk ∷ run words k0 a0 ∷ fa ∷ run words a0 b0 ∷ row ++ x ∷ []) (same-run mid v b0 b2 f m1 m2 t u.until low)

  -- ---- the values

  abbrev vs : List ℕ
  vs = values_as false dims words

  kept : (o : Outline) → IsOutline false dims words e o → o.front ≤ length (values_as false dims words)
  kept o k = omega (arith, k.front, points-within false dims words e r h l e.place)

  put : (o : Outline) → IsOutline false dims words e o → take o.front (values_as false dims words) ++ e.value ∷
      drop o.front (values_as false dims words) ≡ values (edited_as false dims words e)
  put o k =
      let z : e.place + e.less ≡ e.place = omega (arith, less) in
      let same : o.until ≡ o.front = k.until ∙ ap (λ t. points_in (take t (entries_as false dims words))) z ∙ sym k.front in
      let new : new_values e ≡ e.value ∷ [] = ap (λ t. if t then [] else replicate e.more e.value) point ∙ one-of ℕ e.value in
      ap (λ xs. take o.front vs ++ (xs ++ drop o.front vs)) (sym new)
      ∙ ap (λ t. take o.front vs ++ (new_values e ++ drop t vs)) (sym same)
      ∙ values-put false dims words e r h l vs o.front o.until refl k.front k.until

  pub points-are : (o : Outline) → IsOutline false dims words e o → length (values (edited_as false dims words e)) ≡ length (values_as false dims words) + 1
  points-are o k =
      ap length (sym (put o k))
      ∙ length-append (take o.front vs) (e.value ∷ drop o.front vs)
      ∙ count (length (take o.front vs)) (length (drop o.front vs)) o.front (length vs) (kept o k) (length-take-le o.front vs (kept o k)) (length-drop o.front vs)
    where
      count : (x y f n : ℕ) → f ≤ n → x ≡ f → y ≡ n - f → x + suc y ≡ n + 1
      count x y f n a c d = omega (arith, a, c, d)

  values-long : (o : Outline) → IsOutline false dims words e o → o.values + length (values_as false dims words) ≡ length words
  values-long o k =
      let size : length vs ≡ length words - o.values = length-drop _ words ∙ ap (λ i. length words - i) (sym k.values) in
      let inside : o.values ≤ length words = omega (arith, k.values, r.long) in
      omega (arith, size, inside)

  -- how long the words are, where they are as many as the new record's
  pub record-long : (o : Outline) (m : ℕ) → IsOutline false dims words e o → m ≡ length (record_in false dims (first_in words).level (edited_as false dims words e))
      → (m ≡ 1 + words_for (digits_more cs) + (length words - o.values + 1)) × (o.values ≤ 1 + words_for (digits_more cs)) × (o.values + o.front ≤ length words)
  record-long o m k q =
      let t : words_for (digits_of gs) ≡ words_for (digits_more cs) = ap words_for (sym more-digits) in
      let s : digits_of gs ≡ (n + 1) * (1 + dims + dims * b) = table-digits false dims b 0 es up ∙ ap (linear_digits dims b) many-more in
      let x : n ≤ n + 1 = omega arith in
      let y : (1 + dims + dims * b) * n ≤ (1 + dims + dims * b) * (n + 1) = mul-le-mul_left (1 + dims + dims * b) x in
      let low : words_for (linear_digits dims b n) ≤ words_for (digits_of gs) = fewer (linear_digits dims b n) (digits_of gs) (omega (arith, s, y)) in
      let p : length (words_of gs ++ values es) ≡ words_for (digits_of gs) + length (values es) =
      length-append (words_of gs) (values es) ∙ ap (λ i. i + length (values es)) (length-words_of gs) in
      (omega (arith, q, p, t, points-are o k, values-long o k), omega (arith, k.values, low, t), omega (arith, kept o k, values-long o k))
    where
      fewer : (x y : ℕ) → x ≤ y → (x + 63) / 64 ≤ (y + 63) / 64
      fewer x y l = omega (arith, l)

  -- the first word, and what it needs
  pub counts : (o : Outline) → IsOutline false dims words e o → let points = length words - o.values + 1 in
      (o.level ≤ 61) × (o.count + 1 ≤ 2 ^ 16) × (points ≤ o.count + 1) ×
      (first_word o.level 0 (o.count + 1) (o.count + 1 - (length words - o.values + 1)) ≡
      first_word (first_in words).level 0 (length (edited_as false dims words e)) (children (edited_as false dims words e)))
  counts o k =
      let c : o.count + 1 ≡ length es = ap (λ i. i + 1) k.count ∙ sym many-more in
      let f = children-few es in
      let p : length words - o.values + 1 ≡ length (values es) = omega (arith, points-are o k, values-long o k) in
      let kids : o.count + 1 - (length words - o.values + 1) ≡ children es = omega (arith, p, c, f) in
      let most : length (edited_as false dims words e) ≤ 2 ^ 16 = few dims b es r.few up in (
        omega (arith, k.level, r.low),
        omega (arith, c, most),
        omega (arith, p, c, f),
        ap (first_word o.level 0 (o.count + 1)) kids ∙ ap (λ i. first_word o.level 0 i (children es)) c ∙ ap (λ i. first_word i 0 (length es) (children es)) k.level,
      )

  pub opened-record : (o : Outline) (mid new : List ℕ) (first : ℕ) → IsOutline false dims words e o →
      Each (λ x. x < 2 ^ 64) mid → o.values ≤ length mid → length (take dims e.entry.body) ≡ dims
      → take o.values mid ≡ take o.values words →
      drop (1 + words_for (digits_more cs)) mid ≡ take o.front (values_as false dims words) ++ e.value ∷
      drop o.front (values_as false dims words)
      → new ≡ with_fields (runs_with mid cs (first_in words).level dims e) mid
      → first ≡ first_word (first_in words).level 0 (length (edited_as false dims words e)) (children (edited_as false dims words e))
      → slice_set new 0 first ≡ record_in false dims (first_in words).level (edited_as false dims words e)
  opened-record o mid new first k f m long t d is one =
      let runs : runs_with mid cs b dims e ≡ fs = same-runs o mid k f (omega (arith, values-long o k)) m t in
      let digits : digits_of fs ≡ digits_more cs = with-digits words cs b dims e cols.columns place-low cols.bodies_wide long in
      let w : ℕ = slice_index_or mid 0 0 in
      ap (λ xs. slice_set xs 0 first)
      (is
      ∙ ap (λ xs. with_fields xs mid) runs
      ∙ ap {B = List ℕ} (λ i. w ∷ words_of fs ++ drop (1 + words_for i) mid) digits
      ∙ ap {B = List ℕ} (λ xs. w ∷ words_of fs ++ xs) (d ∙ put o k)
      ∙ ap {B = List ℕ} (λ xs. w ∷ xs ++ values es) (words-equal fs gs (digits ∙ more-digits) with-number))
      ∙ ap {B = List ℕ} (λ x. x ∷ words_of gs ++ values es) one
