-- A record that an entry comes into or goes out of, or in which one became a child or a point, where the record lies: its table is
-- made, and a value goes or comes.
use Rattle.std.proofs.Common.{◌≡◌, ℕ, zero, suc, ◌+◌, ◌-◌, ◌≤◌, ◌<◌, refl, sym, ◌∙◌, ap, subst, arith, List, [], ◌∷◌, ◌++◌, length}
use Rattle.std.proofs.Common.{length-append, map, take, drop, replicate, slice_set, slice_index_or, Bool, true, false}
use Rattle.std.specs.Prelude.{Some, slice_get, if◌then◌else◌}
use Rattle.std.proofs.lemmas.List.{length-drop, length-take-le, take_at}
use Rattle.ph_specs.specs.Digits.{words_for, words_of}
use Rattle.ph_model.specs.Layout.{digits_as, entries_as, values_as, is_child}
use Rattle.ph_specs.specs.Node.{Flat}
use Rattle.ph_model.specs.NodeSize.{points_in}
use Rattle.ph_specs.specs.Pack.{children, values, table, layout, first_word, cube_digits, linear_digits, record_in}
use Rattle.ph_specs.specs.Record.{Read, read_point, read_child, first_in}
use Rattle.ph_model.proofs.lemmas.LayoutTables.{children-few, table-digits}
use Rattle.ph_specs.proofs.lemmas.Numbers.{length-words_of}
use Rattle.ph_bits.specs.Edits.{edited_as, count_edited}
use Rattle.ph_bits.specs.declared.edits.Edit.{Edit}
use Rattle.ph_linear.specs.Edited.{IsChanged, IsOutlined, new_values, with_table, points_then, values_put, with_values}
use Rattle.ph_linear.specs.declared.outlines.Outline.{Outline}
use Rattle.ph_linear.proofs.EditedEntries.{length-new, values-put, points-within}
use Rattle.ph_linear.proofs.Writing.{few}

-- one entry more is a point or none
pub points-more : (rs : List Read) (i : ℕ) → points_in (take i rs) ≤ points_in (take (i + 1) rs)
points-more rs i =
    let e : suc i ≡ i + 1 = omega arith in
    subst (λ t. points_in (take i rs) ≤ points_in (take t rs)) e (next rs i)
  where
    next : (rs : List Read) (i : ℕ) → points_in (take i rs) ≤ points_in (take (suc i) rs)
    next [] zero = omega arith
    next [] (suc i) = omega arith
    next (read_point a b ∷ rs) zero = omega arith
    next (read_child a b ∷ rs) zero = omega arith
    next (read_point a b ∷ rs) (suc i) = omega (arith, next rs i)
    next (read_child a b ∷ rs) (suc i) = next rs i

-- so many entries more are points or none
points-rise : (rs : List Read) (i k : ℕ) → points_in (take i rs) ≤ points_in (take (i + k) rs)
points-rise rs i zero = let e : i + 0 ≡ i = omega arith in subst (λ t. points_in (take i rs) ≤ points_in (take t rs)) (sym e) (omega arith)
points-rise rs i (suc k) =
    let e : i + k + 1 ≡ i + suc k = omega arith in
    subst (λ t. points_in (take i rs) ≤ points_in (take t rs)) e (omega (arith, points-rise rs i k, points-more rs (i + k)))

-- none where it is a child
pub points-child : (rs : List Read) (i : ℕ) → slice_get (map is_child rs) i ≡ Some true → (i < length rs) × (points_in (take (i + 1) rs) ≡ points_in (take i rs))
points-child rs i h =
    let e : suc i ≡ i + 1 = omega arith in
    subst (λ t. (i < length rs) × (points_in (take t rs) ≡ points_in (take i rs))) e (next rs i h)
  where
    next : (rs : List Read) (i : ℕ) → slice_get (map is_child rs) i ≡ Some true → (i < length rs) × (points_in (take (suc i) rs) ≡ points_in (take i rs))
    next [] zero h = absurd (cc)
    next [] (suc i) h = absurd (cc)
    next (read_point a b ∷ rs) zero h = absurd (cc)
    next (read_child a b ∷ rs) zero h = (omega arith, refl)
    next (read_point a b ∷ rs) (suc i) h = let k = next rs i h in (omega (arith, k), ap suc k.1)
    next (read_child a b ∷ rs) (suc i) h = let k = next rs i h in (omega (arith, k), k.1)

-- how many words there are once some stand in place of others
length-put : (a b : ℕ) (vs ws : List ℕ) → a ≤ length ws → length (take a ws ++ (vs ++ drop b ws)) ≡ a + (length vs + (length ws - b))
length-put a b vs ws l =
    omega (arith, length-append (take a ws) (vs ++ drop b ws), length-append vs (drop b ws), length-take-le a ws l, length-drop b ws)

-- words put in place of others behind a front
behind : (front new vs : List ℕ) (f b : ℕ) →
    take (length front + f) (front ++ vs) ++ (new ++ drop (length front + b) (front ++ vs)) ≡ front ++
    (take f vs ++ (new ++ drop b vs))
behind [] new vs f b =
    let y : 0 + f ≡ f = omega arith in
    let z : 0 + b ≡ b = omega arith in
    ap (λ t. take t vs ++ (new ++ drop (0 + b) vs)) y ∙ ap (λ t. take f vs ++ (new ++ drop t vs)) z
behind (x ∷ xs) new vs f b =
    let y : suc (length xs) + f ≡ suc (length xs + f) = omega arith in
    let z : suc (length xs) + b ≡ suc (length xs + b) = omega arith in
    ap (λ t. take t (x ∷ xs ++ vs) ++ (new ++ drop (suc (length xs) + b) (x ∷ xs ++ vs))) y
    ∙ ap (λ t. take (suc (length xs + f)) (x ∷ xs ++ vs) ++ (new ++ drop t (x ∷ xs ++ vs))) z
    ∙ ap {B = List ℕ} (λ t. x ∷ t) (behind xs new vs f b)

-- what all but the last of ws became, where these were lent and are new now
abbrev pub part_lent : List ℕ → List ℕ → List ℕ
part_lent new ws = take (length (new ++ drop (length ws - 1) ws) - 1) (new ++ drop (length ws - 1) ws)

part-new : (new ws : List ℕ) → 1 ≤ length ws → length new ≡ length (take (length ws - 1) ws) → part_lent new ws ≡ new
part-new new ws l e =
    take_at new (drop (length ws - 1) ws) _
    (omega (
      arith,
      l,
      e,
      length-take-le (length ws - 1) ws (omega arith),
      length-append new (drop (length ws - 1) ws),
      length-drop (length ws - 1) ws,
    ))

-- a change of the record, of which the outline was known before
module _ {cube : Bool} {dims : ℕ} {words : List ℕ} {e : Edit} {o : Outline} {new : List ℕ} (q : IsChanged cube dims words e o new) where
  abbrev es : List Flat
  es = edited_as cube dims words e

  abbrev vs : List ℕ
  vs = values_as cube dims words

  abbrev front : List ℕ
  front = slice_index_or words 0 0 ∷ words_of (table cube dims (first_in words).level (edited_as cube dims words e))

  one-value : e.more ≡ 1 → e.entry.child ≡ false → new_values e ≡ e.value ∷ []
  one-value more point = ap (λ t. if t then [] else replicate e.more e.value) point ∙ ap (λ t. replicate t e.value) more

  -- the digits of a table of so many entries
  abbrev pub digits_then : ℕ → ℕ
  digits_then n = if cube then cube_digits dims (first_in words).level else linear_digits dims (first_in words).level n

  -- the outline of a record that has so many entries then
  abbrev pub counted : ℕ → Outline
  counted n = record o { count = n }

  many : length (edited_as cube dims words e) ≡ count_edited (first_in words).entries e
  many = length-new cube dims words e q.whole q.fit q.within

  long-front : digits_then (length (edited_as cube dims words e)) ≡ digits_as cube dims (first_in words) → length front ≡ o.values
  long-front same =
      ap suc (length-words_of (table cube dims (first_in words).level es) ∙ ap words_for (table-digits cube dims (first_in words).level 0 es q.rise ∙ same))
      ∙ omega (arith, q.outline.values)

  order : o.front ≤ o.until
  order = omega (arith, points-rise (entries_as cube dims words) e.place e.less, q.outline.until, q.outline.front)

  -- a child has no value
  pub none : e.less ≡ 1 → slice_get (map is_child (entries_as cube dims words)) e.place ≡ Some true → o.until ≡ o.front
  none less was =
      q.outline.until ∙ ap (λ t. points_in (take (e.place + t) (entries_as cube dims words))) less
      ∙ (points-child (entries_as cube dims words) e.place was).1 ∙ sym q.outline.front

  -- nor has an entry that only comes
  pub none-gone : e.less ≡ 0 → o.until ≡ o.front
  none-gone less =
      let p : e.place + e.less ≡ e.place = omega (arith, less) in
      q.outline.until ∙ ap (λ t. points_in (take t (entries_as cube dims words))) p ∙ sym q.outline.front

  put : (xs : List ℕ) → length front ≡ o.values → new_values e ≡ xs → values_put o xs (with_table cube dims words e) ≡ front ++ values es
  put xs g n =
      ap (λ t. take (t + o.front) (front ++ vs) ++ (xs ++ drop (t + o.until) (front ++ vs))) (sym g)
      ∙ behind front xs vs o.front o.until
      ∙ ap (λ t. front ++ (take o.front vs ++ (t ++ drop o.until vs))) (sym n)
      ∙ ap (λ t. front ++ t) (values-put cube dims words e q.whole q.fit q.within vs o.front o.until refl q.outline.front q.outline.until)

  -- the words with the new table fit the outline with as many entries as there are then, and with the new values they are the new record
  entries-changed : (xs ws : List ℕ) (n : ℕ) →
      digits_then (length (edited_as cube dims words e)) ≡ digits_as cube dims (first_in words)
      → length (edited_as cube dims words e) ≡ n → new_values e ≡ xs → ws ≡ new
      → IsOutlined (counted n) xs ws × (with_values (layout cube) (counted n) xs ws ≡ record_in cube dims (first_in words).level (edited_as cube dims words e))
  entries-changed xs ws n same m v w =
      let p : ws ≡ with_table cube dims words e = w ∙ q.made in
      let g = long-front same in
      let put-is : values_put o xs ws ≡ front ++ values es = ap (values_put o xs) p ∙ put xs g v in
      let f = children-few es in
      let long : length ws ≡ length front + length vs = ap length p ∙ length-append front vs in
      let within : o.until ≤ length vs =
      omega (arith, q.outline.until, points-within cube dims words e q.whole q.fit q.within (e.place + e.less)) in
      let all : length (values_put o xs ws) ≡ length front + length (values es) = ap length put-is ∙ length-append front (values es) in
      let sum : length (values_put o xs ws) ≡
      o.values + o.front + (length xs + (length ws - (o.values + o.until))) = length-put (o.values + o.front)
      (o.values + o.until) xs ws (omega (arith, long, g, within, order)) in
      let points : points_then o xs ws ≡ length (values es) = omega (arith, all, sum, g) in
      let kids : n - points_then o xs ws ≡ children es = omega (arith, points, f, m) in (
        record {
          order = order;
          first = omega (arith, q.outline.values);
          within = omega (arith, long, g, within);
          points = omega (arith, points, f, m);
          few = omega (arith, m, few dims (first_in words).level es q.whole.few q.rise);
          low = omega (arith, q.outline.level, q.whole.low);
        },
        ap (λ t. slice_set t 0 (first_word o.level (layout cube) n (n - points_then o xs ws))) put-is
            ∙ ap {B = List ℕ} (λ t. t ∷ words_of (table cube dims (first_in words).level es) ++ values es)
            (ap (first_word o.level (layout cube) n) kids ∙ ap (λ t. first_word o.level (layout cube) t (children es))
            (sym m) ∙ ap (λ t. first_word t (layout cube) (length es) (children es)) q.outline.level),
      )

  -- ---- an entry that stays

  same-many : e.less ≡ 1 → e.more ≡ 1 → length (edited_as cube dims words e) ≡ o.count
  same-many less more = many ∙ omega (arith, q.within, less, more, q.outline.count)

  values-changed : (xs ws : List ℕ) → e.less ≡ 1 → e.more ≡ 1 → new_values e ≡ xs → ws ≡ new
      → IsOutlined o xs ws × (with_values (layout cube) o xs ws ≡ record_in cube dims (first_in words).level (edited_as cube dims words e))
  values-changed xs ws less more n w =
      entries-changed xs ws o.count (ap digits_then (same-many less more ∙ q.outline.count)) (same-many less more) n w

  pub child-changed : e.less ≡ 1 → e.more ≡ 1 → e.entry.child ≡ true
      → IsOutlined o [] new × (with_values (layout cube) o [] new ≡ record_in cube dims (first_in words).level (edited_as cube dims words e))
  child-changed less more child =
      values-changed [] new less more (ap (λ t. if t then [] else replicate e.more e.value) child) refl

  -- the same where the words are all but the last of those that there are
  pub point-changed : (ws : List ℕ) → e.less ≡ 1 → e.more ≡ 1 → e.entry.child ≡ false → 1 ≤ length ws →
      length new ≡ length (take (length ws - 1) ws)
      → IsOutlined o (e.value ∷ []) (part_lent new ws) ×
      (with_values (layout cube) o (e.value ∷ []) (part_lent new ws) ≡ record_in cube dims (first_in words).level
      (edited_as cube dims words e))
  point-changed ws less more point some long =
      values-changed (e.value ∷ []) (part_lent new ws) less more (one-value more point) (part-new new ws some long)

  -- ---- an entry that comes or goes, with no other digits of the table

  no-values : (t : Bool) (m v : ℕ) → m ≡ 0 → (if t then [] else replicate m v) ≡ []
  no-values true m v z = refl
  no-values false m v z = ap (λ t. replicate t v) z

  pub entry-gone : digits_then (length (edited_as cube dims words e)) ≡ digits_as cube dims (first_in words)
      → e.less ≡ 1 → e.more ≡ 0
      → IsOutlined (counted (o.count - 1)) [] new ×
      (with_values (layout cube) (counted (o.count - 1)) [] new ≡ record_in cube dims (first_in words).level
      (edited_as cube dims words e))
  entry-gone same less more =
      entries-changed [] new (o.count - 1) same (many ∙ omega (arith, q.within, less, more, q.outline.count))
      (no-values e.entry.child e.more e.value more) refl

  -- the same where the words are all but the last of those that there are
  pub point-come : (ws : List ℕ) → digits_then (length (edited_as cube dims words e)) ≡ digits_as cube dims (first_in words)
      → e.less ≡ 0 → e.more ≡ 1 → e.entry.child ≡ false → 1 ≤ length ws → length new ≡ length (take (length ws - 1) ws)
      → IsOutlined (counted (o.count + 1)) (e.value ∷ []) (part_lent new ws) ×
      (with_values (layout cube) (counted (o.count + 1)) (e.value ∷ []) (part_lent new ws) ≡
      record_in cube dims (first_in words).level (edited_as cube dims words e))
  point-come ws same less more point some long =
      entries-changed (e.value ∷ []) (part_lent new ws) (o.count + 1) same
      (many ∙ omega (arith, q.within, less, more, q.outline.count)) (one-value more point) (part-new new ws some long)
