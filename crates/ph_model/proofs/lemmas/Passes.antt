-- The record of lawful entries passes the rules of the loader.
use Rattle.std.proofs.Common.{◌≡◌, ℕ, zero, suc, ◌+◌, ◌*◌, ◌%◌, ◌^◌, ◌<◌, ◌≤◌, refl, sym, ◌∙◌, ap, arith, List, []}
use Rattle.std.proofs.Common.{◌∷◌, ◌++◌, length, map, drop, Bool, true, false, lt-ltb, le-leb, eq-eqb}
use Rattle.std.specs.Prelude.{if◌then◌else◌, Option, Some, None, ◌&&◌, ◌||◌, ◌==◌, nat_lt, nat_le}
use Rattle.std.specs.List.{AllByRecursion as Each}
use Rattle.std.proofs.lemmas.List.{length-append}
use Rattle.std.proofs.Math.Nat.{mul-mod_left}
use Rattle.ph_specs.specs.declared.Kind.{Kind}
use Rattle.ph_specs.specs.declared.Kind.TheVariants.{Points, Boxes}
use Rattle.ph_specs.specs.Coordinate.{coordinate, is_box}
use Rattle.ph_specs.specs.KindRows.{row_fits}
use Rattle.ph_specs.specs.Node.{Entries, end, point, child, flat}
use Rattle.ph_specs.specs.TreeRows.{rows_behind, put_together}
use Rattle.ph_model.specs.Lawful.{HasZerosFrom}
use Rattle.ph_specs.specs.Digits.{number_of, words_of, bytes_of}
use Rattle.ph_specs.specs.Pack.{is_cube, table, layout, children, values, first_word, record_of}
use Rattle.ph_specs.specs.Record.{First, first_in, record_words, table_digits, tables_in, padding, table_number, tables_of, entries_in}
use Rattle.ph_specs.specs.Load.{Fault, bad_short, bad_node, first_failed, Place, known, level_fits, least_entries, first_fits}
use Rattle.ph_specs.specs.Load.{rest_fits, boxes_fit, has_zeros_from, next_first, next_record, record_fault}
use Rattle.ph_model.proofs.lemmas.Columns.{reads}
use Rattle.ph_model.proofs.lemmas.Grouped.{Each-back}
use Rattle.ph_specs.proofs.lemmas.Tests.{and-made}
use Rattle.ph_model.proofs.lemmas.ByteWords.{bytes-append, length-bytes, first-bytes, record-bytes, behind-bytes}
use Rattle.ph_model.proofs.laws.Unpacked.{IsPackable, first-record, number, fields, entries-record, record-length}
use Rattle.ph_model.proofs.lemmas.LayoutTables.{first, entries-few, children-few, tables-lawful}

-- ---- tests in a row

pub pass : (a : Bool) (f : Fault) (ts : List (Bool × Fault)) → a ≡ true → first_failed ts ≡ None → first_failed ((a, f) ∷ ts) ≡ None
pass a f ts h k = ap {B = Option Fault} (λ t. if t then first_failed ts else Some f) h ∙ k

pub pass-four : (a b c d : Bool) (f g h k : Fault) → a ≡ true → b ≡ true → c ≡ true → d ≡ true → first_failed ((a, f) ∷ (b, g) ∷ (c, h) ∷ (d, k) ∷ []) ≡ None
pass-four a b c d f g h k p q r s =
    pass a f ((b, g) ∷ (c, h) ∷ (d, k) ∷ []) p (pass b g ((c, h) ∷ (d, k) ∷ []) q (pass c h ((d, k) ∷ []) r (pass d k [] s refl)))

-- ---- the place of a node

-- entries at a level may stand at a place, and their rows go with the kind
pub record IsPlaced (kind : Kind) (width dims : ℕ) (place : Place) (level : ℕ) (e : Entries) : Type 0 where
  pub at_level : level_fits width place level ≡ true
  pub many : least_entries place ≤ length (flat e)
  pub zeros : HasZerosFrom level (known dims place)
  pub boxes : Each (λ r. row_fits kind r ≡ true) (rows_behind width level (known dims place) e)

pub boxes-pass : (kind : Kind) (width level : ℕ) (above : List ℕ) (e : Entries) →
    Each (λ r. row_fits kind r ≡ true) (rows_behind width level above e) → boxes_fit kind width level above (reads e) ≡ true
boxes-pass Points width level above e h = refl
boxes-pass Boxes width level above end h = refl
boxes-pass Boxes width level above (point a body v rest) h =
    and-made (is_box (map (coordinate width) (put_together level a above body))) _ h.0 (boxes-pass Boxes width level above rest h.1)
boxes-pass Boxes width level above (child a body c chain rest) h =
    boxes-pass Boxes width level above rest
    (Each-back (λ r. row_fits Boxes r ≡ true) (rows_behind width c (put_together level a above body) chain)
    (rows_behind width level above rest) h)

zeros-pass : (level : ℕ) (xs : List ℕ) → HasZerosFrom level xs → has_zeros_from level xs ≡ true
zeros-pass level [] h = refl
zeros-pass level (x ∷ xs) h = and-made (x % 2 ^ (level + 1) == 0) _ (eq-eqb _ _ h.0) (zeros-pass level xs h.1)

-- ---- what bytes begin with

module _ (dims level : ℕ) (e : Entries) (h : IsPackable dims level e) where
  abbrev behind : List ℕ
  behind = words_of (table (is_cube dims level (length (flat e))) dims level (flat e)) ++ values (flat e)

  abbrev head : ℕ
  head = first_word level (layout (is_cube dims level (length (flat e)))) (length (flat e)) (children (flat e))

  pub next-first : (more : List ℕ) → Each (λ x. x < 2 ^ 64) (record_of dims level (flat e)) →
      next_first (bytes_of (record_of dims level (flat e) ++ more)) ≡
      first level (layout (is_cube dims level (length (flat e)))) (length (flat e)) (children (flat e))
  next-first more s = first-bytes head behind more s.0 ∙ first-record dims level e h

  pub next-record : (more : List ℕ) → Each (λ x. x < 2 ^ 64) (record_of dims level (flat e)) →
      next_record dims (bytes_of (record_of dims level (flat e) ++ more)) ≡ record_of dims level (flat e)
  next-record more s = record-bytes dims head behind more s (record-length dims level e h)

  pub next-behind : (more : List ℕ) → Each (λ x. x < 2 ^ 64) (record_of dims level (flat e)) →
      drop (8 * record_words dims (next_first (bytes_of (record_of dims level (flat e) ++ more))))
      (bytes_of (record_of dims level (flat e) ++ more)) ≡ bytes_of more
  next-behind more s = behind-bytes dims head behind more s.0 (record-length dims level e h)

module _ (kind : Kind) (width dims : ℕ) (place : Place) (level : ℕ) (e : Entries) (h : IsPackable dims level e) (p : IsPlaced kind width dims place level e) where
  abbrev cube : Bool
  cube = is_cube dims level (length (flat e))

  abbrev words : List ℕ
  words = record_of dims level (flat e)

  abbrev f : First
  f = first level (layout cube) (length (flat e)) (children (flat e))

  pub first-passes : first_fits width dims place f ≡ true
  first-passes =
      let b : (nat_le (least_entries place) (length (flat e)) && nat_le (length (flat e)) (2 ^ dims)) ≡ true =
      and-made (nat_le (least_entries place) (length (flat e))) _ (le-leb _ _ p.many)
      (le-leb _ _ (let n : length (flat e) + 0 ≤ 2 ^ dims = entries-few dims level 0 (flat e) (omega arith)
      h.rises in omega (arith, n))) in
      let c : (nat_le (children (flat e)) (length (flat e)) && (nat_lt 0 level || (children (flat e) == 0))) ≡ true =
      and-made (nat_le (children (flat e)) (length (flat e))) _
      (le-leb _ _ (omega (arith, children-few (flat e)))) (by_level level refl) in
      let t1 : Bool = level_fits width place level && (nat_le (least_entries place) (length (flat e)) && nat_le (length (flat e)) (2 ^ dims)) in
      let t2 : Bool = t1 && (nat_le (children (flat e)) (length (flat e)) && (nat_lt 0 level || (children (flat e) == 0))) in
      let t3 : Bool = t2 && (layout cube == layout cube) in
      and-made t3 _ (and-made t2 _ (and-made t1 _ (and-made (level_fits width place level) _ p.at_level b) c)
      (eq-eqb (layout cube) (layout cube) refl)) (zeros-pass level (known dims place) p.zeros)
    where
      by_level : (l : ℕ) → level ≡ l → (nat_lt 0 level || (children (flat e) == 0)) ≡ true
      by_level zero q =
          ap (λ t. nat_lt 0 level || (t == 0)) (h.bottom q) ∙ either_true (nat_lt 0 level)
        where
          either_true : (b : Bool) → (b || true) ≡ true
          either_true true = refl
          either_true false = refl
      by_level (suc l) q = ap (λ t. t || (children (flat e) == 0)) (lt-ltb 0 level (omega (arith, q)))

  tables-are : (tables_of dims (first_in words) words).is_lawful ≡ true
  tables-are =
      ap (λ t. (tables_of dims t words).is_lawful) (first-record dims level e h)
      ∙ ap (λ t. (tables_in cube dims f t).is_lawful) (fields dims level e h)
      ∙ tables-lawful cube dims level (layout cube) (flat e) h.rises

  padding-is : (table_number dims (first_in words) words % 2 ^ padding (table_digits dims (first_in words)) == 0) ≡ true
  padding-is =
      ap (λ t. table_number dims t words % 2 ^ padding (table_digits dims t) == 0) (first-record dims level e h)
      ∙ ap (λ t. t % 2 ^ padding (table_digits dims f) == 0) (number dims level e h)
      ∙ ap (λ t. t == 0) (mul-mod_left (number_of (table cube dims level (flat e))) (2 ^ padding (table_digits dims f)))

  boxes-are : boxes_fit kind width (first_in words).level (known dims place) (entries_in dims words) ≡ true
  boxes-are =
      ap (λ t. boxes_fit kind width t.level (known dims place) (entries_in dims words)) (first-record dims level e h)
      ∙ ap (λ t. boxes_fit kind width level (known dims place) t) (entries-record dims level e h)
      ∙ boxes-pass kind width level (known dims place) e p.boxes

  pub rest-passes : rest_fits kind width dims place words ≡ true
  rest-passes =
      and-made ((tables_of dims (first_in words) words).is_lawful &&
      (table_number dims (first_in words) words % 2 ^ padding (table_digits dims (first_in words)) == 0)) _
      (and-made (tables_of dims (first_in words) words).is_lawful _ tables-are padding-is) boxes-are

  -- the record has no fault where it stands in front of further words
  pub record-passes : (at : ℕ) (more : List ℕ) → Each (λ x. x < 2 ^ 64) (record_of dims level (flat e)) →
      record_fault kind width dims place at (bytes_of (record_of dims level (flat e) ++ more)) ≡ None
  record-passes at more s =
      let bytes : List ℕ = bytes_of (words ++ more) in
      let l : length (bytes_of (record_of dims level (flat e) ++ more)) ≡ 8 * length (record_of dims level (flat e)) +
      length (bytes_of more) = ap length (bytes-append words more) ∙ length-append (bytes_of words)
      (bytes_of more) ∙ ap (λ t. t + length (bytes_of more)) (length-bytes words) in
      let r : record_words dims (next_first (bytes_of (record_of dims level (flat e) ++ more))) ≡
      length (record_of dims level (flat e)) = ap (record_words dims) (next-first dims level e h more s) ∙
      sym (ap (record_words dims) (first-record dims level e h)) ∙ sym (record-length dims level e h) in
      pass-four (nat_le 8 (length bytes)) (first_fits width dims place (next_first bytes))
      (nat_le (8 * record_words dims (next_first bytes)) (length bytes))
      (rest_fits kind width dims place (next_record dims bytes)) (bad_short at) (bad_node at) (bad_short at) (bad_node at)
      (le-leb 8 (length bytes) (omega (arith, l)))
      (ap (first_fits width dims place) (next-first dims level e h more s) ∙ first-passes)
      (le-leb (8 * record_words dims (next_first bytes)) (length bytes) (omega (arith, l, r)))
      (ap (rest_fits kind width dims place) (next-record dims level e h more s) ∙ rest-passes)
