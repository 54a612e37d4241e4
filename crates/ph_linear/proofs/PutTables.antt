-- A linear table whose entry at a place became a child with another body, where the table lies.
use Rattle.std.proofs.Common.{◌≡◌, ℕ, zero, suc, ◌+◌, ◌*◌, ◌^◌, ◌≤◌, ◌<◌, refl, sym, ◌∙◌, ap, subst, arith, List, []}
use Rattle.std.proofs.Common.{◌∷◌, ◌++◌, length, length-append, map, take, replicate, slice_index_or, false}
use Rattle.std.specs.Prelude.{Some, slice_get, if◌then◌else◌}
use Rattle.std.specs.List.{AllByRecursion as Each}
use Rattle.std.proofs.lemmas.List.{append_assoc}
use Rattle.ph_specs.specs.Digits.{Field, field, number_of, number_after, digits_of, words_of}
use Rattle.ph_model.specs.Digits.{digits_at}
use Rattle.ph_model.specs.Layout.{IsRecord, entries_as, values_as, read_address, AreRising}
use Rattle.ph_specs.specs.Node.{Flat}
use Rattle.ph_specs.specs.Pack.{bodies, linear_table, linear_digits}
use Rattle.ph_specs.specs.Record.{Read, read_point, read_child, first_in}
use Rattle.ph_model.proofs.lemmas.Columns.{digits_of-append}
use Rattle.ph_model.proofs.lemmas.Counted.{spots}
use Rattle.ph_model.proofs.lemmas.LayoutTables.{table-digits, table-fit}
use Rattle.ph_specs.proofs.lemmas.Numbers.{number_after-start, length-words_of}
use Rattle.ph_bits.specs.Edits.{edited, edited_as, flats, new_flat}
use Rattle.ph_bits.specs.declared.edits.Edit.{Edit}
use Rattle.ph_linear.specs.Edited.{IsOver, IsColumnOver, column_edited}
use Rattle.ph_linear.specs.Written.{kind_fields, address_fields, body_list}
use Rattle.ph_linear.specs.declared.copies.Column.{Column}
use Rattle.ph_linear.proofs.EditedEntries.{flats_as, table-old, length-new}
use Rattle.ph_linear.proofs.EditedLists.{digits-kinds, digits-addresses, digits-bodies}
use Rattle.ph_linear.proofs.EditedTables.{kinds-edited, bodies-edited}
use Rattle.ph_linear.proofs.OldTables.{long-bodies}
use Rattle.ph_linear.proofs.Overs.{over-equal, over-same, over-next, over-table, column-same, table-inside, first-small}
use Rattle.ph_linear.proofs.Segments.{segment-of}
use Rattle.ph_linear.proofs.Writing.{table-number}

-- ---- the addresses stay

addresses-flats : (rs : List Read) (vs : List ℕ) → spots rs ≡ length vs → map (λ (t : Flat). t.addr) (flats rs vs) ≡ map read_address rs
addresses-flats [] vs h = refl
addresses-flats (read_point a b ∷ rs) [] h = absurd (omega (arith, h))
addresses-flats (read_point a b ∷ rs) (v ∷ vs) h = ap {B = List ℕ} (λ t. a ∷ t) (addresses-flats rs vs (omega (arith, h)))
addresses-flats (read_child a b ∷ rs) vs h = ap {B = List ℕ} (λ t. a ∷ t) (addresses-flats rs vs h)

some-equal : (x y : ℕ) → Some x ≡ Some y → x ≡ y
some-equal x y e = cc

kept : (dims place : ℕ) (x : Flat) (xs : List Flat) → slice_get (map (λ (t : Flat). t.addr) xs) place ≡ Some x.addr →
    address_fields dims (edited place 1 1 x xs) ≡ address_fields dims xs
kept dims place x [] e = absurd (none place e)
  where
    none : (i : ℕ) → slice_get (map (λ (t : Flat). t.addr) []) i ≡ Some x.addr → ⊥
    none zero e = cc
    none (suc i) e = cc
kept dims zero x (y ∷ ys) e = ap {B = List Field} (λ t. field dims t ∷ address_fields dims ys) (sym (some-equal y.addr x.addr e))
kept dims (suc place) x (y ∷ ys) e = ap {B = List Field} (λ t. field dims y.addr ∷ t) (kept dims place x ys e)

module _ (dims : ℕ) (words : List ℕ) (e : Edit) (r : IsRecord false dims words) (h : Each (λ x. x < 2 ^ 64) words) (l : e.place + e.less ≤ (first_in words).entries) where
  abbrev n : ℕ
  n = (first_in words).entries

  abbrev b : ℕ
  b = (first_in words).level

  abbrev new_es : List Flat
  new_es = edited_as false dims words e

  addresses-kept : e.less ≡ 1 → e.more ≡ 1 → slice_get (map read_address (entries_as false dims words)) e.place ≡ Some e.entry.addr
      → address_fields dims (edited_as false dims words e) ≡ address_fields dims (flats (entries_as false dims words) (values_as false dims words))
  addresses-kept less more at =
      ap (λ t. address_fields dims (edited e.place t e.more (new_flat dims e.entry e.value) (flats_as false dims words))) less
      ∙ ap (λ t. address_fields dims (edited e.place 1 t (new_flat dims e.entry e.value) (flats_as false dims words))) more
      ∙ kept dims e.place (new_flat dims e.entry e.value) (flats_as false dims words)
      (ap (λ t. slice_get t e.place) (addresses-flats (entries_as false dims words) (values_as false dims words) (table-old false dims words e r h l).points) ∙ at)

  -- how many digits there are in the columns
  old-digits : digits_of (linear_table dims b (flats_as false dims words)) ≡ n * 1 + n * dims + n * (dims * b)
  old-digits =
      let es : List Flat = flats_as false dims words in
      digits_of-append (kind_fields es ++ address_fields dims es) (bodies b (body_list es))
      ∙ ap (λ t. t + digits_of (bodies b (body_list es))) (digits_of-append (kind_fields es) (address_fields dims es))
      ∙ sum (digits_of (kind_fields es)) (digits_of (address_fields dims es)) (digits_of (bodies b (body_list es)))
      (length es) n dims (dims * b) (digits-kinds es) (digits-addresses dims es)
      (digits-bodies dims b es (long-bodies dims words)) (table-old false dims words e r h l).many
    where
      sum : (x y z m n d k : ℕ) → x ≡ m * 1 → y ≡ m * d → z ≡ m * k → m ≡ n → x + y + z ≡ n * 1 + n * d + n * k
      sum x y z m n d k f g i j =
          let p : m * d ≡ n * d = ap (λ t. t * d) j in let q : m * k ≡ n * k = ap (λ t. t * k) j in omega (arith, f, g, i, j, p, q)

  same-many : e.less ≡ 1 → e.more ≡ 1 → length (edited_as false dims words e) ≡ (first_in words).entries
  same-many less more = length-new false dims words e r h l ∙ omega (arith, l, less, more)

  new-digits : AreRising dims (first_in words).level 0 (edited_as false dims words e) → e.less ≡ 1 → e.more ≡ 1 →
      digits_of (linear_table dims (first_in words).level (edited_as false dims words e)) ≡ n * 1 + n * dims + n * (dims * b)
  new-digits up less more = table-digits false dims b 0 new_es up ∙ ap (linear_digits dims b) (same-many less more) ∙ omega arith

  address-digits : e.less ≡ 1 → e.more ≡ 1 → digits_of (address_fields dims (edited_as false dims words e)) ≡ n * dims
  address-digits less more = digits-addresses dims new_es ∙ ap (λ t. t * dims) (same-many less more)

  body-digits : AreRising dims (first_in words).level 0 (edited_as false dims words e) → e.less ≡ 1 → e.more ≡ 1 →
      digits_of (bodies (first_in words).level (body_list (edited_as false dims words e))) ≡ n * (dims * b)
  body-digits up less more =
      left _ _ _ _ _ n dims (dims * b) (new-digits up less more)
      (digits_of-append (kind_fields new_es ++ address_fields dims new_es) (bodies b (body_list new_es)))
      (digits_of-append (kind_fields new_es) (address_fields dims new_es))
      (digits-kinds new_es ∙ ap (λ t. t * 1) (same-many less more)) (address-digits less more)
    where
      left : (y all x ad z n d s : ℕ) → all ≡ n * 1 + n * d + n * s → all ≡ x + z → x ≡ y + ad → y ≡ n * 1 → ad ≡ n * d → z ≡ n * s
      left y all x ad z n d s p q f g i = omega (arith, p, q, f, g, i)

  -- the number of the table by its columns
  by-columns : AreRising dims (first_in words).level 0 (edited_as false dims words e) → e.less ≡ 1 → e.more ≡ 1
      → (number_of (kind_fields (edited_as false dims words e)) * 2 ^ (n * dims) + number_of
      (address_fields dims (edited_as false dims words e))) * 2 ^ (n * (dims * b)) + number_of
      (bodies b (body_list (edited_as false dims words e)))
      ≡ number_of (linear_table dims (first_in words).level (edited_as false dims words e))
  by-columns up less more =
      let k : ℕ = number_of (kind_fields new_es) in
      let a : ℕ = number_after (number_of (kind_fields new_es)) (address_fields dims new_es) in
      sym
      (sym (table-number dims b 0 new_es)
      ∙ number_after-start a (bodies b (body_list new_es))
      ∙ ap (λ t. a * 2 ^ t + number_of (bodies b (body_list new_es))) (body-digits up less more)
      ∙ ap (λ t. t * 2 ^ (n * (dims * b)) + number_of (bodies b (body_list new_es)))
      (number_after-start k (address_fields dims new_es) ∙
      ap (λ t. k * 2 ^ t + number_of (address_fields dims new_es)) (address-digits less more)))

  -- words in which the kind and the body were put into their columns, one behind the other
  pub put-table : (mid new : List ℕ) (kinds rows : Column) → AreRising dims (first_in words).level 0 (edited_as false dims words e) → e.less ≡ 1 → e.more ≡ 1
      → slice_get (map read_address (entries_as false dims words)) e.place ≡ Some e.entry.addr
      → kinds.at ≡ 64 → kinds.width ≡ 1 → kinds.count ≡ (first_in words).entries
      → rows.at ≡ 64 + (first_in words).entries + (first_in words).entries * dims → rows.width ≡ dims * (first_in words).level → rows.count ≡ (first_in words).entries
      → length mid ≡ length words → length new ≡ length words → Each (λ x. x < 2 ^ 64) new
      → IsColumnOver words kinds e (replicate e.more (field kinds.width (if e.entry.child then 1 else 0))) mid
      → IsColumnOver mid rows e (bodies (first_in words).level (replicate e.more (take dims e.entry.body))) new
      → new ≡ slice_index_or words 0 0 ∷ words_of (linear_table dims (first_in words).level (edited_as false dims words e)) ++ values_as false dims words
  put-table mid new kinds rows up less more at ka kw kn ra rv rn lm ln nf p q =
      let old = table-old false dims words e r h l in
      let es : List Flat = flats_as false dims words in
      let w : ℕ = slice_index_or words 0 0 in
      let fs : List Field = linear_table dims b es in
      let gs : List Field = linear_table dims b new_es in
      let vs : List ℕ = values_as false dims words in
      let room : 64 + (n * 1 + n * dims + n * (dims * b)) ≤ 64 * length words = table-inside (digits_of fs) _ _ _ _ _
      old-digits (length-append (words_of fs) vs) (length-words_of fs) (ap length old.is) in
      let k1 : IsOver words 64 (n * 1) (number_of (kind_fields new_es)) mid =
      over-equal words mid kinds.at 64 (kinds.count * kinds.width) (n * 1) _ (number_of (kind_fields new_es)) ka
      (ap (λ t. t * kinds.width) kn ∙ ap (λ t. n * t) kw) (kinds-edited dims words e r h l kinds 0 ka kw kn) p in
      let stay : digits_at mid (64 + n * 1) (n * dims) ≡ number_of (address_fields dims new_es) =
      k1.behind (64 + n * 1) (n * dims) (omega arith) (omega (arith, room))
      ∙ segment-of words w fs vs old.is old.fit old.small (kind_fields es) (address_fields dims es)
      (bodies b (body_list es)) (64 + n * 1) (n * dims)
      (append_assoc (kind_fields es) (address_fields dims es) (bodies b (body_list es)))
      (ap (λ t. 64 + t) (sym (digits-kinds es ∙ ap (λ t. t * 1) old.many))) (sym (digits-addresses dims es ∙ ap (λ t. t * dims) old.many))
      ∙ ap number_of (sym (addresses-kept less more at)) in
      let r2 : 64 + n * 1 + n * dims ≤ 64 * length words = omega (arith, room) in
      let r3 : 64 + (n * 1 + n * dims) + n * (dims * b) ≤ 64 * length words = omega (arith, room) in
      let k2 : IsOver words 64 (n * 1 + n * dims) (number_of (kind_fields new_es) * 2 ^ (n * dims) + number_of (address_fields dims new_es)) mid =
      over-next words mid mid 64 (n * 1) (n * dims) (number_of (kind_fields new_es))
      (number_of (address_fields dims new_es)) lm lm r2 k1 (over-same mid (64 + n * 1) (n * dims) _ stay) in
      let ra2 : rows.at ≡ 64 + (n * 1 + n * dims) = ra ∙ omega arith in
      let whole : 64 + (n * 1 + n * dims) + n * (dims * b) ≡ rows.at + rows.count * rows.width =
      ap (λ t. t + n * (dims * b)) (sym ra2) ∙
      ap (λ t. rows.at + t) (sym (ap (λ t. t * rows.width) rn ∙ ap (λ t. n * t) rv)) in
      let bound : e.place + e.less ≤ rows.count = omega (arith, l, rn) in
      let same : column_edited mid rows e (bodies b (replicate e.more (take dims e.entry.body))) ≡
      column_edited words rows e (bodies b (replicate e.more (take dims e.entry.body))) =
      column-same words mid rows e (bodies b (replicate e.more (take dims e.entry.body))) bound
      (λ a k x y. k2.behind a k (omega (arith, x, ra2)) (omega (arith, y, whole, r3))) in
      let k3 : IsOver mid (64 + (n * 1 + n * dims)) (n * (dims * b)) (number_of (bodies b (body_list new_es))) new =
      over-equal mid new rows.at (64 + (n * 1 + n * dims)) (rows.count * rows.width) (n * (dims * b)) _
      (number_of (bodies b (body_list new_es))) ra2 (ap (λ t. t * rows.width) rn ∙ ap (λ t. n * t) rv)
      (ap number_of same ∙ bodies-edited dims words e r h l rows 0 ra rv rn) q in
      let k4 : IsOver words 64 (n * 1 + n * dims + n * (dims * b))
      ((number_of (kind_fields new_es) * 2 ^ (n * dims) + number_of (address_fields dims new_es)) * 2 ^
      (n * (dims * b)) + number_of (bodies b (body_list new_es))) new =
      over-next words mid new 64 (n * 1 + n * dims) (n * (dims * b)) _ _ lm ln r3 k2 k3 in
      let k5 : IsOver words 64 (digits_of fs) (number_of gs) new = over-equal words new 64 64 _ (digits_of fs) _
      (number_of gs) refl (sym old-digits) (by-columns up less more) k4 in
      over-table w fs gs vs new (first-small words h) (new-digits up less more ∙ sym old-digits) old.fit
      (table-fit false dims b 0 new_es up) old.small nf (ln ∙ ap length old.is)
      (subst (λ t. IsOver t 64 (digits_of fs) (number_of gs) new) old.is k5)
