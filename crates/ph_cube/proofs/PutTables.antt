-- A cube table in which what stands at an address became a child with another body, where the table lies.
use Rattle.std.proofs.Common.{◌≡◌, ℕ, ◌+◌, ◌*◌, ◌^◌, ◌≤◌, ◌<◌, refl, sym, ◌∙◌, ap, subst, arith, List}
use Rattle.std.proofs.Common.{◌∷◌, ◌++◌, length, length-append, map, replicate, slice_index_or, true}
use Rattle.std.specs.List.{AllByRecursion as Each}
use Rattle.ph_specs.specs.Digits.{Field, field, number_of, digits_of, words_of}
use Rattle.ph_model.specs.Layout.{IsRecord, entries_as, values_as, AreRising}
use Rattle.ph_specs.specs.Node.{Flat}
use Rattle.ph_specs.specs.Pack.{bodies, cube_table, at_address, places, place_kind, place_body}
use Rattle.ph_specs.specs.Record.{first_in}
use Rattle.ph_model.proofs.lemmas.Columns.{digits_of-append}
use Rattle.ph_model.proofs.lemmas.LayoutTables.{table-digits, table-fit}
use Rattle.ph_specs.proofs.lemmas.Numbers.{number_after-start, length-words_of}
use Rattle.ph_bits.specs.Edits.{edited_as, flats}
use Rattle.ph_bits.specs.declared.edits.Edit.{Edit}
use Rattle.ph_linear.specs.Edited.{IsOver, IsColumnOver, column_edited}
use Rattle.ph_linear.specs.declared.copies.Column.{Column}
use Rattle.ph_linear.proofs.Overs.{over-equal, over-next, over-table, column-same, table-inside, first-small}
use Rattle.ph_cube.specs.Edited.{IsEditAt}
use Rattle.ph_cube.proofs.EditedPlaces.{length-places, digits-kinds, digits-bodies}
use Rattle.ph_cube.proofs.EditedTables.{table-old, long, kinds-edited, bodies-edited}
use Rattle.ph_cube.proofs.PlaceRuns.{table-number}

module _ (dims : ℕ) (words : List ℕ) (e : Edit) (addr : ℕ) (r : IsRecord true dims words) (h : Each (λ x. x < 2 ^ 64) words) (k : IsEditAt dims words e addr) where
  abbrev b : ℕ
  b = (first_in words).level

  abbrev n : ℕ
  n = 2 ^ dims

  abbrev kind_list : List Flat → List Field
  kind_list fs = map place_kind (places (2 ^ dims) 0 fs)

  abbrev row_list : List Flat → List Field
  row_list fs = bodies (first_in words).level (map (place_body dims) (places (2 ^ dims) 0 fs))

  -- how many digits there are in the columns
  kind-digits : (fs : List Flat) → digits_of (kind_list fs) ≡ n * 2
  kind-digits fs = digits-kinds (places n 0 fs) ∙ ap (λ t. t * 2) (length-places n 0 fs)

  old-digits : digits_of (cube_table dims b (flats (entries_as true dims words) (values_as true dims words))) ≡ n * 2 + n * (dims * b)
  old-digits =
      let es : List Flat = flats (entries_as true dims words) (values_as true dims words) in
      digits_of-append (kind_list es) (row_list es) ∙ ap (λ t. t + digits_of (row_list es)) (kind-digits es) ∙
      ap (λ t. n * 2 + t) (digits-bodies dims b n 0 es (long dims words e addr r h k))

  new-digits : AreRising dims (first_in words).level 0 (edited_as true dims words e) →
      digits_of (cube_table dims (first_in words).level (edited_as true dims words e)) ≡ n * 2 + n * (dims * b)
  new-digits up = table-digits true dims b 0 (edited_as true dims words e) up ∙ omega arith

  row-digits : AreRising dims (first_in words).level 0 (edited_as true dims words e) → digits_of (row_list (edited_as true dims words e)) ≡ n * (dims * b)
  row-digits up =
      let new_es : List Flat = edited_as true dims words e in
      left _ _ _ _ _ (new-digits up) (digits_of-append (kind_list new_es) (row_list new_es)) (kind-digits new_es)
    where
      left : (all x z y s : ℕ) → all ≡ y + s → all ≡ x + z → x ≡ y → z ≡ s
      left all x z y s p q f = omega (arith, p, q, f)

  -- the number of the table by its columns
  by-columns : AreRising dims (first_in words).level 0 (edited_as true dims words e)
      → number_of (kind_list (edited_as true dims words e)) * 2 ^ (n * (dims * b)) + number_of
      (row_list (edited_as true dims words e)) ≡
      number_of (cube_table dims (first_in words).level (edited_as true dims words e))
  by-columns up =
      let new_es : List Flat = edited_as true dims words e in
      let a : ℕ = number_of (kind_list new_es) in
      sym
      (sym (table-number dims b 0 new_es)
      ∙ number_after-start a (row_list new_es)
      ∙ ap (λ t. a * 2 ^ t + number_of (row_list new_es)) (row-digits up))

  -- words in which the kind and the body were put into their columns, one behind the other
  pub put-table : (mid new : List ℕ) (kinds rows : Column) (at : Edit) (v : ℕ) (body : List ℕ) → AreRising dims (first_in words).level 0 (edited_as true dims words e)
      → place_kind (at_address addr (edited_as true dims words e)) ≡ field 2 v → place_body dims (at_address addr (edited_as true dims words e)) ≡ body
      → at.place ≡ addr → at.less ≡ 1 → at.more ≡ 1
      → kinds.at ≡ 64 → kinds.width ≡ 2 → kinds.count ≡ 2 ^ dims
      → rows.at ≡ 64 + 2 ^ dims * 2 → rows.width ≡ dims * (first_in words).level → rows.count ≡ 2 ^ dims
      → length mid ≡ length words → length new ≡ length words → Each (λ x. x < 2 ^ 64) new
      → IsColumnOver words kinds at (replicate at.more (field kinds.width v)) mid
      → IsColumnOver mid rows at (bodies (first_in words).level (replicate at.more body)) new
      → new ≡ slice_index_or words 0 0 ∷ words_of (cube_table dims (first_in words).level (edited_as true dims words e)) ++ values_as true dims words
  put-table mid new kinds rows at v body up kt bt ap1 al am ka kw kn ra rv rn lm ln nf p q =
      let old = table-old dims words e addr r h k in
      let es : List Flat = flats (entries_as true dims words) (values_as true dims words) in
      let new_es : List Flat = edited_as true dims words e in
      let w : ℕ = slice_index_or words 0 0 in
      let fs : List Field = cube_table dims b es in
      let gs : List Field = cube_table dims b new_es in
      let vs : List ℕ = values_as true dims words in
      let room : 64 + (n * 2 + n * (dims * b)) ≤ 64 * length words = table-inside (digits_of fs) _ _ _ _ _ old-digits
      (length-append (words_of fs) vs) (length-words_of fs) (ap length old.is) in
      let k1 : IsOver words 64 (n * 2) (number_of (kind_list new_es)) mid =
      over-equal words mid kinds.at 64 (kinds.count * kinds.width) (n * 2) _ (number_of (kind_list new_es)) ka
      (ap (λ t. t * kinds.width) kn ∙ ap (λ t. n * t) kw)
      (kinds-edited dims words e addr r h k kinds at 0 v kt ka kw kn ap1 al am) p in
      let r3 : 64 + n * 2 + n * (dims * b) ≤ 64 * length words = omega (arith, room) in
      let whole : 64 + n * 2 + n * (dims * b) ≡ rows.at + rows.count * rows.width =
      ap (λ t. t + n * (dims * b)) (sym ra) ∙
      ap (λ t. rows.at + t) (sym (ap (λ t. t * rows.width) rn ∙ ap (λ t. n * t) rv)) in
      let bound : at.place + at.less ≤ rows.count = omega (arith, k.address, rn, ap1, al) in
      let same : column_edited mid rows at (bodies b (replicate at.more body)) ≡ column_edited words rows at (bodies b (replicate at.more body)) =
      column-same words mid rows at (bodies b (replicate at.more body)) bound (λ a j x y. k1.behind a j (omega (arith, x, ra)) (omega (arith, y, whole, r3))) in
      let k3 : IsOver mid (64 + n * 2) (n * (dims * b)) (number_of (row_list new_es)) new =
      over-equal mid new rows.at (64 + n * 2) (rows.count * rows.width) (n * (dims * b)) _
      (number_of (row_list new_es)) ra (ap (λ t. t * rows.width) rn ∙ ap (λ t. n * t) rv)
      (ap number_of same ∙ bodies-edited dims words e addr r h k rows at 0 body bt ra rv rn ap1 al am) q in
      let k4 : IsOver words 64 (n * 2 + n * (dims * b)) (number_of (kind_list new_es) * 2 ^ (n * (dims * b)) + number_of (row_list new_es)) new =
      over-next words mid new 64 (n * 2) (n * (dims * b)) _ _ lm ln r3 k1 k3 in
      let k5 : IsOver words 64 (digits_of fs) (number_of gs) new = over-equal words new 64 64 _ (digits_of fs) _
      (number_of gs) refl (sym old-digits) (by-columns up) k4 in
      over-table w fs gs vs new (first-small words h) (new-digits up ∙ sym old-digits) old.fit
      (table-fit true dims b 0 new_es up) old.small nf (ln ∙ ap length old.is)
      (subst (λ t. IsOver t 64 (digits_of fs) (number_of gs) new) old.is k5)
