-- The columns of a record with one edit are those of its entries then.
use Rattle.std.proofs.Common.{◌≡◌, ℕ, zero, suc, ◌+◌, ◌-◌, ◌*◌, ◌^◌, ◌≤◌, ◌<◌, refl, sym, ◌∙◌, ap, arith, List}
use Rattle.std.proofs.Common.{[], ◌∷◌, ◌++◌, length, take, drop, replicate, Bool, true, false}
use Rattle.std.specs.Prelude.{Some, None, if◌then◌else◌}
use Rattle.std.specs.List.{AllByRecursion as Each}
use Rattle.std.proofs.lemmas.List.{append_assoc, append-nil, map-append}
use Rattle.ph_specs.specs.Digits.{Field, field, number_after, digits_of}
use Rattle.ph_model.specs.Lawful.{IsBody}
use Rattle.ph_model.specs.Layout.{IsRecord, values_as, AreRising}
use Rattle.ph_specs.specs.Node.{Flat}
use Rattle.ph_specs.specs.Pack.{bodies, child_mark, linear_table}
use Rattle.ph_specs.specs.Record.{first_in}
use Rattle.ph_model.proofs.lemmas.Columns.{digits_of-append}
use Rattle.ph_bits.specs.Edits.{edited, edited_as, new_flat}
use Rattle.ph_bits.specs.declared.edits.Edit.{Edit}
use Rattle.ph_bits.specs.declared.entries.Packed.{Packed}
use Rattle.ph_linear.specs.Edited.{column_edited}
use Rattle.ph_linear.specs.Written.{kind_fields, address_fields, body_list}
use Rattle.ph_linear.specs.declared.copies.Column.{Column}
use Rattle.ph_linear.proofs.EditedEntries.{flats_as, front_of, gone_of, back_of, new_of, table-old, parts-new, long-front, long-gone, long-back}
use Rattle.ph_linear.proofs.EditedLists.{whole-parts, bodies-append, digits-kinds, digits-addresses, digits-bodies, each-take, each-drop}
use Rattle.ph_linear.proofs.OldTables.{long-bodies}
use Rattle.ph_linear.proofs.Segments.{column-number}

-- ---- the new entry

mark-new : (t : Bool) (v : ℕ) → child_mark (if t then None else Some v) ≡ (if t then 1 else 0)
mark-new true v = refl
mark-new false v = refl

kinds-new : (more dims : ℕ) (p : Packed) (v : ℕ) → replicate more (field 1 (if p.child then 1 else 0)) ≡ kind_fields (replicate more (new_flat dims p v))
kinds-new zero dims p v = refl
kinds-new (suc more) dims p v =
    ap {B = List Field} (λ t. field 1 t ∷ replicate more (field 1 (if p.child then 1 else 0))) (sym (mark-new p.child v))
    ∙ ap {B = List Field} (λ t. field 1 (child_mark (if p.child then None else Some v)) ∷ t) (kinds-new more dims p v)

addresses-new : (more dims : ℕ) (p : Packed) (v : ℕ) → replicate more (field dims p.addr) ≡ address_fields dims (replicate more (new_flat dims p v))
addresses-new zero dims p v = refl
addresses-new (suc more) dims p v = ap {B = List Field} (λ t. field dims p.addr ∷ t) (addresses-new more dims p v)

bodies-new : (more dims : ℕ) (p : Packed) (v : ℕ) → replicate more (take dims p.body) ≡ body_list (replicate more (new_flat dims p v))
bodies-new zero dims p v = refl
bodies-new (suc more) dims p v = ap {B = List (List ℕ)} (λ t. take dims p.body ∷ t) (bodies-new more dims p v)

-- it is lawful, where the entries with it are
pub rising-new : (dims level least place less more : ℕ) (x : Flat) (xs : List Flat) → place ≤ length xs →
    AreRising dims level least (edited place less more x xs) → 0 < more → (x.addr < 2 ^ dims) × IsBody dims level x.body
rising-new dims level least zero less zero x xs l h k = absurd (omega (arith, k))
rising-new dims level least zero less (suc more) x xs l h k = (h.1, h.2)
rising-new dims level least (suc place) less more x [] l h k = absurd (omega (arith, l))
rising-new dims level least (suc place) less more x (y ∷ ys) l h k = rising-new dims level (y.addr + 1) place less more x ys (omega (arith, l)) h.3 k

-- ---- the columns

module _ (dims : ℕ) (words : List ℕ) (e : Edit) (r : IsRecord false dims words) (h : Each (λ x. x < 2 ^ 64) words) (l : e.place + e.less ≤ (first_in words).entries) where
  abbrev n : ℕ
  n = (first_in words).entries

  abbrev b : ℕ
  b = (first_in words).level

  -- any column
  column : (g : List Flat → List Field) (w : ℕ) (fs hs : List Field) (c : Column) (s : ℕ) → ((xs ys : List Flat) → g (xs ++ ys) ≡ g xs ++ g ys)
      → ((xs : List Flat) → Each (λ (t : Flat). length t.body ≡ dims) xs → digits_of (g xs) ≡ length xs * w)
      → linear_table dims b (flats_as false dims words) ≡ fs ++ (g (flats_as false dims words) ++ hs)
      → c.at ≡ 64 + digits_of fs → c.width ≡ w → c.count ≡ n
      → number_after s (column_edited words c e (g (new_of dims e))) ≡ number_after s (g (edited_as false dims words e))
  column g w fs hs c s q d t a cw cn =
      let old = table-old false dims words e r h l in
      let es : List Flat = flats_as false dims words in
      let long : Each (λ (t : Flat). length t.body ≡ dims) (flats_as false dims words) = long-bodies dims words in
      let front : List Flat = front_of false dims words e in
      let gone : List Flat = gone_of false dims words e in
      let back : List Flat = back_of false dims words e in
      let new : List Flat = new_of dims e in
      let whole : g es ≡ g front ++ (g gone ++ g back) = ap g (whole-parts e.place e.less es) ∙ q front (gone ++ back) ∙ ap (λ u. g front ++ u) (q gone back) in
      column-number words _ (linear_table dims b es) (values_as false dims words) old.is old.fit old.small c e fs
      (g front) (g gone) (g back) hs (g new) s (t ∙ ap (λ u. fs ++ (u ++ hs)) whole) a
      (d front (each-take (λ (t : Flat). length t.body ≡ dims) e.place es long)
      ∙ ap (λ u. u * w) (long-front false dims words e r h l) ∙ ap (λ u. e.place * u) (sym cw))
      (d gone (each-take (λ (t : Flat). length t.body ≡ dims) e.less (drop e.place es)
      (each-drop (λ (t : Flat). length t.body ≡ dims) e.place es long))
      ∙ ap (λ u. u * w) (long-gone false dims words e r h l) ∙ ap (λ u. e.less * u) (sym cw))
      (d back (each-drop (λ (t : Flat). length t.body ≡ dims) (e.place + e.less) es long)
      ∙ ap (λ u. u * w) (long-back false dims words e r h l) ∙ ap (λ u. (n - (e.place + e.less)) * u) (sym cw)
      ∙ ap (λ u. (u - (e.place + e.less)) * c.width) (sym cn))
      ∙ ap (number_after s) (sym (ap g (parts-new false dims words e r h l) ∙ q front (new ++ back) ∙ ap (λ u. g front ++ u) (q new back)))

  pub kinds-edited : (c : Column) (s : ℕ) → c.at ≡ 64 → c.width ≡ 1 → c.count ≡ (first_in words).entries
      → number_after s (column_edited words c e (replicate e.more (field c.width (if e.entry.child then 1 else 0)))) ≡
      number_after s (kind_fields (edited_as false dims words e))
  kinds-edited c s a cw cn =
      let es : List Flat = flats_as false dims words in
      ap (λ t. number_after s (column_edited words c e t))
      (ap (λ t. replicate e.more (field t (if e.entry.child then 1 else 0))) cw ∙ kinds-new e.more dims e.entry e.value)
      ∙ column kind_fields 1 [] (address_fields dims es ++ bodies b (body_list es)) c s
      (map-append (λ (t : Flat). field 1 (child_mark t.value))) (λ xs _. digits-kinds xs)
      (append_assoc (kind_fields es) (address_fields dims es) (bodies b (body_list es))) (omega (arith, a)) cw cn

  pub addresses-edited : (c : Column) (s : ℕ) → c.at ≡ 64 + (first_in words).entries → c.width ≡ dims → c.count ≡ (first_in words).entries
      → number_after s (column_edited words c e (replicate e.more (field c.width e.entry.addr))) ≡ number_after s (address_fields dims (edited_as false dims words e))
  addresses-edited c s a cw cn =
      let es : List Flat = flats_as false dims words in
      ap (λ t. number_after s (column_edited words c e t)) (ap (λ t. replicate e.more (field t e.entry.addr)) cw ∙ addresses-new e.more dims e.entry e.value)
      ∙ column (address_fields dims) dims (kind_fields es) (bodies b (body_list es)) c s
      (map-append (λ (t : Flat). field dims t.addr)) (λ xs _. digits-addresses dims xs)
      (append_assoc (kind_fields es) (address_fields dims es) (bodies b (body_list es)))
      (omega (arith, a, digits-kinds es, (table-old false dims words e r h l).many)) cw cn

  pub bodies-edited : (c : Column) (s : ℕ) → c.at ≡ 64 + (first_in words).entries + (first_in words).entries * dims →
      c.width ≡ dims * (first_in words).level → c.count ≡ (first_in words).entries
      → number_after s (column_edited words c e
      (bodies (first_in words).level (replicate e.more (take dims e.entry.body)))) ≡
      number_after s (bodies (first_in words).level (body_list (edited_as false dims words e)))
  bodies-edited c s a cw cn =
      let es : List Flat = flats_as false dims words in
      let d : digits_of (kind_fields es ++ address_fields dims es) ≡ n + n * dims = fill _ _ _ (length es) n dims
      (digits_of-append (kind_fields es) (address_fields dims es)) (digits-kinds es) (digits-addresses dims es)
      (table-old false dims words e r h l).many in
      ap (λ t. number_after s (column_edited words c e (bodies b t))) (bodies-new e.more dims e.entry e.value)
      ∙ column (λ u. bodies b (body_list u)) (dims * b) (kind_fields es ++ address_fields dims es) [] c s
      (λ xs ys. ap (bodies b) (map-append (λ (t : Flat). t.body) xs ys) ∙ bodies-append b (body_list xs) (body_list ys))
      (digits-bodies dims b)
      (ap (λ t. (kind_fields es ++ address_fields dims es) ++ t) (sym (append-nil (bodies b (body_list es))))) (omega (arith, a, d)) cw cn
    where
      fill : (x y z m n d : ℕ) → x ≡ y + z → y ≡ m * 1 → z ≡ m * d → m ≡ n → x ≡ n + n * d
      fill x y z m n d f g i j = let k : m * d ≡ n * d = ap (λ t. t * d) j in omega (arith, f, g, i, j, k)
