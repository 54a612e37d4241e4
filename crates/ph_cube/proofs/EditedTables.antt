-- The columns of a record with one edit at an address are those of its entries then.
use Rattle.std.proofs.Common.{◌≡◌, ◌≢◌, ℕ, suc, ◌+◌, ◌-◌, ◌*◌, ◌/◌, ◌^◌, ◌≤◌, ◌<◌, refl, sym, ◌∙◌, ap, subst, arith, List, []}
use Rattle.std.proofs.Common.{◌∷◌, ◌++◌, length, map, take, drop, replicate, Bool, true, false, ◌⊎◌, inl, inr}
use Rattle.std.specs.Prelude.{Option, Some, None, nat_le, if◌then◌else◌}
use Rattle.std.specs.List.{AllByRecursion as Each}
use Rattle.std.proofs.lemmas.List.{append-nil, map-append}
use Rattle.ph_specs.specs.Digits.{Field, field, number_after, digits_of}
use Rattle.ph_model.specs.Layout.{IsRecord, entries_as, values_as, fields_as, digits_as, number_as, AreRising}
use Rattle.ph_model.specs.Lawful.{IsBody}
use Rattle.ph_specs.specs.Node.{Flat}
use Rattle.ph_specs.specs.Pack.{bodies, cube_table, at_address, places, place_kind, place_body, child_mark}
use Rattle.ph_specs.specs.Record.{First, first_in, widths, padding}
use Rattle.ph_model.proofs.laws.TableFields.{length-fields}
use Rattle.ph_model.proofs.lemmas.ReadColumns.{fit-read}
use Rattle.ph_specs.proofs.lemmas.Members.{Each-each}
use Rattle.ph_model.proofs.lemmas.TablesAgain.{length-widths, cube-bodies}
use Rattle.ph_bits.specs.Edits.{edited_as, flats, new_flat}
use Rattle.ph_bits.specs.declared.edits.Edit.{Edit}
use Rattle.ph_linear.specs.Edited.{column_edited}
use Rattle.ph_linear.specs.declared.copies.Column.{Column}
use Rattle.ph_linear.proofs.EditedEntries.{parts-new}
use Rattle.ph_linear.proofs.EditedLists.{whole-parts, bodies-append}
use Rattle.ph_linear.proofs.EditedTables.{rising-new}
use Rattle.ph_linear.proofs.Entries.{split}
use Rattle.ph_linear.proofs.OldTables.{IsTable, table-of}
use Rattle.ph_linear.proofs.Segments.{column-number}
use Rattle.ph_cube.specs.Cube as Cube
use Rattle.ph_cube.specs.Edited.{IsEditAt, entries_below}
use Rattle.ph_cube.proofs.EditedPlaces.{Rises, rises-flats, long-flats, below, below-flats, below-most, other, none-here}
use Rattle.ph_cube.proofs.EditedPlaces.{new-there, places-split, places-same, length-places, digits-kinds, digits-bodies}
use Rattle.ph_cube.proofs.PlaceRuns.{zeros-front, zeros-fit}

module _ (dims : ℕ) (words : List ℕ) (e : Edit) (addr : ℕ) (r : IsRecord true dims words) (h : Each (λ x. x < 2 ^ 64) words) (k : IsEditAt dims words e addr) where
  abbrev b : ℕ
  b = (first_in words).level

  abbrev n : ℕ
  n = 2 ^ dims

  abbrev es : List Flat
  es = flats (entries_as true dims words) (values_as true dims words)

  abbrev x : Flat
  x = new_flat dims e.entry e.value

  pub table-old : IsTable true dims words (flats (entries_as true dims words) (values_as true dims words))
  table-old = table-of true dims words r h

  below-is : (a : ℕ) → entries_below dims words a ≡ below a (flats (entries_as true dims words) (values_as true dims words))
  below-is a = sym (below-flats a (entries_as true dims words) (values_as true dims words) table-old.points)

  pub within : e.place + e.less ≤ (first_in words).entries
  within = omega (arith, k.behind, below-is (addr + 1), below-most (λ (t : Flat). nat_le (addr + 1) t.addr) es, table-old.many)

  rises : Rises 0 es
  rises = rises-flats 0 (Cube.kinds dims words) (Cube.bodies dims words) (values_as true dims words)

  pub long : Each (λ (t : Flat). length t.body ≡ dims) (flats (entries_as true dims words) (values_as true dims words))
  long =
      let f : First = first_in words in
      let xs : List ℕ = fields_as true dims words in
      long-flats dims 0 (Cube.kinds dims words) (Cube.bodies dims words) (values_as true dims words)
      (Each-each (Cube.bodies dims words) (λ b p. p.0)
      (cube-bodies dims f xs (length-fields true dims words ∙ length-widths true dims f)
      (fit-read (digits_as true dims f) (widths true dims f)
      (number_as true dims words / 2 ^ padding (digits_as true dims f)))))

  -- ---- addresses

  list-is : edited_as true dims words e ≡
      take e.place (flats (entries_as true dims words) (values_as true dims words)) ++
      (replicate e.more (new_flat dims e.entry e.value) ++
      drop (e.place + e.less) (flats (entries_as true dims words) (values_as true dims words)))
  list-is = parts-new true dims words e r h within

  same : (a : ℕ) → a ≢ addr → at_address a es ≡ at_address a (edited_as true dims words e)
  same a m =
      ap (at_address a) (whole-parts e.place e.less es)
      ∙ other addr e.place e.less e.more 0 x es rises (k.front ∙ below-is addr) (k.behind ∙ below-is (addr + 1)) k.same a m
      ∙ ap (at_address a) (sym list-is)

  gone-then : e.more ≡ 0 → at_address addr (edited_as true dims words e) ≡ None
  gone-then z = ap (at_address addr) list-is ∙ none-here addr e.place e.less e.more 0 x es rises (k.front ∙ below-is addr) (k.behind ∙ below-is (addr + 1)) k.same z

  there-then : 0 < e.more → at_address addr (edited_as true dims words e) ≡ Some (new_flat dims e.entry e.value)
  there-then l = ap (at_address addr) list-is ∙ new-there addr e.place e.less e.more 0 x es rises (k.front ∙ below-is addr) (k.behind ∙ below-is (addr + 1)) k.same l

  some-or-none : (0 < e.more) ⊎ (e.more ≡ 0)
  some-or-none = elim (split 0 e.more) [ inl l ↦ inl l | inr l ↦ inr (omega (arith, l)) ]

  pub kind-then : (v : ℕ) → (0 < e.more → v ≡ 1 + (if e.entry.child then 1 else 0)) → (e.more ≡ 0 → v ≡ 0) →
      place_kind (at_address addr (edited_as true dims words e)) ≡ field 2 v
  kind-then v f g =
      elim some-or-none [
        | inl l ↦ ap place_kind (there-then l) ∙ ap (field 2) (mark e.entry.child ∙ sym (f l))
        | inr z ↦ ap place_kind (gone-then z) ∙ ap (field 2) (sym (g z))
      ]
    where
      mark : (t : Bool) → 1 + child_mark (if t then None else Some e.value) ≡ 1 + (if t then 1 else 0)
      mark true = refl
      mark false = refl

  pub body-then : (body : List ℕ) → (0 < e.more → body ≡ e.entry.body) → (e.more ≡ 0 → body ≡ replicate 16 0) →
      place_body dims (at_address addr (edited_as true dims words e)) ≡ take dims body
  body-then body f g =
      elim some-or-none [
        | inl l ↦ ap (place_body dims) (there-then l) ∙ ap (take dims) (sym (f l))
        | inr z ↦ ap (place_body dims) (gone-then z) ∙ sym (ap (take dims) (g z) ∙ zeros-front dims 16 r.few)
      ]

  pub body-fits : (body : List ℕ) → (0 < e.more → body ≡ e.entry.body) → (e.more ≡ 0 → body ≡ replicate 16 0) →
      AreRising dims (first_in words).level 0 (edited_as true dims words e) →
      Each (λ t. t < 2 ^ (first_in words).level) (take dims body)
  body-fits body f g w =
      elim some-or-none [
        | inl l ↦
            let p : e.place ≤ length es = omega (arith, within, table-old.many) in
            let q : (x.addr < 2 ^ dims) × IsBody dims b x.body = rising-new dims b 0 e.place e.less e.more x es p w l in
            subst (λ t. Each (λ t. t < 2 ^ b) (take dims t)) (sym (f l)) q.1.1
        | inr z ↦ subst (Each (λ t. t < 2 ^ b)) (sym (ap (take dims) (g z) ∙ zeros-front dims 16 r.few)) (zeros-fit b dims)
      ]

  -- ---- places

  abbrev rest : ℕ
  rest = 2 ^ dims - (addr + 1)

  sum : n ≡ addr + suc rest
  sum = parted (2 ^ dims) k.address
    where
      parted : (m : ℕ) → addr < m → m ≡ addr + suc (m - (addr + 1))
      parted m l = omega (arith, l)

  halves : (fs : List Flat) → places n 0 fs ≡ places addr 0 fs ++ (at_address addr fs ∷ places rest (addr + 1) fs)
  halves fs =
      let z : 0 + addr ≡ addr = omega arith in
      ap (λ t. places t 0 fs) sum ∙ places-split addr rest 0 fs ∙ ap (λ t. places addr 0 fs ++ (at_address t fs ∷ places rest (t + 1) fs)) z

  halves-new : places n 0 (edited_as true dims words e) ≡ places addr 0 es ++ (at_address addr (edited_as true dims words e) ∷ places rest (addr + 1) es)
  halves-new =
      let es' : List Flat = edited_as true dims words e in
      halves es'
      ∙ ap (λ t. t ++ (at_address addr es' ∷ places rest (addr + 1) es')) (sym (places-same addr 0 es es' (λ a l m. same a (λ z. omega (arith, m, z)))))
      ∙ ap (λ t. places addr 0 es ++ (at_address addr es' ∷ t)) (sym (places-same rest (addr + 1) es es' (λ a l m. same a (λ z. omega (arith, l, z)))))

  -- ---- columns

  column : (g : List (Option Flat) → List Field) (w : ℕ) (fs hs : List Field) (c : Column) (at : Edit) (s : ℕ) →
      ((ps qs : List (Option Flat)) → g (ps ++ qs) ≡ g ps ++ g qs)
      → ((m a : ℕ) → digits_of (g (places m a es)) ≡ m * w) → cube_table dims b es ≡ fs ++ (g (places n 0 es) ++ hs)
      → c.at ≡ 64 + digits_of fs → c.width ≡ w → c.count ≡ n → at.place ≡ addr → at.less ≡ 1
      → number_after s (column_edited words c at (g (at_address addr (edited_as true dims words e) ∷ []))) ≡ number_after s (g (places n 0 (edited_as true dims words e)))
  column g w fs hs c at s q d t a cw cn p l =
      let o : List (Option Flat) = at_address addr es ∷ [] in
      let o' : List (Option Flat) = at_address addr (edited_as true dims words e) ∷ [] in
      let front : List (Option Flat) = places addr 0 es in
      let back : List (Option Flat) = places rest (addr + 1) es in
      let whole : g (places n 0 es) ≡ g front ++ (g o ++ g back) = ap g (halves es) ∙ q front (o ++ back) ∙ ap (λ u. g front ++ u) (q o back) in
      column-number words _ (cube_table dims b es) (values_as true dims words) table-old.is table-old.fit table-old.small c at fs (g front) (g o) (g back) hs (g o') s
      (t ∙ ap (λ u. fs ++ (u ++ hs)) whole) a
      (d addr 0 ∙ ap (λ u. u * w) (sym p) ∙ ap (λ u. at.place * u) (sym cw))
      (d 1 addr ∙ ap (λ u. u * w) (sym l) ∙ ap (λ u. at.less * u) (sym cw))
      (d rest (addr + 1) ∙ ap (λ u. rest * u) (sym cw) ∙ ap (λ u. u * c.width) (left c.count at.place at.less n cn p l))
      ∙ ap (number_after s) (sym (ap g halves-new ∙ q front (o' ++ back) ∙ ap (λ u. g front ++ u) (q o' back)))
    where
      left : (c p l m : ℕ) → c ≡ m → p ≡ addr → l ≡ 1 → m - (addr + 1) ≡ c - (p + l)
      left c p l m e f g = omega (arith, e, f, g)

  pub kinds-edited : (c : Column) (at : Edit) (s v : ℕ) → place_kind (at_address addr (edited_as true dims words e)) ≡ field 2 v
      → c.at ≡ 64 → c.width ≡ 2 → c.count ≡ 2 ^ dims → at.place ≡ addr → at.less ≡ 1 → at.more ≡ 1
      → number_after s (column_edited words c at (replicate at.more (field c.width v))) ≡
      number_after s (map place_kind (places (2 ^ dims) 0 (edited_as true dims words e)))
  kinds-edited c at s v q a cw cn p l m =
      ap (λ t. number_after s (column_edited words c at t))
      (ap (λ t. replicate t (field c.width v)) m ∙ ap {B = List Field} (λ t. field t v ∷ []) cw ∙
      ap {B = List Field} (λ t. t ∷ []) (sym q))
      ∙ column (map place_kind) 2 [] (bodies b (map (place_body dims) (places n 0 es))) c at s (map-append place_kind)
      (λ m a. digits-kinds (places m a es) ∙ ap (λ t. t * 2) (length-places m a es)) refl (omega (arith, a)) cw cn p l

  pub bodies-edited : (c : Column) (at : Edit) (s : ℕ) (body : List ℕ) → place_body dims (at_address addr (edited_as true dims words e)) ≡ body
      → c.at ≡ 64 + 2 ^ dims * 2 → c.width ≡ dims * (first_in words).level → c.count ≡ 2 ^ dims → at.place ≡ addr → at.less ≡ 1 → at.more ≡ 1
      → number_after s (column_edited words c at (bodies (first_in words).level (replicate at.more body))) ≡
      number_after s (bodies (first_in words).level
      (map (place_body dims) (places (2 ^ dims) 0 (edited_as true dims words e))))
  bodies-edited c at s body q a cw cn p l m =
      let d : digits_of (map place_kind (places n 0 es)) ≡ n * 2 = digits-kinds (places n 0 es) ∙ ap (λ t. t * 2) (length-places n 0 es) in
      ap (λ t. number_after s (column_edited words c at (bodies b t))) (ap (λ t. replicate t body) m ∙ ap {B = List (List ℕ)} (λ t. t ∷ []) (sym q))
      ∙ column (λ ps. bodies b (map (place_body dims) ps)) (dims * b) (map place_kind (places n 0 es)) [] c at s
      (λ ps qs. ap (bodies b) (map-append (place_body dims) ps qs) ∙ bodies-append b (map (place_body dims) ps)
      (map (place_body dims) qs)) (λ m a. digits-bodies dims b m a es long)
      (ap (λ t. map place_kind (places n 0 es) ++ t) (sym (append-nil (bodies b (map (place_body dims) (places n 0 es)))))) (a ∙ ap (λ t. 64 + t) (sym d)) cw cn p l
