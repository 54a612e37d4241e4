-- The columns of a record with one edit as runs of its digits: from the edit of one column to that of the next they lie in a row.
use Rattle.std.proofs.Common.{◌≡◌, ℕ, ◌+◌, ◌*◌, ◌^◌, ◌≤◌, ◌<◌, refl, sym, ◌∙◌, ap, arith, List, [], ◌∷◌, ◌++◌, length, take, replicate, false}
use Rattle.std.specs.Prelude.{if◌then◌else◌}
use Rattle.std.specs.List.{AllByRecursion as Each}
use Rattle.ph_specs.specs.Digits.{Field, field, number_of, number_after}
use Rattle.ph_model.specs.Layout.{IsRecord}
use Rattle.ph_specs.specs.Node.{Flat}
use Rattle.ph_specs.specs.Pack.{bodies, linear_table}
use Rattle.ph_specs.specs.Record.{first_in}
use Rattle.ph_model.proofs.lemmas.Columns.{number_after-append}
use Rattle.ph_bits.specs.Edits.{edited_as}
use Rattle.ph_bits.specs.declared.edits.Edit.{Edit}
use Rattle.ph_linear.specs.Edited.{column_edited}
use Rattle.ph_linear.specs.Runs.{start, run, runs_around, AreColumnsOf}
use Rattle.ph_linear.specs.Written.{kind_fields, address_fields}
use Rattle.ph_linear.specs.declared.copies.Column.{Column}
use Rattle.ph_linear.specs.declared.tables.Columns.{Columns}
use Rattle.ph_linear.proofs.ClosedColumns.{ordered}
use Rattle.ph_linear.proofs.EditedTables.{kinds-edited, addresses-edited, bodies-edited}
use Rattle.ph_linear.proofs.RunNumbers.{column-runs, runs-meet, start-first, addresses-at, bodies-at, starts}
use Rattle.ph_linear.proofs.Writing.{table-number}

-- a run behind new fields may be cut in two
run-cut : (ws : List ℕ) (s a b c : ℕ) (new fs : List Field) → a ≤ b → b ≤ c → c ≤ 64 * length ws →
    number_after s (new ++ run ws a c ∷ fs) ≡ number_after (number_after s (new ++ run ws a b ∷ [])) (run ws b c ∷ fs)
run-cut ws s a b c new fs l m n =
    number_after-append s new (run ws a c ∷ fs)
    ∙ sym (runs-meet ws (number_after s new) a b c fs l m n)
    ∙ ap (λ t. number_after t (run ws b c ∷ fs)) (sym (number_after-append s new (run ws a b ∷ [])))

module _ (dims : ℕ) (words : List ℕ) (e : Edit) (r : IsRecord false dims words) (h : Each (λ x. x < 2 ^ 64) words)
    (l : e.place + e.less ≤ (first_in words).entries) (cs : Columns) (cols : AreColumnsOf dims words cs) where
  abbrev es : List Flat
  es = edited_as false dims words e

  abbrev next : ℕ
  next = e.place + e.less

  -- a column with the edit, as two runs and the new fields between them
  two-runs : (c : Column) (new : List Field) (x y : ℕ) → c.count ≡ cs.kinds.count → start c 0 ≡ x → start c cs.kinds.count ≡ y →
      column_edited words c e new ≡ run words x (start c e.place) ∷ (new ++ run words (start c (e.place + e.less)) y ∷ [])
  two-runs c new x y m p q =
      column-runs words c e new (omega (arith, l, m, cols.many))
      ∙ ap {B = List Field} (λ t. run words t (start c e.place) ∷ (new ++ run words (start c next) (start c c.count) ∷ [])) p
      ∙ ap {B = List Field} (λ t. run words x (start c e.place) ∷ (new ++ run words (start c next) t ∷ [])) (ap (start c) m ∙ q)

  low : (c : Column) (i : ℕ) → start c 0 ≤ start c i
  low c i = omega arith

  pub edited-number : number_of (runs_around words cs e.place (e.place + e.less)
      (replicate e.more (field cs.kinds.width (if e.entry.child then 1 else 0)))
      (replicate e.more (field cs.addresses.width e.entry.addr))
      (bodies (first_in words).level (replicate e.more (take dims e.entry.body))))
      ≡ number_of (linear_table dims (first_in words).level (edited_as false dims words e))
  edited-number =
      let c = cols.columns in
      let o = ordered words cs e.place c (omega (arith, l, cols.many)) in
      let within : e.place + e.less ≤ cs.kinds.count = omega (arith, l, cols.many) in
      let a : ℕ = start cs.addresses 0 in
      let d : ℕ = start cs.bodies 0 in
      let ks : List Field = replicate e.more (field cs.kinds.width (if e.entry.child then 1 else 0)) in
      let ads : List Field = replicate e.more (field cs.addresses.width e.entry.addr) in
      let bs : List Field = bodies (first_in words).level (replicate e.more (take dims e.entry.body)) in
      let k-end : start cs.kinds cs.kinds.count ≡ start cs.addresses 0 = sym (start-first cs.addresses ∙ c.addresses) in
      let a-end : start cs.addresses cs.kinds.count ≡ start cs.bodies 0 = sym (start-first cs.bodies ∙ c.bodies) in
      let rest : List Field = bs ++ run words (start cs.bodies next) (start cs.bodies cs.bodies.count) ∷ [] in
      let k-list : List Field = run words 64 (start cs.kinds e.place) ∷ (ks ++ run words (start cs.kinds next) a ∷ []) in
      let a-list : List Field = run words a (start cs.addresses e.place) ∷ (ads ++ run words (start cs.addresses next) d ∷ []) in
      let k-edited : List Field = column_edited words cs.kinds e ks in
      let a-edited : List Field = column_edited words cs.addresses e ads in
      let b-edited : List Field = column_edited words cs.bodies e bs in
      run-cut words (number_after 0 (run words 64 (start cs.kinds e.place) ∷ [])) (start cs.kinds next) a (start cs.addresses e.place) ks
      (ads ++ run words (start cs.addresses next) (start cs.bodies e.place) ∷ rest)
      (omega (arith, k-end, starts cs.kinds next cs.kinds.count within)) (low cs.addresses e.place) (omega (arith, o.bodies, o.until, o.inside))
      ∙ run-cut words (number_after (number_after 0 k-list) (run words a (start cs.addresses e.place) ∷ []))
      (start cs.addresses next) d (start cs.bodies e.place) ads rest
      (omega (arith, a-end, starts cs.addresses next cs.kinds.count within)) (low cs.bodies e.place) (omega (arith, o.until, o.inside))
      ∙ ap (λ t. number_after (number_after (number_after 0 k-list) a-list) t)
      (sym (two-runs cs.bodies bs d (start cs.bodies cs.bodies.count) c.bodies_many refl (ap (start cs.bodies) (sym c.bodies_many))))
      ∙ ap (λ t. number_after (number_after (number_after 0 k-list) t) b-edited) (sym (two-runs cs.addresses ads a d c.addresses_many refl a-end))
      ∙ ap (λ t. number_after (number_after (number_after 0 t) a-edited) b-edited) (sym (two-runs cs.kinds ks 64 a refl (start-first cs.kinds ∙ c.begin) k-end))
      ∙ ap (λ t. number_after (number_after t a-edited) b-edited) (kinds-edited dims words e r h l cs.kinds 0 c.begin c.one cols.many)
      ∙ ap (λ t. number_after t b-edited) (addresses-edited dims words e r h l cs.addresses
      (number_after 0 (kind_fields es)) (addresses-at dims words cs cols) cols.addresses_wide (c.addresses_many ∙ cols.many))
      ∙ bodies-edited dims words e r h l cs.bodies
      (number_after (number_after 0 (kind_fields es)) (address_fields dims es)) (bodies-at dims words cs cols) cols.bodies_wide
      (c.bodies_many ∙ cols.many)
      ∙ table-number dims (first_in words).level 0 es
