-- The entries of a record with one edit: how many they are, and their values.
use Rattle.std.proofs.Common.{◌≡◌, ℕ, zero, suc, ◌+◌, ◌-◌, ◌^◌, ◌≤◌, ◌<◌, refl, sym, ◌∙◌, ap, arith, List}
use Rattle.std.proofs.Common.{[], ◌∷◌, ◌++◌, length, take, drop, replicate, Bool, true, false}
use Rattle.std.specs.Prelude.{Some, None, if◌then◌else◌}
use Rattle.std.specs.List.{AllByRecursion as Each}
use Rattle.std.proofs.lemmas.List.{length-append, length-drop, length-replicate, length-take-le}
use Rattle.ph_model.specs.Layout.{IsRecord, entries_as, values_as}
use Rattle.ph_specs.specs.Node.{Flat}
use Rattle.ph_model.specs.NodeSize.{points_in}
use Rattle.ph_specs.specs.Pack.{values}
use Rattle.ph_specs.specs.Record.{first_in}
use Rattle.ph_bits.specs.Edits.{edited_as, flats, new_flat, count_edited}
use Rattle.ph_bits.specs.declared.edits.Edit.{Edit}
use Rattle.ph_linear.specs.Edited.{new_values}
use Rattle.ph_linear.proofs.EditedLists.{edited-parts, values-append, values-front, values-back, points-low}
use Rattle.ph_linear.proofs.OldTables.{IsTable, table-of}

-- the values of so many copies of a new entry
values-new : (child : Bool) (dims addr : ℕ) (body : List ℕ) (v more : ℕ) →
    values (replicate more (record { addr = addr; body = take dims body; value = if child then None else Some v })) ≡
    (if child then [] else replicate more v)
values-new true dims addr body v zero = refl
values-new true dims addr body v (suc more) = values-new true dims addr body v more
values-new false dims addr body v zero = refl
values-new false dims addr body v (suc more) = ap {B = List ℕ} (λ t. v ∷ t) (values-new false dims addr body v more)

-- the entries of a record, with their values
abbrev pub flats_as : Bool → ℕ → List ℕ → List Flat
flats_as cube dims words = flats (entries_as cube dims words) (values_as cube dims words)

-- of an edit of them: those in front of it, those that it leaves out, those behind it, and the new ones
abbrev pub front_of : Bool → ℕ → List ℕ → Edit → List Flat
front_of cube dims words e = take e.place (flats_as cube dims words)

abbrev pub gone_of : Bool → ℕ → List ℕ → Edit → List Flat
gone_of cube dims words e = take e.less (drop e.place (flats_as cube dims words))

abbrev pub back_of : Bool → ℕ → List ℕ → Edit → List Flat
back_of cube dims words e = drop (e.place + e.less) (flats_as cube dims words)

abbrev pub new_of : ℕ → Edit → List Flat
new_of dims e = replicate e.more (new_flat dims e.entry e.value)

module _ (cube : Bool) (dims : ℕ) (words : List ℕ) (e : Edit) (r : IsRecord cube dims words)
    (h : Each (λ x. x < 2 ^ 64) words) (l : e.place + e.less ≤ (first_in words).entries) where
  abbrev n : ℕ
  n = (first_in words).entries

  pub table-old : IsTable cube dims words (flats (entries_as cube dims words) (values_as cube dims words))
  table-old = table-of cube dims words r h

  pub place-low : e.place ≤ length (flats (entries_as cube dims words) (values_as cube dims words))
  place-low = omega (arith, l, table-old.many)

  pub parts-new : edited_as cube dims words e ≡
      take e.place (flats (entries_as cube dims words) (values_as cube dims words)) ++
      (replicate e.more (new_flat dims e.entry e.value) ++
      drop (e.place + e.less) (flats (entries_as cube dims words) (values_as cube dims words)))
  parts-new = edited-parts e.place e.less e.more (new_flat dims e.entry e.value) (flats_as cube dims words) place-low

  pub long-front : length (front_of cube dims words e) ≡ e.place
  long-front = length-take-le e.place (flats_as cube dims words) place-low

  pub long-gone : length (gone_of cube dims words e) ≡ e.less
  long-gone = length-take-le e.less (drop e.place (flats_as cube dims words)) (omega (arith, l, table-old.many, length-drop e.place (flats_as cube dims words)))

  pub long-back : length (back_of cube dims words e) ≡ n - (e.place + e.less)
  long-back = length-drop (e.place + e.less) (flats_as cube dims words) ∙ ap (λ t. t - (e.place + e.less)) table-old.many

  pub length-new : length (edited_as cube dims words e) ≡ count_edited (first_in words).entries e
  length-new =
      let front : List Flat = front_of cube dims words e in
      let new : List Flat = new_of dims e in
      let back : List Flat = back_of cube dims words e in
      ap length parts-new ∙ length-append front (new ++ back) ∙ ap (λ t. length front + t) (length-append new back)
      ∙ sum (length front) (length new) (length back) e.place e.more (n - (e.place + e.less)) long-front
      (length-replicate e.more (new_flat dims e.entry e.value)) long-back
    where
      sum : (a b c p m k : ℕ) → a ≡ p → b ≡ m → c ≡ k → a + (b + c) ≡ p + m + k
      sum a b c p m k x y z = omega (arith, x, y, z)

  -- ---- the values

  pub values-edited : values (edited_as cube dims words e) ≡
      take (points_in (take e.place (entries_as cube dims words))) (values_as cube dims words) ++
      (new_values e ++ drop (points_in (take (e.place + e.less) (entries_as cube dims words))) (values_as cube dims words))
  values-edited =
      let front : List Flat = front_of cube dims words e in
      let new : List Flat = new_of dims e in
      let back : List Flat = back_of cube dims words e in
      ap values parts-new ∙ values-append front (new ++ back) ∙ ap (λ t. values front ++ t) (values-append new back)
      ∙ ap (λ t. values front ++ (t ++ values back)) (values-new e.entry.child dims e.entry.addr e.entry.body e.value e.more)
      ∙ ap (λ t. t ++ (new_values e ++ values back)) (values-front (entries_as cube dims words) (values_as cube dims words) e.place table-old.points)
      ∙ ap (λ t. take (points_in (take e.place (entries_as cube dims words))) (values_as cube dims words) ++
      (new_values e ++ t)) (values-back (entries_as cube dims words) (values_as cube dims words)
      (e.place + e.less) table-old.points)

  pub points-within : (i : ℕ) → points_in (take i (entries_as cube dims words)) ≤ length (values_as cube dims words)
  points-within i = omega (arith, points-low (entries_as cube dims words) i, table-old.points)

  -- the same with words and numbers that were worked out
  pub values-put : (all : List ℕ) (front behind : ℕ) → all ≡ values_as cube dims words →
      front ≡ points_in (take e.place (entries_as cube dims words)) →
      behind ≡ points_in (take (e.place + e.less) (entries_as cube dims words))
      → take front all ++ (new_values e ++ drop behind all) ≡ values (edited_as cube dims words e)
  values-put all front behind p q k =
      ap (λ t. take front t ++ (new_values e ++ drop behind t)) p
      ∙ ap (λ t. take t (values_as cube dims words) ++ (new_values e ++ drop behind (values_as cube dims words))) q
      ∙ ap (λ t. take (points_in (take e.place (entries_as cube dims words))) (values_as cube dims words) ++ (new_values e ++ drop t (values_as cube dims words))) k
      ∙ sym values-edited
