-- The rooms that the places of a form need, and what stands in a table at a place.
use Rattle.std.proofs.Common.{◌≡◌, ℕ, zero, suc, ◌+◌, ◌<◌, ◌≤◌, List, [], ◌∷◌, ◌++◌, length, drop, map, get_or, refl, ap, sym, ◌∙◌, subst, arith}
use Rattle.std.specs.Prelude.{Bool, true, false, not, ◌==◌, bytes_eq, Option}
use Rattle.std.specs.Cmp.Lexicographic.{pointwise}
use Rattle.std.specs.List.{AllByRecursion, sum_by}
use Rattle.std.proofs.lemmas.List.{drop_more, drop_all}
use Rattle.std.proofs.lemmas.List.Sums.{sum_by-append}
use Rattle.std.proofs.lemmas.List.Folds.{sum_by-replicate}
use Rattle.ph_specs.specs.Command.{Place, Reading, coordinates, count, value, radius, fixed_fits, form, read_form}
use Rattle.ph_specs.specs.Command.Place.{Coordinate}
use Rattle.ph_script.specs.Fit.{IsRead}
use Rattle.ph_script.specs.Meaning.{bad_reply}
use Rattle.ph_script.specs.declared.command.Bad.{Bad}
use Rattle.ph_script.specs.declared.coords.Coord.{Coord}
use Rattle.ph_script.specs.declared.forms.Form.{Form}
use Rattle.ph_script.specs.declared.forms.Verb.{Verb}
use Rattle.ph_script.specs.declared.forms.Verb.TheVariants.{Open, OpenBits, OpenMax, OpenBitsMax, Put, Get, Del, Relocate, Count, Clear, Window}
use Rattle.ph_script.specs.declared.forms.Verb.TheVariants.{Cursor, Page, Near, Within, Overlap, Inside, Covers, Save, Load, Import}
use Rattle.ph_script.specs.declared.forms.Verb.TheVariants.{ImportHeader, Export, Stats, Select, Same, Join, Combine, Keep, Back}
use Rattle.ph_script.specs.Forms.{places_of, places_by, command_by, form_of, read_among, IsRow}
use Rattle.ph_script.specs.Parts.{coords_room, counts_room}

pub is-same : (b : Bool) → not b ≡ false → b ≡ true
is-same true h = refl
is-same false h = cc

pub is-other : (b : Bool) → not b ≡ true → b ≡ false
is-other true h = cc
is-other false h = refl

point-coords : (dims : ℕ) → sum_by coords_room (coordinates dims) ≡ dims
point-coords dims = omega (arith, sum_by-replicate coords_room dims Coordinate)

point-counts : (dims : ℕ) → sum_by counts_room (coordinates dims) ≡ 0
point-counts dims = omega (arith, sum_by-replicate counts_room dims Coordinate)

corner-coords : (dims : ℕ) → dims ≤ 16 → sum_by coords_room (coordinates dims ++ coordinates dims) ≤ 32
corner-coords dims h = omega (arith, point-coords dims, sum_by-append coords_room (coordinates dims) (coordinates dims))

corner-counts : (dims : ℕ) → sum_by counts_room (coordinates dims ++ coordinates dims) ≤ 3
corner-counts dims = omega (arith, point-counts dims, sum_by-append counts_room (coordinates dims) (coordinates dims))

few-coords : (verb : Verb) (dims : ℕ) → dims ≤ 16 → sum_by coords_room (places_by verb dims) ≤ 32
few-coords Open dims h = omega arith
few-coords OpenBits dims h = omega arith
few-coords OpenMax dims h = omega arith
few-coords OpenBitsMax dims h = omega arith
few-coords Put dims h = omega (arith, point-coords dims, sum_by-append coords_room (coordinates dims) (value ∷ []))
few-coords Get dims h = omega (arith, point-coords dims)
few-coords Del dims h = omega (arith, point-coords dims)
few-coords Relocate dims h = corner-coords dims h
few-coords Count dims h = omega arith
few-coords Clear dims h = omega arith
few-coords Window dims h = corner-coords dims h
few-coords Cursor dims h = omega (arith, corner-coords dims h)
few-coords Page dims h = omega arith
few-coords Near dims h = omega (arith, point-coords dims, sum_by-append coords_room (coordinates dims) (count ∷ []))
few-coords Within dims h = omega (arith, point-coords dims, sum_by-append coords_room (coordinates dims) (radius ∷ []))
few-coords Overlap dims h = omega (arith, point-coords dims)
few-coords Inside dims h = omega (arith, point-coords dims)
few-coords Covers dims h = omega (arith, point-coords dims)
few-coords Save dims h = omega arith
few-coords Load dims h = omega arith
few-coords Import dims h = omega arith
few-coords ImportHeader dims h = omega arith
few-coords Export dims h = omega arith
few-coords Stats dims h = omega arith
few-coords Select dims h = omega arith
few-coords Same dims h = omega arith
few-coords Join dims h = omega arith
few-coords (Combine operation) dims h = omega arith
few-coords Keep dims h = omega arith
few-coords Back dims h = omega arith

few-counts : (verb : Verb) (dims : ℕ) → sum_by counts_room (places_by verb dims) ≤ 3
few-counts Open dims = omega arith
few-counts OpenBits dims = omega arith
few-counts OpenMax dims = omega arith
few-counts OpenBitsMax dims = omega arith
few-counts Put dims = omega (arith, point-counts dims, sum_by-append counts_room (coordinates dims) (value ∷ []))
few-counts Get dims = omega (arith, point-counts dims)
few-counts Del dims = omega (arith, point-counts dims)
few-counts Relocate dims = corner-counts dims
few-counts Count dims = omega arith
few-counts Clear dims = omega arith
few-counts Window dims = corner-counts dims
few-counts Cursor dims = omega (arith, corner-counts dims)
few-counts Page dims = omega arith
few-counts Near dims = omega (arith, point-counts dims, sum_by-append counts_room (coordinates dims) (count ∷ []))
few-counts Within dims = omega (arith, point-counts dims, sum_by-append counts_room (coordinates dims) (radius ∷ []))
few-counts Overlap dims = omega (arith, point-counts dims)
few-counts Inside dims = omega (arith, point-counts dims)
few-counts Covers dims = omega (arith, point-counts dims)
few-counts Save dims = omega arith
few-counts Load dims = omega arith
few-counts Import dims = omega arith
few-counts ImportHeader dims = omega arith
few-counts Export dims = omega arith
few-counts Stats dims = omega arith
few-counts Select dims = omega arith
few-counts Same dims = omega arith
few-counts Join dims = omega arith
few-counts (Combine operation) dims = omega arith
few-counts Keep dims = omega arith
few-counts Back dims = omega arith

-- the form at a place among those that are left
module _ (fs : List Form) (i : ℕ) (d : Form) (i_in : i < length fs) (rows : AllByRecursion IsRow (drop i fs)) (dims : ℕ) where
  row-at : IsRow (get_or fs i d)
  row-at = (subst (AllByRecursion IsRow) (drop_more fs i d i_in) rows).0

  pub coords-at : dims ≤ 16 → sum_by coords_room (places_of dims (get_or fs i d).places.now) ≤ 32
  coords-at few = rw (row-at dims) (few-coords (get_or fs i d).verb dims few)

  pub counts-at : sum_by counts_room (places_of dims (get_or fs i d).places.now) ≤ 3
  counts-at = rw (row-at dims) (few-counts (get_or fs i d).verb dims)

  pub read-at : (places : List Place) (ws : List (List ℕ)) (cs : List Coord) (ns : List ℕ)
      (name file : Option (List ℕ)) (second : Bool) → places ≡ places_of dims (get_or fs i d).places.now →
      IsRead places ws cs ns name file second → IsRead (places_by (get_or fs i d).verb dims) ws cs ns name file second
  read-at places ws cs ns name file second e h = subst (λ ps. IsRead ps ws cs ns name file second) (e ∙ row-at dims) h

  pub form-at : (bad : Bad) (word : List ℕ) (ws : List (List ℕ)) (places : List Place) →
      bytes_eq (get_or fs i d).word.now word ≡ true → places ≡ places_of dims (get_or fs i d).places.now →
      (length places == length ws) ≡ true → pointwise fixed_fits places ws ≡ true →
      read_among bad word ws (map (form_of dims) (drop i fs)) ≡
      read_form (form word (places_by (get_or fs i d).verb dims) (command_by (get_or fs i d).verb dims)) ws
  unfolding read_among
  form-at bad word ws places is e sized own =
      let fits : (length (places_of dims (get_or fs i d).places.now) == length ws) ≡ true = rw e at sized in
      let owns : pointwise fixed_fits (places_of dims (get_or fs i d).places.now) ws ≡ true = rw e at own in
      ap (λ l. read_among bad word ws (map (form_of dims) l)) (drop_more fs i d i_in) ∙ rw (is, fits, owns) (rw (row-at dims) refl)

  -- one of another word
  pub form-other : (bad : Bad) (word : List ℕ) (ws : List (List ℕ)) → bytes_eq (get_or fs i d).word.now word ≡ false →
      read_among bad word ws (map (form_of dims) (drop i fs)) ≡ read_among bad word ws (map (form_of dims) (drop (i + 1) fs))
  unfolding read_among
  form-other bad word ws is = ap (λ l. read_among bad word ws (map (form_of dims) l)) (drop_more fs i d i_in) ∙ rw is refl

  pub forms-left : (bad : Bad) (word : List ℕ) (ws : List (List ℕ)) →
      read_among bad word ws (map (form_of dims) (drop i fs)) ≡
      read_among bad word ws (form_of dims (get_or fs i d) ∷ map (form_of dims) (drop (i + 1) fs))
  forms-left bad word ws = ap (λ l. read_among bad word ws (map (form_of dims) l)) (drop_more fs i d i_in)

-- the forms behind one are rows
pub rows-left : (fs : List Form) (i : ℕ) → AllByRecursion IsRow (drop i fs) → AllByRecursion IsRow (drop (i + 1) fs)
rows-left [] i h = subst (AllByRecursion IsRow) (sym (drop_all (i + 1) [] (omega arith))) tt
rows-left (f ∷ fs) zero h = h.1
rows-left (f ∷ fs) (suc i) h =
    let e : suc (i + 1) ≡ suc i + 1 = omega arith in
    subst (λ n. AllByRecursion IsRow (drop n (f ∷ fs))) e (rows-left fs i h)

-- no form is left
pub none-left : (fs : List Form) (i dims : ℕ) (bad : Bad) (word : List ℕ) (ws : List (List ℕ)) → length fs ≤ i →
    read_among bad word ws (map (form_of dims) (drop i fs)) ≡ Reading.Refused (bad_reply bad)
unfolding read_among
none-left fs i dims bad word ws h = ap (λ l. read_among bad word ws (map (form_of dims) l)) (drop_all i fs h)
