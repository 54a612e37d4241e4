-- Entries by their parts, and the places of their children.
use Rattle.std.proofs.Common.{◌≡◌, ℕ, zero, suc, ◌+◌, refl, sym, ◌∙◌, ap, arith, List, [], ◌∷◌, ◌++◌, take, drop, length, ◌≤◌, Bool, true, append_assoc}
use Rattle.std.specs.Prelude.{Option, Some, None, slice_get}
use Rattle.std.specs.List.{list_all}
use Rattle.std.specs.Prelude.{◌&&◌}
use Rattle.std.proofs.lemmas.List.{take-append-drop}
use Rattle.ph_specs.specs.TreeRows.{put_together}
use Rattle.ph_specs.specs.Load.{Place, under, places_under}
use Rattle.ph_specs.specs.Record.{Read, read_point, read_child, read, first_in, entries_in}
use Rattle.ph_bits.specs.Fields.{digits_row}
use Rattle.ph_snap.specs.Frames.{IsEntry}
use Rattle.ph_snap.specs.declared.entries.Entry.{Entry}

pub drop-get : {X : Type 0} (xs : List X) (i : ℕ) (x : X) → slice_get xs i ≡ Some x → drop i xs ≡ x ∷ drop (i + 1) xs
drop-get {X} [] i x e = absurd (let h : ◌≡◌ {A = Option X} None (Some x) = e in cc)
drop-get {X} (y ∷ xs) zero x e = let h : y ≡ x = (let k : Some y ≡ Some x = e in cc) in ap (λ t. t ∷ xs) h
drop-get {X} (y ∷ xs) (suc i) x e = let a : suc i + 1 ≡ suc (i + 1) = omega arith in drop-get xs i x e ∙ ap (λ n. x ∷ drop n (y ∷ xs)) (sym a)

pub take-get : {X : Type 0} (xs : List X) (i : ℕ) (x : X) → slice_get xs i ≡ Some x → take (i + 1) xs ≡ take i xs ++ x ∷ []
take-get {X} [] i x e = absurd (let h : ◌≡◌ {A = Option X} None (Some x) = e in cc)
take-get {X} (y ∷ xs) zero x e = let h : y ≡ x = (let k : Some y ≡ Some x = e in cc) in ap (λ t. t ∷ []) h
take-get {X} (y ∷ xs) (suc i) x e =
    let a : suc i + 1 ≡ suc (i + 1) = omega arith in
    ap (λ n. take n (y ∷ xs)) a ∙ ap (λ t. y ∷ t) (take-get xs i x e)

pub all-next : {X : Type 0} (p : X → Bool) (xs : List X) (i : ℕ) (x : X) → slice_get xs i ≡ Some x → list_all p (drop i xs) ≡ (p x && list_all p (drop (i + 1) xs))
all-next p xs i x e = ap (list_all p) (drop-get xs i x e)

module _ (level : ℕ) (above : List ℕ) where
  pub under-append : (xs ys : List Read) → places_under level above (xs ++ ys) ≡ places_under level above xs ++ places_under level above ys
  under-append [] ys = refl
  under-append (read_point a b ∷ xs) ys = under-append xs ys
  under-append (read_child a b ∷ xs) ys =
      ap {B = List Place} (λ t. under level (put_together level a above b) ∷ t) (under-append xs ys)

  under-more : (es : List Read) (i : ℕ) (r : Read) → slice_get es i ≡ Some r →
      places_under level above (take (i + 1) es) ≡ places_under level above (take i es) ++ places_under level above (r ∷ [])
  under-more es i r e =
      ap (places_under level above) (take-get es i r e) ∙ under-append (take i es) (r ∷ [])

  -- the places in front of one and behind it
  pub under-split : (es : List Read) (i : ℕ) (q : Place) →
      places_under level above (take (i + 1) es) ≡ places_under level above (take i es) ++ q ∷ [] →
      places_under level above es ≡ places_under level above (take i es) ++ q ∷ places_under level above (drop (i + 1) es)
  under-split es i q e =
      let front : List Place = places_under level above (take i es) in
      let back : List Place = places_under level above (drop (i + 1) es) in
      ap (places_under level above) (sym (take-append-drop (i + 1) es))
      ∙ under-append (take (i + 1) es) (drop (i + 1) es)
      ∙ ap (λ t. t ++ back) e
      ∙ append_assoc front (q ∷ []) back

-- one more entry, as the code reads it
pub under-entry : {dims i : ℕ} {words : List ℕ} {e : Entry} {t : Bool} (above : List ℕ) → IsEntry dims words i e → e.child ≡ t →
    places_under (first_in words).level above (take (i + 1) (entries_in dims words)) ≡
    places_under (first_in words).level above (take i (entries_in dims words)) ++
    places_under (first_in words).level above (read t e.addr (digits_row words e.body (first_in words).level dims) ∷ [])
under-entry {dims} {i} {words} {e} above h is =
    let level : ℕ = (first_in words).level in
    let row : List ℕ = digits_row words e.body level dims in
    let es : List Read = entries_in dims words in
    under-more level above es i (read e.child e.addr row) h.read_is
    ∙ ap (λ t. places_under level above (take i es) ++ places_under level above (read t e.addr row ∷ [])) is

-- nothing is left
pub drop-all : {X : Type 0} (p : X → Bool) (xs : List X) (i : ℕ) → length xs ≤ i → list_all p (drop i xs) ≡ true
drop-all p [] zero l = refl
drop-all p [] (suc i) l = refl
drop-all p (x ∷ xs) zero l = absurd (omega arith)
drop-all p (x ∷ xs) (suc i) l = drop-all p xs i (omega arith)
