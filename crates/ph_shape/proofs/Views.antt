-- The entries of a node of code, and what it is seen as.
use Rattle.std.proofs.Common.{◌≡◌, ℕ, zero, suc, ◌<◌, List, [], ◌∷◌, map, length, arith, ap, sym, ◌∙◌, get_or, subst}
use Rattle.std.specs.Prelude.{Option, Some, slice_get}
use Rattle.std.proofs.lemmas.List.{length-map}
use Rattle.ph_specs.specs.Node.{PlainNode}
use Rattle.ph_model.specs.EntryList.{Entry, entries, node_of}
use Rattle.ph_model.proofs.laws.EntryLists.{listed-chained}
use Rattle.ph_shape.specs.Bodies.{IsFilled}
use Rattle.ph_shape.specs.View.{entry_of, AreFilled}
use Rattle.ph_shape.specs.declared.plain.EntryOf.{EntryOf}

get-map : {P : Type 0} (d : ℕ) (es : List (EntryOf P)) (i : ℕ) (x : EntryOf P) → i < length es → x ≡ get_or es i x →
    slice_get (map (entry_of d) es) i ≡ Some (entry_of d x)
get-map d [] i x l e = absurd (let no : ⊥ = omega (arith, l) in no)
get-map d (y ∷ es) zero x l e = ap {B = Option Entry} (λ t. Some (entry_of d t)) (sym e)
get-map d (y ∷ es) (suc i) x l e = get-map d es i x (omega (arith, l)) e

get-filled : {P : Type 0} (d : ℕ) (es : List (EntryOf P)) (i : ℕ) (x : EntryOf P) → AreFilled d es → i < length es → x ≡ get_or es i x → IsFilled d x.body
get-filled d [] i x h l e = absurd (let no : ⊥ = omega (arith, l) in no)
get-filled {P} d (y ∷ es) zero x h l e = subst (λ (t : EntryOf P). IsFilled d t.body) (sym e) h.0
get-filled d (y ∷ es) (suc i) x h l e = get-filled d es i x h.1 (omega (arith, l)) e

module _ {P : Type 0} (d level : ℕ) (es : List (EntryOf P)) (t : PlainNode) (is : node_of level (map (entry_of d) es) ≡ t) where
  pub entries_are : entries t ≡ map (entry_of d) es
  entries_are = ap {B = List Entry} (λ u. entries u) (sym is) ∙ listed-chained (map (entry_of d) es)

  pub length_is : length (entries t) ≡ length es
  length_is = ap (λ u. length u) entries_are ∙ length-map es (entry_of d)

  pub get_is : (i : ℕ) (x : EntryOf P) → i < length (entries t) → x ≡ get_or es i x → slice_get (entries t) i ≡ Some (entry_of d x)
  get_is i x l e =
      ap (λ u. slice_get u i) entries_are ∙ get-map d es i x (omega (arith, length_is, l)) e

  pub filled_is : (i : ℕ) (x : EntryOf P) → AreFilled d es → i < length (entries t) → x ≡ get_or es i x → IsFilled d x.body
  filled_is i x h l e = get-filled d es i x h (omega (arith, length_is, l)) e
