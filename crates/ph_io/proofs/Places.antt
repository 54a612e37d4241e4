-- Where a name stands among files, and what stands under it.
use Rattle.std.proofs.Common.{◌≡◌, ℕ, suc, ◌+◌, ◌<◌, true, false, List, [], ◌∷◌, ◌++◌, length, get_or, map, take, drop, Some}
use Rattle.std.proofs.Common.{refl, ap, sym, ◌∙◌, append_assoc, arith, add-one}
use Rattle.std.specs.Prelude.{Ok, Err}
use Rattle.std.proofs.Math.Seq.{drop-cons, take-suc}
use Rattle.std.proofs.lemmas.List.{get_or-map, length-map, set_split}
use Rattle.std.proofs.lemmas.Map.Lookups.{exact_bytes}
use Rattle.std.specs.Ordering.{nat_cmp, is_eq}
use Rattle.std.specs.Cmp.Lexicographic.{slice_cmp}
use Rattle.std.specs.declared.cmp.Ordering.TheVariants.{Less, Equal, Greater}
use Rattle.ph_specs.specs.Named.{lookup, enter}
use Rattle.ph_io.specs.Shelf.{Map, Draft}
use Rattle.ph_io.specs.Storing.{IsPlace, file_of}
use Rattle.ph_io.specs.declared.stored.Stored.{Stored}

-- the files before i stand before the name
abbrev pub IsPast : Map → List ℕ → ℕ → Type 0
IsPast files name i = (bytes : List ℕ) → enter name bytes files ≡ take i files ++ enter name bytes (drop i files)

-- e is the file in place i
pub record IsAt (files : Map) (i : ℕ) (e : Draft) : Type 0 where
  pub within : i < length files
  pub is : e ≡ get_or files i e

pub stored-at : (stored : List Stored) (i : ℕ) (s : Stored) → i < length stored → s ≡ get_or stored i s → IsAt (map file_of stored) i (file_of s)
stored-at stored i s h is = record {
  within = rw length-map h;
  is = ap file_of is ∙ sym (get_or-map file_of stored i s (file_of s) h);
}

split : {files : Map} {i : ℕ} {e : Draft} → IsAt files i e → drop i files ≡ e ∷ drop (suc i) files
split {files} {i} {e} there = drop-cons files i e there.within ∙ ap (λ x. x ∷ drop (suc i) files) (sym there.is)

take-next : {files : Map} {i : ℕ} {e : Draft} → IsAt files i e → take (suc i) files ≡ take i files ++ e ∷ []
take-next {files} {i} {e} there = take-suc files i e there.within ∙ ap (λ x. take i files ++ x ∷ []) (sym there.is)

pub place-less : {files : Map} {i : ℕ} {e : Draft} (name : List ℕ) → IsAt files i e →
    slice_cmp nat_cmp name e.0 ≡ Less → IsPast files name i → IsPlace files name (Err i)
place-less {files} {i} {e} name there less past = (
  omega arith,
  λ bytes.
      past bytes ∙ ap (λ t. take i files ++ t) (rw (split there, less) refl),
)

pub place-equal : {files : Map} {i : ℕ} {e : Draft} (name : List ℕ) → IsAt files i e →
    slice_cmp nat_cmp name e.0 ≡ Equal → IsPast files name i → IsPlace files name (Ok i)
place-equal {files} {i} {e} name there equal past = (
  there.within,
  λ bytes.
      past bytes ∙ ap (λ t. take i files ++ t) (rw (split there, equal, exact_bytes name e.0 equal) refl) ∙ sym (set_split files i (name, bytes) there.within),
)

pub place-greater : {files : Map} {i : ℕ} {e : Draft} (name : List ℕ) → IsAt files i e →
    slice_cmp nat_cmp name e.0 ≡ Greater → IsPast files name i → IsPast files name (i + 1)
place-greater {files} {i} {e} name there greater past bytes =
    rw (add-one, take-next there)
    (past bytes ∙ ap (λ t. take i files ++ enter name bytes t) (split there) ∙
    ap (λ t. take i files ++ t) (rw greater refl) ∙
    sym (append_assoc (take i files) (e ∷ []) (enter name bytes (drop (suc i) files))))

-- ---- what stands under a name

pub found : {files : Map} {i : ℕ} {e : Draft} (name : List ℕ) → IsAt files i e →
    is_eq (slice_cmp nat_cmp name e.0) ≡ true → lookup name files ≡ lookup name (drop i files) → Some e.1 ≡ lookup name files
found {files} {i} {e} name there same left = rw (left, split there, same) refl

pub not-found : {files : Map} {i : ℕ} {e : Draft} (name : List ℕ) → IsAt files i e →
    is_eq (slice_cmp nat_cmp name e.0) ≡ false → lookup name files ≡ lookup name (drop i files) →
    lookup name files ≡ lookup name (drop (i + 1) files)
not-found {files} {i} {e} name there other left = left ∙ rw (split there, other, add-one) refl
