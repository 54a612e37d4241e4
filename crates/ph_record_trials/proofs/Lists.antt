-- Lists of entries, entry by entry.
use Rattle.std.proofs.Common.{◌≡◌, ℕ, zero, suc, ◌<◌, ◌≤◌, refl, ◌∙◌, ap, arith, List, [], ◌∷◌, length, map, drop, Bool, true, false, not, slice_index_or}
use Rattle.std.specs.Prelude.{Option, Some, None, slice_get, if◌then◌else◌}
use Rattle.std.specs.Option.{option_map, is_some}
use Rattle.std.proofs.lemmas.Option.{slice_get-get_or, slice_get-map}
use Rattle.ph_specs.specs.Node.{Flat}
use Rattle.ph_specs.specs.Record.{read}
use Rattle.ph_model.specs.Layout.{read_kept, unvalued, AreRising}
use Rattle.ph_record_trials.specs.declared.items.Item.{Item}
use Rattle.ph_record_trials.specs.Listed.{flat_of, flats}

abbrev pub no_item : Item
no_item = record { addr = 0; fields = (0, 0); value = None }

pub length-flats : (dims : ℕ) (es : List Item) → length (flats dims es) ≡ length es
length-flats dims [] = refl
length-flats dims (e ∷ es) = ap suc (length-flats dims es)

flat-at : (dims : ℕ) (es : List Item) (i : ℕ) → i < length es → slice_get (flats dims es) i ≡ Some (flat_of dims (slice_index_or es i no_item))
flat-at dims es i l =
    slice_get-map (flat_of dims) es i ∙ ap (option_map (flat_of dims)) (slice_get-get_or es i no_item l)

pub read-at : (dims : ℕ) (es : List Item) (i : ℕ) → i < length es →
    slice_get (map unvalued (flats dims es)) i ≡ Some (unvalued (flat_of dims (slice_index_or es i no_item)))
read-at dims es i l = slice_get-map unvalued (flats dims es) i ∙ ap (option_map unvalued) (flat-at dims es i l)

abbrev value_in : Flat → Option ℕ
value_in f = f.value

pub value-at : (dims : ℕ) (es : List Item) (i : ℕ) → i < length es → slice_get (map (λ (f : Flat). f.value) (flats dims es)) i ≡ Some (slice_index_or es i no_item).value
value-at dims es i l = slice_get-map value_in (flats dims es) i ∙ ap (option_map value_in) (flat-at dims es i l)

abbrev mark : Bool → ℕ
mark t = if t then 1 else 0

pub kept : (w : Option ℕ) (t : Bool) (a : ℕ) (b : List ℕ) → is_some w ≡ not t → read_kept w a b ≡ read t a b
kept (Some v) false a b e = refl
kept (Some v) true a b e = absurd (let z : mark true ≡ mark false = ap mark e in omega (arith, z))
kept None true a b e = refl
kept None false a b e = absurd (let z : mark false ≡ mark true = ap mark e in omega (arith, z))

-- the value in an answer
abbrev pub out : Option (Option ℕ) → ℕ
out (Some (Some v)) = v
out (Some None) = 0
out None = 0

-- whether there is one
abbrev pub there : Option (Option ℕ) → ℕ
there (Some (Some v)) = 1
there (Some None) = 0
there None = 0

pub drop-end : (dims : ℕ) (es : List Item) (n : ℕ) → length es ≤ n → drop n (flats dims es) ≡ []
drop-end dims [] zero l = refl
drop-end dims [] (suc n) l = refl
drop-end dims (e ∷ es) zero l = absurd (omega (arith, l))
drop-end dims (e ∷ es) (suc n) l = drop-end dims es n (omega (arith, l))

pub drop-item : (dims : ℕ) (es : List Item) (i : ℕ) → i < length es → drop i (flats dims es) ≡ flat_of dims (slice_index_or es i no_item) ∷ drop (suc i) (flats dims es)
drop-item dims [] i l = absurd (omega (arith, l))
drop-item dims (e ∷ es) zero l = refl
drop-item dims (e ∷ es) (suc i) l = drop-item dims es i (omega (arith, l))

pub lower : (dims level least low : ℕ) (es : List Flat) → low ≤ least → AreRising dims level least es → AreRising dims level low es
lower dims level least low [] l h = tt
lower dims level least low (e ∷ es) l h = (omega (arith, l, h.0), h.1, h.2, h.3)
