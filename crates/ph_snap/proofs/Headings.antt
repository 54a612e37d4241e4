-- What a header says of the first fault of the bytes.
use Rattle.std.proofs.Common.{◌≡◌, ◌≤◌, ◌⊎◌, inl, inr, ℕ, zero, suc, List, [], ◌∷◌, ◌++◌, refl, ap, sym, ◌∙◌, subst, arith}
use Rattle.std.proofs.Common.{Bool, true, false, eq-eqb, eqb-true, leb-true, ◌%◌}
use Rattle.std.specs.Prelude.{Option, Some, None, ◌==◌, ◌&&◌, ◌||◌, nat_le, if◌then◌else◌, slice_index}
use Rattle.ph_specs.specs.declared.Kind.{Kind}
use Rattle.ph_specs.specs.declared.Kind.TheVariants.{Points, Boxes}
use Rattle.ph_specs.specs.Load.{Fault, bad_magic, bad_header, bad_dims, first_failed, header_tests_1, header_tests}
use Rattle.ph_specs.specs.Load.{has_magic, has_byte, is_flag, is_width, dims_fit, body_fault, load_fault}
use Rattle.ph_specs.specs.SavedTable.{root_flag}
use Rattle.ph_specs.specs.Snapshot.{kind_byte}
use Rattle.ph_specs.proofs.lemmas.Tests.{and-made, and-parts}
use Rattle.ph_model.proofs.laws.Loads.{width-fits}
use Rattle.ph_snap.specs.Faults.{IsLoadFault}
use Rattle.ph_snap.specs.Headers.{most_of, own_tests, flag_byte, IsVersion, IsHeader, IsHeaderFault}
use Rattle.ph_snap.specs.declared.fault.LoadFault.{LoadFault}
use Rattle.ph_snap.specs.declared.fault.LoadFault.TheVariants as fault
use Rattle.ph_snap.specs.declared.header.Header.{Header}

abbrev or_else : Option Fault → Option Fault → Option Fault
or_else (Some f) later = Some f
or_else None later = later

five-tests : (a b c d g : Bool) (fa fb fc fd fg : Fault) →
    first_failed ((a, fa) ∷ (b, fb) ∷ (c, fc) ∷ (d, fd) ∷ (g, fg) ∷ []) ≡
    or_else (first_failed ((a, fa) ∷ (b, fb) ∷ (c, fc) ∷ (d, fd) ∷ [])) (first_failed ((g, fg) ∷ []))
five-tests false b c d g fa fb fc fd fg = refl
five-tests true false c d g fa fb fc fd fg = refl
five-tests true true false d g fa fb fc fd fg = refl
five-tests true true true false g fa fb fc fd fg = refl
five-tests true true true true g fa fb fc fd fg = refl

-- whether the bytes say what is asked for
abbrev is_asked : ℕ → Kind → (dims width : ℕ) → List ℕ → Bool
is_asked version kind dims width bytes =
    (slice_index bytes 4 == kind_byte kind) && (slice_index bytes 5 == dims) && (if version == 1 then (width == 32) else (slice_index bytes 6 == width))

versions : (v : ℕ) → 1 ≤ v → v ≤ 2 → (v ≡ 1) ⊎ (v ≡ 2)
versions zero p q = absurd (omega (arith, p))
versions (suc zero) p q = inl refl
versions (suc (suc zero)) p q = inr refl
versions (suc (suc (suc v))) p q = absurd (omega (arith, q))

settled : (a b c : Option Fault) → elim (or_else a b) as (λ x. Option Fault) [ Some f ↦ Some f | None ↦ c ] ≡ or_else a (or_else b c)
settled (Some f) b c = refl
settled None (Some f) c = refl
settled None None c = refl

module _ (bytes : List ℕ) (kind : Kind) (dims width : ℕ) where
  -- the first fault by the header's own tests, by what is asked for, and by what stands behind
  abbrev in_turn : ℕ → Option Fault
  in_turn v =
      or_else (first_failed (own_tests v bytes))
      (or_else (first_failed ((is_asked v kind dims width bytes, bad_dims) ∷ []))
      (body_fault kind width dims (root_flag bytes) bytes))

  -- the fault behind a header whose flag is this
  abbrev rest : ℕ → Option Fault
  rest flag = body_fault kind width dims flag bytes

  abbrev headed : Option Fault → ℕ → Option Fault
  headed first flag = elim first as (λ x. Option Fault) [ Some f ↦ Some f | None ↦ rest flag ]

  -- the tests of a version, whose first four bytes are right
  tested : (v flag : ℕ) → has_magic v bytes ≡ true →
      headed (first_failed ((has_magic v bytes, bad_magic) ∷ own_tests v bytes ++ (is_asked v kind dims width bytes, bad_dims) ∷ [])) flag ≡
      or_else (first_failed (own_tests v bytes)) (or_else (first_failed ((is_asked v kind dims width bytes, bad_dims) ∷ [])) (rest flag))
  tested v flag m =
      ap (λ b. headed (first_failed ((b, bad_magic) ∷ own_tests v bytes ++ (is_asked v kind dims width bytes, bad_dims) ∷ [])) flag) m
      ∙ ap (λ t. headed t flag)
      (five-tests (has_byte bytes 4 is_flag) (has_byte bytes 5 (dims_fit (most_of v) (slice_index bytes 4)))
      (has_byte bytes 6 (if v == 1 then is_flag else is_width)) (has_byte bytes 7 (if v == 1 then (λ b. b == 0) else is_flag))
      (is_asked v kind dims width bytes) (bad_header 4) (bad_header 5) (bad_header 6) (bad_header 7) bad_dims)
      ∙ settled (first_failed (own_tests v bytes)) (first_failed ((is_asked v kind dims width bytes, bad_dims) ∷ [])) (rest flag)

  -- by whether they are those of the first version
  picked : {b : Bool} → has_magic 1 bytes ≡ b → load_fault kind dims width bytes ≡ elim b as (λ x. Option Fault) [
    | true ↦ headed (first_failed (header_tests_1 kind dims width bytes)) (slice_index bytes 6)
    | false ↦ headed (first_failed (header_tests kind dims width bytes)) (slice_index bytes 7)
  ]
  picked e =
      ap (λ b. elim b as (λ x. Option Fault) [
        | true ↦ headed (first_failed (header_tests_1 kind dims width bytes)) (slice_index bytes 6)
        | false ↦ headed (first_failed (header_tests kind dims width bytes)) (slice_index bytes 7)
      ]) e

  flagged : (v : ℕ) {b : Bool} → has_magic 1 bytes ≡ b →
      or_else (first_failed (own_tests v bytes)) (or_else (first_failed ((is_asked v kind dims width bytes, bad_dims) ∷ []))
      (rest (if b then slice_index bytes 6 else slice_index bytes 7))) ≡ in_turn v
  flagged v e =
      ap (λ b. or_else (first_failed (own_tests v bytes)) (or_else (first_failed ((is_asked v kind dims width bytes, bad_dims) ∷ []))
      (rest (if b then slice_index bytes 6 else slice_index bytes 7)))) (sym e)

  first-version : has_magic 1 bytes ≡ true → load_fault kind dims width bytes ≡ in_turn 1
  first-version m = picked m ∙ tested 1 (slice_index bytes 6) m ∙ flagged 1 m

  second-version : has_magic 1 bytes ≡ false → has_magic 2 bytes ≡ true → load_fault kind dims width bytes ≡ in_turn 2
  second-version n m = picked n ∙ tested 2 (slice_index bytes 7) m ∙ flagged 2 n

  by-version : (v : ℕ) → IsVersion bytes v → load_fault kind dims width bytes ≡ in_turn v
  by-version v h = elim (versions v h.some h.few) [
    | inl e ↦ subst (λ n. load_fault kind dims width bytes ≡ in_turn n) (sym e) (first-version (sym h.other ∙ ap (λ n. n == 1) e))
    | inr e ↦ subst (λ n. load_fault kind dims width bytes ≡ in_turn n) (sym e)
        (second-version (sym h.other ∙ ap (λ n. n == 1) e) (ap (λ n. has_magic n bytes) (sym e) ∙ h.magic_is))
  ]

-- ---- the fault of a header

pub given-fault : (bytes : List ℕ) (e : LoadFault) (kind : Kind) (dims width : ℕ) → IsHeaderFault bytes e → IsLoadFault (load_fault kind dims width bytes) e
given-fault bytes fault.Magic kind dims width h = h.first kind dims width
given-fault bytes (fault.Header at) kind dims width h = h.first kind dims width
given-fault bytes fault.Dims kind dims width h = absurd h.own
given-fault bytes (fault.Short at) kind dims width h = absurd h.own
given-fault bytes (fault.Node at) kind dims width h = absurd h.own
given-fault bytes (fault.Extra at) kind dims width h = absurd h.own
given-fault bytes fault.NoMemory kind dims width h = absurd h.own

-- ---- a header without one

kind-one : (k m : Kind) → kind_byte k ≡ kind_byte m → k ≡ m
kind-one Points Points e = refl
kind-one Points Boxes e = absurd (omega (arith, e))
kind-one Boxes Points e = absurd (omega (arith, e))
kind-one Boxes Boxes e = refl

width-asked : (first : Bool) (six w width : ℕ) → (if first then 32 else six) ≡ w → w ≡ width → (if first then (width == 32) else (six == width)) ≡ true
width-asked true six w width e k = eq-eqb width 32 (sym (e ∙ k))
width-asked false six w width e k = eq-eqb six width (e ∙ k)

width-found : (first : Bool) (six w width : ℕ) → (if first then 32 else six) ≡ w → (if first then (width == 32) else (six == width)) ≡ true → w ≡ width
width-found true six w width e k = sym e ∙ sym (eqb-true width 32 k)
width-found false six w width e k = sym e ∙ eqb-true six width k

module _ (bytes : List ℕ) (h : Header) (k : IsHeader bytes h) where
  pub header-dims : (1 ≤ h.dims) × (h.dims ≤ 16)
  header-dims =
      let a : ((nat_le 1 h.dims && nat_le h.dims (most_of h.version)) ≡ true) ×
      (((kind_byte h.kind == 0) || (h.dims % 2 == 0)) ≡ true) =
      and-parts (nat_le 1 h.dims && nat_le h.dims (most_of h.version)) _ k.fits in
      let b : (nat_le 1 h.dims ≡ true) × (nat_le h.dims (most_of h.version) ≡ true) = and-parts (nat_le 1 h.dims) _ a.0 in
      (leb-true 1 h.dims b.0, few (h.version == 1) (leb-true h.dims (most_of h.version) b.1))
    where
      few : (first : Bool) → h.dims ≤ (if first then 8 else 16) → h.dims ≤ 16
      few true l = omega (arith, l)
      few false l = l

  pub header-width : (1 ≤ h.width) × (h.width ≤ 62)
  header-width = width-fits h.width k.wide

  module _ (kind : Kind) (dims width : ℕ) where
    wide : (if h.version == 1 then 32 else slice_index bytes 6) ≡ h.width
    wide = ap (λ b. if b then 32 else slice_index bytes 6) k.version_is.other ∙ k.width_is

    behind : load_fault kind dims width bytes ≡
        or_else (first_failed ((is_asked h.version kind dims width bytes, bad_dims) ∷ []))
        (body_fault kind width dims (root_flag bytes) bytes)
    behind =
        by-version bytes kind dims width h.version k.version_is
        ∙ ap (λ t. or_else t (or_else (first_failed ((is_asked h.version kind dims width bytes, bad_dims) ∷ []))
        (body_fault kind width dims (root_flag bytes) bytes))) k.passes

    -- what is asked for is what it says
    pub asked-fault : h.kind ≡ kind → h.dims ≡ dims → h.width ≡ width → load_fault kind dims width bytes ≡ body_fault kind width dims (flag_byte h.root) bytes
    asked-fault e f g =
        let all : is_asked h.version kind dims width bytes ≡ true =
        and-made _ _ (and-made _ _ (eq-eqb (slice_index bytes 4) (kind_byte kind) (k.kind_is ∙ ap kind_byte e))
        (eq-eqb (slice_index bytes 5) dims (k.dims_are ∙ f)))
        (width-asked (h.version == 1) (slice_index bytes 6) h.width width wide g) in
        behind
        ∙ ap (λ b. or_else (first_failed ((b, bad_dims) ∷ [])) (body_fault kind width dims (root_flag bytes) bytes)) all
        ∙ ap (λ n. body_fault kind width dims n bytes) k.root_is

    -- something else is asked for
    pub other-fault : (h.kind ≡ kind → h.dims ≡ dims → h.width ≡ width → ⊥) → load_fault kind dims width bytes ≡ Some bad_dims
    other-fault n = behind ∙ refused (is_asked h.version kind dims width bytes) refl
      where
        refused : (b : Bool) → is_asked h.version kind dims width bytes ≡ b →
            or_else (first_failed ((b, bad_dims) ∷ [])) (body_fault kind width dims (root_flag bytes) bytes) ≡ Some bad_dims
        refused false e = refl
        refused true e =
            let a : (((slice_index bytes 4 == kind_byte kind) && (slice_index bytes 5 == dims)) ≡ true) ×
            ((if h.version == 1 then (width == 32) else (slice_index bytes 6 == width)) ≡ true) =
            and-parts ((slice_index bytes 4 == kind_byte kind) && (slice_index bytes 5 == dims)) _ e in
            let b : ((slice_index bytes 4 == kind_byte kind) ≡ true) × ((slice_index bytes 5 == dims) ≡ true) =
            and-parts (slice_index bytes 4 == kind_byte kind) (slice_index bytes 5 == dims) a.0 in
            absurd (n (kind-one h.kind kind (sym k.kind_is ∙ eqb-true (slice_index bytes 4) (kind_byte kind) b.0))
            (sym k.dims_are ∙ eqb-true (slice_index bytes 5) dims b.1)
            (width-found (h.version == 1) (slice_index bytes 6) h.width width wide a.1))
