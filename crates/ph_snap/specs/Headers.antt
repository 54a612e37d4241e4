-- The header of a snapshot of either version, and its tests.
use Rattle.std.specs.Prelude.{◌≡◌, ◌<◌, ◌≤◌, ⊤, ℕ, List, [], ◌∷◌, length, ◌==◌, Bool, true, false, if◌then◌else◌, slice_index, Option, Some, None}
use Rattle.ph_specs.specs.declared.Kind.{Kind}
use Rattle.ph_specs.specs.Load.{Fault, bad_header, first_failed, has_magic, has_byte, is_flag, is_width, dims_fit, named_width, load_fault}
use Rattle.ph_specs.specs.SavedTable.{root_flag}
use Rattle.ph_specs.specs.Snapshot.{kind_byte}
use Rattle.ph_snap.specs.Faults.{fault_of}
use Rattle.ph_snap.specs.declared.fault.LoadFault.{LoadFault}
use Rattle.ph_snap.specs.declared.fault.LoadFault.TheVariants as fault
use Rattle.ph_snap.specs.declared.header.Header.{Header}

-- the most dimensions that a version has
abbrev pub most_of : ℕ → ℕ
most_of version = if version == 1 then 8 else 16

-- the tests behind the first four bytes that ask for no kind, no number of dimensions and no width
abbrev pub own_tests : ℕ → List ℕ → List (Bool × Fault)
own_tests version bytes =
    (has_byte bytes 4 is_flag, bad_header 4)
    ∷ (has_byte bytes 5 (dims_fit (most_of version) (slice_index bytes 4)), bad_header 5)
    ∷ (has_byte bytes 6 (if version == 1 then is_flag else is_width), bad_header 6)
    ∷ (has_byte bytes 7 (if version == 1 then (λ b. b == 0) else is_flag), bad_header 7)
    ∷ []

abbrev pub flag_byte : Bool → ℕ
flag_byte true = 1
flag_byte false = 0

-- the first four bytes are those of this version, which is 1 or 2
pub record IsVersion (bytes : List ℕ) (version : ℕ) : Type 0 where
  pub some : 1 ≤ version
  pub few : version ≤ 2
  pub magic_is : has_magic version bytes ≡ true
  pub other : (version == 1) ≡ has_magic 1 bytes

-- the header passes these tests, and says this
pub record IsHeader (bytes : List ℕ) (h : Header) : Type 0 where
  pub long : 8 ≤ length bytes
  pub version_is : IsVersion bytes h.version
  pub passes : first_failed (own_tests h.version bytes) ≡ None
  pub kind_is : slice_index bytes 4 ≡ kind_byte h.kind
  pub dims_are : slice_index bytes 5 ≡ h.dims
  pub width_is : named_width bytes ≡ h.width
  pub root_is : root_flag bytes ≡ flag_byte h.root
  pub fits : dims_fit (most_of h.version) (kind_byte h.kind) h.dims ≡ true
  pub wide : is_width h.width ≡ true

-- the fault is one of those that a header has by itself
abbrev pub IsOfHeader : LoadFault → Type 0
IsOfHeader fault.Magic = ⊤
IsOfHeader (fault.Header at) = ⊤
IsOfHeader fault.Dims = ⊥
IsOfHeader (fault.Short at) = ⊥
IsOfHeader (fault.Node at) = ⊥
IsOfHeader (fault.Extra at) = ⊥
IsOfHeader fault.NoMemory = ⊥

-- the first fault of the header, whatever kind, dimensions and width are asked for
pub record IsHeaderFault (bytes : List ℕ) (e : LoadFault) : Type 0 where
  pub own : IsOfHeader e
  pub first : (kind : Kind) (dims width : ℕ) → load_fault kind dims width bytes ≡ fault_of e

-- a byte that passes a test, or none that does
abbrev pub Tested : List ℕ → ℕ → (ℕ → Bool) → Option ℕ → Type 0
Tested bytes at test None = has_byte bytes at test ≡ false
Tested bytes at test (Some b) = (has_byte bytes at test ≡ true) × (slice_index bytes at ≡ b) × (at < length bytes)
