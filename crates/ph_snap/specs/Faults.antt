-- The faults of bytes, and the first fault of records, whatever stands behind them.
use Rattle.std.specs.Prelude.{◌≡◌, ℕ, List, ◌++◌, length, drop, Option, Some, None}
use Rattle.ph_specs.specs.declared.Kind.{Kind}
use Rattle.ph_specs.specs.Load.{Fault, bad_magic, bad_header, bad_dims, bad_short, bad_node, bad_extra, Place, records_fault}
use Rattle.ph_snap.specs.declared.fault.LoadFault.{LoadFault}
use Rattle.ph_snap.specs.declared.fault.LoadFault.TheVariants as fault

-- the definitions' fault; there is none for want of memory
abbrev pub fault_of : LoadFault → Option Fault
fault_of fault.Magic = Some bad_magic
fault_of (fault.Header at) = Some (bad_header at)
fault_of fault.Dims = Some bad_dims
fault_of (fault.Short at) = Some (bad_short at)
fault_of (fault.Node at) = Some (bad_node at)
fault_of (fault.Extra at) = Some (bad_extra at)
fault_of fault.NoMemory = None

-- the fault of some bytes is the one that is given, if one is
abbrev pub IsGiven : Option Fault → Option Fault → Type 0
IsGiven o None = Unit {0}
IsGiven o (Some f) = o ≡ Some f

-- the definitions' fault of some bytes is this one, or there was no memory
abbrev pub IsLoadFault : Option Fault → LoadFault → Type 0
IsLoadFault o e = IsGiven o (fault_of e)

-- the first fault of the records that are to stand at the places
abbrev pub faults : Kind → ℕ → ℕ → List Place → ℕ → List ℕ → Option Fault
faults kind width dims ps n bytes = records_fault (length bytes) kind width dims ps n bytes

-- records at these places have a fault, whatever places follow
abbrev pub HaveFault : Kind → ℕ → ℕ → List Place → ℕ → List ℕ → LoadFault → Type 0
HaveFault kind width dims ps n bytes f =
    (qs : List Place) → IsLoadFault (faults kind width dims (ps ++ qs) n (drop n bytes)) f

-- records at these places have none, up to a place of the bytes
abbrev pub HaveNone : Kind → ℕ → ℕ → List Place → ℕ → List ℕ → ℕ → Type 0
HaveNone kind width dims ps n bytes end =
    (qs : List Place) → faults kind width dims (ps ++ qs) n (drop n bytes) ≡ faults kind width dims qs end (drop end bytes)
