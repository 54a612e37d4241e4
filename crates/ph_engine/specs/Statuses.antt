-- What a status says.
use Rattle.std.specs.Prelude.{◌≤◌, ◌≡◌, ◌⊎◌, ℕ, List, length, Bool, if◌then◌else◌, Option, Some, None}
use Rattle.ph_engine.specs.declared.status.Status.{Status}
use Rattle.ph_engine.specs.declared.status.Status.TheVariants.{Clean, Refused, Usage, ReadFault, WriteFault, Memory}
use Rattle.ph_commands.specs.declared.answer.Stop.{Stop}
use Rattle.ph_commands.specs.declared.answer.Stop.TheVariants as stop
use Rattle.ph_io.specs.Causes.{Rose}

-- the script was read to its end
abbrev pub IsRead : Status → Type 0
IsRead status = (status ≡ Clean) ⊎ (status ≡ Refused)

abbrev pub read_status : Bool → Status
read_status refused = if refused then Refused else Clean

abbrev pub stop_status : Stop → Status
stop_status stop.WriteFault = WriteFault
stop_status stop.NoMemory = Memory

-- the same by a status
pub record HasWriteCause (before now : ℕ) (status : Status) : Type 0 where
  pub later : before ≤ now
  pub write : status ≡ WriteFault → Rose before now

-- no count falls, a fault is answered only where its count rose, and a run never answers that it is none
pub record HasCauses (reads now_reads writes now_writes : ℕ) (status : Status) : Type 0 where
  pub later_reads : reads ≤ now_reads
  pub later_writes : writes ≤ now_writes
  pub read : status ≡ ReadFault → Rose reads now_reads
  pub write : status ≡ WriteFault → Rose writes now_writes
  pub is_run : status ≡ Usage → ⊥

-- a source is known to have at most so many bytes
abbrev pub HasAtMost : ℕ → Option (List ℕ) → Type 0
HasAtMost most None = ⊥
HasAtMost most (Some bytes) = length bytes ≤ most
