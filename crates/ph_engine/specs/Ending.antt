-- How a call of the program ends, by what its words ask for.
use Rattle.std.specs.Prelude.{◌≡◌, ◌≤◌, ◌+◌, ◌⊎◌, ℕ, List, length, Option}
use Rattle.std.specs.Io.KnownBytes.{Consumes}
use Rattle.ph_io.specs.Causes.{Rose}
use Rattle.ph_io.specs.Giving.{Given, Taken}
use Rattle.ph_io.specs.Writing.{WritesFront}
use Rattle.ph_specs.specs.Program.{usage_line, Task, Run, Check, Soak}
use Rattle.ph_specs.specs.Program as asked
use Rattle.ph_engine.specs.ByDefinition.{RunsAsDefined}
use Rattle.ph_engine.specs.Checking.{CheckEnds}
use Rattle.ph_engine.specs.Seen.{Seen}
use Rattle.ph_engine.specs.Soaking.{SoakEnds}
use Rattle.ph_engine.specs.Serving.{ServesScript}
use Rattle.ph_engine.specs.Standing.{IsKnown, whole_of}
use Rattle.ph_engine.specs.Statuses.{IsRead, HasAtMost, HasWriteCause}
use Rattle.ph_slot.specs.declared.limits.Limits.{Limits}
use Rattle.ph_engine.specs.declared.status.Status.{Status}
use Rattle.ph_engine.specs.declared.status.Status.TheVariants.{Usage, ReadFault, WriteFault, Memory}

-- A run takes some bytes of the source, and no more than so many.
pub record TakesAtMost (most : ℕ) (left now_left : Option (List ℕ)) : Type 0 where
  pub bytes : List ℕ
  pub consumed : Consumes left now_left bytes
  pub within : length bytes ≤ most

-- A run of a script. It takes at most one byte more than a script may have, and ends in one of the ways of a run: over the files where they are told, and else over
-- what each line found in the one that it reads. One that is read to its end over files that are told is the run of the definition. A fault is answered only where its
-- count rose, and no count of faults falls. A script that is short enough, with no fault, is read to its end unless memory is missing.
pub record RunEnds (limits : Limits) (before now : Seen) (status : Status) : Type 0 where
  pub outcome : ServesScript limits.file_bytes limits.script_bytes before.left before.at now.left now.at status
  pub taken : TakesAtMost (limits.script_bytes + 1) before.left now.left
  pub defined : IsKnown before.at → IsRead status
      → RunsAsDefined limits.file_bytes before.left now.left before.at.beside now.at.beside (whole_of before.at) (whole_of now.at)
  pub read_cause : status ≡ ReadFault → Rose before.reads now.reads
  pub write_cause : status ≡ WriteFault → Rose before.writes now.writes
  pub is_run : status ≡ Usage → ⊥
  pub reads : before.reads ≤ now.reads
  pub writes : before.writes ≤ now.writes
  pub filings : before.at.beside.filings ≤ now.at.beside.filings
  pub complete : (Rose before.reads now.reads → ⊥) → (Rose before.writes now.writes → ⊥) → HasAtMost limits.script_bytes before.left → IsRead status ⊎ (status ≡ Memory)

-- what is seen after no more than bytes were given to the sink
abbrev pub after_writes : Seen → Seen → Seen
after_writes before now =
    record before { writes = now.writes; at = record (before.at) { beside = record (before.at.beside) { sink = now.at.beside.sink } } }

-- the usage line was given to a sink, or a front of it
pub record TellsUsage (sink now_sink : Taken) (status : Status) : Type 0 where
  pub ends : (status ≡ Usage) ⊎ (status ≡ WriteFault)
  pub told : status ≡ Usage → Given sink now_sink usage_line
  pub cut : status ≡ WriteFault → WritesFront sink now_sink usage_line

-- The usage line. Nothing but the sink is touched.
pub record UsageEnds (before now : Seen) (status : Status) : Type 0 where
  pub line : TellsUsage before.at.beside.sink now.at.beside.sink status
  pub cause : HasWriteCause before.writes now.writes status
  pub untouched : now ≡ after_writes before now

-- What a call leaves, by what its words ask for.
abbrev pub TopEnds : Limits → Task → Seen → Seen → Status → Type 0
TopEnds limits Run before now status = RunEnds limits before now status
TopEnds limits (Check file) before now status = CheckEnds limits.file_bytes file before now status
TopEnds limits (Soak n start) before now status = SoakEnds limits.file_bytes n start before now status
TopEnds limits asked.Usage before now status = UsageEnds before now status
