-- The machine that answers the lines of a script, by the definition of a script's lines.
use Rattle.std.specs.Prelude.{ℕ, Bool, false, List, [], Option, Some, None}
use Rattle.ph_specs.specs.Command.{Reading, reading}
use Rattle.ph_specs.specs.Command.Reading.{Do}
use Rattle.ph_specs.specs.Reply.{replies_text}
use Rattle.ph_specs.specs.State.{Engine, Files, Outcome, current}
use Rattle.ph_specs.specs.Engine.{act, step, run}
use Rattle.ph_specs.specs.Named.{enter}
use Rattle.ph_slot.specs.Doing.{file_read, wants_memory, uses_files, cut_engine, starved_engine}
use Rattle.ph_engine.specs.Machine.{Machine, Turn}
use Rattle.ph_commands.specs.Working.{Work, no_work, work_of}

-- an engine, and the files beside it where they are known
pub record Whole : Type 0 where
  pub engine : Engine
  pub files : Option Files

abbrev pub whole : Engine → Option Files → Whole
whole e files = record { engine = e; files = files }

-- the files that are told, and none where none are told
abbrev pub told_files : Option Files → Files
told_files None = []
told_files (Some files) = files

-- what is known of files behind a line, where so much was known before
abbrev pub told_then : Option Files → Files → Option Files
told_then None files = None
told_then (Some told) files = Some files

-- the same by what is told of them
abbrev pub told_now : Option Files → Option Files → Option Files
told_now None now = None
told_now (Some told) now = now

-- files that have what was found under a name, and nothing else
abbrev pub files_found : Option (List ℕ) → Option (List ℕ) → Files
files_found (Some name) (Some bytes) = enter name bytes []
files_found (Some name) None = []
files_found None found = []

-- the files as a line meets them: those that are told, or else the one that it reads, as it was found
abbrev pub files_met : Option Files → Option (List ℕ) → Option (List ℕ) → Files
files_met (Some told) name found = told
files_met None name found = files_found name found

-- what a line is, the files that it meets, and what it does
abbrev pub reading_in : Whole → Turn → Reading
reading_in s t = reading (current s.engine).dims t.line

abbrev pub file_by : Reading → Option (List ℕ)
file_by (Do command) = file_read command
file_by _ = None

abbrev pub files_in : Whole → Turn → Files
files_in s t = files_met s.files (file_by (reading_in s t)) t.met.found

abbrev pub script_step : ℕ → Whole → Turn → Outcome
script_step most s t = step most s.engine (files_in s t) t.met.fault t.line

-- where a write of its answer failed, and where memory is missing
abbrev pub cut_by : ℕ → Whole → Files → Bool → Reading → Whole
cut_by most s files fault (Do command) = let o = act most s.engine files fault command in whole (cut_engine s.engine command o.engine) (told_then s.files o.files)
cut_by most s files fault _ = s

abbrev pub starved_by : Whole → Files → ℕ → Reading → Whole
starved_by s files part (Do command) = whole (starved_engine s.engine files command part) s.files
starved_by s files part _ = s

abbrev pub wants_by : ℕ → Whole → Files → Bool → Reading → Bool
wants_by most s files fault (Do command) = wants_memory most s.engine files fault command
wants_by most s files fault _ = false

abbrev pub uses_by : Reading → Bool
uses_by (Do command) = uses_files command
uses_by _ = false

abbrev pub work_by : ℕ → Whole → Files → Bool → Reading → Work
work_by most s files fault (Do command) = work_of most s.engine files fault command
work_by most s files fault _ = no_work

-- over files of at most so many bytes
abbrev pub script_machine : ℕ → Machine Whole
script_machine most = record {
  answer = λ s t. replies_text (script_step most s t).replies;
  next = λ s t. let o = script_step most s t in whole o.engine (told_then s.files o.files);
  cut = λ s t. cut_by most s (files_in s t) t.met.fault (reading_in s t);
  starved = λ s t part. starved_by s (files_in s t) part (reading_in s t);
  wants = λ s t. wants_by most s (files_in s t) t.met.fault (reading_in s t);
  uses = λ s t. uses_by (reading_in s t);
  work = λ s t. work_by most s (files_in s t) t.met.fault (reading_in s t);
}

-- what the lines of a script do, where the files are told and fail in these lines
abbrev pub script_run : ℕ → Whole → List Bool → List (List ℕ) → Outcome
script_run most s faults lines = run most s.engine (told_files s.files) faults lines
