-- How a call of the program ends.
use Rattle.std.proofs.Common.{◌≡◌, ◌≤◌, ◌+◌, ℕ, inl, inr, arith, List, [], length, refl, subst}
use Rattle.std.specs.Prelude.{◌⊎◌, Some, None}
use Rattle.std.specs.declared.option.Option.{Option}
use Rattle.std.specs.Io.KnownBytes.{Consumes}
use Rattle.std.proofs.lemmas.Grind.{common_steps}
use Rattle.ph_io.specs.Causes.{Rose}
use Rattle.ph_specs.specs.Program.{Task, Run}
use Rattle.ph_io.specs.Shelf.{Stays}
use Rattle.ph_specs.specs.State.{Engine, Files}
use Rattle.ph_slot.specs.Beside.{Beside, AreTold}
use Rattle.ph_engine.specs.ByDefinition.{RunsAsDefined}
use Rattle.ph_engine.specs.ScriptMachine.{whole, told_now, script_machine}
use Rattle.ph_engine.specs.Ending.{RunEnds, TakesAtMost, TopEnds}
use Rattle.ph_engine.specs.Outcomes.{Outcome}
use Rattle.ph_engine.specs.Statuses.{IsRead, HasAtMost, HasCauses}
use Rattle.ph_engine.specs.declared.status.Status.{Status}
use Rattle.ph_engine.specs.declared.status.Status.TheVariants.{Clean, Refused, Usage, ReadFault, WriteFault, Memory, TooLong}
use Rattle.ph_slot.specs.declared.limits.Limits.{Limits}
use Rattle.ph_engine.specs.Machine.{Machine}
use Rattle.ph_engine.specs.Seen.{Seen}
use Rattle.ph_engine.specs.Serving.{StaysKnown, ServesScript}
use Rattle.ph_engine.proofs.Defined.{outcome-defined}

-- a source that has few bytes gives few
few_taken : (left now_left : Option (List ℕ)) (bytes : List ℕ) (most : ℕ) → Consumes left now_left bytes → HasAtMost most left → length bytes ≤ most
few_taken None now_left bytes most c h = absurd h
few_taken (Some xs) None bytes most c h = absurd c
few_taken (Some xs) (Some ys) bytes most c h = grind (arith, common_steps)

pub complete : {S : Type 0} (m : Machine S) (most : ℕ) (left now_left : Option (List ℕ)) (b now_b : Beside)
    (s now : S) (reads now_reads writes now_writes : ℕ) (status : Status) →
    Outcome m most left now_left b now_b s now status → HasCauses reads now_reads writes now_writes status →
    (Rose reads now_reads → ⊥) → (Rose writes now_writes → ⊥) → HasAtMost most left → IsRead status ⊎ (status ≡ Memory)
complete m most left now_left b now_b s now reads now_reads writes now_writes Clean h c r w a = inl (inl refl)
complete m most left now_left b now_b s now reads now_reads writes now_writes Refused h c r w a = inl (inr refl)
complete m most left now_left b now_b s now reads now_reads writes now_writes Usage h c r w a = absurd h
complete m most left now_left b now_b s now reads now_reads writes now_writes ReadFault h c r w a = absurd (r (c.read refl))
complete m most left now_left b now_b s now reads now_reads writes now_writes WriteFault h c r w a = absurd (w (c.write refl))
complete m most left now_left b now_b s now reads now_reads writes now_writes Memory h c r w a = inr refl
complete m most left now_left b now_b s now reads now_reads writes now_writes TooLong h c r w a =
    absurd (omega (arith, h.over, few_taken left now_left h.bytes most h.consumed a))

-- whatever its status, a run takes at most one byte more than a script may have
taken-few : {S : Type 0} (m : Machine S) (most : ℕ) (left now_left : Option (List ℕ)) (b now_b : Beside) (s now : S)
    (status : Status) → Outcome m most left now_left b now_b s now status → TakesAtMost (most + 1) left now_left
taken-few m most left now_left b now_b s now Clean h = record { bytes = h.bytes; consumed = h.consumed; within = omega (arith, h.within) }
taken-few m most left now_left b now_b s now Refused h = record { bytes = h.bytes; consumed = h.consumed; within = omega (arith, h.within) }
taken-few m most left now_left b now_b s now Usage h = absurd h
taken-few m most left now_left b now_b s now ReadFault h = record { bytes = h.bytes; consumed = h.consumed; within = omega (arith, h.within) }
taken-few m most left now_left b now_b s now WriteFault h = record { bytes = h.at.bytes; consumed = h.at.consumed; within = h.at.within }
taken-few m most left now_left b now_b s now Memory (inl h) = record { bytes = []; consumed = h.consumed; within = omega arith }
taken-few m most left now_left b now_b s now Memory (inr h) = record { bytes = h.at.bytes; consumed = h.at.consumed; within = h.at.within }
taken-few m most left now_left b now_b s now TooLong h = record { bytes = h.bytes; consumed = h.consumed; within = omega (arith, h.over) }

-- over files that are told
told-defined : (file_bytes most : ℕ) (left now_left : Option (List ℕ)) (b now_b : Beside) (e now : Engine)
    (told now_told : Option Files) (status : Status) → AreTold told → IsRead status →
    ((known : Option Files) → Stays known told →
    StaysKnown known now_told × Outcome (script_machine file_bytes) most left now_left b now_b (whole e known)
    (whole now (told_now known now_told)) status) →
    RunsAsDefined file_bytes left now_left b now_b (whole e told) (whole now now_told)
told-defined file_bytes most left now_left b now_b e now None now_told status h read leads = absurd h
told-defined file_bytes most left now_left b now_b e now (Some files) now_told status h read leads =
    outcome-defined file_bytes most left now_left b now_b e (Some files) (whole now now_told) status tt read (leads (Some files) refl).1

pub run_ends : (limits : Limits) (before now : Seen) (status : Status) →
    ServesScript limits.file_bytes limits.script_bytes before.left before.at now.left now.at status →
    HasCauses before.reads now.reads before.writes now.writes status →
    before.at.beside.filings ≤ now.at.beside.filings → RunEnds limits before now status
run_ends limits before now status h c f =
    let m = script_machine limits.file_bytes in
    let blind = (h None tt).1 in
    let after = whole now.at.engine None in
    record {
      outcome = h;
      taken = taken-few m limits.script_bytes before.left now.left before.at.beside now.at.beside (whole before.at.engine None) after status blind;
      defined = λ told read. told-defined limits.file_bytes limits.script_bytes before.left now.left before.at.beside
          now.at.beside before.at.engine now.at.engine before.at.beside.files now.at.beside.files status told read h;
      read_cause = c.read;
      write_cause = c.write;
      is_run = c.is_run;
      reads = c.later_reads;
      writes = c.later_writes;
      filings = f;
      complete = complete m limits.script_bytes before.left now.left before.at.beside now.at.beside
          (whole before.at.engine None) after before.reads now.reads before.writes now.writes status blind c;
    }

-- a run that was asked for
pub ran : (limits : Limits) (asked : Task) (before now : Seen) (status : Status) → Run ≡ asked → RunEnds limits before now status → TopEnds limits asked before now status
ran limits asked before now status e h = subst (λ t. TopEnds limits t before now status) e h
