-- The machine of a script is the definition of a run.
use Rattle.std.proofs.Common.{◌≡◌, ℕ, inl, inr, List, [], ◌∷◌, ◌++◌, map, refl, ap, sym, subst, ◌∙◌}
use Rattle.std.specs.declared.option.Option.{Option}
use Rattle.ph_specs.specs.Lines.{lines}
use Rattle.ph_specs.specs.Reply.{replies_text}
use Rattle.ph_specs.specs.State.{Engine, Files, Outcome}
use Rattle.ph_specs.specs.Engine.{run, written}
use Rattle.ph_commands.proofs.Replies.{texts-append}
use Rattle.std.specs.Prelude.{Some, None}
use Rattle.ph_slot.specs.Beside.{Beside, AreTold}
use Rattle.ph_engine.specs.Machine.{Turn, answers, after, lines_of}
use Rattle.ph_engine.specs.ScriptMachine.{Whole, whole, script_step, script_machine}
use Rattle.ph_engine.specs.ByDefinition.{RunsAsDefined}
use Rattle.ph_engine.specs.Outcomes.{Answered, Outcome as Left}
use Rattle.ph_engine.specs.Statuses.{IsRead}
use Rattle.ph_engine.specs.declared.status.Status.TheVariants.{Clean, Refused}
use Rattle.ph_engine.specs.declared.status.Status.{Status}

-- in each line the files fail as they do in its turn
abbrev pub run_of : ℕ → Engine → Files → List Turn → Outcome
run_of most e files ts = run most e files (map (λ t. t.met.fault) ts) (lines_of ts)

answers-run : (most : ℕ) (e : Engine) (files : Files) (ts : List Turn) → answers (script_machine most) (whole e (Some files)) ts ≡ written (run_of most e files ts)
answers-run most e files [] = refl
answers-run most e files (t ∷ ts) =
    let o = script_step most (whole e (Some files)) t in
    let rest : answers (script_machine most) (whole o.engine (Some o.files)) ts ≡ written (run_of most o.engine o.files ts) = answers-run most o.engine o.files ts in
    ap (λ x. replies_text o.replies ++ x) rest ∙ sym (texts-append o.replies (run_of most o.engine o.files ts).replies)

after-run : (most : ℕ) (e : Engine) (files : Files) (ts : List Turn) →
    after (script_machine most) (whole e (Some files)) ts ≡ whole (run_of most e files ts).engine
    (Some (run_of most e files ts).files)
after-run most e files [] = refl
after-run most e files (t ∷ ts) = let o = script_step most (whole e (Some files)) t in after-run most o.engine o.files ts

pub as-defined : (file_bytes most : ℕ) (left now_left : Option (List ℕ)) (b now_b : Beside) (e : Engine)
    (files : Files) (now : Whole) (status : Status) →
    Answered (script_machine file_bytes) most left now_left b now_b (whole e (Some files)) now status →
    RunsAsDefined file_bytes left now_left b now_b (whole e (Some files)) now
as-defined file_bytes most left now_left b now_b e files now status h =
    let a = h.answered in
    let faults = map (λ t. t.met.fault) a.turns in
    let same : run_of file_bytes e files a.turns ≡ run file_bytes e files faults (lines h.bytes) = ap (run file_bytes e files faults) a.all in
    record {
      bytes = h.bytes;
      consumed = h.consumed;
      ended = h.ended;
      faults = faults;
      told = rw (← same, ← answers-run file_bytes e files a.turns) a.told;
      engine = rw (← same) (ap (λ x. x.engine) (a.state ∙ after-run file_bytes e files a.turns));
      files = rw (← same) (ap (λ x. x.files) (a.state ∙ after-run file_bytes e files a.turns));
      filings = a.worked.spent.filings.told;
    }

read-defined : (file_bytes most : ℕ) (left now_left : Option (List ℕ)) (b now_b : Beside) (e : Engine)
    (files : Option Files) (now : Whole) (status : Status) → AreTold files →
    Answered (script_machine file_bytes) most left now_left b now_b (whole e files) now status →
    RunsAsDefined file_bytes left now_left b now_b (whole e files) now
read-defined file_bytes most left now_left b now_b e None now status told h = absurd told
read-defined file_bytes most left now_left b now_b e (Some files) now status told h = as-defined file_bytes most left now_left b now_b e files now status h

pub outcome-defined : (file_bytes most : ℕ) (left now_left : Option (List ℕ)) (b now_b : Beside) (e : Engine)
    (files : Option Files) (now : Whole) (status : Status) → AreTold files → IsRead status →
    Left (script_machine file_bytes) most left now_left b now_b (whole e files) now status →
    RunsAsDefined file_bytes left now_left b now_b (whole e files) now
outcome-defined file_bytes most left now_left b now_b e files now status told (inl is) h =
    read-defined file_bytes most left now_left b now_b e files now Clean told
    (subst (Left (script_machine file_bytes) most left now_left b now_b (whole e files) now) is h)
outcome-defined file_bytes most left now_left b now_b e files now status told (inr is) h =
    read-defined file_bytes most left now_left b now_b e files now Refused told
    (subst (Left (script_machine file_bytes) most left now_left b now_b (whole e files) now) is h)
