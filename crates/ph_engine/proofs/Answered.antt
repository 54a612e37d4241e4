-- What the answer to one line is, by what the line was read as.
use Rattle.std.proofs.Common.{◌≡◌, ◌≤◌, ◌+◌, ℕ, inl, inr, cond, arith, Bool, false, List, [], ◌∷◌, ◌++◌, take, refl, ap, sym, ◌∙◌, append-nil, subst}
use Rattle.std.specs.Prelude.{Some, None, Ok, Err, Result, IfOk, IfErr}
use Rattle.std.specs.Ordering.{is_eq}
use Rattle.std.specs.Cmp.Lexicographic.{nat_list_cmp_total}
use Rattle.std.proofs.lemmas.Cmp.{tied_itself}
use Rattle.ph_io.specs.Shelf.{Stays}
use denote.Ref.{Bor}
use Rattle.ph_specs.specs.Lines.{words}
use Rattle.std.specs.declared.option.Option.{Option}
use Rattle.ph_io.specs.Giving.{Given}
use Rattle.ph_specs.specs.Command.{Command, Reading, reading, read_words}
use Rattle.ph_specs.specs.Command.Reading.{Nothing, Refused, Do}
use Rattle.ph_specs.specs.Reply.{Reply, reply_text, replies_text}
use Rattle.ph_specs.specs.State.{Engine, Files, current, outcome}
use Rattle.ph_specs.specs.Engine.{act, act_on}
use Rattle.ph_script.specs.declared.lines.Line.{Line}
use Rattle.ph_script.specs.declared.lines.Line.TheVariants.{Text, Long}
use Rattle.ph_script.specs.Shown.{IsLine}
use Rattle.ph_script.proofs.Pieces.{line-reading, line-from_kept}
use Rattle.ph_engine.specs.Machine.{Machine, Turn, Met, turn, met, unmet, KEPT, KEPT-is}
use Rattle.ph_commands.specs.Working.{Work, one_if, no_work, work_of, IsAtMost, IsAtLeast}
use Rattle.ph_commands.specs.Telling.{is_refusal, refuses}
use Rattle.ph_engine.specs.Costs.{Spent, Worked}
use Rattle.ph_engine.specs.Answering.{Said, SaysOr}
use Rattle.ph_engine.specs.ScriptMachine.{Whole, whole, told_now, told_then, files_found, files_met, file_by, files_in, reading_in}
use Rattle.ph_engine.specs.ScriptMachine.{script_step, cut_by, starved_by, wants_by, uses_by, work_by, script_machine}
use Rattle.ph_slot.specs.Beside.{Beside, AreTold, IsTold, StillTells, Filings}
use Rattle.ph_slot.specs.Doing.{Done, DoneOr, HoldsFound, Knows, Leads, file_read, uses_files, cut_engine, starved_engine, wants_memory}
use Rattle.ph_io.specs.Writing.{WritesFront}
use Rattle.ph_engine.specs.Serving.{StaysKnown}
use Rattle.ph_commands.specs.declared.answer.Answer.{Answer}
use Rattle.ph_commands.specs.declared.answer.Stop.{Stop}
use Rattle.ph_commands.specs.declared.answer.Stop.TheVariants.{WriteFault, NoMemory}
use Rattle.ph_io.proofs.Appending.{given_none}
use Rattle.ph_engine.proofs.Machines.{or_false}
use Rattle.ph_engine.proofs.Sums.{no-filings}

-- what a line does, by its reading
step-is : (most : ℕ) (s : Whole) (t : Turn) (reading : Reading) → reading_in s t ≡ reading →
    script_step most s t ≡ act_on most s.engine (files_in s t) t.met.fault reading
step-is most s t reading h = ap (act_on most s.engine (files_in s t) t.met.fault) h

one-text : (r : Reply) → replies_text (r ∷ []) ≡ reply_text r
one-text r = append-nil (reply_text r)

-- ---- the files that a line meets

holds-found : (name found : Option (List ℕ)) → HoldsFound name (files_found name found) found
holds-found None found = tt
holds-found (Some name) None = refl
holds-found (Some name) (Some bytes) = ap (λ o. cond (is_eq o) (Some bytes) None) (tied_itself nat_list_cmp_total name)

-- a command may have met them
met-known : (command : Command) (known told : Option Files) (found : Option (List ℕ)) → Stays known told →
    Knows command told found (files_met known (file_read command) found)
met-known command None told found fits = inr (holds-found (file_read command) found)
met-known command (Some files) told found fits = inl fits

-- those of a line that is a command
files-are : (s : Whole) (t : Turn) (command : Command) → reading_in s t ≡ Do command → files_in s t ≡ files_met s.files (file_read command) t.met.found
files-are s t command h = ap (λ r. files_met s.files (file_by r) t.met.found) h

-- what is known behind it is told then
known-then : (command : Command) (known told now_told : Option Files) (found : Option (List ℕ)) (after : Files) →
    Stays known told → (told ≡ Some (files_met known (file_read command) found) → now_told ≡ Some after) →
    told_now known now_told ≡ told_then known after
known-then command None told now_told found after fits h = refl
known-then command (Some files) told now_told found after fits h = h fits

-- ---- the work of one line

one-spent : (m : Machine Whole) (s : Whole) (t : Turn) (b now_b : Beside) (w : Work) → m.work s t ≡ w →
    Filings (m.uses s t) (one_if t.met.fault) b.filings now_b.filings →
    IsAtMost w b.visits now_b.visits b.changes now_b.changes → Spent m s (t ∷ []) b now_b
one-spent m s t b now_b w e f h = record {
  filings = let z : one_if t.met.fault + 0 ≡ one_if t.met.fault = omega arith in rw (z, or_false (m.uses s t)) f;
  most_visits = omega (arith, h.few_visits, ap (λ x. x.most_visits) e);
  most_changes = omega (arith, h.few_changes, ap (λ x. x.most_changes) e);
}

one-worked : (m : Machine Whole) (s : Whole) (t : Turn) (b now_b : Beside) (w : Work) → m.work s t ≡ w →
    Filings (m.uses s t) (one_if t.met.fault) b.filings now_b.filings →
    IsAtMost w b.visits now_b.visits b.changes now_b.changes →
    IsAtLeast w b.visits now_b.visits b.changes now_b.changes → Worked m s (t ∷ []) b now_b
one-worked m s t b now_b w e f h l = record {
  spent = one-spent m s t b now_b w e f h;
  least_visits = omega (arith, l.enough_visits, ap (λ x. x.least_visits) e);
  least_changes = omega (arith, l.enough_changes, ap (λ x. x.least_changes) e);
}

-- what stands beside is as it was, but for what the sink took
pub record IsQuiet (b now_b : Beside) : Type 0 where
  pub files : now_b.files ≡ b.files
  pub filings : now_b.filings ≡ b.filings
  pub visits : now_b.visits ≡ b.visits
  pub changes : now_b.changes ≡ b.changes

-- the work of a line that is no command
quiet-work : (most : ℕ) (s : Whole) (line : List ℕ) (reading : Reading) (b now_b : Beside) → IsQuiet b now_b →
    reading_in s (turn line unmet) ≡ reading → uses_by reading ≡ false →
    ((most : ℕ) (files : Files) → work_by most s files false reading ≡ no_work) →
    Worked (script_machine most) s (turn line unmet ∷ []) b now_b
quiet-work most s line reading b now_b q h u w =
    one-worked (script_machine most) s (turn line unmet) b now_b no_work
    (ap (work_by most s (files_in s (turn line unmet)) false) h ∙ w most (files_in s (turn line unmet)))
    (rw (h, u, q.filings) (no-filings b.filings))
    (record { few_visits = omega (arith, q.visits); few_changes = omega (arith, q.changes) })
    (record { enough_visits = omega (arith, q.visits); enough_changes = omega (arith, q.changes) })

-- the faults of a line that is a command
filed : (most : ℕ) (s : Whole) (t : Turn) (command : Command) (b now_b : Beside) (fault : Bool) →
    reading_in s t ≡ Do command → Filings (uses_files command) (one_if fault) b.filings now_b.filings →
    Filings ((script_machine most).uses s t) (one_if fault) b.filings now_b.filings
filed most s t command b now_b fault h f = rw h f

-- files of which nothing was heard
pub known-still : (known told now_told : Option Files) → Stays known told → now_told ≡ told → told_now known now_told ≡ known
known-still None told now_told fits e = refl
known-still (Some files) told now_told fits e = e ∙ fits

-- the files that a line meets which is no command are those that are known
met-same : (known : Option Files) (name found : Option (List ℕ)) → told_then known (files_met known name found) ≡ known
met-same None name found = refl
met-same (Some files) name found = refl

-- those that were told are told where memory was missing
kept-told : (told now_told : Option Files) (files : Files) → told ≡ Some files → (IsTold told files → StillTells told now_told files) → now_told ≡ Some files
kept-told None now_told files e h = absurd (let clash : None ≡ Some files = e in cc)
kept-told (Some old) now_told files e h = let same : old ≡ files = cc in h same

known-kept : (known told now_told : Option Files) → Stays known told →
    ((files : Files) → IsTold told files → StillTells told now_told files) → told_now known now_told ≡ known
known-kept None told now_told fits h = refl
known-kept (Some files) told now_told fits h = kept-told told now_told files fits (h files)

-- ---- lines

-- no command
pub said-nothing : (most : ℕ) (e : Engine) (known : Option Files) (line : List ℕ) (b : Beside) → Stays known b.files →
    reading_in (whole e known) (turn line unmet) ≡ Nothing →
    Said (script_machine most) (whole e known) (turn line unmet) b b (whole e (told_now known b.files)) false
said-nothing most e known line b fits h =
    let s = whole e known in
    let t = turn line unmet in
    let o : script_step most s t ≡ outcome e (files_in s t) [] = step-is most s t Nothing h in
    record {
      told = rw o (given_none b.sink);
      state = rw o (ap (whole e) (known-still known b.files b.files fits refl ∙ sym (met-same known (file_by (reading_in s t)) None)));
      refusal = rw o refl;
      worked = quiet-work most s line Nothing b b (record { files = refl; filings = refl; visits = refl; changes = refl }) h refl (λ _ _. refl);
    }

module _ (most : ℕ) (e now : Engine) (known : Option Files) (line : List ℕ) (command : Command) (b now_b : Beside) (fits : Stays known b.files) where
  -- the files that the command meets, by what it found
  abbrev met_with : Option (List ℕ) → Files
  met_with found = files_met known (file_read command) found

  knows : (found : Option (List ℕ)) → Knows command b.files found (met_with found)
  knows found = met-known command known b.files found fits

  step-leads : (fault : Bool) (found : Option (List ℕ)) (after : Engine) (replies : List Reply) →
      reading_in (whole e known) (turn line (met fault found)) ≡ Do command →
      (l : Leads (act most e (met_with found) fault command) after (met_with found) b.files now_b.files replies) →
      script_step most (whole e known) (turn line (met fault found)) ≡ outcome after l.after replies
  step-leads fault found after replies h l =
      step-is most (whole e known) (turn line (met fault found)) (Do command) h
      ∙ ap (λ f. act most e f fault command) (files-are (whole e known) (turn line (met fault found)) command h) ∙ l.is

  work-is : (fault : Bool) (found : Option (List ℕ)) → reading_in (whole e known) (turn line (met fault found)) ≡
      Do command → (script_machine most).work (whole e known) (turn line (met fault found)) ≡
      work_of most e (met_with found) fault command
  work-is fault found h =
      let s = whole e known in
      let t = turn line (met fault found) in
      ap (work_by most s (files_in s t) fault) h ∙ ap (λ f. work_of most e f fault command) (files-are s t command h)

  -- a command
  pub said-done : (answer : Answer) (refused : Bool) → (d : Done most e command b now_b now answer) →
      reading_in (whole e known) (turn line (met d.fault d.found)) ≡ Do command → refused ≡ refuses answer →
      Said (script_machine most) (whole e known) (turn line (met d.fault d.found)) b now_b
      (whole now (told_now known now_b.files)) refused
  said-done answer refused d h r =
      let l = d.does (met_with d.found) (knows d.found) in
      let o = step-leads d.fault d.found now d.replies h l in
      record {
        told = rw o d.told;
        state = rw o (ap (whole now) (known-then command known b.files now_b.files d.found l.after fits l.told_files));
        refusal = rw o (r ∙ d.refusal);
        worked =
            one-worked (script_machine most) (whole e known) (turn line (met d.fault d.found)) b now_b
            (work_of most e (met_with d.found) d.fault command) (work-is d.fault d.found h)
            (filed most (whole e known) (turn line (met d.fault d.found)) command b now_b d.fault h d.filings)
            (d.most_work (met_with d.found) (knows d.found)) (d.least_work (met_with d.found) (knows d.found));
      }

  pub said-stopped : (stop : Stop) → ((met : Met) → reading_in (whole e known) (turn line met) ≡ Do command) →
      DoneOr most e command b now_b now (Err stop) →
      SaysOr (script_machine most) (whole e known) line b now_b (whole now (told_now known now_b.files)) (Err stop)
  said-stopped WriteFault h d =
      let s = whole e known in
      let t = turn line (met d.fault d.found) in
      let l = d.does (met_with d.found) (knows d.found) in
      let o = step-leads d.fault d.found d.after d.replies (h (met d.fault d.found)) l in
      let c : cut_by most s (files_in s t) d.fault (reading_in s t) ≡ whole (cut_engine e command d.after) (told_then known l.after) =
      ap (cut_by most s (files_in s t) d.fault) (h (met d.fault d.found))
      ∙ ap (λ f. cut_by most s f d.fault (Do command)) (files-are s t command (h (met d.fault d.found)))
      ∙ ap (λ x. whole (cut_engine e command x.engine) (told_then known x.files)) l.is in
      record {
        met = met d.fault d.found;
        said = record {
          count = d.count;
          short = rw o d.short;
          told = rw o d.told;
          state = ap (λ x. whole x (told_now known now_b.files)) d.state ∙ ap (whole (cut_engine e command d.after))
              (known-then command known b.files now_b.files d.found l.after fits l.told_files) ∙ sym c;
          spent = one-spent (script_machine most) s t b now_b (work_of most e (met_with d.found) d.fault command)
              (work-is d.fault d.found (h (met d.fault d.found)))
              (filed most s t command b now_b d.fault (h (met d.fault d.found)) d.filings)
              (d.most_work (met_with d.found) (knows d.found));
        };
      }
  said-stopped NoMemory h d =
      let u = d.unfiled in
      let s = whole e known in
      let t = turn line (met u.fault u.found) in
      let c : starved_by s (files_in s t) u.part (reading_in s t) ≡ whole (starved_engine e (met_with u.found) command u.part) known =
      ap (starved_by s (files_in s t) u.part) (h (met u.fault u.found)) ∙ ap (λ f. starved_by s f u.part (Do command))
      (files-are s t command (h (met u.fault u.found))) in
      record {
        met = met u.fault u.found;
        said = record {
          told = d.told;
          part = u.part;
          state = ap (λ x. whole x (told_now known now_b.files)) (u.state (met_with u.found) (knows u.found)) ∙
              ap (whole (starved_engine e (met_with u.found) command u.part))
              (known-kept known b.files now_b.files fits u.kept) ∙ sym c;
          wanted = ap (wants_by most s (files_in s t) u.fault) (h (met u.fault u.found)) ∙
              ap (λ f. wants_memory most e f u.fault command) (files-are s t command (h (met u.fault u.found))) ∙
              u.wanted (met_with u.found) (knows u.found);
          spent = one-spent (script_machine most) s t b now_b (work_of most e (met_with u.found) u.fault command)
              (work-is u.fault u.found (h (met u.fault u.found)))
              (filed most s t command b now_b u.fault (h (met u.fault u.found)) u.counted)
              (u.most_work (met_with u.found) (knows u.found));
        };
      }

-- a line that is refused
module _ (most : ℕ) (e : Engine) (known : Option Files) (line : List ℕ) (reply : Reply) (b now_b : Beside)
    (fits : Stays known b.files) (q : IsQuiet b now_b) (h : reading_in (whole e known) (turn line unmet) ≡ Refused reply) where
  abbrev refused_files : Files
  refused_files = files_in (whole e known) (turn line unmet)

  step-refused : script_step most (whole e known) (turn line unmet) ≡ outcome e refused_files (reply ∷ [])
  step-refused = step-is most (whole e known) (turn line unmet) (Refused reply) h

  known-refused : told_now known now_b.files ≡ known
  known-refused = known-still known b.files now_b.files fits q.files

  then-refused : told_then known refused_files ≡ known
  then-refused = met-same known (file_by (reading_in (whole e known) (turn line unmet))) None

  pub said-refused : (result : Result Bool Stop) →
      IfOk result (λ refused. Given b.sink now_b.sink (reply_text reply) × (refused ≡ is_refusal (reply_text reply)))
      → IfErr result (λ stop. (stop ≡ WriteFault) × WritesFront b.sink now_b.sink (reply_text reply)) →
      SaysOr (script_machine most) (whole e known) line b now_b (whole e (told_now known now_b.files)) result
  said-refused (Ok refused) k f = record {
    met = unmet;
    said = record {
      told = rw (step-refused, one-text reply) k.0;
      state = rw step-refused (ap (whole e) (known-refused ∙ sym then-refused));
      refusal = rw (step-refused, one-text reply) k.1;
      worked = quiet-work most (whole e known) line (Refused reply) b now_b q h refl (λ _ _. refl);
    };
  }
  said-refused (Err WriteFault) k f = record {
    met = unmet;
    said = record {
      count = f.1.count;
      short = rw (step-refused, one-text reply) f.1.short;
      told = rw (step-refused, one-text reply) f.1.told;
      state = ap (whole e) known-refused ∙ sym (ap (cut_by most (whole e known) refused_files false) h);
      spent = (quiet-work most (whole e known) line (Refused reply) b now_b q h refl (λ _ _. refl)).spent;
    };
  }
  said-refused (Err NoMemory) k f = absurd (let clash : NoMemory ≡ WriteFault = f.0 in cc)

-- ---- what is known of the files

-- it is told behind what leaves them
pub known-left : (known told now_told : Option Files) → Stays known told → now_told ≡ told → StaysKnown known now_told
known-left None told now_told fits e = tt
known-left (Some files) told now_told fits e = subst AreTold (sym (e ∙ fits)) tt

-- and may be used from there on
pub known-right : (known now_told : Option Files) → StaysKnown known now_told → Stays (told_now known now_told) now_told
known-right None now_told h = tt
known-right (Some files) None h = absurd h
known-right (Some files) (Some now) h = refl

pub known-on : (P : Whole → Type 0) (e : Engine) (known middle now : Option Files) → StaysKnown known middle →
    StaysKnown (told_now known middle) now × P (whole e (told_now (told_now known middle) now)) →
    StaysKnown known now × P (whole e (told_now known now))
known-on P e None middle now k h = h
known-on P e (Some files) None now k h = absurd k
known-on P e (Some files) (Some more) now k h = h

-- what is known of files is told behind a command
pub known-done : (most : ℕ) (e now : Engine) (command : Command) (known : Option Files) (b now_b : Beside)
    (result : Result Answer Stop) → Stays known b.files → DoneOr most e command b now_b now result → StaysKnown known now_b.files
known-done most e now command None b now_b result fits d = tt
known-done most e now command (Some files) b now_b (Ok answer) fits d =
    let l = d.does files (inl fits) in subst AreTold (sym (l.told_files fits)) tt
known-done most e now command (Some files) b now_b (Err WriteFault) fits d =
    let l = d.does files (inl fits) in subst AreTold (sym (l.told_files fits)) tt
known-done most e now command (Some files) b now_b (Err NoMemory) fits d =
    subst AreTold (sym (kept-told b.files now_b.files files fits (d.unfiled.kept files))) tt

-- whatever it did, the count of their faults did not fall
pub done-later : (most : ℕ) (e now : Engine) (command : Command) (b now_b : Beside) (result : Result Answer Stop) →
    DoneOr most e command b now_b now result → b.filings ≤ now_b.filings
done-later most e now command b now_b (Ok answer) d = d.filings.later
done-later most e now command b now_b (Err WriteFault) d = d.filings.later
done-later most e now command b now_b (Err NoMemory) d = d.unfiled.counted.later

-- what a line that is shown was read as
pub text-reading : (e : Engine) (dims : ℕ) (bytes : List ℕ) (line : Line) (t : Bor (List ℕ)) (was : Reading) →
    dims ≡ (current e).dims → line ≡ Text t → IsLine bytes line → was ≡ read_words dims (words t.now) →
    reading (current e).dims bytes ≡ was
text-reading e dims bytes line t was d i h r =
    rw (← d) (line-reading dims bytes (Text t) (rw i at h) ∙ sym r)

pub long-reading : (e : Engine) (bytes : List ℕ) (line : Line) → line ≡ Long → IsLine bytes line → reading (current e).dims bytes ≡ Refused Reply.ErrorLong
long-reading e bytes line i h = line-reading (current e).dims bytes Long (rw i at h)

-- a line that is shown by its kept bytes and a part behind them
pub shown-behind : (unended part kept : List ℕ) (line : Line) → kept ≡ take KEPT unended → IsLine (kept ++ part) line → IsLine (unended ++ part) line
shown-behind unended part kept line k h =
    let e : kept ≡ take 4097 unended = k ∙ ap (λ n. take n unended) KEPT-is in
    let P : List ℕ → Type 0 = λ t. IsLine (t ++ part) line in
    line-from_kept unended part line (subst P e h)

pub shown-whole : (unended kept : List ℕ) (line : Line) → kept ≡ take KEPT unended → IsLine kept line → IsLine unended line
shown-whole unended kept line k h =
    let P : List ℕ → Type 0 = λ t. IsLine t line in
    subst P (append-nil unended) (shown-behind unended [] kept line k (subst P (sym (append-nil kept)) h))
