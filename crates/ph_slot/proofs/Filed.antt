-- What commands on files do, and what they have done once their replies were given to a sink.
use Rattle.std.proofs.Common.{◌≡◌, ◌≤◌, ◌+◌, ◌*◌, ℕ, inl, inr, arith, Bool, true, false, List, [], ◌∷◌, length, refl, ap, sym, ◌∙◌}
use Rattle.std.specs.Prelude.{suc, replicate, ◌⊎◌, ◌<◌, ◌-◌, ◌^◌, ◌||◌, Some, None, is_none, nat_lt, if◌then◌else◌, Result, Ok, Err}
use Rattle.std.specs.declared.option.Option.{Option}
use Rattle.std.proofs.lemmas.Bool.{cases_lt, le-leb, lt-leb}
use Rattle.std.proofs.lemmas.List.{length-replicate}
use Rattle.ph_io.specs.Causes.{Rose}
use Rattle.ph_io.specs.Giving.{Taken}
use Rattle.ph_io.specs.Shelf.{Stays, Fetches, FetchCounts}
use Rattle.ph_io.specs.declared.files.FetchFault.{FetchFault}
use Rattle.ph_io.specs.declared.files.FetchFault.TheVariants as by
use Rattle.ph_io.proofs.Appending.{given_none}
use Rattle.ph_specs.specs.Past.{without_past}
use Rattle.ph_specs.specs.Command.{Command}
use Rattle.ph_specs.specs.Named.{Named, lookup}
use Rattle.ph_specs.specs.Reply.{Reply}
use Rattle.ph_specs.specs.Refusals.{or_else, refusal, fetch, short_enough, bytes_of, refuse_if, refuse_if_bad, has_file_fault, is_full}
use Rattle.ph_specs.specs.Refusals.{is_too_far_back, table_read, read_length}
use Rattle.ph_specs.specs.SavedTable.{read_snapshot}
use Rattle.ph_specs.specs.State.{Slot, Engine, Files, current, outcome}
use Rattle.ph_specs.specs.Table.{Row}
use Rattle.ph_specs.specs.Window.{Cursor}
use Rattle.ph_specs.specs.Engine.{act, unless_refused, load_outcome}
use Rattle.ph_specs.specs.declared.Kind.{Kind}
use Rattle.ph_specs.specs.declared.Kind.TheVariants.{Points, Boxes}
use Rattle.ph_script.specs.declared.reply.Reply.{Reply as Told}
use Rattle.ph_script.specs.Meaning.{reply_of}
use Rattle.ph_slot.specs.Beside.{aside, beside_sink, Filings, Tells, IsTold, StillTells}
use Rattle.ph_slot.specs.Doing.{is_on_slot, Begun, DoneOr, Unfiled, Knows, Leads, MakesNodes, HoldsFound, file_read, rows_loaded, rows_read}
use Rattle.ph_slot.specs.Doing.{is_page, cut_engine, starved_engine, uses_files}
use Rattle.ph_commands.specs.Served.{Does, ServedOr, takes_memory}
use Rattle.ph_slot.specs.Filing.{Filed, FiledOr, LoadsNodes, LoadsOr, TellsUnfetched, read_table, read_reply}
use Rattle.ph_slot.specs.Refusing.{early_refusal, late_refusal}
use Rattle.ph_commands.specs.Tables.{table_at, AnyTable, slot_of, engine_of}
use Rattle.ph_commands.specs.Working.{work_of, engine_bounds, least_unless, IsAtMost, IsAtLeast}
use Rattle.ph_commands.specs.Telling.{Tells as Says, ToldOr}
use Rattle.ph_commands.specs.declared.answer.Answer.{Answer}
use Rattle.ph_commands.specs.declared.answer.Stop.{Stop}
use Rattle.ph_commands.specs.declared.answer.Stop.TheVariants.{WriteFault, NoMemory}
use Rattle.ph_slot.proofs.Commanded.{one-text, told-told}
use Rattle.ph_slot.proofs.Plain.{IsPlain, does-at, work-at, wants-at}
use Rattle.ph_slot.proofs.Refused.{refusal-parts, alone}

-- ---- once the reply was given to a sink

module _ (most : ℕ) (e now : Engine) (command : Command) (told now_told : Option Files) (f now_f v now_v c now_c : ℕ) (sink now_sink : Taken) where
  filed-said : (reply : Told) (result : Result Answer Stop) → now ≡ cut_engine e command now →
      Filed most e command (aside told f v c) (aside now_told now_f now_v now_c) now (reply_of reply) →
      Says sink now_sink reply result →
      DoneOr most e command (beside_sink sink told f v c) (beside_sink now_sink now_told now_f now_v now_c) now result
  filed-said reply (Ok answer) p h t = record {
    fault = h.fault;
    found = h.found;
    filings = h.counted;
    replies = reply_of reply ∷ [];
    does = h.does;
    told = rw (one-text (reply_of reply)) t.0;
    refusal = rw (one-text (reply_of reply)) t.1;
    most_work = h.most_work;
    least_work = h.least_work;
    nodes = h.nodes;
  }
  filed-said reply (Err WriteFault) p h t = record {
    fault = h.fault;
    found = h.found;
    filings = h.counted;
    replies = reply_of reply ∷ [];
    after = now;
    does = h.does;
    state = p;
    count = t.1.count;
    short = rw (one-text (reply_of reply)) t.1.short;
    told = rw (one-text (reply_of reply)) t.1.told;
    most_work = h.most_work;
  }
  filed-said reply (Err NoMemory) p h t = absurd (let clash : NoMemory ≡ WriteFault = t.0 in cc)

  unfiled-said : (stop : Stop) → stop ≡ NoMemory → now_sink ≡ sink →
      Unfiled most e command (aside told f v c) (aside now_told now_f now_v now_c) now →
      DoneOr most e command (beside_sink sink told f v c) (beside_sink now_sink now_told now_f now_v now_c) now (Err stop)
  unfiled-said WriteFault s k h = absurd (let clash : WriteFault ≡ NoMemory = s in cc)
  unfiled-said NoMemory s k h = record {
    unfiled = record {
      fault = h.fault;
      found = h.found;
      counted = h.counted;
      part = h.part;
      state = h.state;
      kept = h.kept;
      wanted = h.wanted;
      most_work = h.most_work;
    };
    told = rw k (given_none sink);
  }

  pub done-filed : {E : Type 0} (reply : Result Told E) (result : Result Answer Stop) → is_page command ≡ false →
      FiledOr most e command (aside told f v c) (aside now_told now_f now_v now_c) now reply →
      ToldOr sink now_sink reply result →
      DoneOr most e command (beside_sink sink told f v c) (beside_sink now_sink now_told now_f now_v now_c) now result
  done-filed (Ok reply) result page h t = filed-said reply result (rw page refl) h t
  done-filed (Err error) (Ok answer) page h t = absurd t
  done-filed (Err error) (Err stop) page h t = unfiled-said stop t.0 t.1 h

-- ---- commands that ask for no file

pub leaves-filings : (command : Command) (f : ℕ) → Filings (uses_files command) 0 f f
leaves-filings command f = record { told = inr (omega arith); later = omega arith; quiet = λ _. refl }

pub filed-quietly : (most : ℕ) (e now : Engine) (command : Command) (reply : Reply) (told : Option Files)
    (f v now_v c now_c : ℕ) → Does e command now (reply ∷ []) →
    ((most : ℕ) (files : Files) (fault : Bool) → IsAtMost (work_of most e files fault command) v now_v c now_c) →
    ((most : ℕ) (files : Files) (fault : Bool) → IsAtLeast (work_of most e files fault command) v now_v c now_c) →
    ((files : Files) → MakesNodes (current e) files command c now_c) →
    Filed most e command (aside told f v c) (aside told f now_v now_c) now reply
filed-quietly most e now command reply told f v now_v c now_c does few enough made = record {
  fault = false;
  found = None;
  counted = leaves-filings command f;
  does = λ files k. record { after = files; is = does most files false; told_files = λ e. e };
  most_work = λ files k. few most files false;
  least_work = λ files k. enough most files false;
  nodes = λ files k. made files;
}

-- a command that makes a slot another one
pub filed-begun : (most : ℕ) (s now : Slot) (command : Command) (reply : Reply) (told : Option Files) (f v c : ℕ) →
    Begun s command now reply → Filed most (engine_of s) command (aside told f v c) (aside told f v c) (engine_of now) reply
filed-begun most s now command reply told f v c h = filed-quietly most (engine_of s) (engine_of now) command reply
    told f v v c c h.does (h.most v c) (h.least v c) (λ files rows is. omega arith)

-- a command about the rows of a table
pub filed-served : {E : Type 0} (most : ℕ) (kind : Kind) (t now : AnyTable) (cursors : Named Cursor)
    (command : Command) (result : Result Told E) (told : Option Files) (f v now_v c now_c : ℕ) → IsPlain command →
    early_refusal (slot_of kind t cursors) command ≡ None → ServedOr t command now v now_v c now_c result →
    FiledOr most (engine_of (slot_of kind t cursors)) command (aside told f v c) (aside told f now_v now_c)
    (engine_of (slot_of kind now cursors)) result
filed-served most kind t now cursors command (Ok reply) told f v now_v c now_c p u h =
    filed-quietly most (engine_of (slot_of kind t cursors)) (engine_of (slot_of kind now cursors)) command (reply_of reply) told f v now_v c now_c
    (does-at kind t now cursors command (reply_of reply) p u (h.does cursors))
    (work-at (λ w. IsAtMost w v now_v c now_c) kind t cursors command p u (h.most cursors))
    (work-at (λ w. IsAtLeast w v now_v c now_c) kind t cursors command p u (h.least cursors))
    (λ files rows is. absurd (let no : None ≡ Some rows = sym (p.no_load (slot_of kind t cursors) files) ∙ is in cc))
filed-served most kind t now cursors command (Err error) told f v now_v c now_c p u h = record {
  fault = false;
  found = None;
  counted = leaves-filings command f;
  part = 0;
  state = λ files k. ap (λ x. engine_of (slot_of kind x cursors)) h.stays ∙ sym (p.no_part (engine_of (slot_of kind t cursors)) files);
  kept = λ files k. told-told told told files refl k;
  wanted = λ files x. wants-at kind t cursors command p u (h.wanted cursors) most files false;
  most_work = λ files k. work-at (λ w. IsAtMost w v now_v c now_c) kind t cursors command p u (h.most cursors) most files false;
}

-- ---- how often the files failed

tells-one : (before now : ℕ) → Rose before now → (before < 2 ^ 64 - 1) ⊎ (2 ^ 64 - 1 ≤ before) → Tells before now 1
tells-one before now r (inl h) = inr (omega (arith, r, h))
tells-one before now r (inr h) = inl (omega (arith, r, h))

pub failed-once : (before now : ℕ) → before ≤ now → Rose before now → Filings true 1 before now
failed-once before now l r = record {
  told = tells-one before now r (cases_lt before (2 ^ 64 - 1));
  later = l;
  quiet = λ no. absurd (let clash : true ≡ false = no in cc);
}

pub failed-never : (before now : ℕ) → before ≤ now → Filings true 0 before now
failed-never before now l = record { told = inr (omega (arith, l)); later = l; quiet = λ no. absurd (let clash : true ≡ false = no in cc) }

-- files that stay where they are told
stays-told : (told now_told : Option Files) (files : Files) → Stays told now_told → told ≡ Some files → now_told ≡ Some files
stays-told None now_told files s e = absurd (let clash : None ≡ Some files = e in cc)
stays-told (Some old) now_told files s e = s ∙ e

still-told : (told now_told : Option Files) (files : Files) → Stays told now_told → IsTold told files → StillTells told now_told files
still-told None now_told files s k = tt
still-told (Some old) now_told files s k = s ∙ ap Some k

-- ---- commands that write a file

-- a command that is refused for no cause before its file at a slot of either kind
pub never-early : (command : Command) → ((s : Slot) → early_refusal (record s { kind = Points }) command ≡ None) →
    ((s : Slot) → early_refusal (record s { kind = Boxes }) command ≡ None) → (s : Slot) → early_refusal s command ≡ None
never-early command points boxes s = by-kind s.kind
  where
    by-kind : (kind : Kind) → early_refusal (record s { kind = kind }) command ≡ None
    by-kind Points = points s
    by-kind Boxes = boxes s

-- ---- commands that read a file

-- A command reads a file, is refused for no cause before that, and may do nothing. Where memory is missing for the file, the engine stays.
pub record IsFetch (command : Command) (name : List ℕ) : Type 0 where
  pub on_slot : is_on_slot command ≡ true
  pub reads : file_read command ≡ Some name
  pub uses : uses_files command ≡ true
  pub early : (s : Slot) → early_refusal s command ≡ None
  pub faulty : (most : ℕ) (files : Files) (fault : Bool) → has_file_fault most files fault command ≡ (fault || is_none (fetch most files name))
  pub takes : (s : Slot) → takes_memory s command ≡ true
  pub none_in : (s : Slot) (files : Files) → starved_engine (engine_of s) files command 0 ≡ engine_of s
  pub least_visits : (s : Slot) (files : Files) → (engine_bounds (engine_of s) files command).least_visits ≡ 0
  pub least_changes : (s : Slot) (files : Files) → (engine_bounds (engine_of s) files command).least_changes ≡ 0

-- what was fetched
pub fetched : (most : ℕ) (files : Files) (name bytes : List ℕ) → lookup name files ≡ Some bytes → length bytes ≤ most → fetch most files name ≡ Some bytes
fetched most files name bytes l h = ap (short_enough most) l ∙ ap (λ b. if b then Some bytes else None) (le-leb (length bytes) most h)

-- files of which this one was to be read where memory was missing: nothing is known of them, or it is there and not too long
abbrev pub found_short : Option Files → List ℕ → Option (List ℕ)
found_short None name = Some []
found_short (Some files) name = lookup name files

pub short-there : (most : ℕ) (name bytes : List ℕ) (told : Option Files) (files : Files) →
    Fetches told name most bytes (Err by.NoMemory) → lookup name files ≡ found_short told name → is_none (fetch most files name) ≡ false
short-there most name bytes None files g l = ap is_none (fetched most files name [] l (omega arith))
short-there most name bytes (Some known) files g l = ap is_none (fetched most files name g.0 (l ∙ g.1) g.2)

pub unfetched : (most : ℕ) (files : Files) (name bytes : List ℕ) (fault : FetchFault) → (fault ≡ by.NoMemory → ⊥) →
    (fault ≡ by.Failed → ⊥) → Fetches (Some files) name most bytes (Err fault) → is_none (fetch most files name) ≡ true
unfetched most files name bytes by.Failed n m h = absurd (m refl)
unfetched most files name bytes by.Absent n m h = ap (λ x. is_none (short_enough most x)) h
unfetched most files name bytes by.NoMemory n m h = absurd (n refl)
unfetched most files name bytes by.Over n m h = ap (λ x. is_none (short_enough most x)) h.1 ∙
    ap (λ b. is_none (if b then Some h.0 else None)) (lt-leb (length h.0) most h.2)

none-least : (r : Option Reply) (n : ℕ) → n ≡ 0 → least_unless r n ≡ 0
none-least (Some r) n h = refl
none-least None n h = h

module _ (command : Command) (name : List ℕ) (k : IsFetch command name) where
  -- files that it may have met have what was found, unless they are those that are told
  holds : (found : Option (List ℕ)) (files : Files) → HoldsFound (file_read command) files found → lookup name files ≡ found
  holds found files h = rw k.reads at h

  -- what it is refused for behind a file that could not be read
  abbrev rest_refusal : Slot → Files → Option Reply
  rest_refusal s files = refuse_if_bad (table_read s files command)
      (refuse_if (is_full s files command) Reply.ErrorFull (refuse_if (is_too_far_back s command) Reply.ErrorPast None))

  fetch-refusal : (most : ℕ) (s : Slot) (files : Files) (fault : Bool) →
      refusal most (engine_of s) files fault command ≡ refuse_if (fault || is_none (fetch most files name))
      Reply.ErrorFile (rest_refusal s files)
  fetch-refusal most s files fault =
      refusal-parts most (engine_of s) files fault command k.on_slot ∙ ap (λ r. or_else r (late_refusal most s files fault command)) (k.early s)
      ∙ ap (λ b. refuse_if b Reply.ErrorFile (rest_refusal s files)) (k.faulty most files fault)

  none-fetched : (most : ℕ) (s : Slot) (files : Files) (fault : Bool) →
      (fault || is_none (fetch most files name)) ≡ true →
      act most (engine_of s) files fault command ≡ outcome (engine_of s) files (Reply.ErrorFile ∷ [])
  none-fetched most s files fault h =
      ap (λ r. unless_refused r (engine_of s) files command) (fetch-refusal most s files fault ∙ ap (λ b. refuse_if b Reply.ErrorFile (rest_refusal s files)) h)

  pub fetched-act : (most : ℕ) (s : Slot) (files : Files) (bytes : List ℕ) → lookup name files ≡ Some bytes →
      length bytes ≤ most → act most (engine_of s) files false command ≡ unless_refused (rest_refusal s files)
      (engine_of s) files command
  fetched-act most s files bytes l h =
      ap (λ r. unless_refused r (engine_of s) files command)
      (fetch-refusal most s files false ∙ ap (λ x. refuse_if (is_none x) Reply.ErrorFile (rest_refusal s files)) (fetched most files name bytes l h))

  unread : (most : ℕ) (s : Slot) (told now_told : Option Files) (files : Files) (fault : Bool) → Stays told now_told →
      (fault || is_none (fetch most files name)) ≡ true →
      Leads (act most (engine_of s) files fault command) (engine_of s) files told now_told (Reply.ErrorFile ∷ [])
  unread most s told now_told files fault st h = record { after = files; is = none-fetched most s files fault h; told_files = stays-told told now_told files st }

  -- the bytes of a file that is too long
  abbrev pub long_bytes : ℕ → List ℕ
  long_bytes most = replicate (suc most) 0

  -- no file of the name is there, or one that is too long
  none-there : (most : ℕ) (files : Files) → lookup name files ≡ None → (false || is_none (fetch most files name)) ≡ true
  none-there most files h = ap (λ x. is_none (short_enough most x)) h

  long-there : (most : ℕ) (files : Files) → lookup name files ≡ Some (long_bytes most) → (false || is_none (fetch most files name)) ≡ true
  long-there most files h =
      ap (λ x. is_none (short_enough most x)) h ∙ ap (λ b. is_none (if b then Some (long_bytes most) else None))
      (lt-leb (length (long_bytes most)) most (omega (arith, length-replicate {A = ℕ} (suc most) 0)))

  pub absent : (most : ℕ) (bytes : List ℕ) (told : Option Files) (files : Files) →
      Fetches told name most bytes (Err by.Absent) → Knows command told None files →
      (false || is_none (fetch most files name)) ≡ true
  absent most bytes told files g (inl e) = none-there most files (let at : Fetches (Some files) name most bytes (Err by.Absent) = rw e at g in at)
  absent most bytes told files g (inr h) = none-there most files (holds None files h)

  pub over : (most : ℕ) (bytes : List ℕ) (told : Option Files) (files : Files) →
      Fetches told name most bytes (Err by.Over) → Knows command told (Some (long_bytes most)) files →
      (false || is_none (fetch most files name)) ≡ true
  over most bytes told files g (inl e) = unfetched most files name bytes by.Over (λ no. cc) (λ no. cc) (rw e at g)
  over most bytes told files g (inr h) = long-there most files (holds (Some (long_bytes most)) files h)

  -- files that it may have met have what those that are told have, or the file that was to be read
  pub met-short : (told : Option Files) (files : Files) → Knows command told (found_short told name) files → lookup name files ≡ found_short told name
  met-short told files (inl e) = sym (ap (λ o. found_short o name) e)
  met-short told files (inr h) = holds (found_short told name) files h

  -- files that it may have met have the bytes that were read
  pub has-fetched : (most : ℕ) (bytes : List ℕ) (told : Option Files) (files : Files) →
      Fetches told name most bytes (Ok tt) → Knows command told (Some bytes) files → lookup name files ≡ Some bytes
  has-fetched most bytes told files g (inl e) = let at : Fetches (Some files) name most bytes (Ok tt) = rw e at g in at
  has-fetched most bytes told files g (inr h) = holds (Some bytes) files h

  module _ (most : ℕ) (s : Slot) (bytes : List ℕ) (f now_f v now_v c now_c : ℕ) where
    fetch-least : (files : Files) (fault : Bool) → v ≤ now_v → c ≤ now_c → IsAtLeast (work_of most (engine_of s) files fault command) v now_v c now_c
    fetch-least files fault h i =
        let r = refusal most (engine_of s) files fault command in
        record {
          enough_visits = rw (none-least r (engine_bounds (engine_of s) files command).least_visits (k.least_visits s files)) (omega (arith, h));
          enough_changes = rw (none-least r (engine_bounds (engine_of s) files command).least_changes (k.least_changes s files)) (omega (arith, i));
        }

    fetch-idle : (files : Files) (fault : Bool) → now_v ≡ v → now_c ≡ c → IsAtMost (work_of most (engine_of s) files fault command) v now_v c now_c
    fetch-idle files fault h i = record { few_visits = omega (arith, h); few_changes = omega (arith, i) }

    -- a file was read, and what was to be done with its bytes is done
    pub fetched-filed : (told now_told : Option Files) (now : Engine) (reply : Reply) →
        Fetches told name most bytes (Ok tt) → Stays told now_told → now_f ≡ f →
        ((files : Files) → lookup name files ≡ Some bytes →
        act most (engine_of s) files false command ≡ outcome now files (reply ∷ [])) →
        ((files : Files) → lookup name files ≡ Some bytes →
        IsAtMost (work_of most (engine_of s) files false command) v now_v c now_c) → v ≤ now_v → c ≤ now_c →
        ((files : Files) → lookup name files ≡ Some bytes → MakesNodes s files command c now_c) →
        Filed most (engine_of s) command (aside told f v c) (aside now_told now_f now_v now_c) now reply
    fetched-filed told now_told now reply g st e does few h i made = record {
      fault = false;
      found = Some bytes;
      counted = rw k.uses (failed-never f now_f (omega (arith, e)));
      does = λ files x. record { after = files; is = does files (has-fetched most bytes told files g x); told_files = stays-told told now_told files st };
      most_work = λ files x. few files (has-fetched most bytes told files g x);
      least_work = λ files x. fetch-least files false h i;
      nodes = λ files x. made files (has-fetched most bytes told files g x);
    }

    -- no file could be read
    unfetched-filed : (told now_told : Option Files) (fault : FetchFault) → (fault ≡ by.NoMemory → ⊥) →
        Fetches told name most bytes (Err fault) → FetchCounts f now_f (Err fault) → Stays told now_told → now_v ≡ v →
        now_c ≡ c → Filed most (engine_of s) command (aside told f v c) (aside now_told now_f now_v now_c)
        (engine_of s) Reply.ErrorFile
    unfetched-filed told now_told by.Failed n g counts st h i = record {
      fault = true;
      found = None;
      counted = rw k.uses (failed-once f now_f counts.0 counts.1);
      does = λ files x. unread most s told now_told files true st refl;
      most_work = λ files x. fetch-idle files true h i;
      least_work = λ files x. fetch-least files true (omega (arith, h)) (omega (arith, i));
      nodes = λ files x rows is. omega (arith, i);
    }
    unfetched-filed told now_told by.Absent n g counts st h i = record {
      fault = false;
      found = None;
      counted = rw k.uses (failed-never f now_f (omega (arith, counts)));
      does = λ files x. unread most s told now_told files false st (absent most bytes told files g x);
      most_work = λ files x. fetch-idle files false h i;
      least_work = λ files x. fetch-least files false (omega (arith, h)) (omega (arith, i));
      nodes = λ files x rows is. omega (arith, i);
    }
    unfetched-filed told now_told by.Over n g counts st h i = record {
      fault = false;
      found = Some (long_bytes most);
      counted = rw k.uses (failed-never f now_f (omega (arith, counts)));
      does = λ files x. unread most s told now_told files false st (over most bytes told files g x);
      most_work = λ files x. fetch-idle files false h i;
      least_work = λ files x. fetch-least files false (omega (arith, h)) (omega (arith, i));
      nodes = λ files x rows is. omega (arith, i);
    }
    unfetched-filed told now_told by.NoMemory n g counts st h i = absurd (n refl)

    starved : (told now_told : Option Files) (found : Option (List ℕ)) (now : Engine) (part : ℕ) →
        Stays told now_told → now_f ≡ f →
        ((files : Files) → Knows command told found files → is_none (fetch most files name) ≡ false) →
        ((files : Files) → Knows command told found files → now ≡ starved_engine (engine_of s) files command part) →
        ((files : Files) → Knows command told found files →
        IsAtMost (work_of most (engine_of s) files false command) v now_v c now_c) →
        Unfiled most (engine_of s) command (aside told f v c) (aside now_told now_f now_v now_c) now
    starved told now_told found now part st e there is few = record {
      fault = false;
      found = found;
      counted = rw k.uses (failed-never f now_f (omega (arith, e)));
      part = part;
      state = is;
      kept = λ files x. still-told told now_told files st x;
      wanted = λ files x. rw ((alone (engine_of s) command k.on_slot).1, k.early s, k.faulty most files false ∙ there files x) (k.takes s);
      most_work = few;
    }

    pub unfetched-filed-or : {E : Type 0} (told now_told : Option Files) (fault : FetchFault)
        (result : Result Told E) → TellsUnfetched fault result → Fetches told name most bytes (Err fault) →
        FetchCounts f now_f (Err fault) → Stays told now_told → now_v ≡ v → now_c ≡ c →
        FiledOr most (engine_of s) command (aside told f v c) (aside now_told now_f now_v now_c) (engine_of s) result
    unfetched-filed-or told now_told fault (Ok reply) t g counts st h i = rw t.1 (unfetched-filed told now_told fault t.0 g counts st h i)
    unfetched-filed-or told now_told fault (Err error) t g counts st h i =
        starved told now_told (found_short told name) (engine_of s) 0 st (rw t at counts)
        (λ files x. short-there most name bytes told files (rw t at g) (met-short told files x))
        (λ files x. sym (k.none_in s files)) (λ files x. fetch-idle files false h i)

    -- memory was missing behind a file that was read
    pub fetched-starved : (told now_told : Option Files) (now : Engine) (part : ℕ) →
        Fetches told name most bytes (Ok tt) → length bytes ≤ most → Stays told now_told → now_f ≡ f →
        ((files : Files) → lookup name files ≡ Some bytes → now ≡ starved_engine (engine_of s) files command part) →
        ((files : Files) → lookup name files ≡ Some bytes →
        IsAtMost (work_of most (engine_of s) files false command) v now_v c now_c) →
        Unfiled most (engine_of s) command (aside told f v c) (aside now_told now_f now_v now_c) now
    fetched-starved told now_told now part g short st e is few =
        starved told now_told (Some bytes) now part st e
        (λ files x. ap is_none (fetched most files name bytes (has-fetched most bytes told files g x) short))
        (λ files x. is files (has-fetched most bytes told files g x)) (λ files x. few files (has-fetched most bytes told files g x))

-- ---- load

pub fetch-load : (name : List ℕ) → IsFetch (Command.Load name) name
fetch-load name = record {
  on_slot = refl;
  reads = refl;
  uses = refl;
  early = never-early (Command.Load name) (λ s. refl) (λ s. refl);
  faulty = λ most files fault. refl;
  takes = λ s. refl;
  none_in = λ s files. refl;
  least_visits = λ s files. refl;
  least_changes = λ s files. refl;
}

-- what a load does with what it has read
by-read : (kind : Kind) (t : AnyTable) (cursors : Named Cursor) (files : Files) (name : List ℕ)
    (read : Result (List Row) Reply) → table_read (slot_of kind t cursors) files (Command.Load name) ≡ read →
    unless_refused (refuse_if_bad read (refuse_if (nat_lt t.tree.max (read_length read)) Reply.ErrorFull None))
    (engine_of (slot_of kind t cursors)) files (Command.Load name) ≡
    outcome (engine_of (slot_of kind (read_table t read) cursors)) files (read_reply t.tree.max read ∷ [])
by-read kind t cursors files name (Err fault) h = refl
by-read kind t cursors files name (Ok rows) h =
    elim (nat_lt t.tree.max (length rows))
    as (λ b. unless_refused (refuse_if b Reply.ErrorFull None) (engine_of (slot_of kind t cursors)) files
    (Command.Load name) ≡ outcome (engine_of
    (slot_of kind (if b then t else table_at t.dims (without_past t.tree rows)) cursors)) files
    ((if b then Reply.ErrorFull else Reply.Loaded (length rows)) ∷ [])) [
      | true ↦ refl
      | false ↦ ap (load_outcome (engine_of (slot_of kind t cursors)) files) h
    ]

load-does : (most : ℕ) (kind : Kind) (t : AnyTable) (cursors : Named Cursor) (files : Files) (name bytes : List ℕ) →
    length bytes ≤ most → lookup name files ≡ Some bytes → let read = read_snapshot kind t.dims t.tree.width bytes in
    act most (engine_of (slot_of kind t cursors)) files false (Command.Load name) ≡
    outcome (engine_of (slot_of kind (read_table t read) cursors)) files (read_reply t.tree.max read ∷ [])
load-does most kind t cursors files name bytes short l =
    let s = slot_of kind t cursors in
    let read = table_read s files (Command.Load name) in
    let is : read ≡ read_snapshot kind t.dims t.tree.width bytes = ap (λ x. read_snapshot kind t.dims t.tree.width (bytes_of x)) l in
    fetched-act (Command.Load name) name (fetch-load name) most s files bytes l short
    ∙ by-read kind t cursors files name read refl
    ∙ ap (λ x. outcome (engine_of (slot_of kind (read_table t x) cursors)) files (read_reply t.tree.max x ∷ [])) is

module _ (most : ℕ) (kind : Kind) (t : AnyTable) (cursors : Named Cursor) (name bytes : List ℕ) (f now_f v c now_c : ℕ) where
  load-most : 16 * now_c ≤ 16 * c + length bytes → (files : Files) → lookup name files ≡ Some bytes →
      IsAtMost (work_of most (engine_of (slot_of kind t cursors)) files false (Command.Load name)) v v c now_c
  load-most few files l = rw l (record { few_visits = omega arith; few_changes = omega (arith, few) })

  -- the rows that a load has read are those of the bytes
  rows-in : (read : Result (List Row) Reply) (rows : List Row) → rows_read read ≡ Some rows → read ≡ Ok rows
  rows-in (Ok xs) rows h = cc
  rows-in (Err fault) rows h = absurd (let no : None ≡ Some rows = h in cc)

  read-rows : (files : Files) → lookup name files ≡ Some bytes → (rows : List Row) →
      rows_loaded (slot_of kind t cursors) files (Command.Load name) ≡ Some rows →
      read_snapshot kind t.dims t.tree.width bytes ≡ Ok rows
  read-rows files l rows h = ap (λ x. read_snapshot kind t.dims t.tree.width (bytes_of x)) (sym l) ∙
      rows-in (table_read (slot_of kind t cursors) files (Command.Load name)) rows h

  pub read-filed-or : {E : Type 0} (told now_told : Option Files) (now : AnyTable) (result : Result Told E) →
      Fetches told name most bytes (Ok tt) → length bytes ≤ most → Stays told now_told → now_f ≡ f →
      LoadsOr kind t bytes now result → c ≤ now_c → 16 * now_c ≤ 16 * c + length bytes →
      LoadsNodes kind t bytes result c now_c →
      FiledOr most (engine_of (slot_of kind t cursors)) (Command.Load name) (aside told f v c)
      (aside now_told now_f v now_c) (engine_of (slot_of kind now cursors)) result
  read-filed-or told now_told now (Ok reply) g short st e h later few made =
      fetched-filed (Command.Load name) name (fetch-load name) most (slot_of kind t cursors) bytes f now_f v v c now_c
      told now_told (engine_of (slot_of kind now cursors)) (reply_of reply) g st e
      (λ files l. load-does most kind t cursors files name bytes short l ∙ (λ i. outcome (engine_of (slot_of kind (sym h.0 i) cursors)) files (sym h.1 i ∷ [])))
      (load-most few) (omega arith) later (λ files l rows is. made rows (read-rows files l rows is))
  read-filed-or told now_told now (Err error) g short st e h later few made =
      fetched-starved (Command.Load name) name (fetch-load name) most (slot_of kind t cursors) bytes f now_f v v c
      now_c told now_told (engine_of (slot_of kind now cursors)) 0 g short st e
      (λ files l. ap (λ x. engine_of (slot_of kind x cursors)) h)
      (load-most few)
