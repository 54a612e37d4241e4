-- Bytes that were checked, and files.
use Rattle.std.proofs.Common.{◌≡◌, ◌≤◌, ◌+◌, ℕ, inl, inr, arith, Bool, true, false, List, length, refl, ap, sym, ◌∙◌, subst}
use Rattle.std.specs.Prelude.{◌⊎◌, ◌/◌, slice_index, Some, None, is_none, option_map, Result, Ok, Err}
use Rattle.std.specs.declared.option.Option.{Option}
use Rattle.ph_io.specs.Causes.{Rose}
use Rattle.ph_io.specs.Giving.{Taken, Given}
use Rattle.ph_io.specs.Shelf.{Stays, Fetches, FetchCounts}
use Rattle.ph_io.specs.Writing.{WritesFront}
use Rattle.ph_io.specs.declared.files.FetchFault.{FetchFault}
use Rattle.ph_io.specs.declared.files.FetchFault.TheVariants as unread
use Rattle.ph_specs.specs.declared.Kind.{Kind}
use Rattle.ph_specs.specs.declared.Kind.TheVariants.{Points, Boxes}
use Rattle.ph_specs.specs.Load.{Fault, bad_magic, bad_header, bad_dims, bad_short, bad_node, bad_extra, named_width}
use Rattle.ph_specs.specs.Named.{lookup}
use Rattle.ph_specs.specs.Command.{Command}
use Rattle.ph_specs.specs.Program.{check_line, checked_words, named_kind, own_fault, words_of_snapshot, words_of_file, words_unless}
use Rattle.ph_specs.specs.Refusals.{fetch, short_enough, bytes_of}
use Rattle.ph_specs.specs.Reply.{Reply, line_of, reply_text, reply_words}
use Rattle.ph_specs.specs.SavedTable.{fault_reply, read_unless, rows_saved}
use Rattle.ph_specs.specs.SnapshotOf.{IsSnapshotOf}
use Rattle.ph_specs.specs.State.{Files}
use Rattle.ph_specs.specs.Stats.{Stats, stats}
use Rattle.ph_specs.specs.Table.{Row}
use Rattle.ph_specs.specs.WorkSets.{all_nodes}
use Rattle.ph_model.proofs.laws.Snapshots.{none-from_snapshot, read-from_snapshot}
use Rattle.ph_script.specs.declared.reply.Reply.{Reply as Told}
use Rattle.ph_script.specs.Meaning.{reply_of}
use Rattle.ph_snap.specs.Faults.{IsLoadFault}
use Rattle.ph_snap.specs.declared.fault.LoadFault.{LoadFault}
use Rattle.ph_slot.specs.Beside.{Filings, beside_sink}
use Rattle.ph_engine.specs.Checking.{FileHasSizes, HasSizes, LineGiven, Meets, CheckDone, bytes_checked, nodes_saved, nodes_unless, status_of}
use Rattle.ph_slot.specs.Filing.{TellsFault, TellsUnfetched}
use Rattle.ph_commands.specs.Loading.{IsWithinBytes}
use Rattle.ph_commands.specs.Telling.{is_refusal, StopHasCause, ToldOr}
use Rattle.ph_commands.specs.Working.{one_if}
use Rattle.ph_engine.specs.Statuses.{IsRead}
use Rattle.ph_commands.specs.declared.answer.Answer.{Answer}
use Rattle.ph_commands.specs.declared.answer.Answer.TheVariants as answer
use Rattle.ph_engine.specs.declared.status.Status.TheVariants.{Clean, Refused, WriteFault, Memory}
use Rattle.ph_commands.specs.declared.answer.Stop.{Stop}
use Rattle.ph_commands.specs.declared.answer.Stop.TheVariants as stop
use Rattle.ph_engine.proofs.OwnDims.{own-dims}
use Rattle.ph_engine.proofs.OwnHeaders.{own-none}
use Rattle.ph_slot.proofs.Filed.{fetched, fetch-load, has-fetched, found_short, met-short, short-there, absent, over, long_bytes, failed-once, failed-never}

-- ---- bytes

module _ (bytes : List ℕ) (rows : List Row) (h : IsSnapshotOf (named_kind bytes) (slice_index bytes 5) (named_width bytes) bytes rows) where
  no-fault : own_fault bytes ≡ None
  no-fault = none-from_snapshot (named_kind bytes) (slice_index bytes 5) (named_width bytes) bytes rows h

  rows-by : (first : Option Fault) → first ≡ None → read_unless first (slice_index bytes 5) (named_width bytes) bytes ≡ Ok rows →
      rows_saved (slice_index bytes 5) (named_width bytes) bytes ≡ rows
  rows-by None n r = cc
  rows-by (Some fault) n r = absurd (let clash : Some fault ≡ None = n in cc)

  rows-are : rows_saved (slice_index bytes 5) (named_width bytes) bytes ≡ rows
  rows-are = rows-by (own_fault bytes) no-fault (read-from_snapshot (named_kind bytes) (slice_index bytes 5) (named_width bytes) bytes rows h)

  pub words-are : words_of_snapshot bytes ≡ checked_words (named_kind bytes) (slice_index bytes 5) (stats (named_width bytes) (slice_index bytes 5) rows)
  words-are =
      ap (λ o. words_unless o (named_kind bytes) (slice_index bytes 5) (named_width bytes) bytes) no-fault
      ∙ ap (λ r. checked_words (named_kind bytes) (slice_index bytes 5) (stats (named_width bytes) (slice_index bytes 5) r)) rows-are

  pub nodes-are : nodes_saved bytes ≡ length (all_nodes (named_width bytes) (slice_index bytes 5) rows)
  nodes-are =
      ap (λ o. nodes_unless o (slice_index bytes 5) (named_width bytes) bytes) no-fault
      ∙ ap (λ r. length (all_nodes (named_width bytes) (slice_index bytes 5) r)) rows-are

  -- a text that was composed as its line
  pub sizes-given : (sink now_sink : Taken) (said line : List ℕ) (result : Result Answer Stop) → said ≡ line →
      line ≡ line_of (checked_words (named_kind bytes) (slice_index bytes 5) (stats (named_width bytes) (slice_index bytes 5) rows)) →
      LineGiven sink now_sink said result → LineGiven sink now_sink (line_of (words_of_snapshot bytes)) result
  sizes-given sink now_sink said line result s l g = subst (λ x. LineGiven sink now_sink x result) (s ∙ l ∙ ap line_of (sym words-are)) g

  pub has-sizes : HasSizes bytes (line_of (words_of_snapshot bytes))
  has-sizes = record {
    kind = named_kind bytes;
    dims = slice_index bytes 5;
    width = named_width bytes;
    rows = rows;
    snapshot = h;
    said = ap line_of words-are;
  }

-- ---- a reply in place of the sizes

-- the line is that of the reply, if there is one
abbrev IsReplyTo : {E : Type 0} → List ℕ → Result Told E → Type 0
IsReplyTo line (Ok reply) = line ≡ reply_text (reply_of reply)
IsReplyTo line (Err error) = Unit {0}

module _ (sink now_sink : Taken) where
  pub reply-given : {E : Type 0} (line : List ℕ) (reply : Result Told E) (result : Result Answer Stop) →
      IsReplyTo line reply → ToldOr sink now_sink reply result → LineGiven sink now_sink line result
  reply-given line (Ok reply) (Ok answer) e t = rw e t
  reply-given line (Ok reply) (Err stop.WriteFault) e t = rw e t.1
  reply-given line (Ok reply) (Err stop.NoMemory) e t = absurd (let clash : stop.NoMemory ≡ stop.WriteFault = t.0 in cc)
  reply-given line (Err error) (Ok answer) e t = absurd t
  reply-given line (Err error) (Err stop.WriteFault) e t = absurd (let clash : stop.WriteFault ≡ stop.NoMemory = t.0 in cc)
  reply-given line (Err error) (Err stop.NoMemory) e t = t.1

  -- a refusal is not answered as good
  never-good : {P : Type 0} (line : List ℕ) (result : Result Answer Stop) → is_refusal line ≡ true → LineGiven sink now_sink line result → result ≡ Ok answer.Good → P
  never-good line (Ok answer.Good) r g e = absurd (let clash : false ≡ true = g.1 ∙ r in cc)
  never-good line (Ok answer.Refused) r g e = cc
  never-good line (Err why) r g e = cc

-- ---- the fault of bytes

words-of_fault : (first : Option Fault) (kind : Kind) (dims width : ℕ) (bytes : List ℕ) (reply : Reply) →
    option_map fault_reply first ≡ Some reply → words_unless first kind dims width bytes ≡ reply_words reply
words-of_fault None kind dims width bytes reply h = absurd (let clash : None ≡ Some reply = h in cc)
words-of_fault (Some fault) kind dims width bytes reply h = let same : fault_reply fault ≡ reply = cc in ap reply_words same

fault-refused : (first : Option Fault) (reply : Reply) → option_map fault_reply first ≡ Some reply → is_refusal (reply_text reply) ≡ true
fault-refused None reply h = absurd (let clash : None ≡ Some reply = h in cc)
fault-refused (Some bad_magic) reply h = let same : Reply.BadMagic ≡ reply = cc in rw (← same) refl
fault-refused (Some (bad_header at)) reply h = let same : Reply.BadHeader at ≡ reply = cc in rw (← same) refl
fault-refused (Some bad_dims) reply h = let same : Reply.BadDims ≡ reply = cc in rw (← same) refl
fault-refused (Some (bad_short at)) reply h = let same : Reply.BadShort at ≡ reply = cc in rw (← same) refl
fault-refused (Some (bad_node at)) reply h = let same : Reply.BadNode at ≡ reply = cc in rw (← same) refl
fault-refused (Some (bad_extra at)) reply h = let same : Reply.BadExtra at ≡ reply = cc in rw (← same) refl

module _ (bytes : List ℕ) (fault : LoadFault) (f : IsLoadFault (own_fault bytes) fault) (sink now_sink : Taken) where
  fault-line : {E : Type 0} (reply : Result Told E) → TellsFault fault reply → IsReplyTo (line_of (words_of_snapshot bytes)) reply
  fault-line (Ok reply) h =
      let first = own_fault bytes in
      ap line_of (words-of_fault first (named_kind bytes) (slice_index bytes 5) (named_width bytes) bytes (reply_of reply) (h first f))
  fault-line (Err error) h = tt

  pub fault-given : {E : Type 0} (reply : Result Told E) (result : Result Answer Stop) → TellsFault fault reply →
      ToldOr sink now_sink reply result → LineGiven sink now_sink (line_of (words_of_snapshot bytes)) result
  fault-given reply result h t = reply-given sink now_sink (line_of (words_of_snapshot bytes)) reply result (fault-line reply h) t

  pub fault-sizes : {P : Type 0} {E : Type 0} (reply : Result Told E) (result : Result Answer Stop) →
      TellsFault fault reply → ToldOr sink now_sink reply result → result ≡ Ok answer.Good → P
  fault-sizes {E = E} (Ok reply) result h t e =
      let first = own_fault bytes in
      let told : Result Told E = Ok reply in
      never-good sink now_sink (reply_text (reply_of reply)) result (fault-refused first (reply_of reply) (h first f))
      (reply-given sink now_sink (reply_text (reply_of reply)) told result refl t) e
  fault-sizes (Err error) (Ok answer) h t e = absurd t
  fault-sizes (Err error) (Err why) h t e = cc

-- ---- the statuses

module _ (sink now_sink : Taken) (line : List ℕ) where
  ends-of : (result : Result Answer Stop) → (status_of result ≡ Clean) ⊎ ((status_of result ≡ Refused) ⊎ ((status_of result ≡ WriteFault) ⊎ (status_of result ≡ Memory)))
  ends-of (Ok answer.Good) = inl refl
  ends-of (Ok answer.Refused) = inr (inl refl)
  ends-of (Err stop.WriteFault) = inr (inr (inl refl))
  ends-of (Err stop.NoMemory) = inr (inr (inr refl))

  whole-of : (result : Result Answer Stop) → LineGiven sink now_sink line result → IsRead (status_of result) → Given sink now_sink line
  whole-of (Ok answer) g r = g.0
  whole-of (Err stop.WriteFault) g (inl e) = absurd (let clash : WriteFault ≡ Clean = e in cc)
  whole-of (Err stop.WriteFault) g (inr e) = absurd (let clash : WriteFault ≡ Refused = e in cc)
  whole-of (Err stop.NoMemory) g (inl e) = absurd (let clash : Memory ≡ Clean = e in cc)
  whole-of (Err stop.NoMemory) g (inr e) = absurd (let clash : Memory ≡ Refused = e in cc)

  refused-of : (result : Result Answer Stop) → LineGiven sink now_sink line result → status_of result ≡ Refused → is_refusal line ≡ true
  refused-of (Ok answer.Good) g e = absurd (let clash : Clean ≡ Refused = e in cc)
  refused-of (Ok answer.Refused) g e = sym g.1
  refused-of (Err stop.WriteFault) g e = absurd (let clash : WriteFault ≡ Refused = e in cc)
  refused-of (Err stop.NoMemory) g e = absurd (let clash : Memory ≡ Refused = e in cc)

  good-of : (result : Result Answer Stop) → status_of result ≡ Clean → result ≡ Ok answer.Good
  good-of (Ok answer.Good) e = refl
  good-of (Ok answer.Refused) e = absurd (let clash : Refused ≡ Clean = e in cc)
  good-of (Err stop.WriteFault) e = absurd (let clash : WriteFault ≡ Clean = e in cc)
  good-of (Err stop.NoMemory) e = absurd (let clash : Memory ≡ Clean = e in cc)

  clean-of : (result : Result Answer Stop) → LineGiven sink now_sink line result → status_of result ≡ Clean → is_refusal line ≡ false
  clean-of result g e = sym (subst (LineGiven sink now_sink line) (good-of result e) g).1

  cut-of : (result : Result Answer Stop) → LineGiven sink now_sink line result → status_of result ≡ WriteFault → WritesFront sink now_sink line
  cut-of (Ok answer.Good) g e = absurd (let clash : Clean ≡ WriteFault = e in cc)
  cut-of (Ok answer.Refused) g e = absurd (let clash : Refused ≡ WriteFault = e in cc)
  cut-of (Err stop.WriteFault) g e = g
  cut-of (Err stop.NoMemory) g e = absurd (let clash : Memory ≡ WriteFault = e in cc)

  unwritten-of : (result : Result Answer Stop) → LineGiven sink now_sink line result → status_of result ≡ Memory → now_sink ≡ sink
  unwritten-of (Ok answer.Good) g e = absurd (let clash : Clean ≡ Memory = e in cc)
  unwritten-of (Ok answer.Refused) g e = absurd (let clash : Refused ≡ Memory = e in cc)
  unwritten-of (Err stop.WriteFault) g e = absurd (let clash : WriteFault ≡ Memory = e in cc)
  unwritten-of (Err stop.NoMemory) g e = g

  starved-of : (result : Result Answer Stop) → status_of result ≡ Memory → result ≡ Err stop.NoMemory
  starved-of (Ok answer.Good) e = absurd (let clash : Clean ≡ Memory = e in cc)
  starved-of (Ok answer.Refused) e = absurd (let clash : Refused ≡ Memory = e in cc)
  starved-of (Err stop.WriteFault) e = absurd (let clash : WriteFault ≡ Memory = e in cc)
  starved-of (Err stop.NoMemory) e = refl

-- a status of a failed write is that of an answer with its cause
pub write-rose : (before now : ℕ) (result : Result Answer Stop) → StopHasCause before now result → status_of result ≡ WriteFault → Rose before now
write-rose before now (Ok answer.Good) h e = absurd (let clash : Clean ≡ WriteFault = e in cc)
write-rose before now (Ok answer.Refused) h e = absurd (let clash : Refused ≡ WriteFault = e in cc)
write-rose before now (Err stop.WriteFault) h e = h.write refl
write-rose before now (Err stop.NoMemory) h e = absurd (let clash : Memory ≡ WriteFault = e in cc)

-- ---- a file

-- the line of a snapshot is no refusal
sizes-good : (kind : Kind) (dims : ℕ) (sizes : Stats) → is_refusal (line_of (checked_words kind dims sizes)) ≡ false
sizes-good Points dims sizes = refl
sizes-good Boxes dims sizes = refl

words-good : (first : Option Fault) (kind : Kind) (dims width : ℕ) (bytes : List ℕ) → first ≡ None →
    is_refusal (line_of (words_unless first kind dims width bytes)) ≡ false
words-good (Some fault) kind dims width bytes e = absurd (let no : Some fault ≡ None = e in cc)
words-good None kind dims width bytes e = sizes-good kind dims (stats width dims (rows_saved dims width bytes))

snapshot-clean : (most : ℕ) (files : Files) (fault : Bool) (file bytes : List ℕ) → fault ≡ false →
    fetch most files file ≡ Some bytes → own_fault bytes ≡ None → is_refusal (check_line most files fault file) ≡ true → ⊥
snapshot-clean most files fault file bytes none fetched sound refused =
    let line : check_line most files fault file ≡ line_of (words_of_snapshot bytes) =
    ap (λ b. check_line most files b file) none ∙ ap (λ o. line_of (words_of_file o)) fetched in
    let good : is_refusal (line_of (words_of_snapshot bytes)) ≡ false =
    words-good (own_fault bytes) (named_kind bytes) (slice_index bytes 5) (named_width bytes) bytes sound in
    let clash : true ≡ false = sym refused ∙ ap is_refusal line ∙ good in
    cc

-- what was counted, over the files that a check may have met
record IsBounded (clean : Type 0) (most : ℕ) (file : List ℕ) (told : Option Files) (found : Option (List ℕ)) (visits now_visits changes now_changes : ℕ) : Type 0 where
  kept_visits : visits ≤ now_visits
  kept_changes : changes ≤ now_changes
  most_visits : (files : Files) → Meets told file found files → now_visits ≤ visits + nodes_saved (bytes_checked most files file)
  most_changes : (files : Files) → Meets told file found files → now_changes ≤ changes + length (bytes_checked most files file) / 16
  clean_changes : (files : Files) → Meets told file found files → clean → now_changes ≤ changes + nodes_saved (bytes_checked most files file)
  few_visits : now_visits ≤ visits + most / 16
  few_changes : now_changes ≤ changes + most / 16

no-work : (clean : Type 0) (most : ℕ) (file : List ℕ) (told : Option Files) (found : Option (List ℕ)) (v c : ℕ) → IsBounded clean most file told found v v c c
no-work clean most file told found v c = record {
  clean_changes = λ files m e. omega arith;
  kept_visits = omega arith;
  kept_changes = omega arith;
  most_visits = λ files m. omega arith;
  most_changes = λ files m. omega arith;
  few_visits = omega arith;
  few_changes = omega arith;
}

-- the line for files that give none of the name
none-line : (most : ℕ) (files : Files) (file : List ℕ) → is_none (fetch most files file) ≡ true → check_line most files false file ≡ reply_text Reply.ErrorFile
none-line most files file h = ap (λ o. line_of (words_of_file o)) (none-of (fetch most files file) h)
  where
    none-of : (o : Option (List ℕ)) → is_none o ≡ true → o ≡ None
    none-of None h = refl
    none-of (Some b) h = absurd (let clash : false ≡ true = h in cc)

module _ (most : ℕ) (file : List ℕ) (told now_told : Option Files) (f now_f : ℕ) (sink now_sink : Taken) where
  -- by the line, which is that of the definition for the files that may have been met
  done-by : (v now_v c now_c : ℕ) (fault : Bool) (found : Option (List ℕ)) (line : List ℕ) (result : Result Answer Stop) →
      Filings true (one_if fault) f now_f → Stays told now_told →
      ((files : Files) → Meets told file found files → result ≡ Err stop.NoMemory → (fault ≡ false) × (is_none (fetch most files file) ≡ false)) →
      ((files : Files) → Meets told file found files → check_line most files fault file ≡ line) → LineGiven sink now_sink line result →
      ((files : Files) → Meets told file found files → result ≡ Ok answer.Good → FileHasSizes files file line) →
      IsBounded (result ≡ Ok answer.Good) most file told found v now_v c now_c →
      CheckDone most file (beside_sink sink told f v c) (beside_sink now_sink now_told now_f now_v now_c) (status_of result)
  done-by v now_v c now_c fault found line result n k there is g sizes b = record {
    fault = fault;
    found = found;
    counted = n;
    kept = k;
    ends = ends-of sink now_sink line result;
    whole = λ files m r. subst (Given sink now_sink) (sym (is files m)) (whole-of sink now_sink line result g r);
    refusals = λ files m e. ap is_refusal (is files m) ∙ refused-of sink now_sink line result g e;
    cleans = λ files m e. ap is_refusal (is files m) ∙ clean-of sink now_sink line result g e;
    cut = λ files m e. subst (WritesFront sink now_sink) (sym (is files m)) (cut-of sink now_sink line result g e);
    unwritten = unwritten-of sink now_sink line result g;
    wanted = λ files m e. there files m (starved-of sink now_sink line result e);
    saved = λ files m e. subst (FileHasSizes files file) (sym (is files m)) (sizes files m (good-of sink now_sink line result e));
    own_dims = λ files m. own-dims most files fault file;
    kept_visits = b.kept_visits;
    kept_changes = b.kept_changes;
    most_visits = b.most_visits;
    most_changes = b.most_changes;
    clean_changes = λ files m e. b.clean_changes files m (good-of sink now_sink line result e);
    snapshot_clean = λ files m none bytes fetched sound e.
        snapshot-clean most files fault file bytes none fetched sound (ap is_refusal (is files m) ∙ refused-of sink now_sink line result g e);
    snapshot_accepted = λ files m none bytes fetched kind dims width rows saved e.
        snapshot-clean most files fault file bytes none fetched (own-none kind dims width bytes rows saved)
        (ap is_refusal (is files m) ∙ refused-of sink now_sink line result g e);
    few_visits = b.few_visits;
    few_changes = b.few_changes;
  }

  -- a reply in place of the sizes: no file was read
  unread-by : {E : Type 0} (v c : ℕ) (fault : Bool) (found : Option (List ℕ)) (reply : Result Told E) (result : Result Answer Stop) →
      Filings true (one_if fault) f now_f → Stays told now_told →
      ((files : Files) → Meets told file found files → check_line most files fault file ≡ reply_text Reply.ErrorFile) →
      IsReplyTo (reply_text Reply.ErrorFile) reply → (result ≡ Err stop.NoMemory → ⊥) → ToldOr sink now_sink reply result →
      CheckDone most file (beside_sink sink told f v c) (beside_sink now_sink now_told now_f v c) (status_of result)
  unread-by v c fault found reply result n k is r never t =
      let given : LineGiven sink now_sink (reply_text Reply.ErrorFile) result = reply-given sink now_sink (reply_text Reply.ErrorFile) reply result r t in
      done-by v v c c fault found (reply_text Reply.ErrorFile) result n k (λ files m e. absurd (never e)) is given
      (λ files m. never-good sink now_sink (reply_text Reply.ErrorFile) result refl given)
      (no-work (result ≡ Ok answer.Good) most file told found v c)

  -- memory was missing
  starved-by : (v c : ℕ) (bytes : List ℕ) → Fetches told file most bytes (Err unread.NoMemory) → now_f ≡ f →
      Stays told now_told → now_sink ≡ sink →
      CheckDone most file (beside_sink sink told f v c) (beside_sink now_sink now_told now_f v c) Memory
  starved-by v c bytes g n k s =
      let met = met-short (Command.Load file) file (fetch-load file) told in
      done-by v v c c false (found_short told file) (line_of (words_of_file (short_enough most (found_short told file)))) (Err stop.NoMemory)
      (failed-never f now_f (omega (arith, n))) k
      (λ files m e. (refl, short-there most file bytes told files g (met files m)))
      (λ files m. ap (λ o. line_of (words_of_file (short_enough most o))) (met files m)) s
      (λ files m e. cc) (no-work _ most file told _ v c)

module _ {E : Type 0} (most : ℕ) (file bytes : List ℕ) (told now_told : Option Files) (f now_f : ℕ)
    (sink now_sink : Taken) (v c : ℕ) (reply : Result Told E) (result : Result Answer Stop) where
  error-line : (reply : Result Told E) (fault : FetchFault) → TellsUnfetched fault reply → IsReplyTo (reply_text Reply.ErrorFile) reply
  error-line (Ok r) fault h = ap reply_text (sym h.1)
  error-line (Err error) fault h = tt

  -- a file that was not there, or could not be read, wants no memory
  unread-told : (reply : Result Told E) (result : Result Answer Stop) (fault : FetchFault) → TellsUnfetched fault reply →
      (fault ≡ unread.NoMemory → ⊥) → ToldOr sink now_sink reply result → result ≡ Err stop.NoMemory → ⊥
  unread-told (Ok r) (Ok answer) fault h never t e = cc
  unread-told (Ok r) (Err why) fault h never t e =
      let written : why ≡ stop.WriteFault = t.0 in
      let answered : Result Answer Stop = Err stop.WriteFault in
      let clash : answered ≡ Err stop.NoMemory = sym (ap Err written) ∙ e in cc
  unread-told (Err error) result fault h never t e = never h

  starved-told : (reply : Result Told E) (result : Result Answer Stop) → TellsUnfetched unread.NoMemory reply →
      Fetches told file most bytes (Err unread.NoMemory) → ToldOr sink now_sink reply result → now_f ≡ f → Stays told now_told →
      CheckDone most file (beside_sink sink told f v c) (beside_sink now_sink now_told now_f v c) (status_of result)
  starved-told (Ok r) result h g t n k = absurd (h.0 refl)
  starved-told (Err error) (Ok answer) h g t n k = absurd t
  starved-told (Err error) (Err stop.WriteFault) h g t n k = absurd (let clash : stop.WriteFault ≡ stop.NoMemory = t.0 in cc)
  starved-told (Err error) (Err stop.NoMemory) h g t n k = starved-by most file told now_told f now_f sink now_sink v c bytes g n k t.1

  -- No file was read. In place of one that was too long some bytes that are too many stand as what was found.
  pub unfetched-done : (fault : FetchFault) → TellsUnfetched fault reply → Fetches told file most bytes (Err fault) →
      FetchCounts f now_f (Err fault) → Stays told now_told → ToldOr sink now_sink reply result →
      CheckDone most file (beside_sink sink told f v c) (beside_sink now_sink now_told now_f v c) (status_of result)
  unfetched-done unread.Failed h g n k t =
      unread-by most file told now_told f now_f sink now_sink v c true None reply result (failed-once f now_f n.0 n.1) k
      (λ files m. refl) (error-line reply unread.Failed h) (unread-told reply result unread.Failed h (λ no. cc) t) t
  unfetched-done unread.Absent h g n k t =
      unread-by most file told now_told f now_f sink now_sink v c false None reply result
      (failed-never f now_f (omega (arith, n))) k
      (λ files m. none-line most files file (absent (Command.Load file) file (fetch-load file) most bytes told files g m))
      (error-line reply unread.Absent h) (unread-told reply result unread.Absent h (λ no. cc) t) t
  unfetched-done unread.Over h g n k t =
      let long : Option (List ℕ) = Some (long_bytes (Command.Load file) file (fetch-load file) most) in
      unread-by most file told now_told f now_f sink now_sink v c false long reply result
      (failed-never f now_f (omega (arith, n))) k
      (λ files m. none-line most files file (over (Command.Load file) file (fetch-load file) most bytes told files g m))
      (error-line reply unread.Over h) (unread-told reply result unread.Over h (λ no. cc) t) t
  unfetched-done unread.NoMemory h g n k t = starved-told reply result h g t n k

-- a file was read, and its bytes were checked
pub fetched-done : (most : ℕ) (file bytes : List ℕ) (told now_told : Option Files) (f now_f : ℕ)
    (sink now_sink : Taken) (v now_v c now_c : ℕ) (result : Result Answer Stop) →
    Fetches told file most bytes (Ok tt) → length bytes ≤ most → now_f ≡ f → Stays told now_told →
    LineGiven sink now_sink (line_of (words_of_snapshot bytes)) result →
    (result ≡ Ok answer.Good → HasSizes bytes (line_of (words_of_snapshot bytes))) → IsWithinBytes bytes v now_v →
    now_v ≤ v + nodes_saved bytes → IsWithinBytes bytes c now_c →
    (result ≡ Ok answer.Good → now_c ≤ c + nodes_saved bytes) →
    CheckDone most file (beside_sink sink told f v c) (beside_sink now_sink now_told now_f now_v now_c) (status_of result)
fetched-done most file bytes told now_told f now_f sink now_sink v now_v c now_c result g short n k line sizes visits most_v changes nodes =
    let has : (files : Files) → Meets told file (Some bytes) files → lookup file files ≡ Some bytes =
    λ files m. has-fetched (Command.Load file) file (fetch-load file) most bytes told files g m in
    let is : (files : Files) → Meets told file (Some bytes) files → fetch most files file ≡ Some bytes =
    λ files m. fetched most files file bytes (has files m) short in
    done-by most file told now_told f now_f sink now_sink v now_v c now_c false (Some bytes) (line_of (words_of_snapshot bytes)) result
    (failed-never f now_f (omega (arith, n))) k (λ files m e. (refl, ap is_none (is files m)))
    (λ files m. ap (λ o. line_of (words_of_file o)) (is files m)) line
    (λ files m e. record { bytes = bytes; found = has files m; sizes = sizes e })
    (record {
      kept_visits = visits.kept;
      kept_changes = changes.kept;
      most_visits = λ files m. subst (λ o. now_v ≤ v + nodes_saved (bytes_of o)) (sym (is files m)) most_v;
      most_changes = λ files m. subst (λ o. now_c ≤ c + length (bytes_of o) / 16) (sym (is files m)) (omega (arith, changes.few));
      clean_changes = λ files m e. subst (λ o. now_c ≤ c + nodes_saved (bytes_of o)) (sym (is files m)) (nodes e);
      few_visits = omega (arith, visits.few, short);
      few_changes = omega (arith, changes.few, short);
    })
