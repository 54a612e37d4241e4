-- A command on a slot does the same whatever the other slot is.
use Rattle.std.proofs.Common.{◌≡◌, ℕ, Bool, true, false, List, [], ◌∷◌, refl, ap, sym, subst, ◌∙◌}
use Rattle.std.specs.Prelude.{Option, Some, None, Result, Ok, Err, ◌&&◌, if◌then◌else◌}
use Rattle.ph_specs.specs.Command.{Command}
use Rattle.ph_specs.specs.Reply.{Reply}
use Rattle.ph_specs.specs.Table.{Row}
use Rattle.ph_specs.specs.Window.{Cursor}
use Rattle.ph_specs.specs.Named.{lookup}
use Rattle.ph_specs.specs.declared.Which.TheVariants.{A, B}
use Rattle.ph_specs.specs.declared.Which.{Which}
use Rattle.ph_specs.specs.declared.SetOperation.{SetOperation}
use Rattle.ph_specs.specs.State.{Slot, Engine, Files, Outcome, current, with_slot, slot_at, put_slot, outcome}
use Rattle.ph_specs.specs.Refusals.{refusal, slot_refusal, or_else, table_read, import_rows}
use Rattle.ph_specs.specs.Engine.{act, effect, unless_refused, page_outcome, load_outcome, import_outcome}
use Rattle.ph_script.specs.declared.command.Command.{Command as Written}
use Rattle.ph_script.specs.declared.command.Command.TheVariants as by
use Rattle.ph_script.specs.Meaning.{command_of}
use Rattle.ph_slot.specs.Beside.{Beside}
use Rattle.ph_slot.specs.Doing.{Leads, DoneOr, Unfiled, is_on_slot, is_page, imported, slot_wants, starved_engine, with_first}
use Rattle.ph_commands.specs.Tables.{engine_of}
use Rattle.ph_commands.specs.Working.{work, work_of, engine_bounds, least_unless, IsAtMost, IsAtLeast}
use Rattle.ph_slot.proofs.Refused.{alone}
use Rattle.ph_commands.specs.declared.answer.Answer.{Answer}
use Rattle.ph_commands.specs.declared.answer.Stop.{Stop}
use Rattle.ph_commands.specs.declared.answer.Stop.TheVariants.{WriteFault, NoMemory}

-- what an engine of one slot is led to, in an engine with another other slot
abbrev pub lift : Engine → Outcome → Outcome
lift e o = outcome (with_slot e (current o.engine)) o.files o.replies

put-same : (which : Which) (e : Engine) → put_slot which e (slot_at which e) ≡ e
put-same A e = refl
put-same B e = refl

pub same : (e : Engine) → with_slot e (current e) ≡ e
same e = put-same e.current e

stays : (e : Engine) (files : Files) (replies : List Reply) → outcome e files replies ≡ lift e (outcome (engine_of (current e)) files replies)
stays e files replies = ap (λ x. outcome x files replies) (sym (same e))

page-lifted : (e : Engine) (files : Files) (name : List ℕ) (n : ℕ) (c : Option Cursor) →
    page_outcome e files name n c ≡ lift e (page_outcome (engine_of (current e)) files name n c)
page-lifted e files name n None = stays e files []
page-lifted e files name n (Some c) = refl

load-lifted : (e : Engine) (files : Files) (read : Result (List Row) Reply) → load_outcome e files read ≡ lift e (load_outcome (engine_of (current e)) files read)
load-lifted e files (Ok rows) = refl
load-lifted e files (Err fault) = stays e files (fault ∷ [])

import-lifted : (e : Engine) (files : Files) (read : Result (List Row) Reply) → import_outcome e files read ≡ lift e (import_outcome (engine_of (current e)) files read)
import-lifted e files (Ok rows) = refl
import-lifted e files (Err fault) = stays e files (fault ∷ [])

effect-lifted : (e : Engine) (files : Files) (cmd : Command) → is_on_slot cmd ≡ true → effect e files cmd ≡ lift e (effect (engine_of (current e)) files cmd)
effect-lifted e files (Command.Begin kind k width max) h = refl
effect-lifted e files (Command.Put p v) h = refl
effect-lifted e files (Command.Get p) h = stays e files _
effect-lifted e files (Command.Del p) h = refl
effect-lifted e files (Command.Relocate p q) h = refl
effect-lifted e files Command.Count h = stays e files _
effect-lifted e files Command.Clear h = refl
effect-lifted e files (Command.Window lo hi) h = stays e files _
effect-lifted e files (Command.Cursor name lo hi) h = refl
effect-lifted e files (Command.Page name n) h = page-lifted e files name n (lookup name (current e).cursors)
effect-lifted e files (Command.Near q n) h = stays e files _
effect-lifted e files (Command.Within q r) h = stays e files _
effect-lifted e files (Command.Overlap q) h = stays e files _
effect-lifted e files (Command.Inside q) h = stays e files _
effect-lifted e files (Command.Covers q) h = stays e files _
effect-lifted e files (Command.Save name) h = stays e _ _
effect-lifted e files (Command.Load name) h = load-lifted e files (table_read (current e) files (Command.Load name))
effect-lifted e files (Command.Import name header) h = import-lifted e files (import_rows (current e) files name header)
effect-lifted e files (Command.Export name) h = stays e _ _
effect-lifted e files Command.Statistics h = stays e files _
effect-lifted e files (Command.Select which) h = absurd cc
effect-lifted e files Command.Compare h = absurd cc
effect-lifted e files Command.Join h = absurd cc
effect-lifted e files (Command.Combine operation) h = absurd cc
effect-lifted e files (Command.Keep n) h = refl
effect-lifted e files (Command.Back n) h = refl

unless-lifted : (r : Option Reply) (e : Engine) (files : Files) (cmd : Command) → is_on_slot cmd ≡ true →
    unless_refused r e files cmd ≡ lift e (unless_refused r (engine_of (current e)) files cmd)
unless-lifted (Some r) e files cmd h = stays e files (r ∷ [])
unless-lifted None e files cmd h = effect-lifted e files cmd h

refusal-lifted : (most : ℕ) (e : Engine) (files : Files) (fault : Bool) (cmd : Command) → is_on_slot cmd ≡ true →
    refusal most e files fault cmd ≡ refusal most (engine_of (current e)) files fault cmd
refusal-lifted most e files fault cmd h =
    ap (λ r. or_else r (slot_refusal most (current e) files fault cmd)) ((alone e cmd h).0 ∙ sym (alone (engine_of (current e)) cmd h).0)

pub act-lifted : (most : ℕ) (e : Engine) (files : Files) (fault : Bool) (cmd : Command) → is_on_slot cmd ≡ true →
    act most e files fault cmd ≡ lift e (act most (engine_of (current e)) files fault cmd)
act-lifted most e files fault cmd h =
    ap (λ r. unless_refused r e files cmd) (refusal-lifted most e files fault cmd h) ∙ unless-lifted (refusal most (engine_of (current e)) files fault cmd) e files cmd h

-- ---- its work

bounds-lifted : (e : Engine) (files : Files) (cmd : Command) → is_on_slot cmd ≡ true → engine_bounds e files cmd ≡ engine_bounds (engine_of (current e)) files cmd
bounds-lifted e files (Command.Begin kind k width max) h = refl
bounds-lifted e files (Command.Put p v) h = refl
bounds-lifted e files (Command.Get p) h = refl
bounds-lifted e files (Command.Del p) h = refl
bounds-lifted e files (Command.Relocate p q) h = refl
bounds-lifted e files Command.Count h = refl
bounds-lifted e files Command.Clear h = refl
bounds-lifted e files (Command.Window lo hi) h = refl
bounds-lifted e files (Command.Cursor name lo hi) h = refl
bounds-lifted e files (Command.Page name n) h = refl
bounds-lifted e files (Command.Near q n) h = refl
bounds-lifted e files (Command.Within q r) h = refl
bounds-lifted e files (Command.Overlap q) h = refl
bounds-lifted e files (Command.Inside q) h = refl
bounds-lifted e files (Command.Covers q) h = refl
bounds-lifted e files (Command.Save name) h = refl
bounds-lifted e files (Command.Load name) h = refl
bounds-lifted e files (Command.Import name header) h = refl
bounds-lifted e files (Command.Export name) h = refl
bounds-lifted e files Command.Statistics h = refl
bounds-lifted e files (Command.Select which) h = refl
bounds-lifted e files Command.Compare h = absurd cc
bounds-lifted e files Command.Join h = absurd cc
bounds-lifted e files (Command.Combine operation) h = absurd cc
bounds-lifted e files (Command.Keep n) h = refl
bounds-lifted e files (Command.Back n) h = refl

work-lifted : (most : ℕ) (e : Engine) (files : Files) (fault : Bool) (cmd : Command) → is_on_slot cmd ≡ true →
    work_of most e files fault cmd ≡ work_of most (engine_of (current e)) files fault cmd
work-lifted most e files fault cmd h =
    (λ i.
    let r = refusal-lifted most e files fault cmd h i in
    let w = bounds-lifted e files cmd h i in
    work w.most_visits (least_unless r w.least_visits) w.most_changes (least_unless r w.least_changes))

-- ---- what a command of the code answers

leads-lifted : (most : ℕ) (e after : Engine) (files : Files) (fault : Bool) (cmd : Command)
    (told now_told : Option Files) (replies : List Reply) → is_on_slot cmd ≡ true →
    Leads (act most (engine_of (current e)) files fault cmd) after files told now_told replies →
    Leads (act most e files fault cmd) (with_slot e (current after)) files told now_told replies
leads-lifted most e after files fault cmd told now_told replies h l = record {
  after = l.after;
  is = act-lifted most e files fault cmd h ∙ ap (lift e) l.is;
  told_files = l.told_files;
}

cut-or : (e after : Engine) (s : Slot) (page : Bool) → engine_of s ≡ (if page then engine_of (current e) else after) →
    with_slot e s ≡ (if page then e else with_slot e (current after))
cut-or e after s true h = ap (λ x. with_slot e (current x)) h ∙ same e
cut-or e after s false h = ap (λ x. with_slot e (current x)) h

first-lifted : (e : Engine) (n : ℕ) (rows : Option (List Row)) → with_slot e (current (with_first (engine_of (current e)) n rows)) ≡ with_first e n rows
first-lifted e n (Some rows) = refl
first-lifted e n None = same e

starved-lifted : (e : Engine) (files : Files) (cmd : Command) (n : ℕ) →
    with_slot e (current (starved_engine (engine_of (current e)) files cmd n)) ≡ starved_engine e files cmd n
starved-lifted e files (Command.Back asked) n = refl
starved-lifted e files cmd n = first-lifted e n (imported (current e) files cmd)

unfiled-lifted : (most : ℕ) (e : Engine) (s : Slot) (cmd : Command) (b now_b : Beside) → is_on_slot cmd ≡ true →
    Unfiled most (engine_of (current e)) cmd b now_b (engine_of s) → Unfiled most e cmd b now_b (with_slot e s)
unfiled-lifted most e s cmd b now_b h d = record {
  fault = d.fault;
  found = d.found;
  counted = d.counted;
  part = d.part;
  state = λ files k. ap (λ x. with_slot e (current x)) (d.state files k) ∙ starved-lifted e files cmd d.part;
  kept = d.kept;
  wanted = λ files k. ap (λ t. t && slot_wants most (current e) files d.fault cmd)
      ((alone e cmd h).1 ∙ sym (alone (engine_of (current e)) cmd h).1) ∙ d.wanted files k;
  most_work = λ files k. subst (λ w. IsAtMost w b.visits now_b.visits b.changes now_b.changes) (sym (work-lifted most e files d.fault cmd h)) (d.most_work files k);
}

pub done-lifted : (most : ℕ) (e : Engine) (s : Slot) (cmd : Command) (b now_b : Beside)
    (result : Result Answer Stop) → is_on_slot cmd ≡ true →
    DoneOr most (engine_of (current e)) cmd b now_b (engine_of s) result → DoneOr most e cmd b now_b (with_slot e s) result
done-lifted most e s cmd b now_b (Ok answer) h d = record {
  fault = d.fault;
  found = d.found;
  filings = d.filings;
  replies = d.replies;
  does = λ files k. leads-lifted most e (engine_of s) files d.fault cmd b.files now_b.files d.replies h (d.does files k);
  told = d.told;
  refusal = d.refusal;
  most_work = λ files k. subst (λ w. IsAtMost w b.visits now_b.visits b.changes now_b.changes) (sym (work-lifted most e files d.fault cmd h)) (d.most_work files k);
  least_work = λ files k. subst (λ w. IsAtLeast w b.visits now_b.visits b.changes now_b.changes) (sym (work-lifted most e files d.fault cmd h)) (d.least_work files k);
  nodes = d.nodes;
}
done-lifted most e s cmd b now_b (Err WriteFault) h d = record {
  fault = d.fault;
  found = d.found;
  filings = d.filings;
  replies = d.replies;
  after = with_slot e (current d.after);
  does = λ files k. leads-lifted most e d.after files d.fault cmd b.files now_b.files d.replies h (d.does files k);
  state = cut-or e d.after s (is_page cmd) d.state;
  count = d.count;
  short = d.short;
  told = d.told;
  most_work = λ files k. subst (λ w. IsAtMost w b.visits now_b.visits b.changes now_b.changes) (sym (work-lifted most e files d.fault cmd h)) (d.most_work files k);
}
done-lifted most e s cmd b now_b (Err NoMemory) h d = record { unfiled = unfiled-lifted most e s cmd b now_b h d.unfiled; told = d.told }

-- the commands of the code but four are on a slot
pub on-slot : (c : Written) → ((which : Which) → c ≡ by.Select which → ⊥) → (c ≡ by.Same → ⊥) → (c ≡ by.Join → ⊥) →
    ((operation : SetOperation) → c ≡ by.Combine operation → ⊥) → is_on_slot (command_of c) ≡ true
on-slot (by.Select which) n m o p = absurd (n which refl)
on-slot by.Same n m o p = absurd (m refl)
on-slot by.Join n m o p = absurd (o refl)
on-slot (by.Combine operation) n m o p = absurd (p operation refl)
on-slot other n m o p = refl

-- the same by the fields of the code's engine, where this slot is the current one
pub done-at : (most : ℕ) (e fields : Engine) (s : Slot) (now : Which) (cmd : Command) (d now_d : Beside)
    (result : Result Answer Stop) → fields ≡ e → fields.current ≡ now → is_on_slot cmd ≡ true →
    DoneOr most (engine_of (slot_at now fields)) cmd d now_d (engine_of s) result →
    DoneOr most e cmd d now_d (put_slot now fields s) result
done-at most e fields s now cmd d now_d result v w h k =
    subst (λ x. DoneOr most x cmd d now_d (put_slot now fields s) result) v
    (subst (λ y. DoneOr most (engine_of (slot_at y fields)) cmd d now_d (engine_of s) result → DoneOr most fields cmd d now_d (put_slot y fields s) result) w
    (done-lifted most fields s cmd d now_d result h) k)
