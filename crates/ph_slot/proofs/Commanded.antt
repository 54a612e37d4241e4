-- What a command has done, once its replies were given to a sink.
use Rattle.std.proofs.Common.{◌≡◌, ◌≤◌, ℕ, ◌+◌, inr, arith, Bool, true, false, List, [], ◌∷◌, refl, ap, sym, ◌∙◌, append-nil}
use Rattle.std.specs.Prelude.{Some, None, Ok, Err, Result, IfOk, IfErr, OnOk, OnErr, if◌then◌else◌}
use Rattle.std.specs.declared.option.Option.{Option}
use Rattle.ph_io.specs.Giving.{Taken, Given}
use Rattle.ph_specs.specs.declared.Kind.{Kind}
use Rattle.ph_specs.specs.Command.{Command as Asked}
use Rattle.ph_specs.specs.Reply.{Reply, reply_text, replies_text}
use Rattle.ph_specs.specs.declared.Which.{Which}
use Rattle.ph_specs.specs.declared.Kind.TheVariants.{Points, Boxes}
use Rattle.ph_specs.specs.Engine.{same_slots, unless_refused}
use Rattle.ph_specs.specs.Refusals.{refusal, has_wrong_kind, boxes_of}
use Rattle.ph_specs.specs.State.{Slot, Engine, Files, current, outcome}
use Rattle.ph_script.specs.declared.reply.Reply.{Reply as Told}
use Rattle.ph_script.specs.Meaning.{reply_of}
use Rattle.ph_commands.specs.Telling.{is_refusal, refuses, Tells}
use Rattle.ph_slot.specs.Beside.{Beside, beside_sink, IsTold, StillTells, Filings}
use Rattle.ph_slot.specs.Comparing.{Compares}
use Rattle.ph_commands.specs.Working.{work_of, nodes_of, IsAtMost, IsAtLeast}
use Rattle.ph_commands.specs.Served.{Does}
use Rattle.ph_slot.specs.Doing.{DoneOr, Begun, uses_files, is_page, cut_engine}
use Rattle.ph_commands.specs.Tables.{engine_of}
use Rattle.ph_io.specs.Writing.{WritesFront}
use Rattle.ph_commands.specs.declared.answer.Answer.{Answer}
use Rattle.ph_commands.specs.declared.answer.Stop.{Stop}
use Rattle.ph_commands.specs.declared.answer.Stop.TheVariants.{WriteFault, NoMemory}

pub told-told : (told now_told : Option Files) (files : Files) → now_told ≡ told → IsTold told files → StillTells told now_told files
told-told None now_told files e k = tt
told-told (Some told) now_told files e k = e ∙ ap Some k

pub one-text : (r : Reply) → replies_text (r ∷ []) ≡ reply_text r
one-text r = append-nil (reply_text r)

-- the files are left as they were
pub record LeavesFiles (b now_b : Beside) : Type 0 where
  pub files : now_b.files ≡ b.files
  pub filings : now_b.filings ≡ b.filings

-- and did not fail in the command
pub no-faults : (command : Asked) (b now_b : Beside) → LeavesFiles b now_b → Filings (uses_files command) 0 b.filings now_b.filings
no-faults command b now_b l = record { told = inr (omega (arith, l.filings)); later = omega (arith, l.filings); quiet = λ _. l.filings }

-- with whatever files, the counters rose as far as the bounds let them, and as far as they must
abbrev pub Most : Engine → Asked → Beside → Beside → Type 0
Most e command b now_b = (most : ℕ) (files : Files) (fault : Bool) → IsAtMost (work_of most e files fault command) b.visits now_b.visits b.changes now_b.changes

abbrev pub Least : Engine → Asked → Beside → Beside → Type 0
Least e command b now_b = (most : ℕ) (files : Files) (fault : Bool) → IsAtLeast (work_of most e files fault command) b.visits now_b.visits b.changes now_b.changes

-- A command that was done, and whose replies were given to a sink. `after` is the engine that it leads to, and `now` the one that is
-- left where a write failed.
pub done-all : (most : ℕ) (e after now : Engine) (command : Asked) (replies : List Reply) (b now_b : Beside)
    (result : Result Answer Stop) → LeavesFiles b now_b → now_b.changes ≡ b.changes → OnOk result (now ≡ after) →
    OnErr result (now ≡ cut_engine e command after) → Does e command after replies → Most e command b now_b →
    OnOk result (Least e command b now_b) →
    IfOk result (λ answer. refuses answer ≡ is_refusal (replies_text replies)) →
    OnOk result (Given b.sink now_b.sink (replies_text replies)) → IfErr result (λ stop. stop ≡ WriteFault) →
    OnErr result (WritesFront b.sink now_b.sink (replies_text replies)) → DoneOr most e command b now_b now result
done-all most e after now command replies b now_b (Ok answer) l still x w d u v a t s f = record {
  fault = false;
  found = None;
  filings = no-faults command b now_b l;
  replies = replies;
  does = λ files k. record { after = files; is = rw x (d most files false); told_files = λ e. l.files ∙ e };
  told = t;
  refusal = a;
  most_work = λ files k. u most files false;
  least_work = λ files k. v most files false;
  nodes = λ files k rows is. omega (arith, still);
}
done-all most e after now command replies b now_b (Err WriteFault) l still x w d u v a t s f = record {
  fault = false;
  found = None;
  filings = no-faults command b now_b l;
  replies = replies;
  after = after;
  does = λ files k. record { after = files; is = d most files false; told_files = λ e. l.files ∙ e };
  state = w;
  count = f.count;
  short = f.short;
  told = f.told;
  most_work = λ files k. u most files false;
}
done-all most e after now command replies b now_b (Err NoMemory) l still x w d u v a t s f = absurd (let clash : NoMemory ≡ WriteFault = s in cc)

-- what was said of a reply was told
pub tells-said : (sink now_sink : Taken) (reply : Told) (result : Result Answer Stop) →
    IfOk result (λ answer. refuses answer ≡ is_refusal (reply_text (reply_of reply))) →
    OnOk result (Given sink now_sink (reply_text (reply_of reply))) → IfErr result (λ stop. stop ≡ WriteFault) →
    OnErr result (WritesFront sink now_sink (reply_text (reply_of reply))) → Tells sink now_sink reply result
tells-said sink now_sink reply (Ok answer) good told fault front = (told, good)
tells-said sink now_sink reply (Err stop) good told fault front = (fault, front)

-- a command of one reply, once this was given to a sink
pub done-said : (most : ℕ) (e now : Engine) (command : Asked) (reply : Told) (b now_b : Beside)
    (result : Result Answer Stop) → LeavesFiles b now_b → now_b.changes ≡ b.changes → now ≡ cut_engine e command now →
    Does e command now (reply_of reply ∷ []) → Most e command b now_b → Least e command b now_b →
    Tells b.sink now_b.sink reply result → DoneOr most e command b now_b now result
done-said most e now command reply b now_b (Ok answer) l still p d u v t =
    done-all most e now now command (reply_of reply ∷ []) b now_b (Ok answer) l still refl tt d u v
    (rw (one-text (reply_of reply)) t.1) (rw (one-text (reply_of reply)) t.0) tt tt
done-said most e now command reply b now_b (Err stop) l still p d u v t =
    done-all most e now now command (reply_of reply ∷ []) b now_b (Err stop) l still tt p d u tt tt tt t.0 (rw (one-text (reply_of reply)) t.1)

-- a command that is refused, a page too
cut-same : (e : Engine) (page : Bool) → e ≡ (if page then e else e)
cut-same e true = refl
cut-same e false = refl

pub done-refused : (most : ℕ) (s : Slot) (command : Asked) (reply : Told) (sink now_sink : Taken)
    (files : Option Files) (filings visits changes : ℕ) (result : Result Answer Stop) →
    Begun s command s (reply_of reply) → Tells sink now_sink reply result →
    DoneOr most (engine_of s) command (beside_sink sink files filings visits changes)
    (beside_sink now_sink files filings visits changes) (engine_of s) result
done-refused most s command reply sink now_sink files filings visits changes result h t =
    done-said most (engine_of s) (engine_of s) command reply _ _ result (record { files = refl; filings = refl }) refl
    (cut-same (engine_of s) (is_page command)) h.does (h.most visits changes) (h.least visits changes) t

-- ---- commands that know both slots

kind-of-select : (kind : Kind) (which : Which) → (has_wrong_kind kind (Asked.Select which) ≡ false) × (boxes_of kind (Asked.Select which) ≡ [])
kind-of-select Points which = (refl, refl)
kind-of-select Boxes which = (refl, refl)

kind-of-compare : (kind : Kind) → (has_wrong_kind kind Asked.Compare ≡ false) × (boxes_of kind Asked.Compare ≡ [])
kind-of-compare Points = (refl, refl)
kind-of-compare Boxes = (refl, refl)

select-unrefused : (most : ℕ) (e : Engine) (files : Files) (fault : Bool) (which : Which) → refusal most e files fault (Asked.Select which) ≡ None
select-unrefused most e files fault which = let k = kind-of-select (current e).kind which in rw (k.0, k.1) refl

compare-unrefused : (most : ℕ) (e : Engine) (files : Files) (fault : Bool) → refusal most e files fault Asked.Compare ≡ None
compare-unrefused most e files fault = let k = kind-of-compare (current e).kind in rw (k.0, k.1) refl

pub select-done : (most : ℕ) (e now : Engine) (which : Which) (reply : Told) (sink now_sink : Taken)
    (files : Option Files) (filings visits changes : ℕ) (result : Result Answer Stop) →
    now ≡ record e { current = which } → reply_of reply ≡ Reply.Using which → Tells sink now_sink reply result →
    DoneOr most e (Asked.Select which) (beside_sink sink files filings visits changes)
    (beside_sink now_sink files filings visits changes) now result
select-done most e now which reply sink now_sink files filings visits changes result is said told =
    done-said most e now (Asked.Select which) reply (beside_sink sink files filings visits changes)
    (beside_sink now_sink files filings visits changes) result (record { files = refl; filings = refl }) refl refl
    (λ most files fault. ap (λ r. unless_refused r e files (Asked.Select which))
    (select-unrefused most e files fault which) ∙ (λ i. outcome (sym is i) files (sym said i ∷ [])))
    (λ most files fault. record { few_visits = omega arith; few_changes = omega arith })
    (λ most files fault. rw (select-unrefused most e files fault which) (record { enough_visits = omega arith; enough_changes = omega arith })) told

least-of-same : (test : Bool) (n v now_v : ℕ) → v ≤ now_v → (test ≡ true → now_v ≡ v + n) → v + (if test then n else 0) ≤ now_v
least-of-same true n v now_v l h = let e = h refl in omega (arith, e)
least-of-same false n v now_v l h = omega (arith, l)

pub compare-done : (most : ℕ) (e : Engine) (reply : Told) (sink now_sink : Taken) (files : Option Files)
    (filings visits now_visits changes : ℕ) (result : Result Answer Stop) →
    Compares e visits now_visits (reply_of reply) → Tells sink now_sink reply result →
    DoneOr most e Asked.Compare (beside_sink sink files filings visits changes)
    (beside_sink now_sink files filings now_visits changes) e result
compare-done most e reply sink now_sink files filings visits now_visits changes result h told =
    let n = nodes_of e.a + nodes_of e.b in
    done-said most e e Asked.Compare reply (beside_sink sink files filings visits changes)
    (beside_sink now_sink files filings now_visits changes) result (record { files = refl; filings = refl }) refl refl
    (λ most files fault. ap (λ r. unless_refused r e files Asked.Compare) (compare-unrefused most e files fault) ∙
    ap (λ r. outcome e files (r ∷ [])) (sym (h.2 ∙ ap (λ t. if t then Reply.Same else Reply.Differ) h.1.same)))
    (λ most files fault. record { few_visits = h.1.few; few_changes = omega arith })
    (λ most files fault. rw (compare-unrefused most e files fault)
    (record {
      enough_visits = least-of-same (same_slots e.a e.b) n visits now_visits h.1.later h.1.all;
      enough_changes = omega arith;
    })) told
