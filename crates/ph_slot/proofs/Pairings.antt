-- Two slots side by side: pairs that are listed, and the table that is made of both.
use Rattle.std.proofs.Common.{◌≡◌, ℕ, ◌+◌, Bool, true, false, List, [], ◌∷◌, ◌++◌, length, map, refl, ap, sym, subst, ◌∙◌, arith}
use Rattle.std.specs.Prelude.{Option, Some, None, Result, Ok, Err, not, ◌&&◌, ◌==◌}
use Rattle.std.specs.Cmp.Lexicographic.{pointwise}
use Rattle.std.proofs.lemmas.Bool.{eqb-true}
use Rattle.ph_io.specs.Giving.{Taken}
use Rattle.ph_specs.specs.declared.Kind.{Kind}
use Rattle.ph_specs.specs.declared.Kind.TheVariants.{Points, Boxes}
use Rattle.ph_specs.specs.declared.SetOperation.{SetOperation}
use Rattle.ph_specs.specs.declared.Which.{Which}
use Rattle.ph_specs.specs.declared.Which.TheVariants.{A, B}
use Rattle.ph_specs.specs.declared.SetOperation.TheVariants.{Union, Common, Minus}
use Rattle.ph_specs.specs.Boxes.{AreBoxes}
use Rattle.ph_specs.specs.Command.{Command}
use Rattle.ph_specs.specs.Engine.{pair_listing, same_slots, unless_refused}
use Rattle.ph_specs.specs.Named.{Named}
use Rattle.ph_specs.specs.Refusals.{refusal, slot_refusal, or_else, refuse_if, join_refusal, combine_refusal, points_differ, same_kind}
use Rattle.ph_specs.specs.Refusals.{has_wrong_kind, boxes_of}
use Rattle.ph_specs.specs.Reply.{Reply, reply_text, replies_text}
use Rattle.ph_specs.specs.Coordinate.{IsBox}
use Rattle.ph_specs.specs.Sets.{pairs, combine}
use Rattle.ph_specs.specs.State.{Slot, Engine, Files, current, other, slot_at, other_at, put_slot, with_slot, outcome}
use Rattle.ph_specs.specs.Table.{Row, has, same_row}
use Rattle.ph_specs.specs.Window.{Cursor}
use Rattle.ph_specs.specs.WorkSets.{all_nodes, join_visits, combine_visits}
use Rattle.ph_join.specs.Joining.{one_of}
use Rattle.ph_specs.proofs.laws.WindowRest.{Each-filter}
use Rattle.ph_set.specs.declared.error.SetFault.{SetFault}
use Rattle.ph_set.specs.declared.error.SetFault.TheVariants.{Full, NoMemory}
use Rattle.ph_script.specs.declared.reply.Reply.{Reply as Told}
use Rattle.ph_script.specs.Meaning.{reply_of}
use Rattle.ph_slot.specs.Beside.{Beside, beside_sink}
use Rattle.ph_commands.specs.Comparing.{IsCompared}
use Rattle.ph_commands.specs.Served.{Does}
use Rattle.ph_slot.specs.Doing.{DoneBeside, DoneOr, is_on_both}
use Rattle.ph_slot.specs.Filing.{QuietOr}
use Rattle.ph_commands.specs.Tables.{SameFrame, AnyTable, slot_of, IsOfKind}
use Rattle.ph_commands.specs.Telling.{is_refusal, Tells}
use Rattle.ph_commands.specs.Pairing.{pair_said, MadeOr, combined_table}
use Rattle.ph_slot.specs.Pairing.{JoinsSlots, combined_slot, combined_reply, combined_changes, CombinesSlots, SeesAll, VisitsSlots, engine_at, differing_reply}
use Rattle.ph_slot.specs.Refusing.{early_refusal, frame_refusal}
use Rattle.ph_commands.specs.Working.{work_of, IsAtMost, IsAtLeast}
use Rattle.ph_commands.specs.declared.answer.Answer.{Answer}
use Rattle.ph_commands.specs.declared.answer.Stop.{Stop}
use Rattle.ph_slot.proofs.Commanded.{compare-done, done-said, told-told}
use Rattle.ph_slot.proofs.Filed.{filed-quietly, leaves-filings}
use Rattle.ph_slot.proofs.Lifted.{same}
use Rattle.ph_slot.proofs.Paged.{listing-beside}
use Rattle.ph_slot.proofs.Quiet.{done-quiet}
use Rattle.ph_commands.proofs.Frames.{of-kind-still}
use Rattle.ph_commands.proofs.Frames.{boxes-put-all}

-- ---- slots that are compared

other-dims : (a b : ℕ) (x : Bool) → (a ≡ b → ⊥) → (a == b) ≡ x → (a == b) ≡ false
other-dims a b true n e = absurd (n (eqb-true a b e))
other-dims a b false n e = e

-- slots whose dimensions differ are not the same
dims-compared : (s t : Slot) (v : ℕ) → (s.dims ≡ t.dims → ⊥) → IsCompared s t v v false
dims-compared s t v n =
    let no : same_slots s t ≡ false =
    ap (λ b. same_kind s.kind t.kind && b && (s.width == t.width) && pointwise same_row s.table t.table) (other-dims s.dims t.dims (s.dims == t.dims) n refl)
    ∙ elim (same_kind s.kind t.kind) as (λ k. (k && false && (s.width == t.width) && pointwise same_row s.table t.table) ≡ false) [ true ↦ refl | false ↦ refl ] in
    record { same = sym no; later = omega arith; few = omega arith; all = λ e. absurd (let clash : false ≡ true = sym no ∙ e in cc) }

-- ---- pairs that are listed

good-pair : (p : Row × Row) (text : List ℕ) → is_refusal (reply_text (pair_said p) ++ text) ≡ false
good-pair p text = elim p.0.point
    as (λ q. is_refusal (reply_text (Reply.PairIs (record { point = q; value = p.0.value }) p.1) ++ text) ≡ false)
    [ [] ↦ refl | x ∷ q ↦ refl ]

good-pairs : (ps : List (Row × Row)) (n : ℕ) → is_refusal (replies_text (map pair_said ps ++ Reply.End n ∷ [])) ≡ false
good-pairs [] n = refl
good-pairs (p ∷ ps) n = good-pair p (replies_text (map pair_said ps ++ Reply.End n ∷ []))

pub pairs-good : (ps : List (Row × Row)) → is_refusal (replies_text (pair_listing ps)) ≡ false
pairs-good ps = good-pairs ps (length ps)

kind-of-join : (kind : Kind) → (has_wrong_kind kind Command.Join ≡ false) × (boxes_of kind Command.Join ≡ [])
kind-of-join Points = (refl, refl)
kind-of-join Boxes = (refl, refl)

join-on-slot : (most : ℕ) (s : Slot) (files : Files) (fault : Bool) → slot_refusal most s files fault Command.Join ≡ None
join-on-slot most s files fault = let k = kind-of-join s.kind in rw (k.0, k.1) refl

module _ (e : Engine) (sink now_sink : Taken) (result : Result Answer Stop) where
  abbrev by_slots : ℕ → Files → Bool → Option Reply → Option Reply
  by_slots most files fault r = or_else r (slot_refusal most (current e) files fault Command.Join)

  pub join-done : (visits now_visits : ℕ) → join_refusal e.a e.b ≡ None →
      JoinsSlots e.a e.b sink now_sink visits now_visits result → DoneBeside e Command.Join sink now_sink visits now_visits result
  join-done visits now_visits h l =
      let n = join_visits e.a.width e.a.dims e.a.table e.b.table in
      let least = one_of (length (all_nodes e.a.width e.a.dims e.a.table)) in
      let ps = pairs e.a.table e.b.table in
      record {
        done = λ most files filings changes. listing-beside e Command.Join (pair_listing ps) least n sink now_sink files filings visits now_visits changes
            (λ most files fault. ap (by_slots most files fault) h ∙ join-on-slot most (current e) files fault)
            (λ files. refl) (λ files. refl) most result refl (pairs-good ps) l;
      }

  pub join-refused : (visits : ℕ) (reply : Told) → join_refusal e.a e.b ≡ Some (reply_of reply) →
      Tells sink now_sink reply result → DoneBeside e Command.Join sink now_sink visits visits result
  join-refused visits reply h t =
      record {
        done = λ most files filings changes. done-said most e e Command.Join reply
            (beside_sink sink files filings visits changes) (beside_sink now_sink files filings visits changes) result
            (record { files = refl; filings = refl }) refl refl
            (λ most files fault. ap (λ r. unless_refused (by_slots most files fault r) e files Command.Join) h)
            (λ most files fault. record { few_visits = omega arith; few_changes = omega arith })
            (λ most files fault. rw h (record { enough_visits = omega arith; enough_changes = omega arith })) t;
      }

-- ---- the table that is made of both

module _ (operation : SetOperation) where
  kind-of-combine : (kind : Kind) → (has_wrong_kind kind (Command.Combine operation) ≡ false) × (boxes_of kind (Command.Combine operation) ≡ [])
  kind-of-combine Points = (refl, refl)
  kind-of-combine Boxes = (refl, refl)

  combine-on-slot : (most : ℕ) (s : Slot) (files : Files) (fault : Bool) → slot_refusal most s files fault (Command.Combine operation) ≡ None
  combine-on-slot most s files fault = let k = kind-of-combine s.kind in rw (k.0, k.1) refl

  combine-early : (s : Slot) → early_refusal s (Command.Combine operation) ≡ None
  combine-early s = let k = kind-of-combine s.kind in rw (k.0, k.1) refl

  module _ (e : Engine) (s : Slot) (visits now_visits changes now_changes : ℕ) (k : VisitsSlots operation (current e) (other e) visits now_visits) where
    abbrev asked : Command
    asked = Command.Combine operation

    abbrev seen : ℕ
    seen = let s = current e in combine_visits operation s.width s.dims s.table (other e).table

    abbrev reason : Option Reply
    reason = combine_refusal operation (current e) (other e)

    -- what is refused, and what is done, by the refusal
    refused-by : (r : Option Reply) (most : ℕ) (files : Files) (fault : Bool) → reason ≡ r → refusal most e files fault asked ≡ r
    refused-by (Some r) most files fault h = ap (λ x. or_else x (slot_refusal most (current e) files fault asked)) h
    refused-by None most files fault h = ap (λ x. or_else x (slot_refusal most (current e) files fault asked)) h ∙ combine-on-slot most (current e) files fault

    does-by : (r : Option Reply) (reply : Reply) → reason ≡ r → s ≡ combined_slot r operation (current e) (other e) →
        reply ≡ combined_reply r operation (current e) (other e) → Does e asked (with_slot e s) (reply ∷ [])
    does-by (Some r) reply h is said most files fault =
        ap (λ x. unless_refused x e files asked) (refused-by (Some r) most files fault h)
        ∙ (λ i. outcome (sym (ap (with_slot e) is ∙ same e) i) files (sym said i ∷ []))
    does-by None reply h is said most files fault =
        ap (λ x. unless_refused x e files asked) (refused-by None most files fault h)
        ∙ (λ i. outcome (with_slot e (sym is i)) files (sym said i ∷ []))

    few-by : (r : Option Reply) → now_changes ≡ changes + combined_changes r operation (current e) (other e) →
        (most : ℕ) (files : Files) (fault : Bool) →
        IsAtMost (work_of most e files fault asked) visits now_visits changes now_changes
    few-by (Some r) c most files fault = record { few_visits = k.few; few_changes = omega (arith, c) }
    few-by None c most files fault = record { few_visits = k.few; few_changes = omega (arith, c) }

    enough-by : (r : Option Reply) → reason ≡ r → (reason ≡ None → now_visits ≡ visits + seen) →
        now_changes ≡ changes + combined_changes r operation (current e) (other e) →
        (most : ℕ) (files : Files) (fault : Bool) →
        IsAtLeast (work_of most e files fault asked) visits now_visits changes now_changes
    enough-by (Some r) h a c most files fault = rw (refused-by (Some r) most files fault h)
        (record { enough_visits = omega (arith, k.later); enough_changes = omega (arith, c) })
    enough-by None h a c most files fault = rw (refused-by None most files fault h) (record { enough_visits = omega (arith, a h); enough_changes = omega (arith, c) })

    pub combine-quiet : {E : Type 0} (result : Result Told E) →
        SeesAll operation (current e) (other e) visits now_visits result →
        CombinesSlots operation (current e) (other e) s changes now_changes result →
        QuietOr e asked visits now_visits changes now_changes (with_slot e s) result
    combine-quiet (Ok reply) a h = record {
      filed = λ most files filings. filed-quietly most e (with_slot e s) asked (reply_of reply) files filings visits now_visits changes now_changes
          (does-by reason (reply_of reply) refl h.slot h.said) (few-by reason h.nodes) (enough-by reason refl a h.nodes)
          (λ files rows is. absurd (let no : None ≡ Some rows = is in cc));
    }
    combine-quiet (Err error) a h = record {
      filed = λ most told filings. record {
        fault = false;
        found = None;
        counted = leaves-filings asked filings;
        part = 0;
        state = λ files x. ap (with_slot e) h.stays ∙ same e;
        kept = λ files x. told-told told told files refl x;
        wanted = λ files x. rw (h.together, combine-early (current e)) refl;
        most_work = λ files x. record { few_visits = k.few; few_changes = h.few };
      };
    }

-- the same of slots of which the first is current and has a name
pub combine-named : {E : Type 0} (operation : SetOperation) (name : Which) (s t now : Slot)
    (visits now_visits changes now_changes : ℕ) (result : Result Told E) → VisitsSlots operation s t visits now_visits →
    SeesAll operation s t visits now_visits result → CombinesSlots operation s t now changes now_changes result →
    QuietOr (engine_at name s t) (Command.Combine operation) visits now_visits changes now_changes (engine_at name now t) result
combine-named operation A s t now visits now_visits changes now_changes result k a h =
    combine-quiet operation (engine_at A s t) now visits now_visits changes now_changes k result a h
combine-named operation B s t now visits now_visits changes now_changes result k a h =
    combine-quiet operation (engine_at B s t) now visits now_visits changes now_changes k result a h

-- ---- slots whose dimensions differ

dims-refuse : (s t : Slot) (rest : Option Reply) → (s.dims ≡ t.dims → ⊥) → refuse_if (points_differ s t) Reply.ErrorDims rest ≡ Some Reply.ErrorDims
dims-refuse s t rest n =
    ap (λ b. refuse_if (not (b && (s.width == t.width))) Reply.ErrorDims rest) (other-dims s.dims t.dims (s.dims == t.dims) n refl)

module _ (most : ℕ) (s t : Slot) (reply : Told) (sink now_sink : Taken) (files : Option Files) (filings visits changes : ℕ)
    (result : Result Answer Stop) (n : s.dims ≡ t.dims → ⊥) (told : Tells sink now_sink reply result) where
  abbrev IsLeft : Which → Command → Type 0
  IsLeft name cmd = DoneOr most (engine_at name s t) cmd (beside_sink sink files filings visits changes) (beside_sink now_sink files filings visits changes)
      (engine_at name s t) result

  combine-differing : (name : Which) (operation : SetOperation) → reply_of reply ≡ Reply.ErrorDims → IsLeft name (Command.Combine operation)
  combine-differing name operation r =
      let h : combine_refusal operation s t ≡ Some Reply.ErrorDims = dims-refuse s t _ n in
      done-quiet most sink now_sink files filings result refl
      (combine-named {E = ⊥} operation name s t s visits visits changes changes (Ok reply) (record { later = omega arith; few = omega arith })
      (λ e. absurd (let clash : Some Reply.ErrorDims ≡ None = sym h ∙ e in cc))
      (record {
        slot = ap (λ x. combined_slot x operation s t) (sym h);
        said = r ∙ ap (λ x. combined_reply x operation s t) (sym h);
        nodes = omega (arith, ap (λ x. combined_changes x operation s t) h);
      })) told

  -- a command on both does nothing there
  pub differing-done : (name : Which) (cmd : Command) → is_on_both cmd ≡ true → reply_of reply ≡ differing_reply cmd → IsLeft name cmd
  differing-done A Command.Compare h r =
      compare-done most (engine_at A s t) reply sink now_sink files filings visits visits changes result (false, dims-compared s t visits n, r) told
  differing-done B Command.Compare h r =
      compare-done most (engine_at B s t) reply sink now_sink files filings visits visits changes result
      (false, dims-compared t s visits (λ e. n (sym e)), r) told
  differing-done A Command.Join h r =
      (join-refused (engine_at A s t) sink now_sink result visits reply (dims-refuse s t _ n ∙ ap Some (sym r)) told).done most files filings changes
  differing-done B Command.Join h r =
      (join-refused (engine_at B s t) sink now_sink result visits reply (dims-refuse t s _ (λ e. n (sym e)) ∙ ap Some (sym r)) told).done most files filings changes
  differing-done A (Command.Combine operation) h r = combine-differing A operation r
  differing-done B (Command.Combine operation) h r = combine-differing B operation r
  differing-done name other h r = absurd cc

-- ---- an engine of the code

-- by its fields, of which the current slot has this name
pub both-at : (most : ℕ) (e fields : Engine) (s : Slot) (name : Which) (cmd : Command) (d now_d : Beside)
    (result : Result Answer Stop) → fields ≡ e → fields.current ≡ name →
    DoneOr most (engine_at name (slot_at name fields) (other_at name fields)) cmd d now_d (engine_at name s (other_at name fields)) result →
    DoneOr most e cmd d now_d (put_slot name fields s) result
both-at most e fields s A cmd d now_d result v w k =
    subst (λ x. DoneOr most x cmd d now_d (put_slot A fields s) result) v
    (subst (λ y. DoneOr most (record { a = fields.a; b = fields.b; current = y }) cmd d now_d (record { a = s; b = fields.b; current = y }) result) (sym w) k)
both-at most e fields s B cmd d now_d result v w k =
    subst (λ x. DoneOr most x cmd d now_d (put_slot B fields s) result) v
    (subst (λ y. DoneOr most (record { a = fields.a; b = fields.b; current = y }) cmd d now_d (record { a = fields.a; b = s; current = y }) result) (sym w) k)

-- ---- what a slot keeps

boxes-combine : (operation : SetOperation) (w : ℕ) (a b : List Row) → AreBoxes a → AreBoxes b → AreBoxes (combine operation w a b)
boxes-combine Union w a b h k = boxes-put-all w a b k h
boxes-combine Common w a b h k = Each-filter (λ r. IsBox r.point) (λ r. has b r.point) a h
boxes-combine Minus w a b h k = Each-filter (λ r. IsBox r.point) (λ r. not (has b r.point)) a h

right-kind : (a b : Bool) → refuse_if a Reply.ErrorDims (refuse_if (not b) Reply.ErrorKind None) ≡ None → b ≡ true
right-kind true b h = absurd cc
right-kind false true h = refl
right-kind false false h = absurd cc

same-kind : (kind other_kind : Kind) → same_kind kind other_kind ≡ true → other_kind ≡ kind
same-kind Points Points h = refl
same-kind Boxes Boxes h = refl
same-kind Points Boxes h = absurd cc
same-kind Boxes Points h = absurd cc

pub made-frame : (operation : SetOperation) (kind other_kind : Kind) (t u now : AnyTable)
    (cursors others : Named Cursor) → frame_refusal (slot_of kind t cursors) (slot_of other_kind u others) ≡ None →
    IsOfKind kind t → IsOfKind other_kind u → now ≡ combined_table operation t u → SameFrame kind t now
made-frame operation kind other_kind t u now cursors others h of_kind other_of_kind is =
    let same : other_kind ≡ kind =
    same-kind kind other_kind (right-kind (points_differ (slot_of kind t cursors) (slot_of other_kind u others))
    (same_kind kind other_kind) h) in
    rw is
    (record {
      width = refl;
      dims = refl;
      of_kind = of-kind-still kind t (combined_table operation t u) refl
          (λ e b c. (boxes-combine operation t.tree.width t.tree.table u.tree.table b (subst (λ k. IsOfKind k u) (same ∙ e) other_of_kind).1, tt));
    })

pub kept-frame : (kind : Kind) (t now : AnyTable) → now ≡ t → SameFrame kind t now
kept-frame kind t now is = rw is (record { width = refl; dims = refl; of_kind = λ h. h })

pub combined-frame : (operation : SetOperation) (kind other_kind : Kind) (t u now : AnyTable)
    (cursors others : Named Cursor) (changes now_changes : ℕ) (result : Result ℕ SetFault) →
    frame_refusal (slot_of kind t cursors) (slot_of other_kind u others) ≡ None → IsOfKind kind t →
    IsOfKind other_kind u → MadeOr operation t u now changes now_changes result → SameFrame kind t now
combined-frame operation kind other_kind t u now cursors others changes now_changes (Ok count) h k l m =
    made-frame operation kind other_kind t u now cursors others h k l m.table
combined-frame operation kind other_kind t u now cursors others changes now_changes (Err Full) h k l m = kept-frame kind t now m.stays
combined-frame operation kind other_kind t u now cursors others changes now_changes (Err NoMemory) h k l m = kept-frame kind t now m.stays
