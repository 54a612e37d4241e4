-- Edits of a slot that are taken back.
use Rattle.std.proofs.Common.{◌≡◌, ◌<◌, ◌≤◌, ℕ, Bool, false, [], ◌∷◌, length, refl, ap, sym, ◌∙◌, arith}
use Rattle.std.specs.Prelude.{Some, None, Ok, Err, Result}
use Rattle.std.proofs.lemmas.Bool.{lt-ltb, le-ltb, le-leb}
use Rattle.ph_specs.specs.declared.Kind.{Kind}
use Rattle.ph_specs.specs.declared.Kind.TheVariants.{Points, Boxes}
use Rattle.ph_specs.specs.Command.{Command}
use Rattle.ph_specs.specs.Engine.{unless_refused}
use Rattle.ph_specs.specs.Named.{Named}
use Rattle.ph_specs.specs.Refusals.{refusal, has_wrong_kind, boxes_of}
use Rattle.ph_specs.specs.State.{Slot, Files, outcome}
use Rattle.ph_specs.specs.Window.{Cursor}
use Rattle.ph_script.specs.declared.reply.Reply.{Reply as Told}
use Rattle.ph_script.specs.Meaning.{reply_of}
use Rattle.ph_slot.specs.Filing.{QuietOr}
use Rattle.ph_commands.specs.Tables.{AnyTable, slot_of, engine_of}
use Rattle.ph_commands.specs.Undoing.{GoesBackOr}
use Rattle.ph_commands.proofs.Differing.{part-begun}
use Rattle.ph_slot.proofs.Filed.{filed-quietly, leaves-filings}
use Rattle.ph_slot.proofs.Commanded.{told-told}

kind-of-back : (kind : Kind) (n : ℕ) → (has_wrong_kind kind (Command.Back n) ≡ false) × (boxes_of kind (Command.Back n) ≡ [])
kind-of-back Points n = (refl, refl)
kind-of-back Boxes n = (refl, refl)

module _ (kind : Kind) (t : AnyTable) (cursors : Named Cursor) (n : ℕ) where
  abbrev slot : Slot
  slot = slot_of kind t cursors

  near : (most : ℕ) (files : Files) (fault : Bool) → n ≤ length t.tree.past → refusal most (engine_of slot) files fault (Command.Back n) ≡ None
  near most files fault h = let k = kind-of-back kind n in rw (k.0, k.1, le-ltb (length t.tree.past) n h) refl

  pub back-quiet : {E : Type 0} (now : AnyTable) (v now_v c now_c : ℕ) (result : Result Told E) →
      n ≤ length t.tree.past → GoesBackOr t n now v now_v c now_c result →
      QuietOr (engine_of slot) (Command.Back n) v now_v c now_c (engine_of (slot_of kind now cursors)) result
  back-quiet now v now_v c now_c (Ok reply) h g = record {
    filed = λ most files filings. filed-quietly most (engine_of slot) (engine_of (slot_of kind now cursors))
        (Command.Back n) (reply_of reply) files filings v now_v c now_c
        (λ most files fault. ap (λ r. unless_refused r (engine_of slot) files (Command.Back n))
        (near most files fault h) ∙ (λ i. outcome (engine_of (slot_of kind (sym g.0.state i) cursors)) files (sym g.1 i ∷ [])))
        (λ most files fault. record { few_visits = g.0.few_visits; few_changes = g.0.few_changes })
        (λ most files fault. rw (near most files fault h) (record { enough_visits = omega (arith, g.0.later); enough_changes = g.0.made }))
        (λ files rows is. absurd (let no : None ≡ Some rows = is in cc));
  }
  back-quiet now v now_v c now_c (Err error) h g = record {
    filed = λ most told filings. record {
      fault = false;
      found = None;
      counted = leaves-filings (Command.Back n) filings;
      part = g.part;
      state = λ files x. rw (lt-ltb g.part n g.fewer) (ap (λ y. engine_of (slot_of kind y cursors)) g.went.state);
      kept = λ files x. told-told told told files refl x;
      wanted = λ files x. let k = kind-of-back kind n in let some : 0 < n = omega (arith, g.fewer) in
          rw (k.0, k.1, lt-ltb 0 n some, le-leb n (length t.tree.past) h) refl;
      most_work = λ files x. record {
        few_visits = part-begun t.tree.width t.dims t.tree.table t.tree.past g.part n v now_v g.fewer g.went.few_visits;
        few_changes = omega (arith, g.fewer, g.went.few_changes);
      };
    };
  }
