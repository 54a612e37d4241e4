-- What a command does to a slot of points it does to one of boxes, where it is not refused.
use Rattle.std.proofs.Common.{◌≡◌, ℕ, Bool, true, false, List, [], ◌∷◌, refl, rules, ap, sym, subst, ◌∙◌}
use Rattle.std.specs.Prelude.{ℤ, Option, Some, None}
use Rattle.ph_specs.specs.declared.Kind.{Kind}
use Rattle.ph_specs.specs.declared.Kind.TheVariants.{Points, Boxes}
use Rattle.ph_specs.specs.Command.{Command}
use Rattle.ph_specs.specs.Named.{Named}
use Rattle.ph_specs.specs.Reply.{Reply}
use Rattle.ph_specs.specs.State.{Slot, Engine, Files, Outcome, current}
use Rattle.ph_specs.specs.Refusals.{refusal, or_else, has_file_fault}
use Rattle.ph_specs.specs.Engine.{act, effect, unless_refused}
use Rattle.ph_specs.specs.Window.{Cursor}
use Rattle.ph_commands.specs.Served.{DoesAt, takes_memory}
use Rattle.ph_slot.specs.Doing.{wants_memory, is_on_row, is_on_slot, starved_engine, rows_loaded}
use Rattle.ph_commands.specs.Working.{Work, work, work_of, engine_bounds, least_unless}
use Rattle.ph_slot.specs.Refusing.{early_refusal, late_refusal}
use Rattle.ph_commands.specs.Tables.{AnyTable, slot_of, engine_of}
use Rattle.ph_slot.proofs.Refused.{refusal-parts, alone, in-range}

-- an outcome whose current slot is one of boxes
abbrev boxed : Outcome → Outcome
boxed o = record o { engine = engine_of (record (current o.engine) { kind = Boxes }) }

-- a command of one reply that knows of a slot no more than its rows
pub record IsPlain (command : Command) : Type 0 where
  pub on_slot : is_on_slot command ≡ true
  pub unrefused : (t : AnyTable) (cursors : Named Cursor) → early_refusal (slot_of Boxes t cursors) command ≡ None →
      early_refusal (slot_of Points t cursors) command ≡ None
  pub late : (most : ℕ) (t : AnyTable) (cursors : Named Cursor) (files : Files) (fault : Bool) →
      late_refusal most (slot_of Boxes t cursors) files fault command ≡ late_refusal most (slot_of Points t cursors)
      files fault command
  pub effect : (t : AnyTable) (cursors : Named Cursor) (files : Files) →
      effect (engine_of (slot_of Boxes t cursors)) files command ≡
      boxed (effect (engine_of (slot_of Points t cursors)) files command)
  pub bounds : (t : AnyTable) (cursors : Named Cursor) (files : Files) →
      engine_bounds (engine_of (slot_of Boxes t cursors)) files command ≡
      engine_bounds (engine_of (slot_of Points t cursors)) files command
  pub takes : (t : AnyTable) (cursors : Named Cursor) → takes_memory (slot_of Boxes t cursors) command ≡ takes_memory (slot_of Points t cursors) command
  pub no_file : (most : ℕ) (files : Files) (fault : Bool) → has_file_fault most files fault command ≡ false
  pub no_part : (e : Engine) (files : Files) → starved_engine e files command 0 ≡ e
  pub no_load : (s : Slot) (files : Files) → rows_loaded s files command ≡ None

-- A command about a row is refused at a slot of points for no cause but its range.
row-unrefused : (command : Command) (t : AnyTable) (cursors : Named Cursor) → is_on_row command ≡ true →
    early_refusal (slot_of Boxes t cursors) command ≡ None → early_refusal (slot_of Points t cursors) command ≡ None
row-unrefused (Command.Put p v) t cursors on h = rw (in-range (slot_of Boxes t cursors) (Command.Put p v) h) refl
row-unrefused (Command.Get p) t cursors on h = rw (in-range (slot_of Boxes t cursors) (Command.Get p) h) refl
row-unrefused (Command.Del p) t cursors on h = rw (in-range (slot_of Boxes t cursors) (Command.Del p) h) refl
row-unrefused (Command.Relocate p q) t cursors on h = rw (in-range (slot_of Boxes t cursors) (Command.Relocate p q) h) refl
row-unrefused other t cursors on h = absurd cc

pub plain-put : (p : List ℤ) (v : ℕ) → IsPlain (Command.Put p v)
plain-put p v = search (rules, row-unrefused)

pub plain-get : (p : List ℤ) → IsPlain (Command.Get p)
plain-get p = search (rules, row-unrefused)

pub plain-del : (p : List ℤ) → IsPlain (Command.Del p)
plain-del p = search (rules, row-unrefused)

pub plain-move : (p q : List ℤ) → IsPlain (Command.Relocate p q)
plain-move p q = search (rules, row-unrefused)

pub plain-count : IsPlain Command.Count
plain-count = search rules

pub plain-clear : IsPlain Command.Clear
plain-clear = search rules

unless-boxed : (r : Option Reply) (t : AnyTable) (cursors : Named Cursor) (files : Files) (command : Command) →
    IsPlain command → unless_refused r (engine_of (slot_of Boxes t cursors)) files command ≡
    boxed (unless_refused r (engine_of (slot_of Points t cursors)) files command)
unless-boxed (Some r) t cursors files command p = refl
unless-boxed None t cursors files command p = p.effect t cursors files

module _ (t : AnyTable) (cursors : Named Cursor) (command : Command) (p : IsPlain command) (h : early_refusal (slot_of Boxes t cursors) command ≡ None) where
  same-refusal : (most : ℕ) (files : Files) (fault : Bool) →
      refusal most (engine_of (slot_of Boxes t cursors)) files fault command ≡
      refusal most (engine_of (slot_of Points t cursors)) files fault command
  same-refusal most files fault =
      let boxes = slot_of Boxes t cursors in
      let points = slot_of Points t cursors in
      refusal-parts most (engine_of boxes) files fault command p.on_slot
      ∙ ap (λ r. or_else r (late_refusal most boxes files fault command)) h
      ∙ p.late most t cursors files fault
      ∙ ap (λ r. or_else r (late_refusal most points files fault command)) (sym (p.unrefused t cursors h))
      ∙ sym (refusal-parts most (engine_of points) files fault command p.on_slot)

  same-act : (most : ℕ) (files : Files) (fault : Bool) →
      act most (engine_of (slot_of Boxes t cursors)) files fault command ≡
      boxed (act most (engine_of (slot_of Points t cursors)) files fault command)
  same-act most files fault =
      ap (λ r. unless_refused r (engine_of (slot_of Boxes t cursors)) files command) (same-refusal most files fault)
      ∙ unless-boxed (refusal most (engine_of (slot_of Points t cursors)) files fault command) t cursors files command p

  same-work : (most : ℕ) (files : Files) (fault : Bool) →
      work_of most (engine_of (slot_of Boxes t cursors)) files fault command ≡
      work_of most (engine_of (slot_of Points t cursors)) files fault command
  same-work most files fault i =
      let w = p.bounds t cursors files i in
      let r = same-refusal most files fault i in
      work w.most_visits (least_unless r w.least_visits) w.most_changes (least_unless r w.least_changes)

-- ---- by the kind of a slot

pub does-at : (kind : Kind) (t now : AnyTable) (cursors : Named Cursor) (command : Command) (reply : Reply) →
    IsPlain command → early_refusal (slot_of kind t cursors) command ≡ None →
    DoesAt (slot_of Points t cursors) command (slot_of Points now cursors) (reply ∷ []) →
    DoesAt (slot_of kind t cursors) command (slot_of kind now cursors) (reply ∷ [])
does-at Points t now cursors command reply p h d = d
does-at Boxes t now cursors command reply p h d = λ most files fault. same-act t cursors command p h most files fault ∙ ap boxed (d most files fault)

-- what is so of the bounds at a slot of points is so of those at the kind
pub work-at : (P : Work → Type 0) (kind : Kind) (t : AnyTable) (cursors : Named Cursor) (command : Command) →
    IsPlain command → early_refusal (slot_of kind t cursors) command ≡ None →
    ((most : ℕ) (files : Files) (fault : Bool) → P (work_of most (engine_of (slot_of Points t cursors)) files fault command)) →
    (most : ℕ) (files : Files) (fault : Bool) → P (work_of most (engine_of (slot_of kind t cursors)) files fault command)
work-at P Points t cursors command p h w = w
work-at P Boxes t cursors command p h w = λ most files fault. subst P (sym (same-work t cursors command p h most files fault)) (w most files fault)

takes-at : (kind : Kind) (t : AnyTable) (cursors : Named Cursor) (command : Command) → IsPlain command →
    takes_memory (slot_of kind t cursors) command ≡ takes_memory (slot_of Points t cursors) command
takes-at Points t cursors command p = refl
takes-at Boxes t cursors command p = p.takes t cursors

pub wants-at : (kind : Kind) (t : AnyTable) (cursors : Named Cursor) (command : Command) → IsPlain command →
    early_refusal (slot_of kind t cursors) command ≡ None → takes_memory (slot_of Points t cursors) command ≡ true →
    (most : ℕ) (files : Files) (fault : Bool) → wants_memory most (engine_of (slot_of kind t cursors)) files fault command ≡ true
wants-at kind t cursors command p h w most files fault =
    rw ((alone (engine_of (slot_of kind t cursors)) command p.on_slot).1, h, p.no_file most files fault) (takes-at kind t cursors command p ∙ w)
