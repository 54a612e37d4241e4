-- The refusals that are told without files come before the others.
use Rattle.std.proofs.Common.{◌≡◌, ℕ, Bool, true, false, refl, sym, ap, ◌∙◌, arith}
use Rattle.std.specs.Prelude.{Option, Some, None, List, ℤ, not}
use Rattle.std.specs.List.{list_all}
use Rattle.ph_specs.specs.Coordinate.{is_box}
use Rattle.ph_specs.specs.declared.Kind.{Kind}
use Rattle.ph_specs.specs.declared.Kind.TheVariants.{Points, Boxes}
use Rattle.ph_specs.specs.Command.{Command}
use Rattle.ph_specs.specs.Reply.{Reply}
use Rattle.ph_specs.specs.State.{Slot, Engine, Files, current}
use Rattle.ph_specs.specs.Refusals.{refusal, slot_refusal, slots_refusal, or_else, refuse_if, has_wrong_dims, boxes_of, has_wrong_kind}
use Rattle.ph_specs.specs.Refusals.{is_out_of_range, is_reversed, lacks_cursor, has_too_many_cursors}
use Rattle.ph_slot.specs.Refusing.{early_refusal, late_refusal, cursor_refusal, names_points_outside, names_reversed}
use Rattle.ph_script.specs.declared.command.Command.{Command as Written}
use Rattle.ph_script.specs.Meaning.{command_of}
use Rattle.ph_commands.specs.Tables.{engine_of}
use Rattle.ph_slot.specs.Doing.{Begun, is_begin, is_on_slot, goes_together}

-- a cause behind which others are looked for
refuse-or : (b : Bool) (r : Reply) (x y : Option Reply) → refuse_if b r (or_else x y) ≡ or_else (refuse_if b r x) y
refuse-or true r x y = refl
refuse-or false r x y = refl

slot-parts : (most : ℕ) (s : Slot) (files : Files) (fault : Bool) (cmd : Command) →
    slot_refusal most s files fault cmd ≡ or_else (early_refusal s cmd) (late_refusal most s files fault cmd)
slot-parts most s files fault cmd =
    let late = late_refusal most s files fault cmd in
    ap (refuse_if (has_wrong_dims cmd) Reply.ErrorDims)
    (ap (refuse_if (has_wrong_kind s.kind cmd) Reply.ErrorKind)
    (ap (refuse_if (is_out_of_range s cmd) Reply.ErrorRange)
    (ap (refuse_if (is_reversed s cmd) Reply.ErrorReversed)
    (ap (refuse_if (lacks_cursor s cmd) Reply.ErrorCursor)
    (refuse-or (has_too_many_cursors s cmd) Reply.ErrorCursors None late) ∙ refuse-or (lacks_cursor s cmd) Reply.ErrorCursor _ late)
    ∙ refuse-or (is_reversed s cmd) Reply.ErrorReversed _ late)
    ∙ refuse-or (is_out_of_range s cmd) Reply.ErrorRange _ late)
    ∙ refuse-or (has_wrong_kind s.kind cmd) Reply.ErrorKind _ late)
    ∙ refuse-or (has_wrong_dims cmd) Reply.ErrorDims _ late

-- a command on one slot has no cause of both, and wants nothing of the other
pub alone : (e : Engine) (cmd : Command) → is_on_slot cmd ≡ true → (slots_refusal e cmd ≡ None) × (goes_together e cmd ≡ true)
alone e (Command.Select which) h = absurd cc
alone e Command.Compare h = absurd cc
alone e Command.Join h = absurd cc
alone e (Command.Combine operation) h = absurd cc
alone e other h = (refl, refl)

pub refusal-parts : (most : ℕ) (e : Engine) (files : Files) (fault : Bool) (cmd : Command) → is_on_slot cmd ≡ true →
    refusal most e files fault cmd ≡ or_else (early_refusal (current e) cmd) (late_refusal most (current e) files fault cmd)
refusal-parts most e files fault cmd on =
    ap (λ r. or_else r (slot_refusal most (current e) files fault cmd)) (alone e cmd on).0 ∙ slot-parts most (current e) files fault cmd

-- a command that is refused so has this reply and no work
pub refused-begun : (s : Slot) (cmd : Command) (r : Reply) → is_on_slot cmd ≡ true → early_refusal s cmd ≡ Some r → Begun s cmd s r
refused-begun s cmd r on h = record {
  does = λ most files fault. rw (refusal-parts most (engine_of s) files fault cmd on, h) refl;
  most = λ visits changes most files fault. record { few_visits = omega arith; few_changes = omega arith };
  least = λ visits changes most files fault. rw (refusal-parts most (engine_of s) files fault cmd on, h)
      (record { enough_visits = omega arith; enough_changes = omega arith });
}

-- a slot that is opened with dimensions or a width that none has
pub wrong-dims-begun : (s : Slot) (kind : Kind) (k width max : ℕ) → has_wrong_dims (Command.Begin kind k width max) ≡ true →
    Begun s (Command.Begin kind k width max) s Reply.ErrorDims
wrong-dims-begun s kind k width max h =
    let cmd = Command.Begin kind k width max in
    let first : early_refusal s cmd ≡ Some Reply.ErrorDims =
    ap (λ b. refuse_if b Reply.ErrorDims
    (refuse_if (has_wrong_kind s.kind cmd) Reply.ErrorKind
    (refuse_if (is_out_of_range s cmd) Reply.ErrorRange
    (refuse_if (is_reversed s cmd) Reply.ErrorReversed (cursor_refusal s cmd))))) h in
    refused-begun s cmd Reply.ErrorDims refl first

-- a command that is not refused at all
pub unrefused : (most : ℕ) (s : Slot) (files : Files) (fault : Bool) (cmd : Command) → is_on_slot cmd ≡ true →
    early_refusal s cmd ≡ None → late_refusal most s files fault cmd ≡ None → refusal most (engine_of s) files fault cmd ≡ None
unrefused most s files fault cmd on h k = refusal-parts most (engine_of s) files fault cmd on ∙ ap (λ r. or_else r (late_refusal most s files fault cmd)) h ∙ k

-- ---- commands that open no slot

opened-dims : (cmd : Command) → is_begin cmd ≡ false → has_wrong_dims cmd ≡ false
opened-dims (Command.Begin kind k width max) h = absurd cc
opened-dims other h = refl

-- the cause by what the code has tested
pub early-told : {s now : Slot} (cmd : Command) (kind outside reversed : Bool) (later : Option Reply) (w : ℕ) →
    s ≡ now → is_begin cmd ≡ false → kind ≡ has_wrong_kind s.kind cmd → w ≡ s.width →
    outside ≡ names_points_outside w cmd → reversed ≡ names_reversed s.kind cmd → later ≡ cursor_refusal now cmd →
    refuse_if kind Reply.ErrorKind (refuse_if outside Reply.ErrorRange (refuse_if reversed Reply.ErrorReversed later)) ≡ early_refusal now cmd
early-told {s} {now} cmd kind outside reversed later w e opened k is o r l =
    let kinds = k ∙ ap (λ x. has_wrong_kind x.kind cmd) e in
    let ranges = o ∙ ap (λ v. names_points_outside v cmd) (is ∙ ap (λ x. x.width) e) in
    let bounds = r ∙ ap (λ x. names_reversed x.kind cmd) e in
    (λ i. refuse_if (kinds i) Reply.ErrorKind (refuse_if (ranges i) Reply.ErrorRange (refuse_if (bounds i) Reply.ErrorReversed (l i))))
    ∙ ap (λ b. refuse_if b Reply.ErrorDims
    (refuse_if (has_wrong_kind now.kind cmd) Reply.ErrorKind
    (refuse_if (names_points_outside now.width cmd) Reply.ErrorRange
    (refuse_if (names_reversed now.kind cmd) Reply.ErrorReversed (cursor_refusal now cmd))))) (sym (opened-dims cmd opened))

-- ---- commands about the row at a point

kind-of-get : (kind : Kind) (p : List ℤ) → has_wrong_kind kind (Command.Get p) ≡ false
kind-of-get Points p = refl
kind-of-get Boxes p = refl

kind-of-move : (kind : Kind) (p q : List ℤ) → has_wrong_kind kind (Command.Relocate p q) ≡ false
kind-of-move Points p q = refl
kind-of-move Boxes p q = refl

put-as-get : (kind : Kind) (p : List ℤ) (v : ℕ) →
    (has_wrong_kind kind (Command.Get p) ≡ has_wrong_kind kind (Command.Put p v))
    × (boxes_of kind (Command.Get p) ≡ boxes_of kind (Command.Put p v))
put-as-get Points p v = (refl, refl)
put-as-get Boxes p v = (refl, refl)

del-as-get : (kind : Kind) (p : List ℤ) →
    (has_wrong_kind kind (Command.Get p) ≡ has_wrong_kind kind (Command.Del p))
    × (boxes_of kind (Command.Get p) ≡ boxes_of kind (Command.Del p))
del-as-get Points p = (refl, refl)
del-as-get Boxes p = (refl, refl)

-- the two causes for which such a command is refused
abbrev pub point_cause : Bool → Bool → Option Reply
point_cause outside reversed = refuse_if outside Reply.ErrorRange (refuse_if reversed Reply.ErrorReversed None)

pub early-get : (s : Slot) (p : List ℤ) →
    point_cause (names_points_outside s.width (Command.Get p)) (names_reversed s.kind (Command.Get p)) ≡ early_refusal s (Command.Get p)
early-get s p =
    ap (λ b. refuse_if b Reply.ErrorKind (point_cause (names_points_outside s.width (Command.Get p)) (names_reversed s.kind (Command.Get p))))
    (sym (kind-of-get s.kind p))

pub early-move : (s : Slot) (p q : List ℤ) →
    point_cause (names_points_outside s.width (Command.Relocate p q)) (names_reversed s.kind (Command.Relocate p q)) ≡ early_refusal s (Command.Relocate p q)
early-move s p q =
    ap (λ b. refuse_if b Reply.ErrorKind
    (point_cause (names_points_outside s.width (Command.Relocate p q)) (names_reversed s.kind (Command.Relocate p q))))
    (sym (kind-of-move s.kind p q))

-- the cause by what the code has tested
pub point-told : {s now : Slot} {outside reversed : Bool} (command : Command) (w : ℕ) → s ≡ now →
    point_cause (names_points_outside now.width command) (names_reversed now.kind command) ≡ early_refusal now command →
    w ≡ s.width → outside ≡ names_points_outside w command → reversed ≡ names_reversed s.kind command →
    point_cause outside reversed ≡ early_refusal now command
point-told {s} {now} {outside} {reversed} command w e early is o r =
    (λ i. point_cause ((o ∙ ap (λ v. names_points_outside v command) (is ∙ ap (λ x. x.width) e)) i) ((r ∙ ap (λ x. names_reversed x.kind command) e) i)) ∙ early

-- a put and a removal are refused as a get is
pub early-put : (s : Slot) (p : List ℤ) (v : ℕ) → early_refusal s (Command.Get p) ≡ early_refusal s (Command.Put p v)
early-put s p v =
    let same = put-as-get s.kind p v in
    λ i. refuse_if (same.0 i) Reply.ErrorKind (point_cause (is_out_of_range s (Command.Get p)) (not (list_all is_box (same.1 i))))

pub early-del : (s : Slot) (p : List ℤ) → early_refusal s (Command.Get p) ≡ early_refusal s (Command.Del p)
early-del s p =
    let same = del-as-get s.kind p in
    λ i. refuse_if (same.0 i) Reply.ErrorKind (point_cause (is_out_of_range s (Command.Get p)) (not (list_all is_box (same.1 i))))

-- ---- commands that are not refused

-- what is known of a command that is not refused so
right-range : (a b c : Bool) (later : Option Reply) → refuse_if a Reply.ErrorDims (refuse_if b Reply.ErrorKind (refuse_if c Reply.ErrorRange later)) ≡ None → c ≡ false
right-range true b c later h = absurd cc
right-range false true c later h = absurd cc
right-range false false true later h = absurd cc
right-range false false false later h = refl

right-bounds : (a b c d : Bool) (later : Option Reply) →
    refuse_if a Reply.ErrorDims (refuse_if b Reply.ErrorKind
    (refuse_if c Reply.ErrorRange (refuse_if d Reply.ErrorReversed later))) ≡ None → d ≡ false
right-bounds true b c d later h = absurd cc
right-bounds false true c d later h = absurd cc
right-bounds false false true d later h = absurd cc
right-bounds false false false true later h = absurd cc
right-bounds false false false false later h = refl

pub unreversed : (s : Slot) (cmd : Command) → early_refusal s cmd ≡ None → is_reversed s cmd ≡ false
unreversed s cmd h = right-bounds (has_wrong_dims cmd) (has_wrong_kind s.kind cmd) (is_out_of_range s cmd) (is_reversed s cmd) _ h

pub in-range : (s : Slot) (cmd : Command) → early_refusal s cmd ≡ None → is_out_of_range s cmd ≡ false
in-range s cmd h = right-range (has_wrong_dims cmd) (has_wrong_kind s.kind cmd) (is_out_of_range s cmd) _ h

right-cursor : (a b c d e : Bool) (later : Option Reply) →
    refuse_if a Reply.ErrorDims (refuse_if b Reply.ErrorKind
    (refuse_if c Reply.ErrorRange (refuse_if d Reply.ErrorReversed (refuse_if e Reply.ErrorCursor later)))) ≡ None →
    (e ≡ false) × (later ≡ None)
right-cursor true b c d e later h = absurd cc
right-cursor false true c d e later h = absurd cc
right-cursor false false true d e later h = absurd cc
right-cursor false false false true e later h = absurd cc
right-cursor false false false false true later h = absurd cc
right-cursor false false false false false later h = (refl, h)

right-cursors : (f : Bool) → refuse_if f Reply.ErrorCursors None ≡ None → f ≡ false
right-cursors true h = absurd cc
right-cursors false h = refl

pub has-cursor : (s : Slot) (cmd : Command) → early_refusal s cmd ≡ None → lacks_cursor s cmd ≡ false
has-cursor s cmd h = (right-cursor (has_wrong_dims cmd) (has_wrong_kind s.kind cmd) (is_out_of_range s cmd) (is_reversed s cmd) (lacks_cursor s cmd) _ h).0

pub has-room : (s : Slot) (cmd : Command) → early_refusal s cmd ≡ None → has_too_many_cursors s cmd ≡ false
has-room s cmd h = right-cursors (has_too_many_cursors s cmd)
    (right-cursor (has_wrong_dims cmd) (has_wrong_kind s.kind cmd) (is_out_of_range s cmd) (is_reversed s cmd)
    (lacks_cursor s cmd) _ h).1

-- an arm of a command that is not refused
pub unrefused-arm : (s now : Slot) (cmd arm : Written) → s ≡ now → cmd ≡ arm → None ≡ early_refusal now (command_of cmd) → early_refusal s (command_of arm) ≡ None
unrefused-arm s now cmd arm e is h = ap (λ x. early_refusal x (command_of arm)) e ∙ ap (λ x. early_refusal now (command_of x)) (sym is) ∙ sym h
