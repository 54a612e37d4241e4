-- What a slot keeps, a command keeps.
use Rattle.std.proofs.Common.{◌≡◌, ◌≤◌, ◌+◌, ℕ, zero, suc, take, inl, inr, Bool, true, false, List, [], ◌∷◌, length, refl, ap, sym, subst, ◌∙◌, arith, cond}
use Rattle.std.specs.Prelude.{Option, Some, None, Result, Ok, Err, ℤ, not, ◌%◌, ◌&&◌, ◌||◌, ◌==◌, nat_le, if◌then◌else◌}
use Rattle.std.specs.List.{AllByRecursion, list_all}
use Rattle.std.specs.Ordering.{nat_cmp}
use Rattle.std.specs.Cmp.Lexicographic.{slice_cmp}
use Rattle.std.specs.FinMap.Entries.{is_sorted}
use Rattle.std.proofs.Math.Dec.{T}
use Rattle.std.proofs.lemmas.Bool.{and_parts}
use Rattle.std.proofs.Common.{eqb-true}
use Rattle.ph_specs.specs.declared.Kind.{Kind}
use Rattle.ph_specs.specs.Boxes.{AreBoxes}
use Rattle.ph_specs.specs.declared.Kind.TheVariants.{Points, Boxes}
use Rattle.ph_specs.specs.Command.{Command}
use Rattle.ph_specs.specs.Coordinate.{is_box, IsBox}
use Rattle.ph_specs.specs.Named.{Named, has_name}
use Rattle.ph_specs.specs.Reply.{Reply}
use Rattle.ph_specs.specs.State.{Slot, current, with_past}
use Rattle.ph_specs.specs.Past.{Past, after_edit}
use Rattle.ph_specs.specs.Table.{Row, has, del, move}
use Rattle.ph_specs.specs.Load.{dims_fit}
use Rattle.ph_specs.specs.Refusals.{refusal, boxes_of}
use Rattle.ph_specs.specs.SnapshotOf.{IsSnapshotOf}
use Rattle.ph_specs.specs.Window.{Cursor}
use Rattle.ph_specs.specs.Engine.{effect, unless_refused}
use Rattle.ph_tree.specs.Tree.{TreeTable}
use Rattle.ph_undo.specs.Kept.{tree_of}
use Rattle.ph_script.specs.declared.reply.Reply.{Reply as Told}
use Rattle.ph_specs.proofs.laws.BoxRows.{boxes-put, boxes-del, boxes-move}
use Rattle.ph_commands.specs.Served.{ServedOr}
use Rattle.ph_commands.specs.Tables.{SameFrame, AnyTable, table_at, bare, empty_table, slot_of, engine_of, IsCursorIn, IsOfKind}
use Rattle.ph_slot.specs.Slots.{named, entered, IsSlot}
use Rattle.ph_slot.specs.Refusing.{early_refusal}
use Rattle.ph_slot.specs.declared.cursors.Held.{Held}
use Rattle.ph_slot.proofs.Loads.{boxes-fit}
use Rattle.ph_slot.proofs.Refused.{unreversed}
use Rattle.ph_slot.proofs.Names.{true-is, is-true, sorted-entered, length-entered, all-entered}
use Rattle.ph_commands.proofs.Frames.{of-kind-still}

-- ---- rows that are boxes

is-box : (b : Bool) → not (b && true) ≡ false → b ≡ true
is-box true h = refl
is-box false h = absurd cc

second-box : (a b : Bool) → not (a && (b && true)) ≡ false → b ≡ true
second-box true true h = refl
second-box true false h = absurd cc
second-box false b h = absurd cc

-- ---- a table of the same width, number of dimensions and kind

-- the rows of a slot are boxes, and those of its past
abbrev HasBoxes : Slot → Type 0
HasBoxes s = AreBoxes s.table × AllByRecursion AreBoxes s.past

boxes-taken : (n : ℕ) (past : List (List Row)) → AllByRecursion AreBoxes past → AllByRecursion AreBoxes (take n past)
boxes-taken zero past h = tt
boxes-taken (suc n) [] h = tt
boxes-taken (suc n) (rows ∷ past) h = (h.0, boxes-taken n past h.1)

-- an edit puts the table from before it in front of the past
edited : (n : ℕ) (now before : List Row) (past : List (List Row)) → AreBoxes now → AreBoxes before →
    AllByRecursion AreBoxes past → AreBoxes now × AllByRecursion AreBoxes (take n (before ∷ past))
edited n now before past h k l = (h, boxes-taken n (before ∷ past) (k, l))

-- refused or not, a command on points leaves the width and the dimensions, and where a slot of the kind does not refuse it, the kind
pub record KeepsFrame (kind : Kind) (t : AnyTable) (command : Command) : Type 0 where
  pub same : (r : Option Reply) → let s = current (unless_refused r (engine_of (slot_of Points t [])) [] command).engine in (s.width ≡ t.tree.width) × (s.dims ≡ t.dims)
  pub boxes : (r : Option Reply) → kind ≡ Boxes → AreBoxes t.tree.table → AllByRecursion AreBoxes t.tree.past →
      HasBoxes (current (unless_refused r (engine_of (slot_of Points t [])) [] command).engine)

pub same-frame : {E : Type 0} (kind : Kind) (t now : AnyTable) (command : Command) (outcome : Result Told E)
    (v now_v c now_c : ℕ) → KeepsFrame kind t command → ServedOr t command now v now_v c now_c outcome → SameFrame kind t now
same-frame kind t now command (Ok reply) v now_v c now_c k h =
    let does = h.does [] 0 [] false in
    let r = refusal 0 (engine_of (slot_of Points t [])) [] false command in
    let dims : now.dims ≡ t.dims = sym (ap (λ o. (current o.engine).dims) does) ∙ (k.same r).1 in
    record {
      width = sym (ap (λ o. (current o.engine).width) does) ∙ (k.same r).0;
      dims = dims;
      of_kind = of-kind-still kind t now dims
          (λ e b c. let k = k.boxes r e b c in (
            subst AreBoxes (ap (λ o. (current o.engine).table) does) k.0,
            subst (AllByRecursion AreBoxes) (ap (λ o. (current o.engine).past) does) k.1,
          ));
    }
same-frame kind t now command (Err error) v now_v c now_c k h =
    record { width = ap (λ x. x.tree.width) h.stays; dims = ap (λ x. x.dims) h.stays; of_kind = λ o. rw h.stays o }

-- a point of a command that a slot of boxes does not refuse is a box
box-of : (t : AnyTable) (cursors : Named Cursor) (kind : Kind) (command : Command) (p : List ℤ) →
    boxes_of Boxes command ≡ p ∷ [] → kind ≡ Boxes → early_refusal (slot_of kind t cursors) command ≡ None → IsBox p
box-of t cursors kind command p e k h =
    is-box (is_box p) (ap (λ ps. not (list_all is_box ps)) (sym e) ∙
    ap (λ x. not (list_all is_box (boxes_of x command))) (sym k) ∙ unreversed (slot_of kind t cursors) command h)

module _ (kind : Kind) (t : AnyTable) (cursors : Named Cursor) where
  -- a command that leaves it so where it is not refused
  keeps : (command : Command) → let now = current (effect (engine_of (slot_of Points t [])) [] command).engine in
      (now.width ≡ t.tree.width) × (now.dims ≡ t.dims) →
      (kind ≡ Boxes → AreBoxes t.tree.table → AllByRecursion AreBoxes t.tree.past → HasBoxes now) → KeepsFrame kind t command
  keeps command same boxes = record { same = stays; boxes = boxed }
    where
      stays : (r : Option Reply) → let s = current (unless_refused r (engine_of (slot_of Points t [])) [] command).engine in
          (s.width ≡ t.tree.width) × (s.dims ≡ t.dims)
      stays (Some r) = (refl, refl)
      stays None = same

      boxed : (r : Option Reply) → kind ≡ Boxes → AreBoxes t.tree.table → AllByRecursion AreBoxes t.tree.past →
          HasBoxes (current (unless_refused r (engine_of (slot_of Points t [])) [] command).engine)
      boxed (Some r) e b c = (b, c)
      boxed None e b c = boxes e b c

  pub put-frame : (p : List ℤ) (v : ℕ) → early_refusal (slot_of kind t cursors) (Command.Put p v) ≡ None → KeepsFrame kind t (Command.Put p v)
  put-frame p v h = keeps (Command.Put p v) (refl, refl)
      (λ e b c. edited t.tree.depth _ t.tree.table t.tree.past
      (boxes-put t.tree.width t.tree.table p v (box-of t cursors kind (Command.Put p v) p refl e h) b) b c)

  pub del-frame : (p : List ℤ) → KeepsFrame kind t (Command.Del p)
  del-frame p = keeps (Command.Del p) (refl, refl)
      (λ e b c. elim (has t.tree.table p)
      as (λ x. HasBoxes (with_past (slot_of Points t [])
      (if x then after_edit t.tree (del t.tree.table p) else t.tree)))
      [ true ↦ edited t.tree.depth _ t.tree.table t.tree.past (boxes-del t.tree.table p b) b c | false ↦ (b, c) ])

  pub move-frame : (p q : List ℤ) → early_refusal (slot_of kind t cursors) (Command.Relocate p q) ≡ None → KeepsFrame kind t (Command.Relocate p q)
  move-frame p q h = keeps (Command.Relocate p q) (refl, refl) boxed
    where
      target : kind ≡ Boxes → IsBox q
      target e = second-box (is_box p) (is_box q)
          (ap (λ x. not (list_all is_box (boxes_of x (Command.Relocate p q)))) (sym e) ∙
          unreversed (slot_of kind t cursors) (Command.Relocate p q) h)

      boxed : kind ≡ Boxes → AreBoxes t.tree.table → AllByRecursion AreBoxes t.tree.past →
          HasBoxes (current (effect (engine_of (slot_of Points t [])) [] (Command.Relocate p q)).engine)
      boxed e b c = elim (has t.tree.table p && not (has t.tree.table q))
          as (λ x. HasBoxes (with_past (slot_of Points t [])
          (if x then after_edit t.tree (move t.tree.width t.tree.table p q) else t.tree))) [
            | true ↦ edited t.tree.depth _ t.tree.table t.tree.past
                (boxes-move t.tree.width t.tree.table p q (target e) b) b c
            | false ↦ (b, c)
          ]

  pub clear-frame : KeepsFrame kind t Command.Clear
  clear-frame = keeps Command.Clear (refl, refl) (λ e b c. (tt, tt))

-- a cursor that serves in a table serves in such a one
cursor-kept : (kind : Kind) (t now : AnyTable) (c : Cursor) → SameFrame kind t now → IsCursorIn t c → IsCursorIn now c
cursor-kept kind t now c f h = record { lo = rw (f.width, f.dims) h.lo; hi = rw (f.width, f.dims) h.hi; last = rw (f.width, f.dims) h.last }

cursors-kept : {D : ℕ} (kind : Kind) (t now : AnyTable) (held : List (Held D)) → SameFrame kind t now →
    AllByRecursion (λ h. IsCursorIn t h.cursor) held → AllByRecursion (λ h. IsCursorIn now h.cursor) held
cursors-kept kind t now [] f h = h
cursors-kept kind t now (x ∷ held) f h = (cursor-kept kind t now x.cursor f h.0, cursors-kept kind t now held f h.1)

pub slot-keeps : {D : ℕ} (kind : Kind) (t now : AnyTable) (held : List (Held D)) → SameFrame kind t now → IsSlot kind t held → IsSlot kind now held
slot-keeps kind t now held f h = record {
  some = rw f.dims h.some;
  limit = rw f.dims h.limit;
  of_kind = f.of_kind h.of_kind;
  few = h.few;
  sorted = h.sorted;
  serve = cursors-kept kind t now held f h.serve;
}

-- the same behind a command about rows
pub frame-kept : {E : Type 0} {D : ℕ} {kind : Kind} {t : AnyTable} {held : List (Held D)} {command : Command} (now : AnyTable)
    (outcome : Result Told E) (v now_v c now_c : ℕ) → KeepsFrame kind t command →
    ServedOr t command now v now_v c now_c outcome → IsSlot kind t held → IsSlot kind now held
frame-kept {D} {kind} {t} {held} {command} now outcome v now_v c now_c k h s =
    slot-keeps kind t now held (same-frame kind t now command outcome v now_v c now_c k h) s

-- ---- a slot that is opened

-- a tree of which no edits are kept
pub kept-new : (k : Past) (t : TreeTable) → tree_of k ≡ t → k.depth ≡ 0 → k.past ≡ [] → k ≡ bare t
kept-new k t e d p = λ i. record { table = (e i).table; width = (e i).width; max = (e i).max; depth = d i; past = p i }

empty-opened : (D : ℕ) (kind : Kind) (dims w max : ℕ) → 1 ≤ dims → dims ≤ 16 → (kind ≡ Boxes → dims % 2 ≡ 0) →
    IsSlot {D = D} kind (empty_table dims w max) []
empty-opened D Points dims w max some limit even = record { some = some; limit = limit; of_kind = tt; few = omega arith; sorted = refl; serve = tt }
empty-opened D Boxes dims w max some limit even =
    record { some = some; limit = limit; of_kind = (even refl, tt, tt); few = omega arith; sorted = refl; serve = tt }

pub slot-opened : {D : ℕ} (kind : Kind) (dims w max : ℕ) (k : Past) (t : TreeTable) (held : List (Held D)) →
    tree_of k ≡ t → k.depth ≡ 0 → k.past ≡ [] → t.table ≡ [] → t.width ≡ w → t.max ≡ max → held ≡ [] →
    1 ≤ dims → dims ≤ 16 → (kind ≡ Boxes → dims % 2 ≡ 0) → IsSlot kind (table_at dims k) held
slot-opened {D} kind dims w max k t held e d p rows width most none some limit even =
    let same : k ≡ bare (record { table = []; width = w; max = max }) =
    kept-new k t e d p ∙ (λ i. bare (record { table = rows i; width = width i; max = most i })) in
    rw (same, none) (empty-opened D kind dims w max some limit even)

-- ---- a slot that is made of a snapshot

fits-even : (most dims : ℕ) → dims_fit most 1 dims ≡ true → dims % 2 ≡ 0
fits-even most dims h =
    let parts : ((nat_le 1 dims && nat_le dims most) ≡ true) × (((1 == 0) || (dims % 2 == 0)) ≡ true) = and_parts (nat_le 1 dims && nat_le dims most) _ h in
    eqb-true (dims % 2) 0 parts.1

loaded-kind : (kind : Kind) (dims w : ℕ) (bytes : List ℕ) (t : TreeTable) → IsSnapshotOf kind dims w bytes t.table → IsOfKind kind (table_at dims (bare t))
loaded-kind Points dims w bytes t s = tt
loaded-kind Boxes dims w bytes t (inl s) = (fits-even 8 dims s.1.dims_are, boxes-fit t.table s.1.rows_are, tt)
loaded-kind Boxes dims w bytes t (inr s) = (fits-even 16 dims s.dims_are, boxes-fit t.table s.rows_are, tt)

pub slot-loaded : {D : ℕ} (kind : Kind) (dims w : ℕ) (bytes : List ℕ) (k : Past) (t : TreeTable) (held : List (Held D)) →
    tree_of k ≡ t → k.depth ≡ 0 → k.past ≡ [] → IsSnapshotOf kind dims w bytes t.table → held ≡ [] →
    1 ≤ dims → dims ≤ 16 → IsSlot kind (table_at dims k) held
slot-loaded kind dims w bytes k t held e d p s none some limit =
    rw (kept-new k t e d p, none)
    (record { some = some; limit = limit; of_kind = loaded-kind kind dims w bytes t s; few = omega arith; sorted = refl; serve = tt })

-- ---- with a cursor more

pub names-sorted : {D : ℕ} (kind : Kind) (t : AnyTable) (held : List (Held D)) → IsSlot kind t held → T (is_sorted (slice_cmp nat_cmp) (named held))
names-sorted kind t held h = true-is (is_sorted (slice_cmp nat_cmp) (named held)) h.sorted

few-entered : (b : Bool) (n : ℕ) → n ≤ 16 → (n ≡ 16 → b ≡ true) → cond b n (n + 1) ≤ 16
few-entered true n h k = h
few-entered false n h k = less n h (λ e. absurd (let f : false ≡ true = k e in cc))
  where
    less : (n : ℕ) → n ≤ 16 → (n ≡ 16 → ⊥) → n + 1 ≤ 16
    less n h k = omega arith

pub slot-entered : {D : ℕ} (kind : Kind) (t : AnyTable) (h : Held D) (held : List (Held D)) → IsSlot kind t held →
    IsCursorIn t h.cursor → (length held ≡ 16 → has_name h.name (named held) ≡ true) → IsSlot kind t (entered h held)
slot-entered kind t h held s c room =
    let sorted = names-sorted kind t held s in
    record {
      some = s.some;
      limit = s.limit;
      of_kind = s.of_kind;
      few = rw (length-entered (λ x. x.name) (λ x. x.cursor) h held sorted) (few-entered (has_name h.name (named held)) (length held) s.few room);
      sorted = is-true _ (sorted-entered (λ x. x.name) (λ x. x.cursor) h held sorted);
      serve = all-entered (λ x. IsCursorIn t x.cursor) (λ x. x.name) (λ x. x.cursor) h held s.serve c;
    }
