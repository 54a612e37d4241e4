use Rattle.std.proofs.Common.{◌≡◌, ◌≤◌, rules, true, length, ap, sym, ◌∙◌, subst}
use Rattle.std.specs.Prelude.{None}
use Rattle.std.proofs.lemmas.List.{length-map}
use Rattle.ph_specs.specs.Command.{Command}
use Rattle.ph_specs.specs.Named.{enter, has_name}
use Rattle.ph_script.specs.Meaning.{numbers_of, number_of_coord}
use Rattle.ph_slot.specs.Refusing.{early_refusal}
use Rattle.ph_commands.specs.Tables.{table_at, slot_of}
use Rattle.ph_slot.specs.Slots.{named}
use Rattle.ph_slot.specs.declared.cursors.Held.{Held}
use Rattle.ph_slot.proofs.Names.{under-entered}
use Rattle.ph_slot.proofs.Paged.{room-in, corners-in, point-in, cursor-begun}
use Rattle.ph_slot.proofs.Slotted.{slot-entered}
use Rattle.ph_slot.proofs.slot_of.SlotOf.set_cursor.Given.{Over}
use Rattle.ph_slot.proofs.slot_of.SlotOf.set_cursor.Goals.{After-cursor_at-cursor}
use Rattle.ph_slot.proofs.slot_of.SlotOf.set_cursor.Goals as goal

-- the cursor is not refused
unrefused : (g : Over) (c : After-cursor_at-cursor g) →
    early_refusal (slot_of c.self.inside.kind (table_at g.row.D c.self.inside.kept) (named c.self.inside.cursors.items))
    (Command.Cursor c.args.name.now (numbers_of c.args.lo.now) (numbers_of c.args.hi.now)) ≡ None
unrefused g c = subst (λ x. early_refusal x (Command.Cursor c.args.name.now (numbers_of c.args.lo.now) (numbers_of c.args.hi.now)) ≡ None)
    (sym c.self.view_is) c.requires.unrefused

-- and where all places are taken, one of its name is there
room : (g : Over) (c : After-cursor_at-cursor g) → length c.self.inside.cursors.items ≡ 16 → has_name c.args.name.now (named c.self.inside.cursors.items) ≡ true
room g c k =
    let items = c.self.inside.cursors.items in
    room-in (slot_of c.self.inside.kind (table_at g.row.D c.self.inside.kept) (named items)) c.args.name.now (numbers_of c.args.lo.now)
    (numbers_of c.args.hi.now) (unrefused g c) (length-map items (λ h. (h.name, h.cursor)) ∙ k)

pub enter-requires : goal.enter-requires
enter-requires g c =
    let room : length c.self.inside.cursors.items ≡ 16 → has_name c.args.name.now (named c.self.inside.cursors.items) ≡ true =
    room g (goal.at.enter-requires g c).After-cursor_at-cursor in
    let limit : g.row.D ≤ 16 = c.self.invariant.limit in
    search (rules, room, limit, c.self.invariant.sorted)

pub invariant_of-self : goal.invariant_of-self
invariant_of-self g c =
    let t = table_at g.row.D c.self.inside.kept in
    let items = c.self.inside.cursors.items in
    let made = (goal.at.invariant_of-self g c).After-cursor_at-cursor in
    let inside = corners-in (slot_of c.self.inside.kind t (named items)) c.args.name.now (numbers_of c.args.lo.now)
    (numbers_of c.args.hi.now) (unrefused g made) in
    let lo : length (numbers_of c.args.lo.now) ≡ t.dims = length-map c.args.lo.now number_of_coord ∙ c.requires.lo ∙ ap (λ x. x.dims) (sym c.self.view_is) in
    let hi : length (numbers_of c.args.hi.now) ≡ t.dims = length-map c.args.hi.now number_of_coord ∙ c.requires.hi ∙ ap (λ x. x.dims) (sym c.self.view_is) in
    let is = c.cursor_at-cursor.ensures in
    let held : Held g.row.D = record { name = c.args.name.now; cursor = c.cursor_at-cursor.result } in
    rw c.enter.ensures (slot-entered c.self.inside.kind t held items c.self.invariant
    (record {
      lo = rw is (point-in t.tree.width t.dims _ lo inside.0);
      hi = rw is (point-in t.tree.width t.dims _ hi inside.1);
      last = rw is tt;
    })
    (room g made))

pub returns : goal.returns
returns g c =
    let items = c.self.inside.cursors.items in
    let name = c.args.name.now in
    let held : Held g.row.D = record { name = name; cursor = c.cursor_at-cursor.result } in
    let is : named c.enter.new.cursors.items ≡
    enter name (record { lo = numbers_of c.args.lo.now; hi = numbers_of c.args.hi.now; last = None })
    (named items) = ap (λ xs. named xs) c.enter.ensures ∙
    sym (under-entered (λ h. h.name) (λ h. h.cursor) held items) ∙ ap (λ x. enter name x (named items))
    c.cursor_at-cursor.ensures in
    rw (← c.self.view_is) (cursor-begun (slot_of c.self.inside.kind (table_at g.row.D c.self.inside.kept) (named items)) name
    (numbers_of c.args.lo.now) (numbers_of c.args.hi.now) (named c.enter.new.cursors.items)
    (unrefused g (goal.at.returns g c).After-cursor_at-cursor) is)
