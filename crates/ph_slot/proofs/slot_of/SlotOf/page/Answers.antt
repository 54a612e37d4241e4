use Rattle.std.proofs.Common.{◌≡◌, ◌<◌, get_or, length, true, false, ap, sym, ◌∙◌, subst, arith}
use Rattle.std.specs.Prelude.{None, Some, Err, is_ok}
use Rattle.std.specs.List.{AllByRecursion}
use Rattle.ph_specs.specs.Command.{Command}
use Rattle.ph_specs.specs.Named.{enter, lookup}
use Rattle.ph_slot.specs.Naming.{place}
use Rattle.ph_slot.specs.Refusing.{early_refusal}
use Rattle.ph_commands.specs.Tables.{table_at, slot_of, IsCursorIn}
use Rattle.ph_slot.specs.Slots.{named}
use Rattle.ph_slot.specs.declared.cursors.Held.{Held}
use Rattle.ph_slot.proofs.Names.{has-place, under-entered, all-at}
use Rattle.ph_slot.proofs.Paged.{cursor-there, found-there, kept-listed, page-done, page-stopped}
use Rattle.ph_slot.proofs.Slotted.{names-sorted, slot-entered}
use Rattle.ph_slot.proofs.slot_of.SlotOf.page.Given.{Over}
use Rattle.ph_slot.proofs.slot_of.SlotOf.page.Goals.{After-list_page}
use Rattle.ph_slot.proofs.slot_of.SlotOf.page.Goals as goal

pub unreachable-requires : goal.unreachable-requires
unreachable-requires g c =
    let t = table_at g.row.D c.self.inside.kept in
    let items = c.self.inside.cursors.items in
    let name = c.args.name.now in
    let unrefused = subst (λ x. early_refusal x (Command.Page name c.args.n) ≡ None) (sym c.self.view_is) c.requires in
    let at : place name (named items) ≡ Err c.in_default.field-0 = ap (λ xs. place name (named xs))
    (sym c.as_slice.ensures.value) ∙ sym c.place_of.ensures.place ∙ c.in_default.is in
    let clash : true ≡ false = sym (cursor-there (slot_of c.self.inside.kind t (named items)) name c.args.n unrefused)
    ∙ has-place name (named items) (names-sorted c.self.inside.kind t items c.self.invariant) ∙ ap (λ r. is_ok r) at in
    cc

pub invariant_of-self : goal.invariant_of-self
invariant_of-self g c =
    let t = table_at g.row.D c.self.inside.kept in
    let items = c.self.inside.cursors.items in
    let name = c.args.name.now in
    let slice = c.as_slice-2.result.now in
    let unrefused = subst (λ x. early_refusal x (Command.Page name c.args.n) ≡ None) (sym c.self.view_is) c.requires in
    let serve = subst (AllByRecursion (λ h. IsCursorIn t h.cursor)) (sym c.as_slice-2.ensures.value) c.self.invariant.serve in
    let within : c.in-Ok.i < length slice =
    omega (
      arith,
      rw c.in-Ok.is at c.place_of.ensures.within,
      ap (λ xs. length xs) (c.as_slice.ensures.value ∙ sym c.as_slice-2.ensures.value),
    ) in
    let old = all-at (λ h. IsCursorIn t h.cursor) slice c.in-Ok.i c.index-as_slice-i.result serve within in
    let lists = rw c.tree.ensures at c.in-Ok-list_page.ensures.lists in
    let held : Held g.row.D = record { name = name; cursor = c.in-Ok-list_page.cursor } in
    rw c.enter.ensures (slot-entered c.self.inside.kind t held items c.self.invariant
    (record { lo = rw lists.next old.lo; hi = rw lists.next old.hi; last = lists.last })
    (λ k. cursor-there (slot_of c.self.inside.kind t (named items)) name c.args.n unrefused))

-- the cursor of the name is there
there : (g : Over) (c : After-list_page g) →
    lookup c.args.name.now (named c.self.inside.cursors.items) ≡ Some (get_or c.as_slice-2.result.now c.in-Ok.i c.index-as_slice-i.result).cursor
there g c =
    found-there c.args.name.now c.self.inside.cursors.items c.as_slice.result.now c.as_slice-2.result.now c.place_of.result c.in-Ok.i
    c.index-as_slice-i.result c.as_slice.ensures.value c.as_slice-2.ensures.value c.place_of.ensures.place
    c.in-Ok.is c.place_of.ensures.within

pub returns-in-Ok-list_page-clause-done : goal.returns-in-Ok-list_page-clause-done
returns-in-Ok-list_page-clause-done g c =
    let items = c.self.inside.cursors.items in
    let name = c.args.name.now in
    let unrefused = subst (λ x. early_refusal x (Command.Page name c.args.n) ≡ None) (sym c.self.view_is) c.requires in
    let held : Held g.row.D = record { name = name; cursor = c.in-Ok-list_page.cursor } in
    let is : named c.enter.new.cursors.items ≡ enter name c.in-Ok-list_page.cursor (named items) =
    ap (λ xs. named xs) c.enter.ensures ∙ sym (under-entered (λ h. h.name) (λ h. h.cursor) held items) in
    rw (← c.self.view_is) (page-done c.self.inside.kind (table_at g.row.D c.self.inside.kept) (named items) (named c.enter.new.cursors.items) name
    c.args.n _ c.in-Ok-list_page.cursor _ _ c.args.visits.now c.list_page.new.visits unrefused
    (there g (goal.at.returns-in-Ok-list_page-clause-done g c).After-list_page) is
    (kept-listed g.row.D c.self.inside.kept _ c.args.n _ _ _ _ _ (rw c.tree.ensures at c.in-Ok-list_page.ensures.lists)))

pub returns-in-Err-clause-done : goal.returns-in-Err-clause-done
returns-in-Err-clause-done g c =
    let name = c.args.name.now in
    let unrefused = subst (λ x. early_refusal x (Command.Page name c.args.n) ≡ None) (sym c.self.view_is) c.requires in
    rw (← c.self.view_is) (page-stopped c.self.inside.kind (table_at g.row.D c.self.inside.kept) (named c.self.inside.cursors.items) name c.args.n _ _ _
    c.args.visits.now c.list_page.new.visits c.in-Err.stop unrefused (there g (goal.at.returns-in-Err-clause-done g c).After-list_page) (rw c.tree.ensures at c.in-Err.ensures.lists))
