use Rattle.std.proofs.Common.{◌≡◌, ◌≤◌, ◌∙◌, ◌%◌, ap, length, rules, sym, true}
use Rattle.std.specs.Prelude.{None}
use Rattle.std.specs.List.{list_all}
use Rattle.ph_specs.specs.Boxes.{AreBoxes}
use Rattle.ph_specs.specs.Coordinate.{fits}
use Rattle.ph_script.specs.Meaning.{numbers_of}
use Rattle.ph_commands.specs.Tables.{table_at, slot_of}
use Rattle.ph_slot.specs.Asking.{asking}
use Rattle.ph_slot.specs.Refusing.{early_refusal}
use Rattle.ph_slot.specs.Slots.{named}
use Rattle.ph_slot.proofs.Paged.{asked-boxes, asked-range, lists-boxes, slot-listed}
use Rattle.ph_slot.proofs.slot_of.SlotOf.ask.Goals as goal

pub list_boxes-requires : goal.list_boxes-requires
list_boxes-requires g c =
    let kind = c.self.inside.kind in
    let t = table_at g.row.D c.self.inside.kept in
    let cursors = named c.self.inside.cursors.items in
    let q = numbers_of c.args.bounds.now in
    let boxes = asked-boxes c.args.question kind t cursors c.args.self.now q c.self.view_is c.requires.unrefused c.self.invariant.of_kind in
    let even : g.row.D % 2 ≡ 0 = boxes.0 in
    let early : early_refusal (slot_of kind t cursors) (asking c.args.question q) ≡ None =
    ap (λ x. early_refusal x (asking c.args.question q)) c.self.view_is ∙ c.requires.unrefused in
    let dims : length c.args.bounds.now ≡ g.row.D = c.requires.dims ∙ ap (λ x. x.dims) (sym c.self.view_is) in
    let range : list_all (fits c.tree.result.now.width) q ≡ true =
    rw c.tree.ensures (asked-range c.args.question (slot_of kind t cursors) q early) in
    let rows : AreBoxes c.tree.result.now.table = rw c.tree.ensures boxes.1 in
    let limit : g.row.D ≤ 16 = c.self.invariant.limit in
    search (rules, even, dims, range, rows, limit)

pub returns-clause-done : goal.returns-clause-done
returns-clause-done g c =
    let q = numbers_of c.args.bounds.now in
    let s = slot_of c.self.inside.kind (table_at g.row.D c.self.inside.kept) (named c.self.inside.cursors.items) in
    rw (← c.self.view_is) (slot-listed c.list_boxes.result
    (ap (λ x. early_refusal x (asking c.args.question q)) c.self.view_is ∙ c.requires.unrefused)
    (lists-boxes c.args.question s q) (rw c.tree.ensures at c.list_boxes.ensures.lists))
