use Rattle.std.proofs.Common.{sym}
use Rattle.std.specs.Prelude.{Ok}
use Rattle.ph_commands.specs.Tables.{table_at, slot_of}
use Rattle.ph_slot.specs.Slots.{named}
use Rattle.ph_slot.proofs.Filed.{filed-begun, filed-served}
use Rattle.ph_slot.proofs.Groups.{all-sure}
use Rattle.ph_slot.proofs.Plain.{plain-count, plain-clear}
use Rattle.ph_slot.proofs.Refused.{unrefused-arm}
use Rattle.ph_slot.proofs.Slotted.{slot-keeps, same-frame, clear-frame}
use Rattle.ph_slot.proofs.slot_of.SlotOf.reply.Goals as goal

pub unreachable-requires : goal.unreachable-requires
unreachable-requires g c = all-sure c.args.cmd.now c.requires.sure
    c.in_default.not-Count c.in_default.not-Clear c.in_default.not-Cursor c.in_default.not-Save c.in_default.not-Export

pub invariant_of-self : goal.invariant_of-self
invariant_of-self g c =
    let kind = c.self-in-Clear.inside.kind in
    let t = table_at g.row.D c.self-in-Clear.inside.kept in
    let cursors = named c.self-in-Clear.inside.cursors.items in
    slot-keeps kind t (table_at g.row.D c.clear_rows.new.kept) c.self-in-Clear.inside.cursors.items
    (same-frame {E = ⊥} kind t (table_at g.row.D c.clear_rows.new.kept) _ (Ok c.clear_rows.result) 0 0 0 0
    (clear-frame kind t cursors) (c.clear_rows.ensures.served 0 0)) c.self-in-Clear.invariant

pub returns-in-Cursor-clause-replies : goal.returns-in-Cursor-clause-replies
returns-in-Cursor-clause-replies g c = rw c.in-Cursor.is (record { filed = λ most changes. filed-begun most _ _ _ _ _ _ _ changes c.set_cursor.ensures })

pub returns-in-Save-clause-replies : goal.returns-in-Save-clause-replies
returns-in-Save-clause-replies g c = rw (c.in-Save.is, ← c.self-in-Save.view_is)
    (record { filed = λ most changes. c.save_table.ensures.saved.filed most changes (named c.self-in-Save.inside.cursors.items) })

pub returns-in-Export-clause-replies : goal.returns-in-Export-clause-replies
returns-in-Export-clause-replies g c = rw (c.in-Export.is, ← c.self-in-Export.view_is)
    (record {
      filed = λ most changes. c.export_table.ensures.exported.filed most changes c.self-in-Export.inside.kind
          (named c.self-in-Export.inside.cursors.items);
    })

pub returns-in-Count-clause-replies : goal.returns-in-Count-clause-replies
returns-in-Count-clause-replies g c =
    let kind = c.self.inside.kind in
    let t = table_at g.row.D c.self.inside.kept in
    let cursors = named c.self.inside.cursors.items in
    let unrefused = unrefused-arm (slot_of kind t cursors) c.args.self.now c.args.cmd.now _ c.self.view_is c.in-Count.is (sym c.requires.unrefused) in
    rw (c.in-Count.is, ← c.self.view_is)
    (record {
      filed = λ most changes. filed-served {E = ⊥} most kind t t cursors _ (Ok c.count_rows.result) _ _ _ _
          changes changes plain-count unrefused (c.count_rows.ensures.served c.args.visits.now changes);
    })

pub returns-in-Clear-clause-replies : goal.returns-in-Clear-clause-replies
returns-in-Clear-clause-replies g c =
    let kind = c.self-in-Clear.inside.kind in
    let t = table_at g.row.D c.self-in-Clear.inside.kept in
    let cursors = named c.self-in-Clear.inside.cursors.items in
    let unrefused = unrefused-arm (slot_of kind t cursors) c.args.self.now c.args.cmd.now _ c.self-in-Clear.view_is c.in-Clear.is (sym c.requires.unrefused) in
    rw (c.in-Clear.is, ← c.self-in-Clear.view_is)
    (record {
      filed = λ most changes. filed-served {E = ⊥} most kind t (table_at g.row.D c.clear_rows.new.kept) cursors _
          (Ok c.clear_rows.result) _ _ _ _ changes changes plain-clear unrefused (c.clear_rows.ensures.served c.args.visits.now changes);
    })
