use Rattle.ph_commands.specs.Tables.{table_at}
use Rattle.ph_slot.specs.Slots.{named}
use Rattle.ph_slot.proofs.Groups.{all-tried}
use Rattle.ph_slot.proofs.Slotted.{slot-keeps}
use Rattle.ph_slot.proofs.slot_of.SlotOf.try_reply.Goals as goal

pub unreachable-requires : goal.unreachable-requires
unreachable-requires g c = all-tried c.args.cmd.now c.requires.tried
    c.in_default.not-Load c.in_default.not-Import c.in_default.not-Keep c.in_default.not-Back

pub invariant_of-self : goal.invariant_of-self
invariant_of-self g c =
    let kind = c.self.inside.kind in
    let t = table_at g.row.D c.self.inside.kept in
    slot-keeps kind t (table_at g.row.D c.load_table.new.kept) c.self.inside.cursors.items c.load_table.ensures.frame c.self.invariant

pub invariant_of-self-in-Import : goal.invariant_of-self-in-Import
invariant_of-self-in-Import g c =
    let kind = c.self-in-Import.inside.kind in
    let t = table_at g.row.D c.self-in-Import.inside.kept in
    slot-keeps kind t (table_at g.row.D c.import_table.new.kept) c.self-in-Import.inside.cursors.items c.import_table.ensures.frame c.self-in-Import.invariant

pub returns-in-Load-clause-filed : goal.returns-in-Load-clause-filed
returns-in-Load-clause-filed g c = rw (c.in-Load.is, c.load_table.ensures.unseen, ← c.self.view_is)
    (c.load_table.ensures.loaded.filed c.args.desk.now.visits.now (named c.self.inside.cursors.items))

pub returns-in-Import-clause-filed : goal.returns-in-Import-clause-filed
returns-in-Import-clause-filed g c = rw (c.in-Import.is, ← c.self-in-Import.view_is) (c.import_table.ensures.imported.filed (named c.self-in-Import.inside.cursors.items))

pub returns-in-Back-clause-filed : goal.returns-in-Back-clause-filed
returns-in-Back-clause-filed g c = rw c.in-Back.is
    (c.back.ensures.filed c.args.desk.now.limits.now.file_bytes (g.F.Files.files c.args.desk.now.files.now) (g.F.Files.faults c.args.desk.now.files.now))
