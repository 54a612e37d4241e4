use Rattle.std.proofs.Common.{refl, rules}
use Rattle.ph_specs.specs.Command.{Command}
use Rattle.ph_commands.specs.Tables.{table_at, slot_of}
use Rattle.ph_slot.proofs.Filed.{unfetched-filed-or}
use Rattle.ph_slot.proofs.Recorded.{fetch-import, imported-filed-or}
use Rattle.ph_slot.proofs.Loads.{same-frame-still}
use Rattle.ph_slot.proofs.records.import_table.Goals as goal

pub returns-in-Ok-clause-imported : goal.returns-in-Ok-clause-imported
returns-in-Ok-clause-imported g c =
    let e = c.in-Ok.ensures in
    let i = c.import_text.ensures in
    record {
      filed = λ cursors.
          imported-filed-or c.args.desk.now.limits.now.file_bytes c.args.kind (table_at g.row.D c.args.kept.now) cursors c.args.file.now c.as_slice.result.now
          c.args.header (g.F.Files.faults c.args.desk.now.files.now) (g.F.Files.faults c.fetch.new.self) c.args.desk.now.visits.now
          c.import_text.new.visits c.args.desk.now.changes.now c.import_text.new.changes
          (g.F.Files.files c.args.desk.now.files.now) (g.F.Files.files c.fetch.new.self) (table_at g.row.D c.import_text.new.kept)
          c.import_text.result (rw (c.as_slice.ensures.value, ← c.as_str.ensures.value) e.fetches) (rw c.as_slice.ensures.value e.within)
          e.files e.counts i.imports i.later i.few_visits i.kept i.few_changes;
    }

pub returns : goal.returns
returns g c =
    let e = c.in-Err.ensures in
    let t = table_at g.row.D c.args.kept.now in
    let name = c.args.file.now in
    record {
      frame = same-frame-still c.args.kind t;
      begun = e.is_begun;
      out = refl;
      same = search rules;
      imported = record {
        filed = λ cursors.
            unfetched-filed-or (Command.Import name c.args.header) name (fetch-import name c.args.header)
            c.args.desk.now.limits.now.file_bytes (slot_of c.args.kind t cursors) c.fetch.new.into.items
            (g.F.Files.faults c.args.desk.now.files.now) (g.F.Files.faults c.fetch.new.self) c.args.desk.now.visits.now
            c.args.desk.now.visits.now c.args.desk.now.changes.now c.args.desk.now.changes.now
            (g.F.Files.files c.args.desk.now.files.now) (g.F.Files.files c.fetch.new.self) c.in-Err.fault c.fetch_reply.result
            c.fetch_reply.ensures (rw (← c.as_str.ensures.value) e.fetches) e.counts e.files refl refl;
      };
    }
