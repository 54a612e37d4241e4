use Rattle.std.proofs.Common.{refl, rules}
use Rattle.ph_specs.specs.Command.{Command}
use Rattle.ph_commands.specs.Tables.{table_at, slot_of}
use Rattle.ph_slot.proofs.Filed.{fetch-load, read-filed-or, unfetched-filed-or}
use Rattle.ph_slot.proofs.Loads.{same-frame-still}
use Rattle.ph_slot.proofs.filing.load_table.Goals as goal

pub returns-in-Ok-clause-loaded : goal.returns-in-Ok-clause-loaded
returns-in-Ok-clause-loaded g c =
    let e = c.in-Ok.ensures in
    let loads = c.load_bytes.ensures in
    record {
      filed = λ visits cursors.
          read-filed-or c.args.desk.now.limits.now.file_bytes c.args.kind (table_at g.row.D c.args.kept.now) cursors c.args.file.now c.as_slice.result.now
          (g.F.Files.faults c.args.desk.now.files.now) (g.F.Files.faults c.fetch.new.self) visits c.args.desk.now.changes.now
          c.load_bytes.new.changes
          (g.F.Files.files c.args.desk.now.files.now) (g.F.Files.files c.fetch.new.self) (table_at g.row.D c.load_bytes.new.kept)
          c.load_bytes.result (rw (c.as_slice.ensures.value, ← c.as_str.ensures.value) e.fetches) (rw c.as_slice.ensures.value e.within)
          e.files e.counts loads.loads loads.within.kept loads.within.few loads.nodes;
    }

pub returns : goal.returns
returns g c =
    let e = c.in-Err.ensures in
    let t = table_at g.row.D c.args.kept.now in
    record {
      frame = same-frame-still c.args.kind t;
      begun = e.is_begun;
      unseen = refl;
      out = refl;
      same = search rules;
      loaded = record {
        filed = λ visits cursors.
            unfetched-filed-or (Command.Load c.args.file.now) c.args.file.now (fetch-load c.args.file.now)
            c.args.desk.now.limits.now.file_bytes (slot_of c.args.kind t cursors) c.fetch.new.into.items
            (g.F.Files.faults c.args.desk.now.files.now) (g.F.Files.faults c.fetch.new.self) visits visits
            c.args.desk.now.changes.now c.args.desk.now.changes.now
            (g.F.Files.files c.args.desk.now.files.now) (g.F.Files.files c.fetch.new.self) c.in-Err.fault c.fetch_reply.result
            c.fetch_reply.ensures (rw (← c.as_str.ensures.value) e.fetches) e.counts e.files refl refl;
      };
    }
