use Rattle.ph_engine.proofs.Checked.{fetched-done, unfetched-done, write-rose}
use Rattle.ph_engine.proofs.checking.check.Goals as goal

pub returns-in-Ok-clause-done : goal.returns-in-Ok-clause-done
returns-in-Ok-clause-done g c =
    let e = c.in-Ok.ensures in
    let slice = c.as_slice.ensures.value in
    let b = c.check_bytes.ensures in
    rw c.status_by.ensures
    (fetched-done c.args.desk.now.limits.now.file_bytes c.args.file.now c.as_slice.result.now (g.F.Files.files c.args.desk.now.files.now)
    (g.F.Files.files c.fetch.new.self) (g.F.Files.faults c.args.desk.now.files.now) (g.F.Files.faults c.fetch.new.self)
    _ _ c.args.desk.now.visits.now c.check_bytes.new.visits c.args.desk.now.changes.now c.check_bytes.new.changes c.check_bytes.result
    (rw (slice, ← c.as_str.ensures.value) e.fetches) (rw slice e.within) e.counts e.files b.line b.sizes b.visits
    b.most_visits b.changes b.nodes)

pub returns-in-Ok-clause-cause : goal.returns-in-Ok-clause-cause
returns-in-Ok-clause-cause g c = rw c.status_by.ensures (write-rose _ _ c.check_bytes.result c.check_bytes.ensures.cause)

pub returns-clause-done : goal.returns-clause-done
returns-clause-done g c =
    let e = c.in-Err.ensures in
    rw c.status_by-in-Err.ensures
    (unfetched-done c.args.desk.now.limits.now.file_bytes c.args.file.now c.fetch.new.into.items
    (g.F.Files.files c.args.desk.now.files.now) (g.F.Files.files c.fetch.new.self) (g.F.Files.faults c.args.desk.now.files.now)
    (g.F.Files.faults c.fetch.new.self) _ _ c.args.desk.now.visits.now c.args.desk.now.changes.now c.fetch_reply.result c.tell.result
    c.in-Err.fault c.fetch_reply.ensures (rw (← c.as_str.ensures.value) e.fetches) e.counts e.files c.tell.ensures.told)

pub returns-clause-cause : goal.returns-clause-cause
returns-clause-cause g c = rw c.status_by-in-Err.ensures (write-rose _ _ c.tell.result c.tell.ensures.cause)
